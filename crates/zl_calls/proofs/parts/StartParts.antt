-- The process that a call starts: how it is found by its koid, and what becomes of all processes.
use Rattle.zl_calls.proofs.Common.{Bool, ClosesEach, Enters, Entry, Err, Handles, Inserts, IsCallerStill, IsCreatedAt, IsFound, IsRefusedBy, Library, List}
use Rattle.zl_calls.proofs.Common.{None, Objects, Ok, Option, Process, ProcessStartDoes, Some, State, Status, [], ap, arith, child_refusal, cpu_given, eqb-true}
use Rattle.zl_calls.proofs.Common.{false, false≢true, find, find_at, get_or, get_or_from_slice_get, get_put_other, is_created, is_ready, length, length-set}
use Rattle.zl_calls.proofs.Common.{misfits, nat_tests, none-some, parts, position, position-Some, position_or_len, process_at, refl, same_Some, slice_get}
use Rattle.zl_calls.proofs.Common.{slice_get-get_or, slice_get_within, slice_set, start_refusal, starting, state_value, subst, suc, sym, true, wants_memory}
use Rattle.zl_calls.proofs.Common.{without_handle, zero, ℕ, ◌<◌, ◌==◌, ◌∙◌, ◌∷◌, ◌≡◌, ◌≢◌}
use Rattle.zl_signals.proofs.Takes.{none_found}
use Rattle.zl_rights.specs.declared.status.Status.TheVariants as status
use Rattle.zl_calls.specs.declared.process.State.TheVariants as state
use Rattle.zl_calls.specs.declared.calls.process.Started.{Started}

-- ---- the process that is found

module _ {X : Type 0} (p : X → Bool) (xs : List X) where
  pub place_found : (i : ℕ) (x : X) → position p xs ≡ Some i → slice_get xs i ≡ Some x → find p xs ≡ Some x
  place_found i x at is =
      let here : position_or_len p xs ≡ i = grind (arith, nat_tests) in
      find_at p xs ∙ (ap (slice_get xs) here ∙ is)

  pub within_at : (i : ℕ) → position p xs ≡ Some i → i < length xs
  within_at i at = grind (arith, nat_tests)

  pub passes_at : (i : ℕ) (x : X) → position p xs ≡ Some i → slice_get xs i ≡ Some x → p x ≡ true
  passes_at i x at is = subst (λ (y : X). p y ≡ true) (get_or_from_slice_get xs i x x is) (position-Some p xs i x at).1

-- there is an element at each place
pub stands_at : {X : Type 0} (xs : List X) (i : ℕ) → i < length xs → (x : X) × (slice_get xs i ≡ Some x)
stands_at [] i within = absurd (omega (arith, within))
stands_at (x ∷ xs) zero within = (x, refl)
stands_at (x ∷ xs) (suc i) within = stands_at xs i (omega (arith, within))

-- what was read at a place stands there
pub read_at : {X : Type 0} (xs : List X) (i : ℕ) (x : X) → i < length xs → x ≡ get_or xs i x → slice_get xs i ≡ Some x
read_at xs i x within read = slice_get-get_or xs i x within ∙ ap (λ y. Some y) (sym read)

module _ (lib : Library) (ps : List Process) (pid : ℕ) (e : Entry) where
  pub none_refused : ◌≡◌ {A = Option ℕ} None (position (λ (q : Process). q.pid == pid) ps)
      → ◌≡◌ {A = Option Status} (Some status.BadState) (child_refusal lib (process_at ps pid) e)
  none_refused none = sym (ap (λ (o : Option Process). child_refusal lib o e) (none_found (λ (q : Process). q.pid == pid) ps (sym none)))

  module _ (i : ℕ) (q : Process) (at : Some i ≡ position (λ (q : Process). q.pid == pid) ps) (read : q ≡ get_or ps i q) where
    is : slice_get ps i ≡ Some q
    is = read_at ps i q (within_at (λ (x : Process). x.pid == pid) ps i (sym at)) read

    found : child_refusal lib (process_at ps pid) e ≡ child_refusal lib (Some q) e
    found = ap (λ (o : Option Process). child_refusal lib o e) (place_found (λ (x : Process). x.pid == pid) ps i q (sym at) is)

    pub started_refused : is_created (state_value q.state) ≡ false → ◌≡◌ {A = Option Status} (Some status.BadState) (child_refusal lib (process_at ps pid) e)
    started_refused over = sym (found ∙ rw over refl)

    pub is_created_at : is_created (state_value q.state) ≡ true → IsCreatedAt ps pid i
    is_created_at created =
        record { child = q; is_there = is; is_pid = eqb-true q.pid pid (passes_at (λ (x : Process). x.pid == pid) ps i q (sym at) is); is_created = created }

    module _ (q2 : Process) (again : q2 ≡ get_or ps i q2) where
      same : q2 ≡ q
      same = same_Some q2 q (sym (read_at ps i q2 (within_at (λ (x : Process). x.pid == pid) ps i (sym at)) again) ∙ is)

      pub misfit_refused : is_created (state_value q.state) ≡ true → misfits (slice_get lib q2.program) (Some e) ≡ true
          → ◌≡◌ {A = Option Status} (Some status.InvalidArgs) (child_refusal lib (process_at ps pid) e)
      misfit_refused created fails =
          let fails_too : misfits (slice_get lib q.program) (Some e) ≡ true =
          subst (λ (x : Process). misfits (slice_get lib x.program) (Some e) ≡ true) same fails in sym (found ∙ rw (created, fails_too) refl)

      pub not_refused : is_created (state_value q.state) ≡ true → misfits (slice_get lib q2.program) (Some e) ≡ false
          → ◌≡◌ {A = Option Status} None (child_refusal lib (process_at ps pid) e)
      not_refused created fits =
          let fits_too : misfits (slice_get lib q.program) (Some e) ≡ false =
          subst (λ (x : Process). misfits (slice_get lib x.program) (Some e) ≡ false) same fits in sym (found ∙ rw (created, fits_too) refl)

-- ---- the handle enters its table

module _ (lib : Library) (ps : List Process) (place child process h : ℕ) (e : Entry)
    (found : (caller : Process) → slice_get ps place ≡ Some caller → IsFound ps caller process h child e) where
  pub child_within : place < length ps → child < length ps
  child_within within =
      let there : (x : Process) × (slice_get ps place ≡ Some x) = stands_at ps place within in
      let it : IsFound ps there.0 process h child e = found there.0 there.1 in
      slice_get_within ps child it.at.child it.at.is_there

  module _ (q : Process) (read : q ≡ get_or ps child q) where
    is_child : (caller : Process) (at : slice_get ps place ≡ Some caller) → q ≡ (found caller at).at.child
    is_child caller at = read ∙ get_or_from_slice_get ps child (found caller at).at.child q (found caller at).at.is_there

    pub enters_so :
        (refusal : (caller : Process) → slice_get ps place ≡ Some caller → ◌≡◌ {A = Option Status} None (start_refusal lib ps caller.table.entries process h))
        (t2 : Handles) (value : ℕ) → Inserts q.table e value t2 → (caller : Process) → slice_get ps place ≡ Some caller
        → Enters lib ps caller process h (record { place = child; handle = value }) (slice_set ps child (record q { table = t2 }))
    enters_so refusal t2 value inserts caller at =
        let is : q ≡ (found caller at).at.child = is_child caller at in
        record {
          unrefused = sym (refusal caller at);
          e = e;
          found = found caller at;
          child = record q { table = t2 };
          same = ap (λ (x : Process). record x { table = t2 }) is;
          inserts = subst (λ (x : Process). Inserts x.table e value t2) is inserts;
          entered = refl;
        }

-- ---- two places of a list

module _ {X : Type 0} where
  pub set_twice : (xs : List X) (i : ℕ) (x y : X) → slice_set (slice_set xs i x) i y ≡ slice_set xs i y
  set_twice [] i x y = refl
  set_twice (z ∷ xs) zero x y = refl
  set_twice (z ∷ xs) (suc i) x y = ap (λ (ys : List X). z ∷ ys) (set_twice xs i x y)

  pub set_apart : (xs : List X) (i j : ℕ) (x y : X) → i ≢ j → slice_set (slice_set xs i x) j y ≡ slice_set (slice_set xs j y) i x
  set_apart [] i j x y apart = refl
  set_apart (z ∷ xs) zero zero x y apart = absurd (apart refl)
  set_apart (z ∷ xs) zero (suc j) x y apart = refl
  set_apart (z ∷ xs) (suc i) zero x y apart = refl
  set_apart (z ∷ xs) (suc i) (suc j) x y apart = ap (λ (ys : List X). z ∷ ys) (set_apart xs i j x y (λ e. apart (ap suc e)))

  pub get_set : (xs : List X) (i : ℕ) (x y : X) → slice_get xs i ≡ Some x → slice_get (slice_set xs i y) i ≡ Some y
  get_set [] i x y at = absurd (none-some x at)
  get_set (z ∷ xs) zero x y at = refl
  get_set (z ∷ xs) (suc i) x y at = get_set xs i x y at

-- all stay in their places
module _ (lib : Library) (ps ps1 : List Process) (place process h : ℕ) (started : Started) (within : place < length ps)
    (enters : (caller : Process) → slice_get ps place ≡ Some caller → Enters lib ps caller process h started ps1) where
  it_enters : (caller : Process) × Enters lib ps caller process h started ps1
  it_enters = let there : (x : Process) × (slice_get ps place ≡ Some x) = stands_at ps place within in (there.0, enters there.0 there.1)

  pub as_many : length ps1 ≡ length ps
  as_many = ap (λ (xs : List Process). length xs) it_enters.1.entered ∙ length-set ps started.place it_enters.1.child

  pub caller_inside : place < length ps1
  caller_inside = omega (arith, as_many, within)

  pub started_inside : started.place < length ps1
  started_inside = omega (arith, as_many, slice_get_within ps started.place it_enters.1.found.at.child it_enters.1.found.at.is_there)

  pub written_twice : (i j : ℕ) (x y : Process) → length (slice_set (slice_set ps1 i x) j y) ≡ length ps
  written_twice i j x y = length-set (slice_set ps1 i x) j y ∙ (length-set ps1 i x ∙ as_many)

-- ---- a ready process starts another one

pub not_both : (s : State) → is_created (state_value s) ≡ true → is_ready (state_value s) ≡ true → ⊥
not_both state.Created created ready = false≢true ready
not_both _ created ready = false≢true created

module _ (lib : Library) (ps : List Process) (r : Objects) (blocked : List ℕ) (place process h word : ℕ) (caller : Process)
    (is_caller : slice_get ps place ≡ Some caller) (ready : is_ready (state_value caller.state) ≡ true) where
  -- the handle entered the table of the other; then it leaves the caller's, and the other begins
  module _ (started : Started) (ps1 : List Process) (enters : Enters lib ps caller process h started ps1) where
    abbrev child : Process
    child = enters.found.at.child

    child_at : slice_get ps started.place ≡ Some child
    child_at = enters.found.at.is_there

    apart : started.place ≢ place
    apart same =
        let one : caller ≡ child = same_Some caller child (sym is_caller ∙ (ap (slice_get ps) (sym same) ∙ child_at)) in
        not_both child.state enters.found.at.is_created (subst (λ (q : Process). is_ready (state_value q.state) ≡ true) one ready)

    caller_stays : slice_get ps1 place ≡ Some caller
    caller_stays = ap (λ (xs : List Process). slice_get xs place) enters.entered ∙ (get_put_other ps started.place place enters.child apart ∙ is_caller)

    child_there : slice_get ps1 started.place ≡ Some enters.child
    child_there = ap (λ (xs : List Process). slice_get xs started.place) enters.entered ∙ get_set ps started.place child enters.child child_at

    module _ (p : Process) (read : p ≡ get_or ps1 place p) (t : Handles) (taken : t ≡ without_handle p.table h) where
      is_it : p ≡ caller
      is_it = read ∙ get_or_from_slice_get ps1 place caller p caller_stays

      abbrev ps2 : List Process
      ps2 = slice_set ps1 place (record p { table = t })

      child_still : slice_get ps2 started.place ≡ Some enters.child
      child_still = get_put_other ps1 place started.place (record p { table = t }) (λ e. apart (sym e)) ∙ child_there

      pub child_inside : started.place < length ps2
      child_inside = slice_get_within ps2 started.place enters.child child_still

      module _ (q q2 : Process) (read_too : q ≡ get_or ps2 started.place q)
          (begins : q2 ≡ record q { state = state.Ready; cpu = cpu_given (started.handle ∷ []) word q.cpu }) where
        is_q : q ≡ enters.child
        is_q = read_too ∙ get_or_from_slice_get ps2 started.place enters.child q child_still

        is_q2 : q2 ≡ record child { state = state.Ready; cpu = cpu_given (started.handle ∷ []) word child.cpu; table = enters.child.table }
        is_q2 = begins ∙ ap (λ (x : Process). record x { state = state.Ready; cpu = cpu_given (started.handle ∷ []) word x.cpu }) (is_q ∙ enters.same)

        abbrev after : Process
        after = record caller { table = t }

        written : slice_set ps2 started.place q2 ≡ slice_set (slice_set ps place after) started.place q2
        written =
            let first : ps2 ≡ slice_set (slice_set ps started.place enters.child) place after =
            λ i. slice_set (enters.entered i) place (record (is_it i) { table = t }) in
            ap (λ (xs : List Process). slice_set xs started.place q2) (first ∙ set_apart ps started.place place enters.child after apart)
            ∙ set_twice (slice_set ps place after) started.place enters.child q2

        pub caller_still : IsCallerStill caller (slice_get (slice_set ps2 started.place q2) place)
        caller_still =
            subst (λ (o : Option Process). IsCallerStill caller o)
            (sym (get_put_other ps2 started.place place q2 apart ∙ get_set ps1 place caller (record p { table = t }) caller_stays))
            (ap (λ (x : Process). x.cpu) is_it)

        pub starts_so : (r2 : Objects) → r2 ≡ starting r q.pid
            → ProcessStartDoes lib place process h word caller (parts ps r blocked) (Ok tt) (parts (slice_set ps2 started.place q2) r2 blocked)
        starts_so r2 begun = record {
          ok = record {
            caller = caller;
            after = after;
            is_caller = record { is_there = is_caller; same = refl };
            unrefused = enters.unrefused;
            given = enters.e;
            is_given = enters.found.is_given;
            table = taken ∙ ap (λ (x : Process). without_handle x.table h) is_it;
            child = child;
            started = q2;
            at_place = started.place;
            is_child = child_at;
            is_created = enters.found.at.is_created;
            named = enters.found.named;
            is_named = enters.found.is_named;
            pid = enters.found.at.is_pid;
            value = started.handle;
            inserts = subst (λ (x : Process). Inserts child.table enters.e started.handle x.table) (sym is_q2) enters.inserts;
            starts = is_q2
                ∙ ap (λ (x : Process). record child { state = state.Ready; cpu = cpu_given (started.handle ∷ []) word child.cpu; table = x.table }) (sym is_q2);
            processes = written;
            objects = begun ∙ ap (λ (x : Process). starting r x.pid) (is_q ∙ enters.same);
            blocked = refl;
          };
          err = tt;
          refused = tt;
        }

  -- the start was refused, and the handle closes
  module _ (refused : Status) (ps1 : List Process) (same : ps1 ≡ ps)
      (refuses : IsRefusedBy wants_memory (start_refusal lib ps caller.table.entries process h) refused)
      (p : Process) (read : p ≡ get_or ps1 place p) (t : Handles) (r2 : Objects) (closes : ClosesEach (h ∷ []) p.table r t r2) where
    pub refused_still : IsCallerStill caller (slice_get (slice_set ps1 place (record p { table = t })) place)
    refused_still =
        subst (λ (o : Option Process). IsCallerStill caller o)
        (sym (get_set ps1 place caller (record p { table = t }) (ap (λ (xs : List Process). slice_get xs place) same ∙ is_caller)))
        (ap (λ (x : Process). x.cpu) (read ∙ (ap (λ (xs : List Process). get_or xs place p) same ∙ get_or_from_slice_get ps place caller p is_caller)))

    pub refused_so : ProcessStartDoes lib place process h word caller (parts ps r blocked) (Err refused)
        (parts (slice_set ps1 place (record p { table = t })) r2 blocked)
    refused_so =
        let is_it : p ≡ caller = read ∙ (ap (λ (xs : List Process). get_or xs place p) same ∙ get_or_from_slice_get ps place caller p is_caller) in
        record {
          ok = tt;
          err = refuses;
          refused = record {
            caller = caller;
            after = record caller { table = t };
            is_caller = record { is_there = is_caller; same = refl };
            closes = subst (λ (x : Process). ClosesEach (h ∷ []) x.table r t r2) is_it closes;
            processes = λ i. slice_set (same i) place (record (is_it i) { table = t });
            blocked = refl;
          };
        }
