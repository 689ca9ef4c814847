-- A kill: the handles of all who end count still and are in no table, and the invariant holds but for what keeps the objects.
use Rattle.zl_calls.proofs.Common.{Agrees, AreKeptBut, AreNamed, AreSound, Body, Bool, ClosesAllEnded, ClosesEnded, Cpu, Ended, Entry, Gone, IsConsistent}
use Rattle.zl_calls.proofs.Common.{IsNamed, IsTable, IsTrue, KILLED, Life, List, Map, None, Object, Objects, Option, Process, ProcessValue, Releases, Some}
use Rattle.zl_calls.proofs.Common.{StateValue, [], all_killed, all_koids, and_from, ap, arith, below_all, body_value, cases_Bool, cond, count_by, each}
use Rattle.zl_calls.proofs.Common.{ended_if, ended_within, eq-eqb, false, false≢true, get, get-each, handles_to, has_ended, has_key, if◌then◌else◌}
use Rattle.zl_calls.proofs.Common.{in_order-each, inl, inr, is_in_job, is_job_at, is_job_here, is_job_in, is_over, is_process, is_some, is_sorted}
use Rattle.zl_calls.proofs.Common.{is_within_here, killed_body, killed_if, killing, kind_of, list_any, lives, lives_on, map, nat_cmp, nat_tests, none-some, not}
use Rattle.zl_calls.proofs.Common.{object_entry, one_more, option_map, or_left, or_right, process_entry, process_killed, process_value, queue_held, queued_to}
use Rattle.zl_calls.proofs.Common.{refl, releases_then, runs, same_Some, same_in_job, sorted_parts, state_passes, subst, suc, sum_by, sum_by-append}
use Rattle.zl_calls.proofs.Common.{sum_by-cons, sym, true, world_value, ℕ, ⊤, ◌++◌, ◌+◌, ◌<◌, ◌==◌, ◌||◌, ◌∙◌, ◌∷◌, ◌≡◌}
use Rattle.zl_objects.specs.declared.object.Body.TheVariants as body
use Rattle.zl_objects.specs.Objects.{is_alive}
use Rattle.zl_calls.proofs.lists.Updates.{found_behind}
use Rattle.zl_calls.specs.calls.Task.{none_left}
use Rattle.zl_calls.proofs.objects.SameBodies.{still_named}
use Rattle.zl_calls.proofs.objects.Settled.{AreGone, drained}
use Rattle.zl_calls.proofs.boot.BootGiving.{bare_table}
use Rattle.zl_calls.proofs.objects.Counting.{queues, naming, naming_cons, numbered, numbered_naming}
use Rattle.zl_calls.proofs.tables.Taking.{none_goes}

-- ---- entries without their values

-- each of them passes
abbrev pub AllOf : (Entry → Type 0) → List Entry → Type 0
AllOf P [] = ⊤
AllOf P (e ∷ es) = P e × AllOf P es

joined_all : (P : Entry → Type 0) (es fs : List Entry) → AllOf P es → AllOf P fs → AllOf P (es ++ fs)
joined_all P [] fs a b = b
joined_all P (e ∷ es) fs a b = (a.0, joined_all P es fs a.1 b)

-- the entries of a table
abbrev pub entries_in : Map Entry → List Entry
entries_in m = map (λ h. h.1) m

naming_joined : (k : ℕ) (es fs : List Entry) → naming k (es ++ fs) ≡ naming k es + naming k fs
naming_joined k [] fs = omega arith
naming_joined k (e ∷ es) fs = omega (arith, naming_cons k e (es ++ fs), naming_cons k e es, naming_joined k es fs)

naming_in : (k : ℕ) (m : Map Entry) → naming k (entries_in m) ≡ count_by (λ h. h.1.koid == k) m
naming_in k [] = refl
naming_in k (h ∷ m) = omega (arith, naming_cons k h.1 (entries_in m), sum_by-cons (λ (x : ℕ × Entry). cond (x.1.koid == k) 1 0) h m, naming_in k m)

all_in : (P : Entry → Type 0) (m : Map Entry) → IsTrue (is_sorted nat_cmp m) → ((v : ℕ) (e : Entry) → get m v ≡ Some e → P e) → AllOf P (entries_in m)
unfolding get
all_in P [] sorted all = tt
all_in P (h ∷ m) sorted all =
    let parts = sorted_parts h m sorted in (
      all h.0 h.1 (rw (eq-eqb h.0 h.0 refl) refl),
      all_in P m parts.1 (λ v e at. all v e (found_behind h m sorted v e at)),
    )

numbered_above : (k n : ℕ) (es : List Entry) → k < n → IsTrue (below_all nat_cmp k (numbered n es))
numbered_above k n [] less = refl
numbered_above k n (e ∷ es) less = grind (arith, nat_tests, less, numbered_above k (suc n) es (omega (arith, less)))

pub numbered_sorted : (n : ℕ) (es : List Entry) → IsTrue (is_sorted nat_cmp (numbered n es))
numbered_sorted n [] = refl
numbered_sorted n (e ∷ es) = and_from (below_all nat_cmp n (numbered (suc n) es)) _ (numbered_above n (suc n) es (omega arith)) (numbered_sorted (suc n) es)

pub numbered_all : (P : Entry → Type 0) (n : ℕ) (es : List Entry) → AllOf P es → (v : ℕ) (e : Entry) → get (numbered n es) v ≡ Some e → P e
unfolding get
numbered_all P n [] all v e at = absurd (none-some e at)
numbered_all P n (x ∷ es) all v e at = elim (cases_Bool (n == v)) as (λ _. P e) [
  | inl here ↦ subst P (same_Some x e (rw here at at)) all.0
  | inr apart ↦ numbered_all P (suc n) es all.1 v e (rw apart at at)
]

-- ---- the handles of all who end

-- how many handles in tables name k
abbrev pub in_tables : ℕ → List Process → ℕ
in_tables k ps = sum_by (λ (q : ℕ × ProcessValue). count_by (λ h. h.1.koid == k) q.1.handles) (map process_entry ps)

tables_cons : (k : ℕ) (p : Process) (ps : List Process) → in_tables k (p ∷ ps) ≡ count_by (λ (h : ℕ × Entry). h.1.koid == k) p.table.entries + in_tables k ps
tables_cons k p ps = sum_by-cons (λ (q : ℕ × ProcessValue). count_by (λ h. h.1.koid == k) q.1.handles) (process_entry p) (map process_entry ps)

-- the tables are in order, and what is in them passes
abbrev pub AllTables : (Entry → Type 0) → List Process → Type 0
AllTables P [] = ⊤
AllTables P (p ∷ ps) = (IsTrue (is_sorted nat_cmp p.table.entries) × ((v : ℕ) (e : Entry) → get p.table.entries v ≡ Some e → P e)) × AllTables P ps

-- what is true of the table at each koid is true of each
pub tables_from : (P : Entry → Type 0) (ps : List Process) → IsTrue (is_sorted nat_cmp (map process_entry ps))
    → ((k : ℕ) (q : ProcessValue) → get (map process_entry ps) k ≡ Some q
    → IsTrue (is_sorted nat_cmp q.handles) × ((v : ℕ) (e : Entry) → get q.handles v ≡ Some e → P e)) → AllTables P ps
unfolding get
tables_from P [] sorted all = tt
tables_from P (p ∷ ps) sorted all =
    let parts = sorted_parts (process_entry p) (map process_entry ps) sorted in (
      all p.pid (process_value p) (rw (eq-eqb p.pid p.pid refl) refl),
      tables_from P ps parts.1 (λ k q at. all k q (found_behind (process_entry p) (map process_entry ps) sorted k q at)),
    )

-- the handles that have left the tables of ps, which are then those of ps2, and what went with them
pub record AreAllGone (P : Entry → Type 0) (ps ps2 : List Process) (r r2 : Objects) : Type 0 where
  pub gone : List Entry
  pub passing : AllOf P gone
  pub koids : List ℕ
  pub counts : (k : ℕ) → count_by (λ j. j == k) koids ≡ naming k gone
  pub releases : Releases koids [] r r2
  pub fewer : (k : ℕ) → in_tables k ps ≡ in_tables k ps2 + naming k gone

module _ (P : Entry → Type 0) (r : Objects) (t : ℕ) where
  same_table : (b : Bool) (p : Process) → (ended_if b p).table ≡ p.table
  same_table true p = refl
  same_table false p = refl

  one_gone : (p p1 p2 : Process) (a b : Objects)
      → p1.table ≡ p.table → (IsTrue (is_sorted nat_cmp p.table.entries) × ((v : ℕ) (e : Entry) → get p.table.entries v ≡ Some e → P e)) → ClosesEnded p1 a p2 b
      → AreAllGone P (p ∷ []) (p2 ∷ []) a b
  one_gone p p1 _ a _ table all (lives_on _ _ alive) = record {
    gone = [];
    passing = tt;
    koids = [];
    counts = λ k. refl;
    releases = none_goes a;
    fewer = λ k. omega (arith, tables_cons k p [], tables_cons k p1 [], ap (λ (x : _). count_by (λ (h : ℕ × Entry). h.1.koid == k) x.entries) table);
  }
  one_gone p p1 p2 a b table all (is_over _ _ _ _ dead same entries last drains ends) =
      let sorted : IsTrue (is_sorted nat_cmp p1.table.entries) = rw table all.0 in
      let went : AreGone p1.table.entries a b = drained p1.table.entries a b sorted drains in
      record {
        gone = entries_in p1.table.entries;
        passing = subst (λ (x : _). AllOf P (entries_in x.entries)) (sym table) (all_in P p.table.entries all.0 all.1);
        koids = went.koids;
        counts = λ k. went.counts k ∙ sym (naming_in k p1.table.entries);
        releases = went.releases;
        fewer = λ k. omega (
          arith,
          tables_cons k p [],
          tables_cons k p2 [],
          ap (λ (m : Map Entry). count_by (λ (h : ℕ × Entry). h.1.koid == k) m) entries,
          naming_in k p1.table.entries,
          ap (λ (x : _). count_by (λ (h : ℕ × Entry). h.1.koid == k) x.entries) table,
        );
      }

  all_gone : (ps qs ps2 : List Process) (a b : Objects) → qs ≡ map (ended_within r t) ps → AllTables P ps → ClosesAllEnded qs a ps2 b → AreAllGone P ps ps2 a b
  all_gone [] qs ps2 a b is all (none_left _) = record { gone = []; passing = tt; koids = []; counts = λ k. refl; releases = none_goes a; fewer = λ k. refl }
  all_gone [] _ _ a b is all (one_more p1 p2 qs ps2 _ _ _ one rest) = absurd cc
  all_gone (p ∷ ps) qs ps2 a b is all (none_left _) = absurd cc
  all_gone (p ∷ ps) _ _ a b is all (one_more p1 p2 qs ps2 _ mid _ one rest) =
      let first_is : p1 ≡ ended_within r t p = cc in
      let others : qs ≡ map (ended_within r t) ps = cc in
      let first = one_gone p p1 p2 a mid (ap (λ (x : Process). x.table) first_is ∙ same_table _ p) all.0 one in
      let later = all_gone ps qs ps2 mid b others all.1 rest in
      record {
        gone = first.gone ++ later.gone;
        passing = joined_all P first.gone later.gone first.passing later.passing;
        koids = first.koids ++ later.koids;
        counts = λ k. omega (
          arith,
          sum_by-append (λ (j : ℕ). cond (j == k) 1 0) first.koids later.koids,
          first.counts k,
          later.counts k,
          naming_joined k first.gone later.gone,
        );
        releases = releases_then first.koids later.koids [] a mid b first.releases later.releases;
        fewer = λ k. omega (
          arith,
          tables_cons k p ps,
          tables_cons k p [],
          tables_cons k p2 ps2,
          tables_cons k p2 [],
          first.fewer k,
          later.fewer k,
          naming_joined k first.gone later.gone,
        );
      }

  pub gone_of : (ps ps2 : List Process) (a b : Objects) → AllTables P ps → ClosesAllEnded (map (ended_within r t) ps) a ps2 b → AreAllGone P ps ps2 a b
  gone_of ps ps2 a b all closes = all_gone ps (map (ended_within r t) ps) ps2 a b refl all closes

-- ---- what is killed

kill_in : (t : ℕ) (m : Map Object) (k : ℕ) → get (all_killed m t) k ≡ option_map (killed_if (is_within_here m t k)) (get m k)
unfolding all_killed
kill_in t m k = get-each m (λ j. killed_if (is_within_here m t j)) k

-- the object k, killed if it is among them
record WasThere (m : Map Object) (t k : ℕ) (o : Object) : Type 0 where
  before : Object
  there : get m k ≡ Some before
  is : o ≡ killed_if (is_within_here m t k) before

was_there : (m : Map Object) (t k : ℕ) (o : Object) → get (all_killed m t) k ≡ Some o → WasThere m t k o
was_there m t k o at = by_object (get m k) refl (sym (kill_in t m k) ∙ at)
  where
    by_object : (x : Option Object) → get m k ≡ x → option_map (killed_if (is_within_here m t k)) x ≡ Some o → WasThere m t k o
    by_object None here is = absurd (none-some o is)
    by_object (Some x) here is = record { before = x; there = here; is = sym (same_Some _ o is) }

killed_kind : (b : Bool) (o : Object) → kind_of (body_value (killed_if b o).body) ≡ kind_of (body_value o.body)
killed_kind false o = refl
killed_kind true o = by_body o.body
  where
    by_body : (c : Body) → kind_of (body_value (killed_body c)) ≡ kind_of (body_value c)
    by_body (body.Job job) = refl
    by_body _ = refl

killed_queue : (b : Bool) (o : Object) → queue_held (killed_if b o).body ≡ queue_held o.body
killed_queue false o = refl
killed_queue true o = by_body o.body
  where
    by_body : (c : Body) → queue_held (killed_body c) ≡ queue_held c
    by_body (body.Job job) = refl
    by_body _ = refl

killed_handles : (b : Bool) (o : Object) → (killed_if b o).handles ≡ o.handles
killed_handles false o = refl
killed_handles true o = refl

killed_queues : (j : ℕ) (b : Bool) (o : Object) → queued_to j (body_value (killed_if b o).body) ≡ queued_to j (body_value o.body)
killed_queues j false o = refl
killed_queues j true o = by_body o.body
  where
    by_body : (c : Body) → queued_to j (body_value (killed_body c)) ≡ queued_to j (body_value c)
    by_body (body.Job job) = refl
    by_body _ = refl

queues_killed : (f : ℕ → Bool) (m : Map Object) (j : ℕ) → queues (each (λ k. killed_if (f k)) m) j ≡ queues m j
unfolding each
queues_killed f [] j = refl
queues_killed f (e ∷ m) j =
    omega (
      arith,
      sum_by-cons (λ (o : ℕ × _). queued_to j o.1.body) (object_entry (e.0, killed_if (f e.0) e.1)) (map object_entry (each (λ k. killed_if (f k)) m)),
      sum_by-cons (λ (o : ℕ × _). queued_to j o.1.body) (object_entry e) (map object_entry m),
      queues_killed f m j,
      killed_queues j (f e.0) e.1,
    )

pub queues_all_killed : (m : Map Object) (t j : ℕ) → queues (all_killed m t) j ≡ queues m j
unfolding all_killed
queues_all_killed m t j = queues_killed (is_within_here m t) m j

jobs_stay : (m : Map Object) (t j : ℕ) → is_job_at (all_killed m t) j ≡ is_job_at m j
jobs_stay m t j = ap is_job_in (kill_in t m j) ∙ by_object (get m j) (is_within_here m t j)
  where
    by_body : (c : Body) → is_job_here (killed_body c) ≡ is_job_here c
    by_body (body.Job job) = refl
    by_body _ = refl

    by_object : (o : Option Object) (b : Bool) → is_job_in (option_map (killed_if b) o) ≡ is_job_in o
    by_object None b = refl
    by_object (Some o) false = refl
    by_object (Some o) true = by_body o.body

pub named_killed : (m : Map Object) (t : ℕ) (e : Entry) → IsNamed m e → IsNamed (all_killed m t) e
named_killed m t e name = record {
  object = killed_if (is_within_here m t e.koid) name.object;
  there = kill_in t m e.koid ∙ rw (name.there) refl;
  kind = name.kind ∙ sym (killed_kind (is_within_here m t e.koid) name.object);
  rights = name.rights;
}

killed_order : (m : Map Object) (t : ℕ) → is_sorted nat_cmp (all_killed m t) ≡ is_sorted nat_cmp m
unfolding all_killed
killed_order m t = in_order-each m (λ k. killed_if (is_within_here m t k))

none_in : (v : ℕ) (e : Entry) → get {X = Entry} [] v ≡ Some e → ⊥
unfolding get
none_in v e found = none-some e found

koid_in : (m : Map Object) (k : ℕ) → IsTrue (has_key m k) → IsTrue (list_any (λ x. x == k) (all_koids m))
unfolding get
koid_in [] k there = there
koid_in (e ∷ m) k there = elim (cases_Bool (e.0 == k)) as (λ _. IsTrue ((e.0 == k) || list_any (λ x. x == k) (all_koids m))) [
  | inl here ↦ or_left (e.0 == k) _ here
  | inr apart ↦ or_right (e.0 == k) _ (koid_in m k (rw apart at there))
]

-- any may be left unkept by the marks alone
pub all_noted : (m : Map Object) (t : ℕ) → IsTrue (is_sorted nat_cmp m) → AreKeptBut (all_koids m) (all_killed m t)
all_noted m t sorted = record {
  in_order = rw (killed_order m t) sorted;
  noted = λ k o at unkept. let w = was_there m t k o at in koid_in m k (ap is_some w.there);
}

-- ---- the invariant

-- what the definitions see of a process after the kill; it may go on computing with another Cpu
abbrev pub killed_with : (ℕ → Bool) → (ℕ → ProcessValue → Cpu) → ℕ → ProcessValue → ProcessValue
killed_with f cpus k q = record (process_killed (f k) q) { cpu = cpus k q }

module _ (ps ps3 : List Process) (r : Objects) (consistent : IsConsistent ps r) (t : ℕ) (cpus : ℕ → ProcessValue → Cpu)
    (got : (k : ℕ) → get (map process_entry ps3) k ≡ option_map (killed_with (is_within_here r.objects t) cpus k) (get (map process_entry ps) k))
    (gone : List Entry) (fewer : (k : ℕ) → in_tables k ps ≡ in_tables k ps3 + naming k gone) where
  abbrev within : ℕ → Bool
  within = is_within_here r.objects t

  record WasHere (k : ℕ) (q : ProcessValue) : Type 0 where
    before : ProcessValue
    there : get (map process_entry ps) k ≡ Some before
    became : q ≡ killed_with within cpus k before

  was_here : (k : ℕ) (q : ProcessValue) → get (map process_entry ps3) k ≡ Some q → WasHere k q
  was_here k q at = by_process (get (map process_entry ps) k) refl (sym (got k) ∙ at)
    where
      by_process : (x : Option ProcessValue) → get (map process_entry ps) k ≡ x → option_map (killed_with within cpus k) x ≡ Some q → WasHere k q
      by_process None here e = absurd (none-some q e)
      by_process (Some x) here e = record { before = x; there = here; became = sym (same_Some _ q e) }

  -- the table is as it was, or empty
  table_killed : (P : Map Entry → Option ℕ → Type 0) → P [] None → (b : Bool) (q : ProcessValue) → P q.handles q.last
      → P (process_killed b q).handles (process_killed b q).last
  table_killed P none false q h = h
  table_killed P none true q h = by_life (lives q.state)
    where
      by_life : (l : Bool) → P (if l then record q { state = Ended KILLED; handles = []; last = None } else q).handles
          (if l then record q { state = Ended KILLED; handles = []; last = None } else q).last
      by_life true = none
      by_life false = h

  -- the state is as it was, or killed
  passes_after : (test : StateValue → Bool) (k : ℕ)
      → state_passes test (get (map process_entry ps3) k) ≡ state_passes test (option_map (process_killed (within k)) (get (map process_entry ps) k))
  passes_after test k = ap (state_passes test) (got k) ∙ by_process (get (map process_entry ps) k)
    where
      by_process : (x : Option ProcessValue)
          → state_passes test (option_map (killed_with within cpus k) x) ≡ state_passes test (option_map (process_killed (within k)) x)
      by_process None = refl
      by_process (Some x) = refl

  not_running : (o : Option ProcessValue) (b : Bool) → state_passes runs o ≡ false → state_passes runs (option_map (process_killed b) o) ≡ false
  not_running None b h = refl
  not_running (Some q) false h = h
  not_running (Some q) true h = by_life (lives q.state)
    where
      by_life : (l : Bool) → runs (if l then record q { state = Ended KILLED; handles = []; last = None } else q).state ≡ false
      by_life true = refl
      by_life false = h

  neither : (b : Bool) → b ≡ false → not b ≡ false → ⊥
  neither true a c = false≢true (sym a)
  neither false a c = false≢true (sym c)

  -- a process that was killed has ended, whether by this or before
  stops : (o : Option ProcessValue) (l : Life) → is_alive l ≡ state_passes lives o → not (is_alive l) ≡ state_passes has_ended o
      → (state_passes runs (option_map (process_killed true) o) ≡ false) × (state_passes lives (option_map (process_killed true) o) ≡ false)
      × (state_passes has_ended (option_map (process_killed true) o) ≡ true)
  stops None l living over = absurd (neither (is_alive l) living over)
  stops (Some q) l living over = by_state q.state refl
    where
      by_state : (s : StateValue) → q.state ≡ s → (runs (if lives s then record q { state = Ended KILLED; handles = []; last = None } else q).state ≡ false)
          × (lives (if lives s then record q { state = Ended KILLED; handles = []; last = None } else q).state ≡ false)
          × (has_ended (if lives s then record q { state = Ended KILLED; handles = []; last = None } else q).state ≡ true)
      by_state (Ended code) at = (ap runs at, ap lives at, ap has_ended at)
      by_state Gone at = absurd (neither (is_alive l) (living ∙ ap lives at) (over ∙ ap has_ended at))
      by_state _ at = (refl, refl, refl)

  unchanged_by : (test : StateValue → Bool) (k : ℕ) → within k ≡ false
      → is_process (world_value ps3 (killing r t)) test k ≡ is_process (world_value ps r) test k
  unfolding is_process
  unchanged_by test k out = passes_after test k ∙ rw out (by_process (get (map process_entry ps) k))
    where
      by_process : (o : Option ProcessValue) → state_passes test (option_map (process_killed false) o) ≡ state_passes test o
      by_process None = refl
      by_process (Some q) = refl

  changed_by : (test : StateValue → Bool) (k : ℕ) → within k ≡ true
      → is_process (world_value ps3 (killing r t)) test k ≡ state_passes test (option_map (process_killed true) (get (map process_entry ps) k))
  unfolding is_process
  changed_by test k inside = passes_after test k ∙ rw inside refl

  agrees_body : (k : ℕ) (b : Bool) → within k ≡ b → (c : Body) → Agrees (world_value ps r) k c
      → Agrees (world_value ps3 (killing r t)) k (if b then killed_body c else c)
  unfolding is_process
  agrees_body k false out (body.Process job l) h = record {
    running = h.running ∙ sym (unchanged_by runs k out);
    living = h.living ∙ sym (unchanged_by lives k out);
    over = h.over ∙ sym (unchanged_by has_ended k out);
  }
  agrees_body k false out (body.Job job) h = unchanged_by runs k out ∙ h
  agrees_body k false out _ h = unchanged_by runs k out ∙ h
  agrees_body k true inside (body.Process job l) h =
      let three = stops (get (map process_entry ps) k) l h.living h.over in
      record {
        running = sym (changed_by runs k inside ∙ three.0);
        living = sym (changed_by lives k inside ∙ three.1);
        over = sym (changed_by has_ended k inside ∙ three.2);
      }
  agrees_body k true inside (body.Job job) h = changed_by runs k inside ∙ not_running (get (map process_entry ps) k) true h
  agrees_body k true inside _ h = changed_by runs k inside ∙ not_running (get (map process_entry ps) k) true h

  in_job_body : (b : Bool) (c : Body) → IsTrue (is_in_job r.objects c) → IsTrue (is_in_job (all_killed r.objects t) (if b then killed_body c else c))
  in_job_body false c h = same_in_job r.objects (all_killed r.objects t) (jobs_stay r.objects t) c ∙ h
  in_job_body true (body.Job job) h = refl
  in_job_body true (body.Process job l) h = refl
  in_job_body true _ h = refl

  body_if : (b : Bool) (o : Object) → (killed_if b o).body ≡ (if b then killed_body o.body else o.body)
  body_if true o = refl
  body_if false o = refl

  pub killed_sound : IsTrue (is_sorted nat_cmp (map process_entry ps3)) → AreSound ps3 (numbered 0 gone) (killing r t)
  unfolding handles_to
  killed_sound sorted = record {
    processes_in_order = sorted;
    objects_in_order = rw (killed_order r.objects t) consistent.kept.in_order;
    given_processes = λ k there. consistent.given_processes k (was_process k (get (map process_entry ps) k) (sym (ap is_some (got k)) ∙ there));
    given_objects = λ k there. consistent.given_objects k (was_object k (get r.objects k) (sym (ap is_some (kill_in t r.objects k)) ∙ there));
    koids = consistent.koids;
    above_zero = consistent.above_zero;
    no_zero = λ k there. consistent.no_zero k (was_object k (get r.objects k) (sym (ap is_some (kill_in t r.objects k)) ∙ there));
    tables = λ k q at. let w = was_here k q at in
        subst (λ (x : ProcessValue). IsTable x.handles) (sym w.became)
        (table_killed (λ m l. IsTable m) bare_table (within k) w.before (consistent.tables k w.before w.there));
    named = λ k q v e at there. let w = was_here k q at in
        table_killed (λ m l. get m v ≡ Some e → IsNamed (all_killed r.objects t) e) (λ found. absurd (none_in v e found)) (within k) w.before
        (λ found. named_killed r.objects t e (consistent.named k w.before v e w.there found))
        (subst (λ (x : ProcessValue). get x.handles v ≡ Some e) w.became there);
    queued = λ k o at. let w = was_there r.objects t k o at in
        subst (λ (x : Object). AreNamed (all_killed r.objects t) (queue_held x.body)) (sym w.is)
        (rw (killed_queue (within k) w.before)
        (still_named r.objects (all_killed r.objects t) (named_killed r.objects t) (queue_held w.before.body) (consistent.queued k w.before w.there)));
    counted = λ k o at. let w = was_there r.objects t k o at in
        let same : o.handles ≡ w.before.handles = ap (λ (x : Object). x.handles) w.is ∙ killed_handles (within k) w.before in
        omega (arith, same, consistent.counted k w.before w.there, fewer k, queues_all_killed r.objects t k, numbered_naming k 0 gone);
    agrees = λ k o at. let w = was_there r.objects t k o at in
        subst (λ (c : Body). Agrees (world_value ps3 (killing r t)) k c) (sym (ap (λ (x : Object). x.body) w.is ∙ body_if (within k) w.before))
        (agrees_body k (within k) refl w.before.body (consistent.agrees k w.before w.there));
    in_jobs = λ k o at. let w = was_there r.objects t k o at in
        subst (λ (c : Body). IsTrue (is_in_job (all_killed r.objects t) c)) (sym (ap (λ (x : Object). x.body) w.is ∙ body_if (within k) w.before))
        (in_job_body (within k) w.before.body (consistent.in_jobs k w.before w.there));
  }
    where
      was_process : (k : ℕ) (o : Option ProcessValue) → IsTrue (is_some (option_map (killed_with within cpus k) o)) → IsTrue (is_some o)
      was_process k None h = h
      was_process k (Some q) h = refl

      was_object : (k : ℕ) (o : Option Object) → IsTrue (is_some (option_map (killed_if (within k)) o)) → IsTrue (is_some o)
      was_object k None h = h
      was_object k (Some q) h = refl
