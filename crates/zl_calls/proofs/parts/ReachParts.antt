-- The calls that reach other processes, from what they do to how they are answered.
use Rattle.zl_calls.proofs.Common.{Bool, CreatesProcess, EndsOrAnswers, Err, HasBegun, IsAnsweredIn, IsCallerStill, Library, List, None, Objects, Ok, Option}
use Rattle.zl_calls.proofs.Common.{Outcome, Reach, Process, ProcessCreateDoes, ProcessStartDoes, Reaches, Result, Site, Some, State, Status, TaskKillDoes, []}
use Rattle.zl_calls.proofs.Common.{answered_in, ap, cpu_answered, creates_process, ending_of, false, false≢true, get_or, get_or_from_slice_get, is_created}
use Rattle.zl_calls.proofs.Common.{is_ready, kills}
use Rattle.zl_calls.proofs.Common.{kills_itself, length, no_value, none-some, one_value, parts, process_create, process_start, refl, register_set, same_Some}
use Rattle.zl_calls.proofs.Common.{site, slice_get, slice_get_within, slice_set, starts, state_value, status_of, subst, suc, sym, task_kill, told_by}
use Rattle.zl_calls.proofs.Common.{told_unless_over, true, values_of, zero, ℕ, ℤ, ⊤, ◌++◌, ◌<◌, ◌^◌, ◌∙◌, ◌∷◌, ◌≡◌}
use Rattle.zl_code.specs.declared.history.Outcome.TheVariants as outcome
use Rattle.zl_calls.specs.declared.process.State.TheVariants as state
use Rattle.zl_calls.proofs.parts.StartParts.{get_set, read_at}

-- ---- the caller

-- it is there
pub still_within : (ps : List Process) (place : ℕ) (caller : Process) → IsCallerStill caller (slice_get ps place) → place < length ps
still_within ps place caller still = by_value (slice_get ps place) refl still
  where
    by_value : (o : Option Process) → slice_get ps place ≡ o → IsCallerStill caller o → place < length ps
    by_value None is h = absurd h
    by_value (Some p) is h = slice_get_within ps place p is

-- it is what is read at its place
pub caller_here : (ps : List Process) (place : ℕ) (caller p : Process) → p ≡ get_or ps place p → slice_get ps place ≡ Some caller → p ≡ caller
caller_here ps place caller p read at = read ∙ get_or_from_slice_get ps place caller p at

pub counter_still : (ps : List Process) (place : ℕ) (caller p : Process) → IsCallerStill caller (slice_get ps place) → p ≡ get_or ps place p
    → caller.cpu.counter < 2 ^ 32 → p.cpu.counter < 2 ^ 32
counter_still ps place caller p still read small =
    let there : slice_get ps place ≡ Some p = read_at ps place p (still_within ps place caller still) read in
    let same : p.cpu ≡ caller.cpu = subst (λ (o : Option Process). IsCallerStill caller o) there still in
    rw same small

-- a process that was made stands behind all others
front : {X : Type 0} (xs ys : List X) (i : ℕ) (x : X) → slice_get xs i ≡ Some x → slice_get (xs ++ ys) i ≡ Some x
front [] ys i x at = absurd (none-some x at)
front (y ∷ xs) ys zero x at = at
front (y ∷ xs) ys (suc i) x at = front xs ys i x at

pub created_still : (lib : Library) (place job program : ℕ) (caller : Process) (all all2 : Reach) (answer : Result ℕ Status)
    → slice_get all.processes place ≡ Some caller
    → ProcessCreateDoes lib place job program caller all answer all2 → IsCallerStill caller (slice_get all2.processes place)
created_still lib place job program caller all all2 (Ok made) at does =
    let it : CreatesProcess lib all place job program made all2 = does.ok in
    let same : it.caller ≡ caller = same_Some it.caller caller (sym it.is_caller.is_there ∙ at) in
    let there : slice_get all2.processes place ≡ Some it.after =
    ap (λ (ps : List Process). slice_get ps place) it.processes
    ∙ front (slice_set all.processes place it.after) (it.new ∷ []) place it.after (get_set all.processes place it.caller it.after it.is_caller.is_there) in
    subst (λ (o : Option Process). IsCallerStill caller o) (sym there) (ap (λ (p : Process). p.cpu) it.is_caller.same ∙ ap (λ (p : Process). p.cpu) same)
created_still lib place job program caller all all2 (Err refused) at does =
    subst (λ (o : Option Process). IsCallerStill caller o) (sym (ap (λ (x : Reach). slice_get x.processes place) does.refused ∙ at)) refl

-- what stands at a place is written there again
set_same : (xs : List Process) (i : ℕ) (x : Process) → slice_get xs i ≡ Some x → slice_set xs i x ≡ xs
set_same [] i x at = absurd (none-some x at)
set_same (y ∷ xs) zero x at = ap (λ (z : Process). z ∷ xs) (sym (same_Some y x at))
set_same (y ∷ xs) (suc i) x at = ap (λ (ys : List Process). y ∷ ys) (set_same xs i x at)

-- ---- the answer

module _ {A : Type 0} (values : A → List ℕ) (Does : Reach → Result A Status → Reach → Type 0) (s : Site) (place : ℕ) (all between : Reach)
    (answer : Result A Status)
    (does : Does all answer between) (p : Process) (at : slice_get between.processes place ≡ Some p) where
  pub answered_so : (o : Outcome) → o ≡ outcome.Answered (status_of answer) → (p2 : Process)
      → p2 ≡ record p { cpu = cpu_answered s (status_of answer) (values_of values answer) p.cpu }
      → IsAnsweredIn (told_by values) Does s place all o (parts (slice_set between.processes place p2) between.objects between.blocked)
  answered_so o ends p2 told = record {
    answer = answer;
    between = between;
    does = does;
    ends = ends;
    is_told = record { caller = p; is_there = at; processes = ap (λ (q : Process). slice_set between.processes place q) told; objects = refl; blocked = refl };
  }

-- a caller that has ended or is answered keeps its koid
pub told_pid : (status : ℕ) (answer : Result ⊤ Status) (p p2 : Process) → p2 ≡ told_unless_over status answer p.state p → p2.pid ≡ p.pid
told_pid status answer p p2 told = by_state p.state told
  where
    by_state : (x : State) → p2 ≡ told_unless_over status answer x p → p2.pid ≡ p.pid
    by_state (state.Ended code) is = ap (λ (q : Process). q.pid) is
    by_state _ is = ap (λ (q : Process). q.pid) is

pub told_started : (status : ℕ) (answer : Result ⊤ Status) (p p2 : Process) → p2 ≡ told_unless_over status answer p.state p → HasBegun p → HasBegun p2
told_started status answer p p2 told started = by_state p.state told
  where
    by_state : (x : State) → p2 ≡ told_unless_over status answer x p → HasBegun p2
    by_state (state.Ended code) is = ap (λ (q : Process). is_created (state_value q.state)) is ∙ started
    by_state _ is = ap (λ (q : Process). is_created (state_value q.state)) is ∙ started

-- ---- each of them

-- over, with a code
has_ended : State → Bool
has_ended (state.Ended code) = true
has_ended s = false

module _ (lib : Library) (ps ps1 : List Process) (r r1 : Objects) (blocked blocked1 : List ℕ) (place : ℕ) (caller : Process)
    (is_caller : slice_get ps place ≡ Some caller) (p : Process) (read : p ≡ get_or ps1 place p) (still : IsCallerStill caller (slice_get ps1 place)) where
  there : slice_get ps1 place ≡ Some p
  there = read_at ps1 place p (still_within ps1 place caller still) read

  pub start_reaches : (process h word taken_in status_in : ℕ) (answer : Result ⊤ Status)
      → ProcessStartDoes lib place process h word caller (parts ps r blocked) answer (parts ps1 r1 blocked1)
      → (o : Outcome) → o ≡ outcome.Answered (status_of answer) → (p2 : Process)
      → p2 ≡ answered_in (record p { cpu = register_set p.cpu taken_in 0 }) (status_in ∷ []) no_value answer
      → Reaches lib place caller (site (process_start process h word) (taken_in ∷ []) (status_in ∷ [])) (parts ps r blocked) o
      (parts (slice_set ps1 place p2) r1 blocked1)
  start_reaches process h word taken_in status_in answer does o ends p2 told =
      starts process h word refl
      (answered_so no_value (ProcessStartDoes lib place process h word caller) (site (process_start process h word) (taken_in ∷ []) (status_in ∷ [])) place
      (parts ps r blocked) (parts ps1 r1 blocked1) answer does p there o ends p2 told)

  pub create_reaches : (job program status_in made_in : ℕ) (answer : Result ℕ Status)
      → ProcessCreateDoes lib place job program caller (parts ps r blocked) answer (parts ps1 r1 blocked1)
      → (o : Outcome) → o ≡ outcome.Answered (status_of answer) → (p2 : Process) → p2 ≡ answered_in p (status_in ∷ made_in ∷ []) one_value answer
      → Reaches lib place caller (site (process_create job program) [] (status_in ∷ made_in ∷ [])) (parts ps r blocked) o
      (parts (slice_set ps1 place p2) r1 blocked1)
  create_reaches job program status_in made_in answer does o ends p2 told =
      creates_process job program refl
      (answered_so one_value (ProcessCreateDoes lib place job program caller) (site (process_create job program) [] (status_in ∷ made_in ∷ [])) place
      (parts ps r blocked) (parts ps1 r1 blocked1) answer does p there o ends p2 told)

  module _ (task status_in : ℕ) (ready : is_ready (state_value caller.state) ≡ true) where
    abbrev kill_site : Site
    kill_site = site (task_kill task) [] (status_in ∷ [])

    kill_answered : (answer : Result ⊤ Status) → TaskKillDoes task caller (parts ps r blocked) answer (parts ps1 r1 blocked1) → (o : Outcome)
        → o ≡ outcome.Answered (status_of answer) → (p2 : Process) → p2 ≡ answered_in p (status_in ∷ []) no_value answer
        → has_ended p.state ≡ false → Reaches lib place caller kill_site (parts ps r blocked) o (parts (slice_set ps1 place p2) r1 blocked1)
    unfolding has_ended answered_so
    kill_answered answer does o ends p2 told alive =
        kills task refl
        (answered_so no_value (TaskKillDoes task caller) kill_site place (parts ps r blocked) (parts ps1 r1 blocked1) answer does p there o ends p2 told)
        (λ code over. false≢true (sym alive ∙ ap has_ended over))

    -- a caller that ended wasn't refused
    kill_ended : (answer : Result ⊤ Status) → TaskKillDoes task caller (parts ps r blocked) answer (parts ps1 r1 blocked1) → (code : ℤ)
        → p.state ≡ state.Ended code → (o : Outcome) → o ≡ outcome.Ended code → (p2 : Process) → p2 ≡ p
        → Reaches lib place caller kill_site (parts ps r blocked) o (parts (slice_set ps1 place p2) r1 blocked1)
    kill_ended (Ok tt) does code is o ends p2 same =
        subst (λ (qs : List Process). Reaches lib place caller kill_site (parts ps r blocked) o (parts qs r1 blocked1))
        (sym (ap (λ (q : Process). slice_set ps1 place q) same ∙ set_same ps1 place p there))
        (kills_itself task refl (record { caller = p; code = code; does = does; is_there = there; is_over = is; ends = ends }))
    kill_ended (Err refused) does code is o ends p2 same =
        let stays : slice_get ps1 place ≡ Some caller = ap (λ (x : Reach). slice_get x.processes place) does.refused ∙ is_caller in
        let one : p ≡ caller = same_Some p caller (sym there ∙ stays) in
        absurd (false≢true (ap (λ (x : State). is_ready (state_value x)) (sym is) ∙ (ap (λ (q : Process). is_ready (state_value q.state)) one ∙ ready)))

    pub kill_reaches : (answer : Result ⊤ Status) → TaskKillDoes task caller (parts ps r blocked) answer (parts ps1 r1 blocked1) → (o : Outcome) (p2 : Process)
        → EndsOrAnswers status_in answer p o p2 → Reaches lib place caller kill_site (parts ps r blocked) o (parts (slice_set ps1 place p2) r1 blocked1)
    unfolding has_ended
    kill_reaches answer does o p2 how = by_state p.state refl how.ends how.told
      where
        by_state : (x : State) → p.state ≡ x → o ≡ ending_of (status_of answer) x → p2 ≡ told_unless_over status_in answer x p
            → Reaches lib place caller kill_site (parts ps r blocked) o (parts (slice_set ps1 place p2) r1 blocked1)
        by_state (state.Ended code) is ends told = kill_ended answer does code is o ends p2 told
        by_state _ is ends told = kill_answered answer does o ends p2 told (ap has_ended is)
