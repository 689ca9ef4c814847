-- A process that another starts is started properly, where its program is checked.
use Rattle.zl_code.proofs.Common.{by_look_up, ends_if_kill, faults, granted}
use Rattle.zl_verify.proofs.Common.{ANY, Action, Acts, AllByRecursion, AreUnstarted, AtCall, Bool, CallBy, Calls, Choice, Condition, Entry, Err, Image}
use Rattle.zl_verify.proofs.Common.{IsFitStep, IsRunStep, IsSizedBoot, IsSound, IsStarted, Kind, Library, List, None, Ok, Operand, Option, Outcome, Process}
use Rattle.zl_verify.proofs.Common.{Program, Ready, Refused, Request, Runs, Site, Some, Start, StartsChild, Statement, Status, TraceItem, Values, Wants, World}
use Rattle.zl_verify.proofs.Common.{[], action_of, and-false, ap, are_declared, bits, by_policy, condition_of, contains, creates, effect, entry_at, examined}
use Rattle.zl_verify.proofs.Common.{false, first_some, get, gives_ok, handle_operands, if◌then◌else◌, is_created, is_only_start, is_process, left_other, listed}
use Rattle.zl_verify.proofs.Common.{listed_none, may_choose, may_get, may_get_all, may_want, misfits, new_handles, next_in, not, not-false, object_at}
use Rattle.zl_verify.proofs.Common.{on_process, operand, operand_after, option_map, option_to_list, parent_of, pid_of, process_start, process_with, program_in}
use Rattle.zl_verify.proofs.Common.{program_of, refl, refusal, replied, replied_other, runs_joined, same_Some, seen_after, slice_get, started_with}
use Rattle.zl_verify.proofs.Common.{state_passes, subst, sym, taken, taken_handles, takes, test_fails, true, unless_allowed, with_effect, within, ℕ, ◌&&◌, ◌++◌}
use Rattle.zl_verify.proofs.Common.{◌==◌, ◌∙◌, ◌∷◌, ◌≡◌, ◌≤◌}
use Rattle.zl_rights.specs.declared.policy.Action.TheVariants as action
use Rattle.zl_rights.specs.declared.policy.Condition.TheVariants as condition
use Rattle.zl_rights.specs.declared.status.Status.TheVariants as status
use Rattle.zl_code.specs.declared.history.CallName.TheVariants as name
use Rattle.zl_code.specs.declared.history.Outcome.TheVariants as outcome
use Rattle.zl_code.specs.declared.history.TraceItem.TheVariants as item
use Rattle.zl_verify.proofs.Ordinary.{is_good, AreOrdinary, listed_ordinary}
use Rattle.zl_verify.proofs.OwnEffect.{starts_created, no_child, same_policy}
use Rattle.zl_verify.proofs.AtCalls.{at_call}
use Rattle.zl_verify.proofs.Others.{left_by_step}
use Rattle.zl_verify.proofs.Giving.{getting_all}
use Rattle.zl_verify.proofs.OwnTable.{other_way}
use Rattle.zl_verify.proofs.SizedCalls.{IsSizedRequest, request_sized}
use Rattle.zl_verify.proofs.Woken.{fit_of, sound_before, settled_there, allowed_after}
use Rattle.zl_verify.proofs.Ended.{awake_still}
use Rattle.zl_verify.proofs.BootStarts.{is_booted}
use Rattle.zl_verify.proofs.Unstarted.{inserted_at, changed_at}
use Rattle.zl_verify.proofs.UnstartedRuns.{lives_new, step_unstarted}

-- ---- a refusal isn't OK

-- it isn't the answer OK
abbrev IsNotOk : Option Outcome → Type 0
IsNotOk (Some (outcome.Answered s)) = is_good s ≡ false
IsNotOk _ = Unit {0}

abbrev AreNotOk : List (Option Outcome) → Type 0
AreNotOk os = AllByRecursion IsNotOk os

first_not_ok : (os : List (Option Outcome)) → AreNotOk os → IsNotOk (first_some os)
first_not_ok [] h = tt
first_not_ok (None ∷ os) h = first_not_ok os h.1
first_not_ok (Some o ∷ os) h = h.0

fault_not_ok : (a : Action) (s : Status) → is_good s ≡ false → IsNotOk (Some (ends_if_kill a (outcome.Answered s)))
fault_not_ok action.Kill s e = tt
fault_not_ok _ s e = e

module _ (w : World) (p : ℕ) where
  looked_not_ok : (e : Option Entry) (kinds : List Kind) (needed : ℕ) → IsNotOk (by_look_up w p (granted e kinds needed))
  looked_not_ok None kinds needed = fault_not_ok _ status.BadHandle refl
  looked_not_ok (Some e) kinds needed = by (takes kinds e.kind) (within needed (bits e.rights))
    where
      by : (a b : Bool) → IsNotOk (by_look_up w p (if a then (if b then Ok e else Err status.AccessDenied) else Err status.WrongType))
      by true true = tt
      by true false = refl
      by false b = fault_not_ok _ status.WrongType refl

  operand_not_ok : (seen : List ℕ) (o : Operand) → IsNotOk (operand_after w p seen o)
  unfolding operand
  operand_not_ok seen o = by (o.may_be_zero && (o.value == 0)) (o.is_taken && contains seen o.value)
    where
      by : (a b : Bool) → IsNotOk (if a then None else (if b then faults w p condition.BadHandle status.BadHandle else operand w p o.kinds o.needed o.value))
      by true b = tt
      by false true = fault_not_ok _ status.BadHandle refl
      by false false = looked_not_ok (entry_at w p o.value) o.kinds o.needed

  examined_not_ok : (os : List Operand) (seen : List ℕ) → IsNotOk (examined w p seen os)
  unfolding examined
  examined_not_ok [] seen = tt
  examined_not_ok (o ∷ os) seen =
      first_not_ok (operand_after w p seen o ∷ examined w p (seen_after seen o) os ∷ []) (operand_not_ok seen o, (examined_not_ok os (seen_after seen o), tt))

  policy_not_ok : (c : Option Condition) → IsNotOk (by_policy w p c)
  unfolding creates
  policy_not_ok None = tt
  policy_not_ok (Some c) = by (action_of w (parent_of w p) c)
    where
      by : (a : Action) → IsNotOk (unless_allowed a)
      by action.Deny = refl
      by _ = tt

  all_not_ok : (os : List (Option Outcome)) → AreOrdinary os → AreNotOk os
  all_not_ok [] h = tt
  all_not_ok (None ∷ os) h = (tt, all_not_ok os h.1)
  all_not_ok (Some (outcome.Answered s) ∷ os) h = (h.0.1, all_not_ok os h.1)
  all_not_ok (Some _ ∷ os) h = absurd h.0

  refusal_not_ok : (lib : Library) (r : Request) → IsNotOk (refusal lib w p r)
  unfolding refusal
  refusal_not_ok lib r =
      first_not_ok (examined w p [] (handle_operands r) ∷ by_policy w p (condition_of r) ∷ listed lib w p r)
      (examined_not_ok (handle_operands r) [], (policy_not_ok (condition_of r), all_not_ok (listed lib w p r) (listed_ordinary lib w p r)))

-- ---- what it gets

-- the handle is the only one that is declared
record IsOnly (ss : List Start) (o : Option Entry) : Type 0 where
  entry : Entry
  there : o ≡ Some entry
  declared : are_declared ss (entry ∷ []) ≡ true

only_one : (ss : List Start) (o : Option Entry) → is_only_start ss o ≡ true → IsOnly ss o
only_one (s ∷ []) (Some x) e = record { entry = x; there = refl; declared = rw e refl }
only_one _ _ e = cc

fits_declared : (o : Option Program) (i : Image) (e : Option Entry) → o ≡ Some (record { checked = true; image = i }) → misfits o e ≡ false
    → is_only_start i.starts e ≡ true
fits_declared None i e is fits = cc
fits_declared (Some g) i e is fits =
    not-false (is_only_start i.starts e) (subst (λ (h : Program). (h.checked && not (is_only_start h.image.starts e)) ≡ false) (same_Some g _ is) fits)

-- one handle gets one value
record IsOneValue (x : Process) (e : Entry) (vs : List ℕ) : Type 0 where
  value : ℕ
  same : vs ≡ value ∷ []
  free : may_get_all x (e ∷ []) (value ∷ []) ≡ true

one_value : (x : Process) (e : Entry) (vs : List ℕ) → may_get_all x (e ∷ []) vs ≡ true → IsOneValue x e vs
one_value x e [] k = cc
one_value x e (v ∷ []) k = record { value = v; same = refl; free = k }
one_value x e (v ∷ u ∷ vs) k = let none : (may_get x v && false) ≡ false = and-false (may_get x v) in cc

-- ---- the start

-- In u the process k, which wasn't started in w, is ready with a declared handle and a word.
record IsReadyChild (lib : Library) (i : Image) (w u : World) (k word : ℕ) : Type 0 where
  before : Process
  was : get w.processes k ≡ Some before
  new : is_created before.state ≡ true
  entry : Entry
  value : ℕ
  there : get u.processes k ≡ Some (process_with value entry (started_with (value ∷ []) word before))
  free : may_get_all before (entry ∷ []) (value ∷ []) ≡ true
  declared : are_declared i.starts (entry ∷ []) ≡ true

-- the process that isn't started
pub found_created : (w : World) (k : ℕ) → is_process w is_created k ≡ true → (x : Process) × (get w.processes k ≡ Some x) × (is_created x.state ≡ true)
unfolding is_process
found_created w k e = by (get w.processes k) refl e
  where
    by : (o : Option Process) → get w.processes k ≡ o → state_passes is_created o ≡ true
        → (x : Process) × (get w.processes k ≡ Some x) × (is_created x.state ≡ true)
    by None is e = cc
    by (Some x) is e = (x, is, e)

module _ (lib : Library) (w : World) (p : ℕ) (caller : Process) (there : get w.processes p ≡ Some caller) (ready : caller.state ≡ Ready) (process h word : ℕ)
    (s : Site) (i : Image)
    (program : program_of lib w (object_at w p process) ≡ Some (record { checked = true; image = i })) where
  abbrev child : ℕ
  child = object_at w p process

  abbrev start : Site
  start = record s { request = process_start process h word }

  apart : is_process w is_created child ≡ true → (p == child) ≡ false
  apart created = other_way child p (no_child w child p caller created there (ap is_created ready))

  taken_child : (x : Process) → get w.processes child ≡ Some x → is_process w is_created child ≡ true → get (taken w p start).processes child ≡ Some x
  taken_child x at created = left_other p child (apart created) (taken_handles (process_start process h word)) w ∙ at

  -- what an answer OK leaves
  started : refusal lib w p (process_start process h word) ≡ None → (vs : List ℕ)
      → may_choose w (taken w p start) p (process_start process h word) vs ≡ true → (u : World)
      → u ≡ replied (with_effect lib w (taken w p start) p (process_start process h word) vs) p start status.Ok [] → IsReadyChild lib i w u child word
  unfolding listed may_choose effect new_handles
  started passes vs may u is =
      let created = starts_created lib w p process h word passes in
      let (x, at, new) = found_created w child created in
      let only = only_one i.starts (entry_at w p h) (fits_declared (program_of lib w child) i (entry_at w p h) program
      (test_fails _ status.InvalidArgs (listed_none lib w p (process_start process h word) passes).1.0)) in
      let gets : may_get_all x (option_to_list (entry_at w p h)) vs ≡ true = rw (taken_child x at created) at may in
      let one = one_value x only.entry vs (ap (λ (o : Option Entry). may_get_all x (option_to_list o) vs) (sym only.there) ∙ gets) in
      record {
        before = x;
        was = at;
        new = new;
        entry = only.entry;
        value = one.value;
        there =
            ap (λ (v : World). get v.processes child) is
            ∙ (replied_other p child (apart created) (with_effect lib w (taken w p start) p (process_start process h word) vs) start status.Ok []
            ∙ (inserted_at (option_to_list (entry_at w p h)) vs (on_process (taken w p start) child (started_with vs word)) child
            ∙ (ap (option_map (getting_all (option_to_list (entry_at w p h)) vs))
            (changed_at (taken w p start) child (started_with vs word) ∙ ap (option_map (started_with vs word)) (taken_child x at created))
            ∙ (ap (λ (o : Option Entry). Some (getting_all (option_to_list o) vs (started_with vs word x))) only.there
            ∙ ap (λ us. Some (getting_all (only.entry ∷ []) us (started_with us word x))) one.same))));
        free = one.free;
        declared = only.declared;
      }

  by_choice : (choice : Choice) (r : Option Outcome) → refusal lib w p (process_start process h word) ≡ r → IsNotOk r → (u : World)
      → CallBy lib w p start choice r (outcome.Answered status.Ok) u → IsReadyChild lib i w u child word
  unfolding gives_ok
  by_choice Refused (Some o) is ok u c = let bad : true ≡ false = subst (λ y. IsNotOk (Some y)) (sym c.0) ok in cc
  by_choice (Wants want) None is ok u c =
      let ends = c.1 in
      let same : want ≡ status.Ok = cc in
      let bad : false ≡ true = subst (λ x. may_want (process_start process h word) x ≡ true) same c.0 in cc
  by_choice (Values vs) None is ok u c = started is vs c.0 u c.2
  by_choice _ _ is ok u c = absurd c

  ready_child : (u : World) → Calls lib w p start (outcome.Answered status.Ok) u → IsReadyChild lib i w u child word
  ready_child u (choice, c) = by_choice choice (refusal lib w p (process_start process h word)) refl (refusal_not_ok w p lib (process_start process h word)) u c

-- ---- the law

pub boot_unstarted : (lib : Library) (statements : List Statement) (boot : World) → IsSizedBoot lib statements boot → AreUnstarted lib boot
boot_unstarted lib statements boot b k x at new =
    let started = is_booted lib statements boot b k x at in
    let bad : false ≡ true = sym (ap (λ (z : Process). is_created z.state) started.made) ∙ new in
    cc

module _ (lib : Library) (statements : List Statement) (boot : World) (begins : IsSizedBoot lib statements boot) where
  run_unstarted : (more items : List TraceItem) (w after : World) → Runs lib boot items w → AreUnstarted lib w → Runs lib w more after → AreUnstarted lib after
  run_unstarted [] items w after run all e = rw e all
  run_unstarted (x ∷ more) items w after run all (mid, step, rest) =
      let b : IsFitStep lib w (pid_of x) x mid =
      fit_of lib w (pid_of x) x mid (record { statements = statements; boot = boot; items = items; begins = begins; run = run; step = step }) in
      run_unstarted more (items ++ (x ∷ [])) mid after (runs_joined lib boot items w (x ∷ []) mid run (mid, step, refl))
      (step_unstarted lib w (pid_of x) x mid b (sound_before lib w (pid_of x) x mid b) all) rest

module _ (lib : Library) (w : World) (p : ℕ) (x : TraceItem) (w2 : World) (b : IsFitStep lib w p x w2) (unstarted : AreUnstarted lib w) (i : Image) (k : ℕ)
    (told : x ≡ item.Call p name.ProcessStart (outcome.Answered status.Ok)) (c : StartsChild lib w p b.step.process k)
    (program : program_of lib w k ≡ Some (record { checked = true; image = i })) where
  abbrev own : Process
  own = b.step.process

  sound : IsSound w
  sound = sound_before lib w p x w2 b

  calls : Calls lib w p (record c.site { request = process_start c.process c.handle c.word }) (outcome.Answered status.Ok) b.step.acted
  calls =
      let (o, is, h) = acts in
      let both : ◌≡◌ {A = TraceItem} (item.Call p name.ProcessStart o) (item.Call p name.ProcessStart (outcome.Answered status.Ok)) = sym is ∙ told in
      let same : o ≡ outcome.Answered status.Ok = cc in
      subst (λ r. Calls lib w p (record c.site { request = r }) (outcome.Answered status.Ok) b.step.acted) c.asks
      (subst (λ y. Calls lib w p c.site y b.step.acted) same h)
    where
      acts : Acts lib w p (AtCall name.ProcessStart c.site) x b.step.acted
      acts = subst (λ n. Acts lib w p n x b.step.acted) c.next b.step.acts

  child_ready : IsReadyChild lib i w b.step.acted k c.word
  child_ready =
      subst (λ j. IsReadyChild lib i w b.step.acted j c.word) c.child
      (ready_child lib w p own b.step.is_there b.step.is_ready c.process c.handle c.word c.site i
      (ap (program_of lib w) c.child ∙ program) b.step.acted calls)

  word_small : c.word ≤ ANY
  word_small = by (slice_get lib own.program) c.next
    where
      by : (o : Option Program) → next_in o own.cpu ≡ AtCall name.ProcessStart c.site → c.word ≤ ANY
      by None e = cc
      by (Some g) e =
          let at = at_call g.image own.cpu name.ProcessStart c.site e in
          subst IsSizedRequest c.asks (request_sized own.cpu (b.sized.cpus p own b.step.is_there) at.call c.site at.site)

  pub child_starts : IsStarted lib i w2 k
  child_starts = by child_ready
    where
      by : IsReadyChild lib i w b.step.acted k c.word → IsStarted lib i w2 k
      by r =
          let y : Process = process_with r.value r.entry (started_with (r.value ∷ []) c.word r.before) in
          let runs_program : slice_get lib r.before.program ≡ Some (record { checked = true; image = i }) = ap (program_in lib) (sym r.was) ∙ program in
          let at : get w2.processes k ≡ Some y =
          subst (λ v. get v.processes k ≡ Some y) (sym b.step.ends_awake)
          (awake_still k y refl b.step.settled (settled_there b.step.acted b.step.settled b.step.settles k y r.there refl)) in
          let kept = unstarted k r.before r.was r.new in
          record {
            process = y;
            there = at;
            proper = record {
              checked = true;
              running = runs_program;
              handles = r.entry ∷ [];
              values = r.value ∷ [];
              word = c.word;
              made = ap (λ (z : Process). process_with r.value r.entry (started_with (r.value ∷ []) c.word z)) kept.blank;
              free = subst (λ (z : Process). may_get_all z (r.entry ∷ []) (r.value ∷ []) ≡ true) kept.blank r.free;
              declared = r.declared;
              small = word_small;
              allowed = λ d named.
                  allowed_after lib w p x w2 b k y at refl d
                  ∙ (same_policy w b.step.acted k r.before sound r.was (lives_new r.before.state r.new) (left_by_step lib w p x w2 sound b.step).alike d
                  ∙ kept.allowed (record { checked = true; image = i }) runs_program refl d named);
            };
          }

-- so it is in a run
pub child_starts_in_run : (lib : Library) (w : World) (p : ℕ) (x : TraceItem) (w2 : World) → (b : IsRunStep lib w p x w2) → (i : Image) (k : ℕ)
    → x ≡ item.Call p name.ProcessStart (outcome.Answered status.Ok) → StartsChild lib w p b.step.process k
    → program_of lib w k ≡ Some (record { checked = true; image = i }) → IsStarted lib i w2 k
child_starts_in_run lib w p x w2 b i k told c program =
    child_starts lib w p x w2 (fit_of lib w p x w2 b) (run_unstarted lib b.statements b.boot b.begins b.items [] b.boot w refl
    (boot_unstarted lib b.statements b.boot b.begins) b.run) i k told c program
