-- In every world of a run from a boot world, a process that isn't started yet is as it was made, and its job allows what its program needs.
use Rattle.zl_verify.proofs.Common.{Action, AreUnstarted, Bool, Condition, Created, Entry, IsFitStep, IsSound, IsUnstarted, Library, Life, List, None, Object}
use Rattle.zl_verify.proofs.Common.{Option, Process, ProcessBody, Program, Ready, Settles, Some, Step, TraceItem, World, [], action_of, answered, ap, arith}
use Rattle.zl_verify.proofs.Common.{body_in, body_of, cases_Bool, condition_number, created_process, creates, eq-eqb, eqb-true, false, fired, get, get-each}
use Rattle.zl_verify.proofs.Common.{get-put, if◌then◌else◌, inl, inr, is_allowing, is_among, is_created, is_some, koid_in, lacks_need, list_any, listed}
use Rattle.zl_verify.proofs.Common.{listed_none, lives, made_ready, next_for, not, object_at, option_map, parent_in, parent_of, policy_in, process_create}
use Rattle.zl_verify.proofs.Common.{process_settled, put, refl, refusal, same_Some, slice_get, state_without, subst, sym, test_fails, true, unless_allowed}
use Rattle.zl_verify.proofs.Common.{unwrap_or, wakes, without_others, woken, ℕ, ◌&&◌, ◌<◌, ◌==◌, ◌||◌, ◌∙◌, ◌∷◌, ◌≡◌, ◌⊎◌}
use Rattle.zl_rights.specs.declared.policy.Action.TheVariants as action
use Rattle.zl_rights.specs.declared.status.Status.TheVariants as status
use Rattle.zl_verify.proofs.Waking.{turn_by_answer, wakes_by}
use Rattle.zl_verify.proofs.OwnEffect.{other_koid, same_policy}
use Rattle.zl_verify.proofs.Others.{keys_below, left_by_step}
use Rattle.zl_verify.proofs.Woken.{allowed_after}
use Rattle.zl_verify.proofs.Unstarted.{Comes, was, made, AllCome, when_acted}

-- ---- what its job allows

-- an action for a condition goes by its number
allowing : (w : World) (job : ℕ) (needs : List Condition) (c : Condition) → list_any (λ x. not (is_allowing (action_of w job x))) needs ≡ false
    → is_among needs c ≡ true → is_allowing (action_of w job c) ≡ true
allowing w job [] c none named = cc
allowing w job (x ∷ needs) c none named =
    by (is_allowing (action_of w job x)) refl (condition_number x == condition_number c) refl none named (λ less more. allowing w job needs c less more)
  where
    at : ℕ → Action
    at n = unwrap_or (get (policy_in (body_of w job)) n) action.Allow

    by : (a : Bool) → is_allowing (action_of w job x) ≡ a → (b : Bool) → (condition_number x == condition_number c) ≡ b
        → not a || list_any (λ x. not (is_allowing (action_of w job x))) needs ≡ false → b || is_among needs c ≡ true
        → (list_any (λ x. not (is_allowing (action_of w job x))) needs ≡ false → is_among needs c ≡ true → is_allowing (action_of w job c) ≡ true)
        → is_allowing (action_of w job c) ≡ true
    by false is b at_c none named rest = cc
    by true is true at_c none named rest = sym (ap (λ n. is_allowing (at n)) (eqb-true (condition_number x) (condition_number c) at_c)) ∙ is
    by true is false at_c none named rest = rest none named

allowed_by : (a : Action) → is_allowing a ≡ true → unless_allowed a ≡ None
allowed_by action.Allow e = refl
allowed_by _ e = cc

all_allowed : (w : World) (job : ℕ) (o : Option Program) (g : Program) → lacks_need w job o ≡ false → o ≡ Some g → g.checked ≡ true → (c : Condition)
    → is_among g.image.needs c ≡ true → unless_allowed (action_of w job c) ≡ None
all_allowed w job None g lacks is checked c named = cc
all_allowed w job (Some f) g lacks is checked c named =
    let same : f ≡ g = same_Some f g is in
    let none : list_any (λ x. not (is_allowing (action_of w job x))) g.image.needs ≡ false =
    by g.checked checked (subst (λ (h : Program). (h.checked && list_any (λ x. not (is_allowing (action_of w job x))) h.image.needs) ≡ false) same lacks) in
    allowed_by (action_of w job c) (allowing w job g.image.needs c none named)
  where
    by : (b : Bool) → b ≡ true → {r : Bool} → (b && r) ≡ false → r ≡ false
    by true e k = k
    by false e k = cc

needs_met : (lib : Library) (w : World) (p h program : ℕ) → refusal lib w p (process_create h program) ≡ None
    → lacks_need w (object_at w p h) (slice_get lib program) ≡ false
unfolding listed
needs_met lib w p h program passes = test_fails _ status.NotSupported (listed_none lib w p (process_create h program) passes).1.1.0

-- the job of a new process was there before
job_below : (w : World) (p h : ℕ) → IsSound w → 0 < w.next_koid → object_at w p h < w.next_koid
unfolding get
job_below w p h sound some = by (get w.processes p) refl
  where
    of_entry : (q : Process) → get w.processes p ≡ Some q → (o : Option Entry) → get q.handles h ≡ o → koid_in o < w.next_koid
    of_entry q at None is = some
    of_entry q at (Some e) is = let (x, there, kind) = sound.named.tables p h q e at is in sound.objects.below e.koid (ap is_some there)

    by : (o : Option Process) → get w.processes p ≡ o → object_at w p h < w.next_koid
    by None is = rw is some
    by (Some q) is = rw is (of_entry q is (get q.handles h) refl)

-- u has a new process in the job, which has what its program needs
module _ (lib : Library) (w u : World) (job program : ℕ) (below : job < w.next_koid) (met : lacks_need w job (slice_get lib program) ≡ false)
    (objects : u.objects ≡ put w.objects w.next_koid (record { body = ProcessBody job; raised = 0 })) where
  pub made_allows : (g : Program) → slice_get lib program ≡ Some g → g.checked ≡ true → (c : Condition) → is_among g.image.needs c ≡ true
      → creates u w.next_koid c ≡ None
  unfolding creates
  made_allows g is checked c named =
      ap (λ j. unless_allowed (action_of u j c)) above
      ∙ (ap (λ m. unless_allowed (unwrap_or (get m (condition_number c)) action.Allow)) policy
      ∙ all_allowed w job (slice_get lib program) g met is checked c named)
    where
      new : Object
      new = record { body = ProcessBody job; raised = 0 }

      at : (k : ℕ) → get u.objects k ≡ (if w.next_koid == k then Some new else get w.objects k)
      at k = ap (λ m. get m k) objects ∙ get-put w.objects w.next_koid new k

      above : parent_of u w.next_koid ≡ job
      above =
          let here : get u.objects w.next_koid ≡ Some new = at w.next_koid ∙ rw (eq-eqb w.next_koid w.next_koid refl) refl in
          ap (λ o. parent_in (body_in o)) here

      policy : policy_in (body_of u job) ≡ policy_in (body_of w job)
      policy = let still : get u.objects job ≡ get w.objects job = at job ∙ rw (other_koid w.next_koid job below) refl in ap (λ o. policy_in (body_in o)) still

-- ---- a step

-- it lives
pub lives_new : (l : Life) → is_created l ≡ true → lives l ≡ true
lives_new Created e = refl
lives_new _ e = cc

module _ (lib : Library) (w : World) (p : ℕ) (x : TraceItem) (w2 : World) (sound : IsSound w) (step : Step lib w p x w2) (all : AreUnstarted lib w) where
  acted_all : AllCome lib w p step.process step.is_there step.is_ready (keys_below w sound) step.acted
  acted_all = when_acted lib w p step.process step.is_there step.is_ready (keys_below w sound) (next_for lib step.process) x step.acted step.acts

  some_koid : 0 < w.next_koid
  some_koid = let less = keys_below w sound p step.process step.is_there in omega arith

  unstarted_then : (q : ℕ) (y : Process) → is_created y.state ≡ true → Comes lib w step.acted p q y → IsUnstarted lib step.acted q y
  unstarted_then q y new (was at) =
      let k = all q y at new in
      record {
        blank = k.blank;
        allowed = λ g is checked c named.
            same_policy w step.acted q y sound at (lives_new y.state new) (left_by_step lib w p x w2 sound step).alike c ∙ k.allowed g is checked c named;
      }
  unstarted_then q y new (made h program passes fresh blank objects) = record {
    blank = subst (λ (z : Process). z ≡ created_process lib z.program) (sym blank) refl;
    allowed = λ g is checked c named.
        ap (λ k. creates step.acted k c) fresh ∙ made_allows lib w step.acted (object_at w p h) program (job_below w p h sound some_koid)
        (needs_met lib w p h program passes) objects g (ap (λ (z : Process). slice_get lib z.program) (sym blank) ∙ is) checked c named;
  }

  -- right after the act
  acted_unstarted : AreUnstarted lib step.acted
  acted_unstarted q y at new = by (cases_Bool (p == q))
    where
      by : ((p == q) ≡ true) ⊎ ((p == q) ≡ false) → IsUnstarted lib step.acted q y
      by (inl same) =
          let is : acted_all.own.0 ≡ y = same_Some _ y (sym acted_all.own.1 ∙ subst (λ k. get step.acted.processes k ≡ Some y) (sym (eqb-true p q same)) at) in
          let bad : false ≡ true = sym acted_all.own.2 ∙ (ap (λ (z : Process). is_created z.state) is ∙ new) in
          cc
      by (inr apart) = unstarted_then q y new (acted_all.others q y apart at new)

-- ---- settling and waking

-- what isn't started after settling was so before
settled_before : (u v : World) → Settles u v → (k : ℕ) (y : Process) → get v.processes k ≡ Some y → is_created y.state ≡ true → get u.processes k ≡ Some y
unfolding without_others
settled_before u v (K, largest, is) k y at new =
    by (get u.processes k) refl (sym (get-each u.processes (process_settled K) k) ∙ (ap (λ (z : World). get z.processes k) (sym is) ∙ at))
  where
    by_kept : (b : Bool) (l : Life) → is_created (state_without b l) ≡ true → state_without b l ≡ l
    by_kept true Created e = refl
    by_kept false Created e = cc
    by_kept b _ e = cc

    by : (o : Option Process) → get u.processes k ≡ o → option_map (process_settled K k) o ≡ Some y → get u.processes k ≡ Some y
    by None there e = cc
    by (Some x) there e =
        let same : process_settled K k x ≡ y = same_Some _ y e in
        let still : state_without (K k) x.state ≡ x.state = by_kept (K k) x.state (ap (λ (z : Process). is_created z.state) same ∙ new) in
        there ∙ ap Some (ap (λ (l : Life). record x { state = l }) (sym still) ∙ same)

module _ (k : ℕ) (y : Process) (new : is_created y.state ≡ true) where
  -- y was at k before m got its turn
  abbrev WasThere : World → World → Type 0
  WasThere u v = get v.processes k ≡ Some y → get u.processes k ≡ Some y

  readied : (u v : World) → v.processes ≡ u.processes → (m : ℕ) (x : Process) (ds vs : List ℕ) → WasThere u (made_ready v m x ds vs)
  unfolding made_ready
  readied u v same m x ds vs at = by (cases_Bool (m == k))
    where
      awake : Process
      awake = record x { state = Ready; cpu = answered x.cpu ds vs }

      stands : (if m == k then Some awake else get v.processes k) ≡ Some y
      stands = sym (get-put v.processes m awake k) ∙ at

      by : ((m == k) ≡ true) ⊎ ((m == k) ≡ false) → get u.processes k ≡ Some y
      by (inl e) = let bad : false ≡ true = ap (λ (z : Process). is_created z.state) (same_Some awake y (rw e at stands)) ∙ new in cc
      by (inr e) = ap (λ ps. get ps k) (sym same) ∙ rw e at stands

  turn : (u : World) (m : ℕ) → WasThere u (woken u m)
  turn u m = turn_by_answer (WasThere u) u m (λ at. at) (λ v same x there awaited ds vs blocked. readied u v same m x ds vs)

  awake_before : (w : World) → WasThere w (wakes w)
  unfolding fired
  awake_before w = wakes_by (WasThere w) (λ u m before at. before (turn u m at)) w (λ at. at)

-- ---- runs

pub step_unstarted : (lib : Library) (w : World) (p : ℕ) (x : TraceItem) (w2 : World) → (b : IsFitStep lib w p x w2) → IsSound w → AreUnstarted lib w
    → AreUnstarted lib w2
step_unstarted lib w p x w2 b sound all k y at new =
    let before = settled_before b.step.acted b.step.settled b.step.settles k y
    (awake_before k y new b.step.settled (subst (λ v. get v.processes k ≡ Some y) b.step.ends_awake at)) new in
    let kept = acted_unstarted lib w p x w2 sound b.step all k y before new in
    record {
      blank = kept.blank;
      allowed = λ g is checked c named. allowed_after lib w p x w2 b k y at (lives_new y.state new) c ∙ kept.allowed g is checked c named;
    }
