-- A kill is one change: of processes, of jobs and of the list of the blocked.
use Rattle.zl_code.proofs.Common.{Blocked, Bool, Created, Ended, IsSound, KILLED, List, None, Object, Option, Process, Ready, Some, State, World, [], ap, arith}
use Rattle.zl_code.proofs.Common.{cases_Bool, eqb-true, false, filter, get, get-each, if◌then◌else◌, inl, inr, is_blocked, is_process, is_within, length, lives}
use Rattle.zl_code.proofs.Common.{not, object_killed, option_map, process_killed, refl, state_passes, suc, sym, true, true≢false, with_killed, ℕ, ◌==◌, ◌∙◌}
use Rattle.zl_code.proofs.Common.{◌∷◌, ◌≡◌}
use Rattle.zl_code.proofs.MapKept.{in_order-each, Changed, same, changed, changed_each}
use Rattle.zl_code.proofs.Changes.{IsChildless, ProcessChange, ends, IsNewProcess, ObjectChange, dies, IsNewObject, KeepsBlocked, awake, still, Change, alike}
use Rattle.zl_code.proofs.Changes.{times}

-- ---- a list of koids

-- k among those that pass a test: not at all where it fails, and as often as before where it passes
pub times-none : (test : ℕ → Bool) (k : ℕ) → test k ≡ false → (ps : List ℕ) → times k (filter test ps) ≡ 0
times-none test k fails [] = refl
times-none test k fails (q ∷ ps) = elim (cases_Bool (test q)) as (λ _. times k (filter test (q ∷ ps)) ≡ 0) [
  | inl passes ↦ elim (cases_Bool (q == k)) as (λ _. times k (filter test (q ∷ ps)) ≡ 0) [
    | inl is ↦ absurd (true≢false (sym passes ∙ (ap test (eqb-true q k is) ∙ fails)))
    | inr other ↦ rw (passes, other) (times-none test k fails ps)
  ]
  | inr out ↦ rw out (times-none test k fails ps)
]

pub times-kept : (test : ℕ → Bool) (k : ℕ) → test k ≡ true → (ps : List ℕ) → times k (filter test ps) ≡ times k ps
times-kept test k passes [] = refl
times-kept test k passes (q ∷ ps) = elim (cases_Bool (test q)) as (λ _. times k (filter test (q ∷ ps)) ≡ times k (q ∷ ps)) [
  | inl pass ↦ rw pass (by_test (q == k) (times-kept test k passes ps))
  | inr out ↦ elim (cases_Bool (q == k)) as (λ _. times k (filter test (q ∷ ps)) ≡ times k (q ∷ ps)) [
    | inl is ↦ absurd (true≢false (sym passes ∙ (ap test (sym (eqb-true q k is)) ∙ out)))
    | inr other ↦ rw (out, other) (times-kept test k passes ps)
  ]
]
  where
    by_test : (b : Bool) → times k (filter test ps) ≡ times k ps
        → length (if b then q ∷ filter (λ x. x == k) (filter test ps) else filter (λ x. x == k) (filter test ps))
        ≡ length (if b then q ∷ filter (λ x. x == k) ps else filter (λ x. x == k) ps)
    by_test true e = ap (λ (n : ℕ). suc n) e
    by_test false e = e

-- ---- a kill

-- t and whatever stands below it are killed, where nothing that lives is left directly below
pub all_are_killed : (start w : World) (t : ℕ) → ((k : ℕ) → IsSound start → is_within w.objects t k ≡ true → IsChildless (with_killed w t) k)
    → Change start w (with_killed w t)
unfolding with_killed is_process
all_are_killed start w t childless = record {
  next_koid = omega arith;
  processes_in_order = λ h. rw (in_order-each w.processes (λ k. process_killed (is_within w.objects t k))) h;
  objects_in_order = λ h. rw (in_order-each w.objects (λ k. object_killed (is_within w.objects t k))) h;
  processes = changed_each _ _ w.processes (λ k. process_killed (is_within w.objects t k)) (λ k x. by_reach k x (is_within w.objects t k));
  objects = changed_each _ _ w.objects (λ k. object_killed (is_within w.objects t k)) (λ k x. by_object k x (is_within w.objects t k) refl);
  blocked = λ s k. by_blocked k (is_within w.objects t k) refl;
  waits = alike refl;
}
  where
    by_reach : (k : ℕ) (x : Process) (b : Bool)
        → Changed (ProcessChange start (with_killed w t) k) (IsNewProcess start w (with_killed w t) k) (Some x) (Some (process_killed b x))
    by_reach k x false = same refl
    by_reach k x true = by_life (lives x.state)
      where
        by_life : (b : Bool) → Changed (ProcessChange start (with_killed w t) k) (IsNewProcess start w (with_killed w t) k) (Some x)
            (Some (if b then record x { state = Ended KILLED; handles = []; last = None } else x))
        by_life true = changed x _ refl refl (ends KILLED refl)
        by_life false = same refl

    by_object : (k : ℕ) (x : Object) (b : Bool) → is_within w.objects t k ≡ b
        → Changed (ObjectChange start (with_killed w t) k) (IsNewObject start w (with_killed w t) k) (Some x) (Some (object_killed b x))
    by_object k x false is = same refl
    by_object k x true is = changed x _ refl refl (dies refl (λ s. childless k s is))

    unblocked : (o : Option Process) → state_passes is_blocked (option_map (process_killed true) o) ≡ false
    unblocked None = refl
    unblocked (Some x) = by_state x.state refl
      where
        by_state : (s : State) → x.state ≡ s → is_blocked (if lives s then record x { state = Ended KILLED; handles = []; last = None } else x).state ≡ false
        by_state Created is = refl
        by_state Ready is = refl
        by_state (Blocked awaited destinations) is = refl
        by_state _ is = ap is_blocked is

    spared : (o : Option Process) → state_passes is_blocked (option_map (process_killed false) o) ≡ state_passes is_blocked o
    spared None = refl
    spared (Some x) = refl

    by_blocked : (k : ℕ) (b : Bool) → is_within w.objects t k ≡ b → KeepsBlocked w (with_killed w t) k
    by_blocked k true is = awake (times-none (λ j. not (is_within w.objects t j)) k (ap not is) w.blocked)
        (ap (state_passes is_blocked) (get-each w.processes (λ j. process_killed (is_within w.objects t j)) k) ∙ rw is (unblocked (get w.processes k)))
    by_blocked k false is = still (times-kept (λ j. not (is_within w.objects t j)) k (ap not is) w.blocked)
        (ap (state_passes is_blocked) (get-each w.processes (λ j. process_killed (is_within w.objects t j)) k) ∙ rw is (spared (get w.processes k)))
