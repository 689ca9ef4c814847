-- No rule, no bound and no mark reads the version of an image.
use Rattle.zl_verify.proofs.Common.{AllBelow, Cause, Image, Instr, IsStepBound, IsTyping, List, None, Ok, Option, RuleHolds, Some, State, Uses, [], and_then}
use Rattle.zl_verify.proofs.Common.{ap, array_fault, bounds_of, call_at, call_rule, edges, examined_all, finished_unless, goes_on, if◌then◌else◌, instr_at}
use Rattle.zl_verify.proofs.Common.{is_pause, leads, leads_by, length, local_rule, passes, refl, rule_with, spots_to, start_state, stops, subst, targets_of}
use Rattle.zl_verify.proofs.Common.{uses_of, ℕ, ◌↔◌, ◌≡◌}
use Rattle.zl_abs.specs.Typing.{rule_by}
use Rattle.zl_code.specs.declared.image.Version.{Version}
use Rattle.zl_code.specs.declared.instr.Instr.TheVariants as instr

module _ (i : Image) (v w : Version) where
  tests_same : (c : Option Cause) (s t : State) (u : Uses)
      → finished_unless c (record i { version = v }) s t u ≡ finished_unless c (record i { version = w }) s t u
  tests_same (Some c) s t u = refl
  tests_same None s t u = refl

  rule_same : (bounds : List ℕ) (n : ℕ) (s : State) → rule_with bounds (record i { version = v }) n s ≡ rule_with bounds (record i { version = w }) n s
  unfolding rule_with local_rule call_rule
  rule_same bounds n s = by (instr_at i n)
    where
      by : (o : Option Instr) → rule_by bounds (record i { version = v }) n s o ≡ rule_by bounds (record i { version = w }) n s o
      by (Some (instr.Call x)) =
          let u : Uses = uses_of bounds s x in
          λ j. and_then (and_then (and_then (examined_all s u.operands) (λ t. tests_same (array_fault i u.array) s t u j))
          (λ t. Ok (if goes_on x.name then passes t else stops))) (edges (length i.code) n 0)
      by (Some (instr.Local x)) = refl
      by _ = refl

  module _ (t : ℕ → Option State) where
    typed : IsTyping (record i { version = v }) t → IsTyping (record i { version = w }) t
    unfolding start_state
    typed h =
        record { begins = h.begins; state = h.state; holds = λ n s is. subst (RuleHolds t) (rule_same (bounds_of i.code) n s) (h.holds n s is) }

    leads_same : (n : ℕ) → leads (record i { version = v }) t n ≡ leads (record i { version = w }) t n
    leads_same n = by (t n)
      where
        by : (o : Option State) → leads_by (record i { version = v }) n o ≡ leads_by (record i { version = w }) n o
        by None = refl
        by (Some s) = ap (λ r. if is_pause (call_at i n) then [] else targets_of r) (rule_same (bounds_of i.code) n s)

    bounded : (steps : ℕ → List ℕ → ℕ) → IsStepBound (record i { version = v }) t steps → IsStepBound (record i { version = w }) t steps
    bounded steps h = record {
      within = h.within;
      falls = λ n cs are. subst (λ ms. AllBelow steps (steps n cs) (spots_to i (n, cs) ms)) (leads_same n) (h.falls n cs are);
    }

pub same_typing : (i : Image) (v : Version) (t : ℕ → Option State) → (IsTyping i t ↔ IsTyping (record i { version = v }) t)
same_typing i v t = (typed i i.version v t, typed i v i.version t)

pub same_bound : (i : Image) (v : Version) (t : ℕ → Option State) (steps : ℕ → List ℕ → ℕ)
    → (IsStepBound i t steps ↔ IsStepBound (record i { version = v }) t steps)
same_bound i v t steps = (bounded i i.version v t steps, bounded i v i.version t steps)
