-- A worked example: with a block that is gone round three times eight instructions follow one another before the exit, so that there is a step bound at
-- a budget of eight, and at seven the first instruction is over.
use Rattle.zl_verify.proofs.Common.{ANY, AllBelow, AreCountersAt, Image, IsOver, IsState, IsTrue, IsTyping, List, Option, RuleHolds, Some, State, Word, []}
use Rattle.zl_verify.proofs.Common.{all_below, are_distinct, arith, at, blank_image, blocks_at, call_rule, called, examined_all, inl, leads_on, local_parts}
use Rattle.zl_verify.proofs.Common.{local_rule, refl, replicate, rule, rule_with, same_Some, start_state, subst, suc, uses_of, value_at, with_all, with_value}
use Rattle.zl_verify.proofs.Common.{zero, ℕ, ◌*◌, ◌-◌, ◌∷◌, ◌≡◌, ◌≤◌}
use Rattle.zl_code.specs.declared.image.Version.TheVariants as version
use Rattle.zl_code.specs.declared.instr.Instr.TheVariants as instr
use Rattle.zl_code.specs.declared.instr.LocalInstr.TheVariants as local
use Rattle.zl_code.specs.declared.history.CallName.TheVariants as name
unfoldable use Rattle.zl_abs.specs.Bounds.{imm_of, least_from}
unfoldable use Rattle.zl_abs.specs.Values.{below}
unfoldable use Rattle.zl_code.specs.Instructions.{row_of}
use Rattle.zl_abs.specs.States.{is_named_well}
use Rattle.zl_verify.specs.Checks.{HasStepBound}

-- fives are added up, and the process exits with the sum
abbrev image : ℕ → Image
image budget = record blank_image {
  version = version.Two;
  budget = budget;
  code =
      instr.Local (local.Const 2 0) ∷ instr.Local (local.Rep 3 3) ∷ instr.Local (local.AddNumber 2 2 5) ∷ instr.Local (local.EndRep 1)
      ∷ instr.Call (called name.ProcessExit (2 ∷ []) 0) ∷ [];
}

-- a word in each register
abbrev words : State
words = replicate 32 (Word ANY)

abbrev states : ℕ → Option State
states = at (replicate 5 (Some words))

-- names what has to unfold
unfoldable searching : Unit {0}
unfolding below all_below with_value with_all start_state imm_of least_from local_rule call_rule uses_of examined_all are_distinct rule_with row_of local_parts
    blocks_at
searching = tt

-- ---- a typing

at_each : (P : ℕ → State → Type 0) → P 0 words → P 1 words → P 2 words → P 3 words → P 4 words → (n : ℕ) (s : State) → states n ≡ Some s → P n s
at_each P a b c d e zero s q = subst (P 0) (same_Some words s q) a
at_each P a b c d e (suc zero) s q = subst (P 1) (same_Some words s q) b
at_each P a b c d e (suc (suc zero)) s q = subst (P 2) (same_Some words s q) c
at_each P a b c d e (suc (suc (suc zero))) s q = subst (P 3) (same_Some words s q) d
at_each P a b c d e (suc (suc (suc (suc zero)))) s q = subst (P 4) (same_Some words s q) e
at_each P a b c d e (suc (suc (suc (suc (suc n))))) s q = cc

named : (n r : ℕ) → IsTrue (is_named_well words (value_at (replicate n (Word ANY)) r))
named zero r = refl
named (suc n) zero = refl
named (suc n) (suc r) = named n r

is_state : IsState words
is_state = record { long = refl; tags = named 32 }

typing : (budget : ℕ) → IsTyping (image budget) states
unfolding searching
typing budget = record {
  begins = refl;
  state = at_each (λ n s. IsState s) is_state is_state is_state is_state is_state;
  holds = at_each (λ n s. RuleHolds states (rule (image budget) n s)) (refl, tt) (refl, tt) (refl, tt) (refl, (refl, tt)) tt;
}

-- ---- at eight

-- how many instructions follow one another from there
abbrev steps : ℕ → List ℕ → ℕ
steps zero cs = 8
steps (suc zero) cs = 7
steps (suc (suc zero)) (c ∷ cs) = 2 * c
steps (suc (suc (suc zero))) (c ∷ cs) = 2 * c - 1
steps _ _ = 0

within : (n : ℕ) (cs : List ℕ) → AreCountersAt (image 8) n cs → steps n cs ≤ 8
unfolding searching
within zero cs c = omega arith
within (suc zero) cs c = omega arith
within (suc (suc zero)) [] c = omega arith
within (suc (suc zero)) (k ∷ cs) c = omega (arith, c.1)
within (suc (suc (suc zero))) [] c = omega arith
within (suc (suc (suc zero))) (k ∷ cs) c = omega (arith, c.1)
within (suc (suc (suc (suc n)))) cs c = omega arith

falls : (n : ℕ) (cs : List ℕ) → AreCountersAt (image 8) n cs → AllBelow steps (steps n cs) (leads_on (image 8) states (n, cs))
unfolding searching
falls zero cs c = (omega arith, tt)
falls (suc zero) cs c = (omega arith, tt)
falls (suc (suc zero)) [] c = absurd c
falls (suc (suc zero)) (k ∷ cs) c = (omega (arith, c.0), tt)
falls (suc (suc (suc zero))) [] c = absurd c
falls (suc (suc (suc zero))) (zero ∷ cs) c = absurd (omega (arith, c.0))
falls (suc (suc (suc zero))) (suc zero ∷ cs) c = (omega arith, tt)
falls (suc (suc (suc zero))) (suc (suc k) ∷ cs) c = (omega arith, tt)
falls (suc (suc (suc (suc zero)))) cs c = tt
falls (suc (suc (suc (suc (suc n))))) cs c = tt

bounded : HasStepBound (image 8)
bounded = record { states = states; typing = typing 8; steps = steps; bound = record { within = λ n s cs q c. within n cs c; falls = falls } }

-- ---- at seven

over : IsOver (image 7) states 0
unfolding searching
over = record { counters = []; are = tt; follow = inl (inl (inl (inl (inl (inl (inl (inl tt))))))) }
