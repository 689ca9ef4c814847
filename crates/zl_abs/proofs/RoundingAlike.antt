-- Rules by bounds that round numbers up alike are the same.
use Rattle.zl_abs.proofs.Common.{ANY, AbsVal, CallInstr, Gives, Image, Instr, List, LocalInstr, None, Option, RoundAlike, Some, State, [], and_then, ap}
use Rattle.zl_abs.proofs.Common.{call_row, call_rule, call_rule_by, capped, computes, edges, gives, goes_on, instr_at, length, local_rule, number_at, packet}
use Rattle.zl_abs.proofs.Common.{refl, rule_by, rule_with, shifted, slice_index, smaller, target_of, uses_by, uses_of, value_at, values_by, word_at, writes, ℕ}
use Rattle.zl_abs.proofs.Common.{◌+◌, ◌∷◌, ◌≡◌}
use Rattle.zl_code.specs.declared.instr.Instr.TheVariants as instr
use Rattle.zl_code.specs.declared.instr.LocalInstr.TheVariants as local
use Rattle.zl_abs.specs.declared.value.AbsVal.TheVariants.{Word}

module _ (bs cs : List ℕ) (alike : RoundAlike bs cs) (i : Image) (s : State) where
  same_computes : (a n : ℕ) → computes bs s a n ≡ computes cs s a n
  same_computes a n = ap (λ (m : ℕ). writes s a (Word m)) (alike n)

  same_local : (x : LocalInstr) → local_rule bs i x s ≡ local_rule cs i x s
  unfolding local_rule
  same_local (local.Add a b c) = λ k. and_then (word_at s b) (λ m. and_then (word_at s c) (λ n. same_computes a (capped (m + n)) k))
  same_local (local.AddNumber a b imm) = λ k. and_then (word_at s b) (λ m. same_computes a (capped (m + imm)) k)
  same_local (local.And a b c) = λ k. and_then (word_at s b) (λ m. and_then (word_at s c) (λ n. same_computes a (smaller m n) k))
  same_local (local.ShiftRight a b imm) = λ k. and_then (word_at s b) (λ m. same_computes a (shifted m imm) k)
  same_local x = refl

  same_values : (g : Gives) (register : ℕ) (have : AbsVal) (number : ℕ) → values_by bs g register have number ≡ values_by cs g register have number
  same_values packet register have number = ap (λ (m : ℕ). Word ANY ∷ Word m ∷ Word ANY ∷ Word ANY ∷ []) (alike 1)
  same_values g register have number = refl

  same_call : (c : CallInstr) → call_rule bs i c s ≡ call_rule cs i c s
  unfolding call_rule uses_of
  same_call c =
      ap (λ vs. call_rule_by i s (goes_on c.name) (uses_by (call_row c.name) c vs))
      (same_values (gives c.name) (slice_index c.registers 1) (value_at s (slice_index c.registers 1)) (number_at c.last 0 4))

  same_by : (n : ℕ) (o : Option Instr) → rule_by bs i n s o ≡ rule_by cs i n s o
  same_by n None = refl
  same_by n (Some (instr.Local x)) = ap (λ w. and_then w (edges (length i.code) n (target_of x))) (same_local x)
  same_by n (Some (instr.Call x)) = ap (λ w. and_then w (edges (length i.code) n 0)) (same_call x)
  same_by n (Some (instr.Unknown bytes)) = refl

pub same_rule : (bs cs : List ℕ) (i : Image) (n : ℕ) (s : State) → RoundAlike bs cs → rule_with bs i n s ≡ rule_with cs i n s
unfolding rule_with
same_rule bs cs i n s alike = same_by bs cs alike i s n (instr_at i n)
