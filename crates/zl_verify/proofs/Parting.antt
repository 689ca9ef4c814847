-- The edges of an instruction lead to where it jumps, and behind it: all but the last to a stretch, and that one to a
-- stretch or to the next instruction.
use Rattle.zl_verify.proofs.Common.{AreStretches, Stretches, Bool, Cause, Edge, Err, IfOk, Image, Instr, List, None, Ok, Option, Result, Some, State, []}
use Rattle.zl_verify.proofs.Common.{and_then, arith, at, bounds_of, call_rule, edge_to, edges, false, if◌then◌else◌, instr_at, length, local_in, local_rule}
use Rattle.zl_verify.proofs.Common.{nat_lt, nat_tests, refl, rule, rule_by, rule_with, subst, sym, target_of, true, ℕ, ◌++◌, ◌+◌, ◌<◌, ◌∙◌, ◌∷◌, ◌≡◌}
use Rattle.zl_abs.specs.Ways.{Ways}
use Rattle.zl_abs.specs.Targets.{jump_in}
use Rattle.zl_code.specs.declared.instr.Instr.TheVariants as instr
use Rattle.zl_abs.specs.declared.cause.Cause.TheVariants as cause
use Rattle.zl_verify.proofs.Places.{there}

-- a stretch begins there
abbrev pub Begins : List (Option ℕ) → ℕ → Type 0
Begins numbers n = at numbers n ≡ None → ⊥

unfoldable pub AreParted : List (Option ℕ) → ℕ → List Edge → Type 0
AreParted numbers n [] = Unit {0}
AreParted numbers n (e ∷ []) = at numbers e.0 ≡ None → e.0 ≡ n + 1
AreParted numbers n (e ∷ f ∷ es) = Begins numbers e.0 × AreParted numbers n (f ∷ es)

module _ (numbers : List (Option ℕ)) (size n target : ℕ) where
  inside : (b : Bool) → nat_lt target size ≡ b → b ≡ true → target < size
  inside b e h = grind (arith, nat_tests)

  edges_parted : (target < size → Begins numbers target) → (w : Ways) → IfOk (edges size n target w) (AreParted numbers n)
  unfolding AreParted
  edges_parted begin w = by (w.jumped) (w.passed)
    where
      passes : (xs : List Edge) → ((y : Edge) → y.0 ≡ n + 1 → AreParted numbers n (xs ++ y ∷ [])) → AreParted numbers n xs → (s : State) → (b : Bool)
          → IfOk (and_then (if b then Ok ((n + 1, s) ∷ []) else Err cause.FallsOff) (λ ys. Ok (xs ++ ys))) (AreParted numbers n)
      passes xs more none s true = more (n + 1, s) refl
      passes xs more none s false = tt

      behind : (xs : List Edge) → ((y : Edge) → y.0 ≡ n + 1 → AreParted numbers n (xs ++ y ∷ [])) → AreParted numbers n (xs ++ []) → (p : Option State)
          → IfOk (and_then (edge_to size cause.FallsOff (n + 1) p) (λ ys. Ok (xs ++ ys))) (AreParted numbers n)
      behind xs more none None = none
      behind xs more none (Some s) = passes xs more (tt_or xs none) s (nat_lt (n + 1) size)
        where
          tt_or : (xs : List Edge) → AreParted numbers n (xs ++ []) → AreParted numbers n xs
          tt_or [] h = tt
          tt_or (x ∷ []) h = h
          tt_or (x ∷ y ∷ ys) h = (h.0, tt_or (y ∷ ys) (h.1))

      by : (j p : Option State) → IfOk
          (and_then (edge_to size cause.BadJump target j) (λ xs. and_then (edge_to size cause.FallsOff (n + 1) p) (λ ys. Ok (xs ++ ys)))) (AreParted numbers n)
      by None p = behind [] (λ y e k. e) tt p
      by (Some s) p = jumps (nat_lt target size) refl
        where
          jumps : (b : Bool) → nat_lt target size ≡ b → IfOk (and_then (if b then Ok ((target, s) ∷ []) else Err cause.BadJump)
              (λ xs. and_then (edge_to size cause.FallsOff (n + 1) p) (λ ys. Ok (xs ++ ys)))) (AreParted numbers n)
          jumps false e = tt
          jumps true e = behind ((target, s) ∷ []) (λ y k. (begin (inside true e refl), λ z. k)) (λ z. absurd (begin (inside true e refl) z)) p

then_parted : (numbers : List (Option ℕ)) (n : ℕ) (r : Result Ways Cause) (f : Ways → Result (List Edge) Cause)
    → ((w : Ways) → IfOk (f w) (AreParted numbers n)) → IfOk (and_then r f) (AreParted numbers n)
then_parted numbers n (Err c) f h = tt
then_parted numbers n (Ok w) f h = h w

pub rule_parted : (i : Image) (bs : Stretches) → AreStretches i bs → (n : ℕ) (s : State) → IfOk (rule i n s) (AreParted bs.numbers n)
unfolding rule_with
rule_parted i bs a n s = by (instr_at i n) refl
  where
    by : (o : Option Instr) → instr_at i n ≡ o → IfOk (rule_by (bounds_of i.code) i n s o) (AreParted bs.numbers n)
    by (Some (instr.Local x)) e =
        let j : jump_in (local_in (instr_at i n)) ≡ target_of x = rw e refl in
        then_parted bs.numbers n (local_rule (bounds_of i.code) i x s) (edges (length i.code) n (target_of x))
        (λ w. edges_parted bs.numbers (length i.code) n (target_of x)
        (λ h. subst (λ (m : ℕ). Begins bs.numbers m) j (a.jumps n (there i.code n (instr.Local x) e) (subst (λ (m : ℕ). m < length i.code) (sym j) h))) w)
    by (Some (instr.Call x)) e =
        then_parted bs.numbers n (call_rule (bounds_of i.code) i x s) (edges (length i.code) n 0)
        (λ w. edges_parted bs.numbers (length i.code) n 0 (λ h z. let q : None ≡ Some 0 = sym z ∙ a.first in cc) w)
    by _ e = tt
