-- What a place that is filled leaves of the code that agrees.
use Rattle.zl_interp.proofs.Common.{Agrees, Instr, List, None, Option, Some, ap, arith, inl, inr, length, length-set}
use Rattle.zl_interp.proofs.Common.{refl, slice_get, slice_set, subst, sym, ℕ, ◌<◌, ◌∙◌, ◌≡◌, ◌≢◌, ◌≤◌, ◌⊎◌}
use Rattle.std.proofs.lemmas.Option.{slice_get_past, slice_get_within}
use Rattle.zl_verify.proofs.Places.{below_or_not, equal_or_not, get_put, get_put_other, nowhere}

module _ (code : List Instr) (places : List (Option Instr)) (n : ℕ) (agrees : Agrees code places) where
  abbrev after : List (Option Instr)
  after = slice_set places n (slice_get code n)

  long_after : length after ≡ length code
  long_after = length-set places n (slice_get code n) ∙ sym agrees.long

  -- it holds the instruction
  here : (x : Instr) → slice_get code n ≡ Some x → slice_get after n ≡ Some (Some x)
  here x at =
      let within : n < length code = slice_get_within code n x at in
      get_put places n (slice_get code n) (omega (arith, within, agrees.long)) ∙ ap Some at

  module _ (other : List Instr) (agrees_then : Agrees other after) where
    -- what agrees then did so before
    pub filled_before : Agrees other places
    filled_before = record { long = agrees_then.long ∙ length-set places n (slice_get code n); filled = λ m x at. by m x at (equal_or_not n m) }
      where
        by : (m : ℕ) (x : Instr) → slice_get places m ≡ Some (Some x) → (n ≡ m) ⊎ (n ≢ m) → slice_get other m ≡ Some x
        by m x at (inl e) = subst (λ k. slice_get other k ≡ Some x) e (agrees_then.filled n x (here x (ap (slice_get code) e ∙ agrees.filled m x at)))
        by m x at (inr apart) = agrees_then.filled m x (get_put_other places n m (slice_get code n) apart ∙ at)

    -- and has the same instruction there
    pub filled_alike : slice_get other n ≡ slice_get code n
    filled_alike = by (slice_get code n) refl (below_or_not n (length code))
      where
        by : (o : Option Instr) → slice_get code n ≡ o → (n < length code) ⊎ (length code ≤ n) → slice_get other n ≡ slice_get code n
        by (Some x) at there = agrees_then.filled n x (here x at) ∙ sym at
        by None at (inl within) = absurd (nowhere code n at within)
        by None at (inr past) = slice_get_past other n (omega (arith, past, agrees_then.long, long_after)) ∙ sym at
