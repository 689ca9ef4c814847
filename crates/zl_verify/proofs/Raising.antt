-- What comes of a state that is raised in place.
use Rattle.zl_verify.proofs.Common.{Bool, List, None, Option, Some, State, all_below, all_joined, ap, false, get_or, length, raised, refl, slice_get}
use Rattle.zl_verify.proofs.Common.{slice_get-get_or, sym, true, ℕ, ◌<◌, ◌∙◌, ◌≡◌}
use Rattle.zl_abs.proofs.Absorbing.{all_absorb}
use Rattle.zl_verify.specs.Search.{Table, put}

-- what lies below another has a join with it
pub not_below : (u s : State) → all_joined u s ≡ None → all_below s u ≡ false
not_below u s none = go (all_below s u) refl
  where
    go : (b : Bool) → all_below s u ≡ b → b ≡ false
    go false is = refl
    go true is = let same : None ≡ Some u = sym none ∙ all_absorb u s is in absurd (cc)

pub raised_none : (t : Table) (n : ℕ) (s u : State) → slice_get t.states n ≡ Some (Some u) → all_joined u s ≡ None → None ≡ raised t n s
raised_none t n s u there none = rw (there, not_below u s none, none) refl

pub raised_same : (t : Table) (n : ℕ) (s u : State) → slice_get t.states n ≡ Some (Some u) → all_below s u ≡ true → Some t ≡ raised t n s
raised_same t n s u there below = rw (there, below) refl

pub raised_up : (t : Table) (n : ℕ) (s u v : State) → slice_get t.states n ≡ Some (Some u) → all_below s u ≡ false → all_joined u s ≡ Some v
    → Some (put t n v) ≡ raised t n s
raised_up t n s u v there above joined = rw (there, above, joined) refl

-- what was read of a place stands there
pub there : (xs : List (Option State)) (n : ℕ) (o : Option State) (u : State) → n < length xs → o ≡ get_or xs n o → o ≡ Some u → slice_get xs n ≡ Some (Some u)
there xs n o u within read is = slice_get-get_or xs n o within ∙ ap Some (sym read ∙ is)
