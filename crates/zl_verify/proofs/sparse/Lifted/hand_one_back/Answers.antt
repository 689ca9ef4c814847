use Rattle.zl_verify.proofs.Common.{subst, sym, ℕ, ◌∙◌}
use Rattle.zl_verify.specs.Low.{IsLow}
use Rattle.zl_verify.proofs.Lifting.{handed_back}
use Rattle.zl_verify.proofs.sparse.Lifted.hand_one_back.Goals as goal

pub returns : goal.returns
returns c =
    λ h. handed_back _ _ _ _ _ c.in-Some.state c.requires.goes
    (subst (λ (n : ℕ). IsLow c.args.image.now n c.in-Some.state) c.start-place.ensures (c.requires.low.each _ _ (sym c.known_at.ensures ∙ c.in-Some.is)))
    (rw h at c.raise.ensures)
