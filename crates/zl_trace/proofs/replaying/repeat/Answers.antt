use Rattle.zl_trace.proofs.Common.{[], inl, inr, refl, ◌∷◌, ◌≡◌}
use Rattle.zl_calls.specs.World.{own_here}
use Rattle.zl_code.specs.Steps.{single}
use Rattle.zl_trace.proofs.Replayed.{differs_one}
use Rattle.zl_trace.proofs.replaying.repeat.Goals as goal

pub returns-in-Run-clause-other : goal.returns-in-Run-clause-other
returns-in-Run-clause-other c other = rw c.in-Run.is (c.repeat_run.ensures.other other)

pub returns-in-Call-clause-other : goal.returns-in-Call-clause-other
returns-in-Call-clause-other c other =
    let one : single c.args.item ≡ c.args.item ∷ [] = elim c.in-Call.is [ inl call ↦ rw call.2 refl | inr stuck ↦ rw stuck refl ] in
    differs_one c.args.world.now.programs (own_here c.args.world.now) c.args.item one (rw c.in-Call.item-is at (c.repeat_step.ensures.other other))
