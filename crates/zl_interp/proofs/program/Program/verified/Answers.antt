use Rattle.zl_verify.specs.Lists.{at}
use Rattle.zl_verify.specs.Peaks.{numbers_by}
use Rattle.zl_interp.proofs.program.Program.verified.Goals as goal

pub returns-in-Checked-clause-bound : goal.returns-in-Checked-clause-bound
returns-in-Checked-clause-bound c = rw c.in-Checked.is (λ checked. record {
  states = at c.in-Checked.accepted.states;
  typing = c.image.ensures.typing;
  steps = numbers_by c.in-Checked.accepted.image c.in-Checked.accepted.steps;
  bound = c.image.ensures.bound;
})
