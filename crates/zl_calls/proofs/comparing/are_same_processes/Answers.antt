use Rattle.zl_calls.proofs.Common.{arith, false≢true}
use Rattle.zl_interp.proofs.Slots.{same_at}
use Rattle.zl_calls.specs.Same.{counted}
use Rattle.zl_calls.proofs.comparing.are_same_processes.Goals as goal

pub returns-then-not-is_same : goal.returns-then-not-is_same
returns-then-not-is_same c = (
  λ no. absurd (false≢true no),
  λ e. (c.if-not-is_same.ensures {u = tt}).1
      (same_at counted (counted c.index-one-n.result) c.args.one.now c.args.other.now c.loop-n.n c.index-one-n.result c.index-other-n.result
      c.index-one-n.is c.index-other-n.is c.loop-n-test.true (omega (arith, c.loop-n-test.true, c.if-one-other.false)) e),
)
