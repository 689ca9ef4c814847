use Rattle.zl_interp.proofs.Common.{[], arith, false≢true}
use Rattle.zl_interp.proofs.Slots.{same_at}
use Rattle.zl_interp.proofs.cpu.are_same_slots.Goals as goal

pub returns-then-not-has_same_places : goal.returns-then-not-has_same_places
returns-then-not-has_same_places c = (
  λ no. absurd (false≢true no),
  λ e. (c.if-not-has_same_places.ensures {u = tt}).1
      (same_at (λ places. places.items) [] c.args.one.now c.args.other.now c.loop-n.n c.index-one-n.result c.index-other-n.result c.index-one-n.is
      c.index-other-n.is
      c.loop-n-test.true (omega (arith, c.loop-n-test.true, c.if-one-other.false)) e),
)
