use Rattle.zl_interp.proofs.Common.{arc_value, arith, false≢true, program_value}
use Rattle.zl_interp.proofs.Slots.{same_at}
use Rattle.zl_interp.proofs.program.are_same_programs.Goals as goal

pub returns-then-not-is_same_program : goal.returns-then-not-is_same_program
returns-then-not-is_same_program c = (
  λ no. absurd (false≢true no),
  λ e. (c.if-not-is_same_program.ensures {u = tt}).1
      (same_at (λ program. program_value (arc_value program)) (program_value (arc_value c.index-one-n.result)) c.args.one.now c.args.other.now c.loop-n.n
      c.index-one-n.result c.index-other-n.result c.index-one-n.is c.index-other-n.is
      c.loop-n-test.true (omega (arith, c.loop-n-test.true, c.if-one-other.false)) e),
)
