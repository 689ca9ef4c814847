use Rattle.zl_interp.proofs.Common.{Image, arc_value, program_value}
use Rattle.zl_interp.proofs.Going.{is_burst}
use Rattle.zl_interp.proofs.Marked.{marked_agrees}
use Rattle.zl_interp.proofs.bursts.burst.Goals as goal

pub invariant_of-result : goal.invariant_of-result
invariant_of-result c =
    let i : Image = (program_value (arc_value c.turn.inside.program)).image in (
      is_burst i _ (rw c.deref.ensures at c.go-ran.ensures.leads) (rw c.deref.ensures at c.go-ran.ensures.next)
          (rw (c.deref-2.ensures, c.deref-3.ensures) at c.stop_of-stop.ensures),
      rw c.deref.ensures at c.go-ran.ensures.long,
    )

pub returns-clause-follows : goal.returns-clause-follows
returns-clause-follows c = (invariant_of-result c).0

pub returns-clause-agrees : goal.returns-clause-agrees
returns-clause-agrees c = rw (← c.turn.view_is) (marked_agrees _ _)
