use Rattle.zl_interp.proofs.Common.{arc_value, program_value}
use Rattle.zl_interp.proofs.Marked.{mark_fills}
use Rattle.zl_interp.proofs.bursts.Done.is_filled.Goals as goal

pub returns : goal.returns
returns c =
    rw (← c.self.view_is, c.is_marked.ensures, c.deref-2.ensures.value, c.deref.ensures)
    (mark_fills (program_value (arc_value c.self.inside.program)).image.code c.self.inside.work.value.marks.items c.args.place c.self.invariant.1)
