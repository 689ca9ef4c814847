use Rattle.zl_interp.proofs.program.Library.is_same.Goals as goal

pub returns : goal.returns
returns c = rw (← c.self.view_is, ← c.other.view_is) (rw (c.deref.ensures.value, c.deref-2.ensures.value) at c.are_same_programs.ensures)
