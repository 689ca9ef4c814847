use Rattle.zl_code.proofs.image.Image.len.Goals as goal

pub returns-clause-in_range : goal.returns-clause-in_range
returns-clause-in_range c = rw (← c.self.view_is) c.self.invariant
