use Rattle.zl_abs.proofs.Untagging.{written}
use Rattle.zl_abs.proofs.state.AbsState.write.Goals as goal

pub returns-else-has_tag : goal.returns-else-has_tag
returns-else-has_tag c = written _ _ _ _ _ c.refine.ensures c.self.view_is _ c.has_tag.ensures c.if-has_tag.false
