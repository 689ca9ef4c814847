use Rattle.zl_verify.proofs.Common.{sym, ◌∙◌}
use Rattle.zl_verify.proofs.Lifting.{taken_up}
use Rattle.zl_verify.proofs.sparse.Lifted.take_up_one.Goals as goal

pub put-requires-clause-known : goal.put-requires-clause-known
put-requires-clause-known c = rw c.start-place.ensures (taken_up _ _ _ _ _ c.requires.goes (sym c.known_at.ensures ∙ c.in-Some.is))
