use Rattle.zl_verify.proofs.Lifting.{low_ahead}
use Rattle.zl_verify.proofs.sparse.Lifted.carry.Goals as goal

pub raise-requires-clause-known : goal.raise-requires-clause-known
raise-requires-clause-known c = rw c.value_behind-value.ensures (low_ahead _ _ _ _ _ c.place_of-place.ensures c.requires.known)
