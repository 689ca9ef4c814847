use Rattle.bitflags.specs.Sets.{known_from}
use Rattle.zl_code.proofs.declarations.rights_allowed.Goals as goal

pub returns-in-None : goal.returns-in-None
unfolding known_from
returns-in-None c = rw (c.in-None.is) (c.all.ensures tt)
