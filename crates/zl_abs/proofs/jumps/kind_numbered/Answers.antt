use Rattle.zl_abs.proofs.KindNumbers.{kind_found}
use Rattle.zl_abs.proofs.jumps.kind_numbered.Goals as goal

pub returns : goal.returns
returns c = kind_found c.args.number c.from_number.result c.from_number.ensures.found c.from_number.ensures.missing
