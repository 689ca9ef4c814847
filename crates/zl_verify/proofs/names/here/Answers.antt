use Rattle.zl_verify.proofs.NextNamed.{here_all}
use Rattle.zl_verify.proofs.names.here.Goals as goal

pub returns : goal.returns
returns c = here_all c.args.image.now c.args.place c.requires
