use Rattle.zl_signals.proofs.BySignal.{cleared}
use Rattle.zl_signals.proofs.firsts.without.Goals as goal

pub returns : goal.returns
returns c = cleared c.args.signals c.args.place c.requires
