use Rattle.zl_signals.proofs.BySignal.{lowest_is}
use Rattle.zl_signals.proofs.firsts.lowest.Goals as goal

pub returns-clause-there : goal.returns-clause-there
returns-clause-there c = (lowest_is c.args.signals c.requires c.ranges.signals.fits).1
