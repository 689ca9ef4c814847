use Rattle.zl_signals.proofs.BySignal.{first_holds}
use Rattle.zl_signals.proofs.Numbered.{lower}
use Rattle.zl_signals.specs.Numbered.{NO_WAIT}
use Rattle.zl_signals.proofs.waits.Waits.first_holding.Goals as goal

pub returns : goal.returns
returns c =
    let waits = c.args.self.now in
    rw (c.numbered.ensures, ← c.bits.ensures tt) (first_holds waits.firsts c.bits.result c.least.result c.least.ensures waits.by_number waits.first
    (lower waits.by_number waits.made NO_WAIT waits.few waits.below) c.bits.type_inv)
