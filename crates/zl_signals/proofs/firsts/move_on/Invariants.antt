use Rattle.zl_rights.proofs.Common.{◌^◌}
use Rattle.zl_signals.specs.Firsts.{IsMoved}
use Rattle.zl_signals.proofs.BySignal.{Done}
use Rattle.zl_signals.proofs.firsts.move_on.Given as goal

abbrev pub invariant-loop-left : goal.invariant-loop-left
invariant-loop-left l = Done (λ i first first2. IsMoved l.waits l.number (2 ^ i) first first2) l.fn.mask.0 l.initial.firsts l.left l.firsts

abbrev pub decreases-loop-left : goal.decreases-loop-left
decreases-loop-left l = l.left
