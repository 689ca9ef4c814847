use Rattle.zl_rights.proofs.Common.{◌≡◌}
use Rattle.zl_signals.specs.Firsts.{noted}
use Rattle.zl_signals.proofs.BySignal.{Done}
use Rattle.zl_signals.proofs.firsts.note.Given as goal

abbrev pub invariant-loop-left : goal.invariant-loop-left
invariant-loop-left l = Done (λ i first first2. first2 ≡ noted l.fn.mask.0 l.number i first) l.fn.mask.0 l.initial.firsts l.left l.firsts

abbrev pub decreases-loop-left : goal.decreases-loop-left
decreases-loop-left l = l.left
