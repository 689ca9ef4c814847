use Rattle.zl_rights.proofs.Common.{◌≡◌, filter, length, not}
use Rattle.std.specs.BTreeMap.{values}
use Rattle.zl_signals.specs.Waits.{is_at_port}
use Rattle.zl_signals.proofs.waits.Waits.end_port.Given as goal

abbrev pub invariant-loop-number : goal.invariant-loop-number
invariant-loop-number l =
    filter (λ x. not (is_at_port l.port x)) (values l.self.by_number) ≡ filter (λ x. not (is_at_port l.port x)) (values l.initial.self.by_number)

abbrev pub decreases-loop-number : goal.decreases-loop-number
decreases-loop-number l = length (values l.self.by_number)
