use Rattle.zl_scenario.proofs.Common.{◌+◌, length, map}
use Rattle.zl_scenario.proofs.ReadingOn.{ReadsOn}
use Rattle.zl_scenario.proofs.reader.Reader.read_lines.Given as goal

abbrev pub invariant-loop-index : goal.invariant-loop-index
invariant-loop-index l = ReadsOn l.initial.self (map (λ x. x.1.now) l.yielded) (length l.yielded + 1) l.self
