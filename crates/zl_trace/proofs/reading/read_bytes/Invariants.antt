use Rattle.zl_trace.proofs.Common.{map}
use Rattle.zl_trace.proofs.ReadOn.{ReadOn}
use Rattle.zl_trace.proofs.reading.read_bytes.Given as goal

abbrev pub invariant-loop-index : goal.invariant-loop-index
invariant-loop-index l = ReadOn (map (λ x. x.1.now) l.yielded) l.items.items
