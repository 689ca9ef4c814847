use Rattle.zl_calls.proofs.Common.{take, ◌≡◌}
use Rattle.zl_calls.proofs.copying.copied_processes.Given as goal

abbrev pub invariant-loop-process : goal.invariant-loop-process
invariant-loop-process l = l.copy.items ≡ take l.process-index l.process-items
