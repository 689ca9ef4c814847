use Rattle.zl_calls.proofs.Common.{take}
use Rattle.zl_calls.proofs.boot.BootRun.{IsMadeBy}
use Rattle.zl_calls.proofs.boot.booted.Given as goal

abbrev pub invariant-loop-number : goal.invariant-loop-number
invariant-loop-number l = IsMadeBy l.library (take l.number l.boot.statements.items) l.made
