use Rattle.zl_calls.proofs.Common.{Gives, take}
use Rattle.zl_calls.proofs.boot.Made.give.Given as goal

abbrev pub invariant-loop-number : goal.invariant-loop-number
invariant-loop-number l = Gives (take l.number l.handles) l.initial.self l.initial.process l.self l.process
