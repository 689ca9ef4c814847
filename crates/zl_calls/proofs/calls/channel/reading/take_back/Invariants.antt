use Rattle.zl_calls.proofs.Common.{CameFrom, take}
use Rattle.zl_calls.proofs.tables.Entered.{Grown}
use Rattle.zl_calls.proofs.calls.channel.reading.take_back.Given as goal

abbrev pub invariant-loop-n : goal.invariant-loop-n
invariant-loop-n l = record { left : (from : CameFrom l.last l.values l.initial.table) → Grown from.before (take l.n l.values) l.table }
