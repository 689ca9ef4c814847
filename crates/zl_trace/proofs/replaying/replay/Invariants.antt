use Rattle.zl_trace.proofs.Common.{IsReplayed, take}
use Rattle.zl_trace.proofs.replaying.replay.Given as goal

abbrev pub invariant-loop-index : goal.invariant-loop-index
invariant-loop-index l = IsReplayed l.fn.library l.boot.statements.items l.boot.limit (take l.index l.items) l.world
