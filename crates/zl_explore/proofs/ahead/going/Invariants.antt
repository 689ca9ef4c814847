use Rattle.std.proofs.Common.{take, ◌≡◌}
use Rattle.zl_explore.specs.GoingAhead.{going}
use Rattle.zl_explore.proofs.ahead.going.Given as goal

abbrev pub invariant-loop-other : goal.invariant-loop-other
invariant-loop-other l = l.who.items ≡ going l.before l.pid (take l.other-index l.behind)
