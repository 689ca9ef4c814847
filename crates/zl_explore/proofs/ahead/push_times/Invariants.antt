use Rattle.std.proofs.Common.{replicate, ◌++◌, ◌≡◌}
use Rattle.zl_explore.proofs.ahead.push_times.Given as goal

abbrev pub invariant-loop : goal.invariant-loop
invariant-loop l = l.taken.items ≡ l.initial.taken.items ++ replicate l.counter l.pid
