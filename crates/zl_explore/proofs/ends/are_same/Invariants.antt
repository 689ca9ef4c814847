use Rattle.std.proofs.Common.{take, ◌≡◌}
use Rattle.zl_explore.proofs.ends.are_same.Given as goal

abbrev pub invariant-loop-n : goal.invariant-loop-n
invariant-loop-n l = take l.n l.one ≡ take l.n l.other
