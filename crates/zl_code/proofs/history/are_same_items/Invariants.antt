use Rattle.zl_code.proofs.Common.{take, ◌≡◌}
use Rattle.zl_code.proofs.history.are_same_items.Given as goal

abbrev pub invariant-loop-n : goal.invariant-loop-n
invariant-loop-n l = take l.n l.one ≡ take l.n l.other
