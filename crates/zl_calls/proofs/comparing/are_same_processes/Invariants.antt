use Rattle.zl_calls.proofs.Common.{map, take, ◌≡◌}
use Rattle.zl_calls.specs.Same.{counted}
use Rattle.zl_calls.proofs.comparing.are_same_processes.Given as goal

abbrev pub invariant-loop-n : goal.invariant-loop-n
invariant-loop-n l = map counted (take l.n l.one) ≡ map counted (take l.n l.other)
