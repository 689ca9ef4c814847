use Rattle.zl_verify.specs.Going.{Goes}
use Rattle.zl_verify.proofs.least.finish_lifted.Given as goal

abbrev pub invariant-loop : goal.invariant-loop
invariant-loop l = Goes l.image l.stretches l.search
