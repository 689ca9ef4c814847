use Rattle.zl_verify.specs.Going.{Goes, remaining}
use Rattle.zl_verify.proofs.least.begin.Given as goal

abbrev pub invariant-loop-search : goal.invariant-loop-search
invariant-loop-search l = Goes l.image l.stretches l.search

abbrev pub decreases-loop-search : goal.decreases-loop-search
decreases-loop-search l = remaining l.search
