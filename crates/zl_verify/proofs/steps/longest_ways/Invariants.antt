use Rattle.zl_verify.proofs.Common.{marks_of, ◌+◌}
use Rattle.zl_verify.specs.Longest.{missing, one_if}
use Rattle.zl_verify.proofs.Numbering.{Going}
use Rattle.zl_verify.proofs.steps.longest_ways.Given as goal

abbrev pub invariant-loop-changed : goal.invariant-loop-changed
invariant-loop-changed l = Going (marks_of l.image.code) l.targets l.most l.pairs.items l.changed

abbrev pub decreases-loop-changed : goal.decreases-loop-changed
decreases-loop-changed l = missing l.pairs.items + one_if l.changed
