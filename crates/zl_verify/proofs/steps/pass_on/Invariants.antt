use Rattle.zl_verify.proofs.Common.{marks_of}
use Rattle.zl_verify.proofs.Numbering.{PassingOn}
use Rattle.zl_verify.proofs.steps.pass_on.Given as goal

abbrev pub invariant-loop-place : goal.invariant-loop-place
invariant-loop-place l = PassingOn (marks_of l.image.code) l.targets l.most l.initial.pairs l.pairs
