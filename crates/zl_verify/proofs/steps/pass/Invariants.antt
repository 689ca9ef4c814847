use Rattle.zl_verify.proofs.Common.{marks_of}
use Rattle.zl_verify.proofs.Numbering.{Passing}
use Rattle.zl_verify.proofs.steps.pass.Given as goal

abbrev pub invariant-loop-place : goal.invariant-loop-place
invariant-loop-place l = Passing (marks_of l.image.code) l.targets l.most l.initial.pairs l.pairs l.place l.changed
