use Rattle.zl_verify.proofs.Common.{AreHomes, marks_of}
use Rattle.zl_verify.proofs.peaks.homes_of.Given as goal

abbrev pub invariant-loop-place : goal.invariant-loop-place
invariant-loop-place l = AreHomes (marks_of l.image.code) l.homes.items l.place
