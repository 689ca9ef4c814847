use Rattle.zl_verify.proofs.Common.{ArePeaks, marks_of}
use Rattle.zl_verify.proofs.peaks.peaks_of.Given as goal

abbrev pub invariant-loop-place : goal.invariant-loop-place
invariant-loop-place l = ArePeaks (marks_of l.image.code) l.targets l.most l.pairs l.peaks.items l.place
