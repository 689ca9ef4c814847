use Rattle.zl_interp.proofs.Common.{IsAble, Leads, goes_to, length, marked, ◌≡◌}
use Rattle.zl_interp.proofs.bursts.run_on_sure.Given as goal

abbrev pub invariant-loop-ran : goal.invariant-loop-ran
invariant-loop-ran l =
    (length l.marks ≡ length l.image.code) × Leads (marked l.image.code l.marks) l.ran l.initial.cpu (goes_to l.cpu l.counter)
    × IsAble l.image (goes_to l.cpu l.counter)
