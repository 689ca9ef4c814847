use Rattle.zl_objects.proofs.Common.{is_below_by, ◌-◌, ◌≡◌}
use Rattle.zl_objects.proofs.killing.comes_to.Given as goal

abbrev pub invariant-loop : goal.invariant-loop
invariant-loop l = is_below_by l.by_koid.entries l.job 16 l.fn.koid ≡ is_below_by l.by_koid.entries l.job (16 - l.counter) l.above
