use Rattle.zl_objects.proofs.Common.{KeepsCalm, is_marked, killed_among, take, ◌≡◌}
use Rattle.zl_objects.proofs.killing.kill_each.Given as goal

abbrev pub invariant-loop-koid : goal.invariant-loop-koid
invariant-loop-koid l = record {
  killed : l.by_koid.entries ≡ killed_among l.initial.by_koid.entries l.task (take l.koid-index l.koids);
  calm : KeepsCalm (is_marked l.initial.marks) l.initial.by_koid.entries (is_marked l.marks) l.by_koid.entries;
}
