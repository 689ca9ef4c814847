use Rattle.zl_objects.proofs.Common.{KeepsCalm, each, is_marked, ◌-◌, ◌^◌, ◌≡◌}
use Rattle.zl_objects.proofs.Walks.{till, kills}
use Rattle.zl_objects.proofs.killing.kill_all.Given as goal

-- the kill has come as far as this koid
abbrev pub invariant-loop-koid : goal.invariant-loop-koid
invariant-loop-koid l = record {
  killed : l.by_koid.entries ≡ each (till l.from (kills l.initial.by_koid.entries l.task)) l.initial.by_koid.entries;
  calm : KeepsCalm (is_marked l.initial.marks) l.initial.by_koid.entries (is_marked l.marks) l.by_koid.entries;
}

abbrev pub decreases-loop-koid : goal.decreases-loop-koid
decreases-loop-koid l = 2 ^ 64 - l.from
