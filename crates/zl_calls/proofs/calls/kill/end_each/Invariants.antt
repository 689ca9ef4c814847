use Rattle.zl_calls.proofs.Common.{StayBlocked, ended_among, map, take, true, ◌≡◌}
use Rattle.zl_calls.proofs.calls.kill.end_each.Given as goal

abbrev pub invariant-loop-koid : goal.invariant-loop-koid
invariant-loop-koid l = record {
  ended : l.processes.list.items ≡ map (ended_among l.objects l.task (take l.koid-index l.koids)) l.initial.processes.list.items;
  blocked : l.all_stay ≡ true → StayBlocked l.initial.processes.list.items l.processes.list.items;
}
