use Rattle.zl_calls.proofs.Common.{length, take, taken_from, without_handles, ◌++◌, ◌+◌, ◌-◌, ◌≡◌, ◌≤◌}
use Rattle.zl_calls.proofs.calls.channel.writing.take_each.Given as goal

abbrev pub invariant-loop-value : goal.invariant-loop-value
invariant-loop-value l = record {
  table : l.table ≡ without_handles l.initial.table (take l.value-index l.values);
  taken : l.taken.items ≡ l.initial.taken.items ++ taken_from l.initial.table (take l.value-index l.values);
  room : length l.taken.items + (length l.values - l.value-index) ≤ l.taken.capacity;
}
