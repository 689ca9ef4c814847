use Rattle.zl_calls.proofs.Common.{InsertsEach, length, take, ◌≤◌}
use Rattle.zl_calls.proofs.calls.channel.reading.insert_each.Given as goal

abbrev pub invariant-loop-handle : goal.invariant-loop-handle
invariant-loop-handle l = record {
  entered : InsertsEach l.initial.table (take l.handle-index l.handles) l.values.items l.table;
  room : length l.handles ≤ l.values.capacity;
}
