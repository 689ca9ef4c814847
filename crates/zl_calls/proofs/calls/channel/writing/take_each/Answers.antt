use Rattle.zl_calls.proofs.Common.{get, get_or, length}
use Rattle.zl_calls.proofs.tables.Taking.{room_left, table_more, taken_then}
use Rattle.zl_calls.proofs.calls.channel.writing.take_each.Goals as goal

pub loop-value-preserved : goal.loop-value-preserved
loop-value-preserved c = record {
  table = table_more c.args.values.now c.loop-value.value-index 0 c.loop-value-test.true c.args.table.now c.loop-value.table c.take_into.new.table
      c.loop-value.invariant.table c.take_into.ensures.table;
  taken =
      taken_then c.args.values.now c.loop-value.value-index 0 c.loop-value-test.true c.args.table.now c.loop-value.table c.args.taken.now.items
      c.loop-value.taken.items c.take_into.new.taken.items
      c.loop-value.invariant.table c.loop-value.invariant.taken c.take_into.ensures.taken;
  room =
      room_left (get c.loop-value.table.entries (get_or c.args.values.now c.loop-value.value-index 0)) c.loop-value.taken.items c.take_into.new.taken.items
      (length c.args.values.now) c.loop-value.value-index c.loop-value.taken.capacity c.take_into.new.taken.capacity
      c.loop-value-test.true c.loop-value.invariant.room c.take_into.ensures.taken c.take_into.ensures.capacity;
}
