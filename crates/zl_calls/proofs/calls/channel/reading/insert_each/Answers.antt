use Rattle.zl_calls.proofs.Common.{arith, length, sym, take, ◌≡◌}
use Rattle.zl_calls.proofs.tables.Entered.{one_more, places_left}
use Rattle.zl_calls.proofs.calls.channel.reading.insert_each.Goals as goal

pub push_reserved-requires : goal.push_reserved-requires
push_reserved-requires c =
    let count : length c.loop-handle.values.items ≡ c.loop-handle.handle-index =
    places_left c.args.table.now c.loop-handle.table c.args.handles.now c.loop-handle.values.items c.loop-handle.handle-index
    c.loop-handle-test.true c.loop-handle.invariant.entered in
    (omega arith, omega (arith, count, c.loop-handle.invariant.room, c.loop-handle-test.true))

pub returns-in-Err-clause-unchanged : goal.returns-in-Err-clause-unchanged
returns-in-Err-clause-unchanged c = c.take_back.ensures (record {
  before = c.args.table.now;
  entries = take c.loop-handle.handle-index c.args.handles.now;
  inserts = rw (c.as_slice.ensures, (c.in-Err.ensures {u = tt}).unchanged) c.loop-handle.invariant.entered;
  was = sym c.last-last.ensures.last;
})

pub loop-handle-preserved : goal.loop-handle-preserved
loop-handle-preserved c = record {
  entered =
      rw c.push_reserved.ensures.items
      (one_more c.args.table.now c.loop-handle.table c.insert.new.table c.args.handles.now c.loop-handle.handle-index _ c.loop-handle.values.items
      c.in-Ok.value c.loop-handle-test.true c.loop-handle.invariant.entered (c.in-Ok.ensures {u = tt}).ok);
  room = rw c.push_reserved.ensures.capacity c.loop-handle.invariant.room;
}
