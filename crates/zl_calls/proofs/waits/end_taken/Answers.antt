use Rattle.zl_calls.proofs.waits.TakenEnds.{all_over, ends_none, known_end, one_more_over}
use Rattle.zl_calls.proofs.waits.end_taken.Goals as goal

pub loop-handle-init : goal.loop-handle-init
loop-handle-init c = ends_none c.args.objects.now

pub loop-handle-preserved : goal.loop-handle-preserved
loop-handle-preserved c =
    one_more_over c.args.processes.now.list.items c.args.pid c.args.taken.now.handles.items c.loop-handle.handle-index _
    (rw c.as_slice-handle-items.ensures at c.loop-handle-test.true) c.args.objects.now c.loop-handle.objects c.end_if_gone.new.objects c.loop-handle.invariant
    (rw c.as_slice-handle-items.ensures at c.end_if_gone.ensures)

pub returns : goal.returns
returns c =
    known_end c.args.processes.now.list.items c.args.pid c.args.objects.now c.args.taken.now c.if-taken.false c.loop-handle.objects c.requires.consistent
    c.requires.known (all_over c.args.processes.now.list.items c.args.pid
    c.args.taken.now.handles.items c.loop-handle.handle-index (rw c.as_slice-handle-items.ensures at c.loop-handle-test.false) c.args.objects.now
    c.loop-handle.objects c.loop-handle.invariant)
