use Rattle.zl_calls.proofs.Common.{arith, length, length-set, sym, ◌<◌, ◌∙◌}
use Rattle.zl_calls.proofs.processes.InOrder.{closed_pid, set_in_order}
use Rattle.zl_calls.proofs.processes.Started.{closed_started, set_started}
use Rattle.zl_calls.proofs.parts.KillParts.{closing_ends, closing_goes_on}
use Rattle.zl_calls.proofs.calls.kill.close_all_ended.Goals as goal

pub invariant_of-processes : goal.invariant_of-processes
invariant_of-processes c = record {
  in_order = set_in_order c.index_mut.result.now c.close_if_ended.new.process (closed_pid _ _ _ _ c.close_if_ended.ensures)
      c.loop-place.processes.list.items c.loop-place.place c.index_mut.ensures.value c.loop-place.processes.in_order;
  started = set_started c.index_mut.result.now c.close_if_ended.new.process (closed_started _ _ _ _ c.close_if_ended.ensures)
      c.loop-place.processes.list.items c.loop-place.place c.index_mut.ensures.value _ c.loop-place.processes.started;
}

pub loop-place-preserved : goal.loop-place-preserved
loop-place-preserved c =
    let within : c.loop-place.place < length c.loop-place.processes.list.items =
    omega (arith, c.loop-place-test.true, c.len-place-end.ensures, c.args.processes.now.list.ok.0, c.loop-place.invariant.long) in
    record {
      closing = closing_goes_on c.args.processes.now.list.items c.args.objects.now c.loop-place.place c.loop-place.processes.list.items c.loop-place.objects
          c.loop-place.invariant.closing c.index_mut.result.now c.index_mut.result.now c.close_if_ended.new.process c.close_if_ended.new.objects within
          (sym c.index_mut.ensures.value) c.close_if_ended.ensures;
      long = length-set c.loop-place.processes.list.items c.loop-place.place c.close_if_ended.new.process ∙ c.loop-place.invariant.long;
    }

pub returns : goal.returns
returns c =
    closing_ends c.args.processes.now.list.items c.args.objects.now c.loop-place.place c.loop-place.processes.list.items c.loop-place.objects
    c.loop-place.invariant.closing
    (omega (arith, c.loop-place-test.false, c.len-place-end.ensures, c.args.processes.now.list.ok.0, c.loop-place.invariant.long))
