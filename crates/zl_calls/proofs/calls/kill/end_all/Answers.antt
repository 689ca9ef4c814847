use Rattle.zl_calls.proofs.processes.InOrder.{set_in_order}
use Rattle.zl_calls.proofs.processes.Started.{ended_started, set_started}
use Rattle.zl_calls.proofs.parts.KillParts.{ended_pid}
use Rattle.zl_calls.proofs.calls.kill.end_all.Goals as goal

pub invariant_of-processes : goal.invariant_of-processes
invariant_of-processes c = record {
  in_order = set_in_order c.index_mut.result.now c.end_if_within.new.process
      (ended_pid c.args.objects.now c.args.task c.index_mut.result.now c.end_if_within.new.process c.end_if_within.ensures.ended)
      c.loop-place.processes.list.items c.loop-place.place c.index_mut.ensures.value c.loop-place.processes.in_order;
  started = set_started c.index_mut.result.now c.end_if_within.new.process
      (λ h. rw c.end_if_within.ensures.ended (ended_started c.args.objects.now c.args.task c.index_mut.result.now h))
      c.loop-place.processes.list.items c.loop-place.place c.index_mut.ensures.value _ c.loop-place.processes.started;
}
