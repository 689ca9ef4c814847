use Rattle.zl_calls.proofs.Common.{Process, ap, ended_within, ◌∙◌}
use Rattle.zl_calls.proofs.processes.InOrder.{set_in_order}
use Rattle.zl_calls.proofs.processes.Started.{ended_started, set_started}
use Rattle.zl_calls.proofs.processes.Written.{write_at}
use Rattle.zl_calls.proofs.parts.KillLists.{missing, written_there}
use Rattle.zl_calls.proofs.parts.KillParts.{ended_pid, same_cpu}
use Rattle.zl_calls.proofs.waking.BlockedLists.{stay_blocked}
use Rattle.zl_calls.proofs.calls.kill.end_at.Goals as goal

pub invariant_of-processes : goal.invariant_of-processes
invariant_of-processes c = record {
  in_order = set_in_order c.index_mut.result.now c.end_if_within.new.process
      (ended_pid c.args.objects.now c.args.task c.index_mut.result.now c.end_if_within.new.process c.end_if_within.ensures.ended)
      c.args.processes.now.list.items c.in-Some.place c.index_mut.ensures.value c.args.processes.now.in_order;
  started = set_started c.index_mut.result.now c.end_if_within.new.process
      (λ h. rw c.end_if_within.ensures.ended (ended_started c.args.objects.now c.args.task c.index_mut.result.now h))
      c.args.processes.now.list.items c.in-Some.place c.index_mut.ensures.value _ c.args.processes.now.started;
}

pub returns-in-Some : goal.returns-in-Some
returns-in-Some c = record {
  ended = written_there (ended_within c.args.objects.now c.args.task) c.args.koid c.args.processes.now.list.items c.in-Some.place c.index_mut.result.now
      c.end_if_within.new.process c.args.processes.now.in_order c.in-Some.ensures.first c.index_mut.ensures.value c.end_if_within.ensures.ended;
  blocked = λ stays. stay_blocked
      (write_at c.args.processes.now.list.items c.args.koid c.in-Some.place c.index_mut.result.now c.end_if_within.new.process c.in-Some.ensures.first
      c.index_mut.ensures.value (ended_pid c.args.objects.now c.args.task c.index_mut.result.now c.end_if_within.new.process c.end_if_within.ensures.ended))
      (c.end_if_within.ensures.blocked stays) (ap (λ (p : Process). p.cpu) c.end_if_within.ensures.ended ∙ same_cpu _ c.index_mut.result.now);
}

pub returns-in-None : goal.returns-in-None
returns-in-None c = record {
  ended = missing (ended_within c.args.objects.now c.args.task) c.args.koid c.args.processes.now.list.items c.in-None.ensures.found;
  blocked = λ stays blocked are. are;
}
