use Rattle.zl_calls.proofs.Common.{none-some, refl, state_value}
use Rattle.zl_calls.proofs.waking.Listed.{due_there}
use Rattle.zl_calls.proofs.waking.Woken.{taken_asleep, wakes_none, wakes_one}
use Rattle.zl_calls.proofs.processes.Started.{awake_started, set_started}
use Rattle.zl_calls.proofs.waking.wake_one.Goals as goal

pub returns-in-Some : goal.returns-in-Some
returns-in-Some c =
    rw (c.wake_process.ensures.woke)
    (record {
      wakes = wakes_one c.args.processes.now.list.items c.args.objects.now c.requires.consistent c.args.pid c.in-Some.place c.index_mut.result.now
          c.in-Some.ensures.first c.index_mut.ensures.value c.wake_process.new.process c.wake_process.new.objects
          c.wake_process.ensures.process c.wake_process.ensures.objects;
      due = due_there c.args.processes.now.list.items c.args.pid c.in-Some.place c.index_mut.result.now c.in-Some.ensures.first c.index_mut.ensures.value
          c.args.objects.now;
      asleep = taken_asleep (state_value c.index_mut.result.now.state) c.args.objects.now c.wake_process.new.objects c.wake_process.ensures.objects;
    })

pub invariant_of-processes : goal.invariant_of-processes
invariant_of-processes c = record {
  in_order = (wakes_one c.args.processes.now.list.items c.args.objects.now c.requires.consistent c.args.pid c.in-Some.place c.index_mut.result.now
      c.in-Some.ensures.first c.index_mut.ensures.value c.wake_process.new.process c.wake_process.new.objects
      c.wake_process.ensures.process c.wake_process.ensures.objects).consistent.processes_in_order;
  started = set_started c.index_mut.result.now c.wake_process.new.process
      (λ h. rw c.wake_process.ensures.process (awake_started _ c.index_mut.result.now h))
      c.args.processes.now.list.items c.in-Some.place c.index_mut.ensures.value _ c.args.processes.now.started;
}

pub returns-in-None : goal.returns-in-None
returns-in-None c = record {
  wakes = wakes_none c.args.processes.now.list.items c.args.objects.now c.args.pid c.requires.consistent c.in-None.ensures.found;
  due = λ a is. absurd (none-some a (rw c.in-None.ensures.found at is));
  asleep = (refl, refl);
}
