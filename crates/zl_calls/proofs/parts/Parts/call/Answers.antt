use Rattle.zl_calls.proofs.Common.{List, Process, Some, ap, set, slice_get, slice_get-get_or, sym, ◌∙◌, ◌≡◌}
use Rattle.zl_calls.proofs.step.Calling.{acted_acts, again_there, policed_acts, policed_order, reached_acts, same_caller}
use Rattle.zl_calls.proofs.calls.Performed.{same_pid}
use Rattle.zl_calls.proofs.processes.InOrder.{set_in_order}
use Rattle.zl_calls.proofs.processes.Started.{acted_started, judged_started, set_started}
use Rattle.zl_calls.proofs.lists.Updates.{set_same}
use Rattle.zl_calls.proofs.parts.Unchanged.{same_blocked, same_objects, same_processes}
use Rattle.zl_calls.proofs.parts.Parts.call.Goals as goal

-- ---- the list stays in order

pub invariant_of-self : goal.invariant_of-self
invariant_of-self g c = record {
  in_order = policed_order c.args.library.now c.args.self.now.processes.list.items c.args.self.now.objects c.args.self.now.blocked.items c.args.place
      c.index_mut-caller.result.now
      c.requires.may.calling.within c.index_mut-caller.ensures.value c.args.call.now c.requires.there
      c.by_policy.result c.by_policy.new.process c.by_policy.new.objects c.by_policy.ensures.policed c.by_policy.ensures.same_process
      c.args.self.now.processes.in_order;
  started = set_started c.index_mut-caller.result.now c.by_policy.new.process
      (judged_started c.index_mut-caller.result.now c.by_policy.new.process c.args.self.now.objects c.by_policy.new.objects _
      (c.requires.there c.index_mut-caller.result.now (slice_get-get_or c.args.self.now.processes.list.items c.args.place c.index_mut-caller.result.now
      c.requires.may.calling.within ∙ ap (λ (x : Process). Some x) (sym c.index_mut-caller.ensures.value)))
      c.by_policy.result c.by_policy.ensures.policed c.by_policy.ensures.same_process)
      c.args.self.now.processes.list.items c.args.place c.index_mut-caller.ensures.value _ c.args.self.now.processes.started;
}

pub invariant_of-self-2 : goal.invariant_of-self-2
invariant_of-self-2 g c = record {
  in_order = set_in_order c.index_mut.result.now c.act_alone.new.process
      (same_pid c.index_mut.result.now c.act_alone.new.process c.reach.new.self.objects c.act_alone.new.objects c.act_alone.result _ c.act_alone.ensures)
      c.reach.new.self.processes.list.items c.args.place c.index_mut.ensures.value c.reach.new.self.processes.in_order;
  started = set_started c.index_mut.result.now c.act_alone.new.process (λ h. acted_started c.index_mut.result.now c.act_alone.new.process
      c.reach.new.self.objects c.act_alone.new.objects c.act_alone.result h _ c.act_alone.ensures)
      c.reach.new.self.processes.list.items c.args.place c.index_mut.ensures.value _ c.reach.new.self.processes.started;
}

-- ---- what it does

pub returns-in-Some-clause-acts : goal.returns-in-Some-clause-acts
returns-in-Some-clause-acts g c =
    policed_acts c.args.library.now c.args.self.now.processes.list.items c.args.self.now.objects c.args.self.now.blocked.items c.args.place
    c.index_mut-caller.result.now
    c.requires.may.calling.within c.index_mut-caller.ensures.value c.args.call.now c.requires.there
    _ c.by_policy.new.process c.by_policy.new.objects (c.in-Some.ensures {u = tt}).policed

pub reach-requires-clause-may : goal.reach-requires-clause-may
reach-requires-clause-may g c =
    let kept : set c.args.self.now.processes.list.items c.args.place c.by_policy.new.process ≡ c.args.self.now.processes.list.items =
    set_same c.args.self.now.processes.list.items c.args.place c.index_mut-caller.result.now c.by_policy.new.process (c.in_default.ensures {u =
    tt}).same_process
    c.index_mut-caller.ensures.value in
    rw (kept, (c.in_default.ensures {u = tt}).same_objects) c.requires.may

pub returns-in-Some-reach-clause-acts : goal.returns-in-Some-reach-clause-acts
returns-in-Some-reach-clause-acts g c =
    reached_acts c.args.library.now c.args.self.now.processes.list.items c.args.self.now.objects c.args.self.now.blocked.items c.args.place
    c.index_mut-caller.result.now
    c.requires.may.calling.within c.index_mut-caller.ensures.value c.args.call.now c.requires.there (c.in_default.ensures {u = tt}).done
    (set c.args.self.now.processes.list.items c.args.place c.by_policy.new.process) c.by_policy.new.objects
    (set_same c.args.self.now.processes.list.items c.args.place c.index_mut-caller.result.now c.by_policy.new.process (c.in_default.ensures {u =
    tt}).same_process
    c.index_mut-caller.ensures.value) (c.in_default.ensures {u = tt}).same_objects c.in-Some-reach.outcome _ (c.in-Some-reach.ensures {u = tt}).reached

pub act_alone-requires : goal.act_alone-requires
act_alone-requires g c =
    let kept : set c.args.self.now.processes.list.items c.args.place c.by_policy.new.process ≡ c.args.self.now.processes.list.items =
    set_same c.args.self.now.processes.list.items c.args.place c.index_mut-caller.result.now c.by_policy.new.process (c.in_default.ensures {u =
    tt}).same_process
    c.index_mut-caller.ensures.value in
    let here : slice_get c.args.self.now.processes.list.items c.args.place ≡ Some c.index_mut.result.now =
    again_there c.args.library.now c.args.self.now.processes.list.items c.args.self.now.objects c.args.self.now.blocked.items c.args.place
    c.index_mut-caller.result.now
    c.requires.may.calling.within c.index_mut-caller.ensures.value
    c.reach.new.self.processes.list.items c.index_mut.result.now ((same_processes (c.in_default-reach.ensures {u = tt}).unchanged) ∙ kept)
    c.index_mut.ensures.value in
    record {
      own = rw ((same_objects (c.in_default-reach.ensures {u = tt}).unchanged), (c.in_default.ensures {u = tt}).same_objects)
          (c.requires.own c.index_mut.result.now here);
      counter = c.requires.counter c.index_mut.result.now here;
      there = c.requires.there c.index_mut.result.now here;
      alone = (c.in_default-reach.ensures {u = tt}).missing c.index_mut.result.now (ap (λ (xs : List Process). slice_get xs c.args.place) kept ∙ here);
      sure = λ no. (c.requires.sure no c.index_mut.result.now here).faultless;
    }

pub returns-clause-acts : goal.returns-clause-acts
returns-clause-acts g c =
    let same : c.reach.new.self.processes.list.items ≡ c.args.self.now.processes.list.items = (same_processes (c.in_default-reach.ensures {u = tt}).unchanged)
    ∙ set_same c.args.self.now.processes.list.items c.args.place c.index_mut-caller.result.now c.by_policy.new.process (c.in_default.ensures {u =
    tt}).same_process
    c.index_mut-caller.ensures.value in
    acted_acts c.args.library.now c.args.self.now.processes.list.items c.args.self.now.objects c.args.self.now.blocked.items c.args.place
    c.index_mut-caller.result.now
    c.requires.may.calling.within c.index_mut-caller.ensures.value c.args.call.now c.requires.there (c.in_default.ensures {u = tt}).done
    c.reach.new.self.processes.list.items c.reach.new.self.objects c.reach.new.self.blocked.items same
    ((same_objects (c.in_default-reach.ensures {u = tt}).unchanged) ∙ (c.in_default.ensures {u = tt}).same_objects) (same_blocked (c.in_default-reach.ensures
    {u = tt}).unchanged)
    c.index_mut.result.now (same_caller c.args.library.now c.args.self.now.processes.list.items c.args.self.now.objects c.args.self.now.blocked.items
    c.args.place
    c.index_mut-caller.result.now c.requires.may.calling.within c.index_mut-caller.ensures.value c.reach.new.self.processes.list.items c.index_mut.result.now
    same
    c.index_mut.ensures.value) c.act_alone.result c.act_alone.new.process c.act_alone.new.objects c.act_alone.ensures
