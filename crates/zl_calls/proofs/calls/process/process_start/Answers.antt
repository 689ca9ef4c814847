use Rattle.zl_calls.proofs.Common.{Process, ap, arith, is_created, length, refl, state_value, subst, sym, vec_capacity, ℕ, ◌<◌, ◌≤◌}
use Rattle.zl_calls.proofs.parts.StartParts.{caller_inside, caller_still, refused_so, refused_still, started_inside, starts_so, written_twice}
use Rattle.zl_calls.proofs.processes.InOrder.{set_in_order}
use Rattle.zl_calls.proofs.processes.Started.{set_started}
use Rattle.zl_calls.proofs.calls.process.process_start.Goals as goal

pub invariant_of-processes : goal.invariant_of-processes
invariant_of-processes g c = record {
  in_order = set_in_order c.index_mut-child.result.now _ (ap (λ (p : Process). p.pid) c.begin.ensures.process) _ c.in-Ok.started.place
      c.index_mut-child.ensures.value
      (set_in_order c.index_mut.result.now (record c.index_mut.result.now { table = c.take_out.new.table }) refl c.enter.new.processes.list.items c.args.place
      c.index_mut.ensures.value c.enter.new.processes.in_order);
  started = set_started c.index_mut-child.result.now _ (λ h. ap (λ (p : Process). is_created (state_value p.state)) c.begin.ensures.process) _
      c.in-Ok.started.place c.index_mut-child.ensures.value _
      (set_started c.index_mut.result.now (record c.index_mut.result.now { table = c.take_out.new.table }) (λ h. h) c.enter.new.processes.list.items
      c.args.place c.index_mut.ensures.value _ c.enter.new.processes.started);
}

pub invariant_of-processes-in-Err : goal.invariant_of-processes-in-Err
invariant_of-processes-in-Err g c = record {
  in_order = set_in_order c.index_mut-in-Err.result.now (record c.index_mut-in-Err.result.now { table = c.close_each.new.table }) refl
      c.enter.new.processes.list.items c.args.place c.index_mut-in-Err.ensures.value c.enter.new.processes.in_order;
  started = set_started c.index_mut-in-Err.result.now (record c.index_mut-in-Err.result.now { table = c.close_each.new.table }) (λ h. h)
      c.enter.new.processes.list.items c.args.place c.index_mut-in-Err.ensures.value _ c.enter.new.processes.started;
}

pub index_mut-requires : goal.index_mut-requires
index_mut-requires g c =
    let within : c.args.place < length c.enter.new.processes.list.items =
    caller_inside c.args.library.now c.args.parts.now.processes.list.items c.enter.new.processes.list.items c.args.place c.args.start.process
    c.args.start.handle c.in-Ok.started
    c.requires.calling.within c.in-Ok.ensures.entered in
    omega (arith, within, c.enter.new.processes.list.ok.0)

pub index_mut-child-requires : goal.index_mut-child-requires
index_mut-child-requires g c =
    let within : c.in-Ok.started.place < length c.enter.new.processes.list.items =
    started_inside c.args.library.now c.args.parts.now.processes.list.items c.enter.new.processes.list.items c.args.place c.args.start.process
    c.args.start.handle c.in-Ok.started
    c.requires.calling.within c.in-Ok.ensures.entered in
    omega (arith, within, c.enter.new.processes.list.ok.0)

pub returns-in-Ok-clause-does : goal.returns-in-Ok-clause-does
returns-in-Ok-clause-does g c = λ caller at.
    starts_so c.args.library.now c.args.parts.now.processes.list.items c.args.parts.now.objects c.args.parts.now.blocked.items c.args.place
    c.args.start.process c.args.start.handle c.args.start.word caller at
    (c.requires.calling.ready caller at)
    c.in-Ok.started c.enter.new.processes.list.items (c.in-Ok.ensures.entered caller at) c.index_mut.result.now c.index_mut.ensures.value c.take_out.new.table
    c.take_out.ensures.table
    c.index_mut-child.result.now c.begin.new.process c.index_mut-child.ensures.value c.begin.ensures.process c.begin.new.objects c.begin.ensures.objects

pub returns-in-Err-clause-does : goal.returns-in-Err-clause-does
returns-in-Err-clause-does g c = λ caller at.
    refused_so c.args.library.now c.args.parts.now.processes.list.items c.args.parts.now.objects c.args.parts.now.blocked.items c.args.place
    c.args.start.process c.args.start.handle c.args.start.word caller at
    (c.requires.calling.ready caller at)
    c.in-Err.refused c.enter.new.processes.list.items c.in-Err.ensures.unchanged (c.in-Err.ensures.err caller at) c.index_mut-in-Err.result.now
    c.index_mut-in-Err.ensures.value
    c.close_each.new.table c.close_each.new.objects c.close_each.ensures

pub returns-in-Ok-clause-caller : goal.returns-in-Ok-clause-caller
returns-in-Ok-clause-caller g c = λ caller at.
    caller_still c.args.library.now c.args.parts.now.processes.list.items c.args.parts.now.objects c.args.parts.now.blocked.items c.args.place
    c.args.start.process c.args.start.handle c.args.start.word caller at
    (c.requires.calling.ready caller at)
    c.in-Ok.started c.enter.new.processes.list.items (c.in-Ok.ensures.entered caller at) c.index_mut.result.now c.index_mut.ensures.value c.take_out.new.table
    c.take_out.ensures.table
    c.index_mut-child.result.now c.begin.new.process c.index_mut-child.ensures.value c.begin.ensures.process

pub returns-in-Err-clause-caller : goal.returns-in-Err-clause-caller
returns-in-Err-clause-caller g c = λ caller at.
    refused_still c.args.library.now c.args.parts.now.processes.list.items c.args.parts.now.objects c.args.parts.now.blocked.items c.args.place
    c.args.start.process c.args.start.handle c.args.start.word caller at
    (c.requires.calling.ready caller at)
    c.in-Err.refused c.enter.new.processes.list.items c.in-Err.ensures.unchanged (c.in-Err.ensures.err caller at) c.index_mut-in-Err.result.now
    c.index_mut-in-Err.ensures.value
    c.close_each.new.table c.close_each.new.objects c.close_each.ensures

pub returns-in-Ok-clause-room : goal.returns-in-Ok-clause-room
returns-in-Ok-clause-room g c room =
    subst (λ (n : ℕ). n ≤ vec_capacity c.args.parts.now.blocked)
    (sym (written_twice c.args.library.now c.args.parts.now.processes.list.items c.enter.new.processes.list.items c.args.place
    c.args.start.process c.args.start.handle c.in-Ok.started
    c.requires.calling.within c.in-Ok.ensures.entered _ _ _ _)) room
