use Rattle.zl_calls.proofs.Common.{arith, length, refl, ◌<◌}
use Rattle.zl_calls.proofs.parts.StartParts.{child_within, enters_so}
use Rattle.zl_calls.proofs.processes.InOrder.{set_in_order}
use Rattle.zl_calls.proofs.processes.Started.{set_started}
use Rattle.zl_calls.proofs.calls.process.enter.Goals as goal

pub invariant_of-processes : goal.invariant_of-processes
invariant_of-processes g c = record {
  in_order = set_in_order c.index_mut.result.now (record c.index_mut.result.now { table = c.insert.new.table }) refl c.args.processes.now.list.items
      c.in_ok-child.child c.index_mut.ensures.value c.args.processes.now.in_order;
  started = set_started c.index_mut.result.now (record c.index_mut.result.now { table = c.insert.new.table }) (λ h. h) c.args.processes.now.list.items
      c.in_ok-child.child c.index_mut.ensures.value _ c.args.processes.now.started;
}

pub index_mut-requires : goal.index_mut-requires
index_mut-requires g c =
    let within : c.in_ok-child.child < length c.args.processes.now.list.items =
    child_within c.args.library.now c.args.processes.now.list.items c.args.place c.in_ok-child.child c.args.process
    c.args.handle c.in_ok-child.entry c.in_ok-child.ensures.found c.requires.place in
    omega (arith, within, c.args.processes.now.list.ok.0)

pub returns-clause-entered : goal.returns-clause-entered
returns-clause-entered g c =
    enters_so c.args.library.now c.args.processes.now.list.items c.args.place c.in_ok-child.child c.args.process
    c.args.handle c.in_ok-child.entry c.in_ok-child.ensures.found
    c.index_mut.result.now c.index_mut.ensures.value c.in_ok-child.ensures.refusal c.insert.new.table c.in-Ok.value (c.in-Ok.ensures {u = tt}).ok
