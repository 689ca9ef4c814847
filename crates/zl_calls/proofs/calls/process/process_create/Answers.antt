use Rattle.zl_calls.proofs.Common.{length, refl, ◌<◌, ◌≡◌}
use Rattle.zl_rights.specs.declared.status.Status.TheVariants as status
use Rattle.zl_calls.proofs.processes.InOrder.{pushed_in_order, set_in_order}
use Rattle.zl_calls.proofs.processes.Started.{set_started}
use Rattle.zl_calls.proofs.parts.Creating.{not_made, wanting}
use Rattle.zl_calls.proofs.parts.StartParts.{read_at}
use Rattle.zl_calls.proofs.calls.process.process_create.Goals as goal

pub invariant_of-processes : goal.invariant_of-processes
invariant_of-processes g c = record {
  in_order = set_in_order c.index_mut.result.now (record c.index_mut.result.now { table = c.make_object.new.table }) refl
      c.prepare.new.processes.list.items c.args.place c.index_mut.ensures.value c.prepare.new.processes.in_order;
  started = set_started c.index_mut.result.now (record c.index_mut.result.now { table = c.make_object.new.table }) (λ h. h)
      c.prepare.new.processes.list.items c.args.place c.index_mut.ensures.value _ c.prepare.new.processes.started;
}

pub push_reserved-requires-clause-in_order : goal.push_reserved-requires-clause-in_order
push_reserved-requires-clause-in_order g c =
    let same : c.prepare.new.processes.list.items ≡ c.args.parts.now.processes.list.items = c.prepare.ensures.same_processes in
    let within : c.args.place < length c.prepare.new.processes.list.items = rw same c.requires.place in
    pushed_in_order c.prepare.new.processes.list.items c.args.place c.index_mut.result.now _ _
    (read_at c.prepare.new.processes.list.items c.args.place c.index_mut.result.now within c.index_mut.ensures.value) refl
    c.prepare.new.processes.in_order (λ k there. rw c.end_of_koids-pid.ensures (c.requires.given k (rw same at there)))

pub returns-in_default-clause-does : goal.returns-in_default-clause-does
returns-in_default-clause-does g c = λ caller there. wanting c.args.library.now c.args.parts.now.processes.list.items c.prepare.new.processes.list.items
    c.args.parts.now.objects c.args.parts.now.blocked.items c.prepare.new.blocked.items
    c.args.place c.args.new.job c.args.new.program c.prepare.ensures.same_processes c.prepare.ensures.same_blocked c.index.result.now c.index.ensures
    c.in_ok-job.ensures.refusal caller there
    status.NoMemory refl c.args.parts.now.objects refl c.prepare.new.processes.list.items refl

pub returns-in-Err-clause-does : goal.returns-in-Err-clause-does
returns-in-Err-clause-does g c = λ caller there.
    not_made c.args.library.now c.args.parts.now.processes.list.items c.prepare.new.processes.list.items c.args.parts.now.objects
    c.args.parts.now.blocked.items c.prepare.new.blocked.items
    c.args.place c.args.new.job c.args.new.program c.prepare.ensures.same_processes c.prepare.ensures.same_blocked c.index.result.now c.index.ensures
    c.in_ok-job.ensures.refusal caller there
    c.index_mut.result.now c.index_mut.ensures.value _ c.make_object.new.table c.make_object.new.objects c.in-Err.refused
    (rw c.in-Err.is at c.make_object.ensures)
