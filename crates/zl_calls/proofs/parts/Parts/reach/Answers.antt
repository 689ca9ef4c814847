use Rattle.zl_calls.proofs.Common.{IsCallerStill, None, Process, Some, TRANSFER, WRITE, [], ap, arith, common_steps, handle_operands}
use Rattle.zl_calls.proofs.Common.{is_created, looked_up, operands_fault, parts, refl, reg, site_of, slice_get, slice_index, state_value, ◌∙◌, ◌∷◌, ◌≡◌}
use Rattle.zl_calls.proofs.parts.ReachParts.{caller_here, counter_still, create_reaches, created_still, kill_reaches, start_reaches, still_within, told_pid}
use Rattle.zl_calls.proofs.parts.ReachParts.{told_started}
use Rattle.zl_calls.proofs.parts.StartParts.{stands_at}
use Rattle.zl_calls.proofs.processes.InOrder.{set_in_order}
use Rattle.zl_calls.proofs.processes.Started.{set_started}
use Rattle.zl_rights.specs.declared.kind.Kind.TheVariants as kind
use Rattle.zl_code.specs.declared.history.CallName.TheVariants as name
use Rattle.zl_calls.proofs.policy.Faultless.{faultless_at}
use Rattle.zl_calls.proofs.tables.Granted.{finds, second}
use Rattle.zl_calls.proofs.parts.Parts.reach.Goals as goal

pub invariant_of-self : goal.invariant_of-self
invariant_of-self g c = record {
  in_order = set_in_order c.index_mut.result.now _ (ap (λ (p : Process). p.pid) c.answer_made.ensures.process)
      c.process_create-made.new.parts.processes.list.items c.args.place c.index_mut.ensures.value c.process_create-made.new.parts.processes.in_order;
  started = set_started c.index_mut.result.now _ (λ h. ap (λ (p : Process). is_created (state_value p.state)) c.answer_made.ensures.process ∙ h)
      c.process_create-made.new.parts.processes.list.items c.args.place c.index_mut.ensures.value _ c.process_create-made.new.parts.processes.started;
}

pub invariant_of-self-in-ProcessStart : goal.invariant_of-self-in-ProcessStart
invariant_of-self-in-ProcessStart g c = record {
  in_order = set_in_order c.index_mut-in-ProcessStart.result.now _ (ap (λ (p : Process). p.pid) c.answer_taking.ensures.process)
      c.process_start-answer.new.parts.processes.list.items c.args.place c.index_mut-in-ProcessStart.ensures.value
      c.process_start-answer.new.parts.processes.in_order;
  started = set_started c.index_mut-in-ProcessStart.result.now _
      (λ h. ap (λ (p : Process). is_created (state_value p.state)) c.answer_taking.ensures.process ∙ h)
      c.process_start-answer.new.parts.processes.list.items c.args.place c.index_mut-in-ProcessStart.ensures.value _
      c.process_start-answer.new.parts.processes.started;
}

pub invariant_of-self-in-TaskKill : goal.invariant_of-self-in-TaskKill
invariant_of-self-in-TaskKill g c = record {
  in_order = set_in_order c.index_mut-in-TaskKill.result.now _ (told_pid _ c.task_kill-answer.result c.index_mut-in-TaskKill.result.now
      _ c.answer_unless_over.ensures.told) c.task_kill-answer.new.parts.processes.list.items c.args.place c.index_mut-in-TaskKill.ensures.value
      c.task_kill-answer.new.parts.processes.in_order;
  started = set_started c.index_mut-in-TaskKill.result.now _ (told_started _ c.task_kill-answer.result c.index_mut-in-TaskKill.result.now
      _ c.answer_unless_over.ensures.told) c.task_kill-answer.new.parts.processes.list.items c.args.place c.index_mut-in-TaskKill.ensures.value _
      c.task_kill-answer.new.parts.processes.started;
}

pub index_mut-requires : goal.index_mut-requires
index_mut-requires g c =
    let there : (x : Process) × (slice_get c.args.self.now.processes.list.items c.args.place ≡ Some x) =
    stands_at c.args.self.now.processes.list.items c.args.place c.requires.may.calling.within in
    let still : IsCallerStill there.0 (slice_get c.process_create-made.new.parts.processes.list.items c.args.place) =
    created_still c.args.library.now c.args.place _ _ there.0 (parts c.args.self.now.processes.list.items c.args.self.now.objects c.args.self.now.blocked.items)
    (parts c.process_create-made.new.parts.processes.list.items c.process_create-made.new.parts.objects c.process_create-made.new.parts.blocked.items)
    c.process_create-made.result there.1 (c.process_create-made.ensures.does there.0 there.1) in
    omega (
      arith,
      still_within c.process_create-made.new.parts.processes.list.items c.args.place there.0 still,
      c.process_create-made.new.parts.processes.list.ok.0,
    )

pub index_mut-requires-in-ProcessStart : goal.index_mut-requires-in-ProcessStart
index_mut-requires-in-ProcessStart g c =
    let there : (x : Process) × (slice_get c.args.self.now.processes.list.items c.args.place ≡ Some x) =
    stands_at c.args.self.now.processes.list.items c.args.place c.requires.may.calling.within in
    omega (
      arith,
      still_within c.process_start-answer.new.parts.processes.list.items c.args.place there.0 (c.process_start-answer.ensures.caller there.0 there.1),
      c.process_start-answer.new.parts.processes.list.ok.0,
    )

pub index_mut-requires-in-TaskKill : goal.index_mut-requires-in-TaskKill
index_mut-requires-in-TaskKill g c =
    let there : (x : Process) × (slice_get c.args.self.now.processes.list.items c.args.place ≡ Some x) =
    stands_at c.args.self.now.processes.list.items c.args.place c.requires.may.calling.within in
    omega (
      arith,
      still_within c.task_kill-answer.new.parts.processes.list.items c.args.place there.0 (c.task_kill-answer.ensures.caller there.0 there.1),
      c.task_kill-answer.new.parts.processes.list.ok.0,
    )

pub answer_made-requires : goal.answer_made-requires
answer_made-requires g c =
    let there : (x : Process) × (slice_get c.args.self.now.processes.list.items c.args.place ≡ Some x) =
    stands_at c.args.self.now.processes.list.items c.args.place c.requires.may.calling.within in
    counter_still c.process_create-made.new.parts.processes.list.items c.args.place there.0 c.index_mut.result.now
    (created_still c.args.library.now c.args.place _ _ there.0 (parts c.args.self.now.processes.list.items c.args.self.now.objects
    c.args.self.now.blocked.items)
    (parts c.process_create-made.new.parts.processes.list.items c.process_create-made.new.parts.objects c.process_create-made.new.parts.blocked.items)
    c.process_create-made.result there.1 (c.process_create-made.ensures.does there.0 there.1))
    c.index_mut.ensures.value (c.requires.counter there.0 there.1)

pub answer_taking-requires : goal.answer_taking-requires
answer_taking-requires g c =
    let there : (x : Process) × (slice_get c.args.self.now.processes.list.items c.args.place ≡ Some x) =
    stands_at c.args.self.now.processes.list.items c.args.place c.requires.may.calling.within in
    counter_still c.process_start-answer.new.parts.processes.list.items c.args.place there.0 c.index_mut-in-ProcessStart.result.now
    (c.process_start-answer.ensures.caller there.0 there.1)
    c.index_mut-in-ProcessStart.ensures.value (c.requires.counter there.0 there.1)

pub answer_unless_over-requires : goal.answer_unless_over-requires
answer_unless_over-requires g c =
    let there : (x : Process) × (slice_get c.args.self.now.processes.list.items c.args.place ≡ Some x) =
    stands_at c.args.self.now.processes.list.items c.args.place c.requires.may.calling.within in
    counter_still c.task_kill-answer.new.parts.processes.list.items c.args.place there.0 c.index_mut-in-TaskKill.result.now
    (c.task_kill-answer.ensures.caller there.0 there.1)
    c.index_mut-in-TaskKill.ensures.value (c.requires.counter there.0 there.1)

pub returns-in-ProcessCreate-clause-reached : goal.returns-in-ProcessCreate-clause-reached
unfolding site_of
returns-in-ProcessCreate-clause-reached g c = λ caller at.
    let same : c.index.result.now ≡ caller = caller_here c.args.self.now.processes.list.items c.args.place caller _ c.index.ensures at in
    let job : c.register-job.result ≡ reg caller.cpu (slice_index c.args.call.now.registers 1) = grind (arith, common_steps) in
    let program : c.register-program.result ≡ reg caller.cpu (slice_index c.args.call.now.registers 2) = grind (arith, common_steps) in
    rw (c.in-ProcessCreate.is, ← job, ← program)
    (create_reaches _ _ _ _ _ _ _ _ _ at _ c.index_mut.ensures.value
    (created_still c.args.library.now c.args.place _ _ caller (parts c.args.self.now.processes.list.items c.args.self.now.objects c.args.self.now.blocked.items)
    (parts c.process_create-made.new.parts.processes.list.items c.process_create-made.new.parts.objects c.process_create-made.new.parts.blocked.items)
    c.process_create-made.result at (c.process_create-made.ensures.does caller at))
    _ _ _ _ _ (c.process_create-made.ensures.does caller at) _ c.answer_made.ensures.ends _ (grind (arith, common_steps)))

pub returns-in-ProcessStart-clause-reached : goal.returns-in-ProcessStart-clause-reached
unfolding site_of
returns-in-ProcessStart-clause-reached g c = λ caller at.
    let same : c.index.result.now ≡ caller = caller_here c.args.self.now.processes.list.items c.args.place caller _ c.index.ensures at in
    let process : c.register-process.result ≡ reg caller.cpu (slice_index c.args.call.now.registers 1) = grind (arith, common_steps) in
    let handle : c.register-handle.result ≡ reg caller.cpu (slice_index c.args.call.now.registers 2) = grind (arith, common_steps) in
    let word : c.register-word.result ≡ reg caller.cpu (slice_index c.args.call.now.registers 3) = grind (arith, common_steps) in
    rw (c.in-ProcessStart.is, ← process, ← handle, ← word)
    (start_reaches _ _ _ _ _ _ _ _ _ at _ c.index_mut-in-ProcessStart.ensures.value
    (c.process_start-answer.ensures.caller caller at) _ _ _ (slice_index c.args.call.now.registers 2) _ _
    (c.process_start-answer.ensures.does caller at) _ c.answer_taking.ensures.ends _ (grind (arith, common_steps)))

pub returns-in-TaskKill-clause-reached : goal.returns-in-TaskKill-clause-reached
unfolding site_of
returns-in-TaskKill-clause-reached g c = λ caller at.
    let same : c.index.result.now ≡ caller = caller_here c.args.self.now.processes.list.items c.args.place caller _ c.index.ensures at in
    let task : c.register-task.result ≡ reg caller.cpu (slice_index c.args.call.now.registers 1) = grind (arith, common_steps) in
    rw (c.in-TaskKill.is, ← task)
    (kill_reaches _ _ _ _ _ _ _ _ _ at _ c.index_mut-in-TaskKill.ensures.value (c.task_kill-answer.ensures.caller caller at) _ _ (c.requires.may.calling.ready
    caller at)
    _ (c.task_kill-answer.ensures.does caller at) _ _ (record { ends = c.answer_unless_over.ensures.ends; told = grind (arith, common_steps) }))

pub process_create-made-requires-clause-sure : goal.process_create-made-requires-clause-sure
unfolding site_of handle_operands operands_fault
process_create-made-requires-clause-sure g c = λ no caller at.
    let same : c.index.result.now ≡ caller = caller_here c.args.self.now.processes.list.items c.args.place caller _ c.index.ensures at in
    let job : c.register-job.result ≡ reg caller.cpu (slice_index c.args.call.now.registers 1) = grind (arith, common_steps) in
    rw job (finds _ None (faultless_at c.args.call.now caller.cpu name.ProcessCreate caller.table.entries c.in-ProcessCreate.is
    (rw c.in-ProcessCreate.is refl) (c.requires.sure no caller at)))

pub process_start-answer-requires-clause-process : goal.process_start-answer-requires-clause-process
unfolding site_of handle_operands operands_fault
process_start-answer-requires-clause-process g c = λ no caller at.
    let same : c.index.result.now ≡ caller = caller_here c.args.self.now.processes.list.items c.args.place caller _ c.index.ensures at in
    let process : c.register-process.result ≡ reg caller.cpu (slice_index c.args.call.now.registers 1) = grind (arith, common_steps) in
    rw process (finds _ _ (faultless_at c.args.call.now caller.cpu name.ProcessStart caller.table.entries c.in-ProcessStart.is
    (rw c.in-ProcessStart.is refl) (c.requires.sure no caller at)))

pub process_start-answer-requires-clause-handle : goal.process_start-answer-requires-clause-handle
unfolding site_of handle_operands operands_fault
process_start-answer-requires-clause-handle g c = λ no caller at.
    let same : c.index.result.now ≡ caller = caller_here c.args.self.now.processes.list.items c.args.place caller _ c.index.ensures at in
    let handle : c.register-handle.result ≡ reg caller.cpu (slice_index c.args.call.now.registers 2) = grind (arith, common_steps) in
    rw handle (second (looked_up caller.table.entries (reg caller.cpu (slice_index c.args.call.now.registers 1)) (kind.Process ∷ []) WRITE)
    (looked_up caller.table.entries (reg caller.cpu (slice_index c.args.call.now.registers 2)) [] TRANSFER)
    (faultless_at c.args.call.now caller.cpu name.ProcessStart caller.table.entries c.in-ProcessStart.is
    (rw c.in-ProcessStart.is refl) (c.requires.sure no caller at)))

pub task_kill-answer-requires-clause-sure : goal.task_kill-answer-requires-clause-sure
unfolding site_of handle_operands operands_fault
task_kill-answer-requires-clause-sure g c = λ no caller at.
    let same : c.index.result.now ≡ caller = caller_here c.args.self.now.processes.list.items c.args.place caller _ c.index.ensures at in
    let task : c.register-task.result ≡ reg caller.cpu (slice_index c.args.call.now.registers 1) = grind (arith, common_steps) in
    rw task (finds _ None (faultless_at c.args.call.now caller.cpu name.TaskKill caller.table.entries c.in-TaskKill.is
    (rw c.in-TaskKill.is refl) (c.requires.sure no caller at)))
