use Rattle.zl_calls.proofs.Common.{None, WAIT, WRITE, [], arith, common_steps, handle_operands, looked_up, operands_fault, reg, slice_index, ◌∷◌, ◌≡◌}
use Rattle.zl_rights.specs.declared.kind.Kind.TheVariants as kind
use Rattle.zl_code.specs.declared.history.CallName.TheVariants as name
use Rattle.zl_calls.proofs.policy.Faultless.{faultless_at}
use Rattle.zl_calls.proofs.tables.Granted.{closes_well, finds, is_live, second}
use Rattle.zl_calls.proofs.parts.act_alone.Goals as goal

pub close-answer-requires : goal.close-answer-requires
unfolding handle_operands operands_fault
close-answer-requires g c =
    let value : c.reg.result ≡ reg c.args.process.now.cpu (slice_index c.args.call.now.registers 1) = grind (arith, common_steps) in
    record { sure = λ no. rw value (closes_well _ _ (faultless_at _ _ name.Close _ c.in-Close.is c.requires.there (c.requires.sure no))) }

pub dup-made-requires : goal.dup-made-requires
unfolding handle_operands operands_fault
dup-made-requires g c =
    let value : c.reg-in-Dup.result ≡ reg c.args.process.now.cpu (slice_index c.args.call.now.registers 1) = grind (arith, common_steps) in
    record { sure = λ no. rw value (finds _ None (faultless_at _ _ name.Dup _ c.in-Dup.is c.requires.there (c.requires.sure no))) }

pub replace-made-requires : goal.replace-made-requires
unfolding handle_operands operands_fault
replace-made-requires g c =
    let value : c.reg-in-Replace.result ≡ reg c.args.process.now.cpu (slice_index c.args.call.now.registers 1) = grind (arith, common_steps) in
    record {
      sure = λ no. rw value (is_live _ _ [] 0 (finds _ None (faultless_at _ _ name.Replace _ c.in-Replace.is c.requires.there (c.requires.sure no))));
      own = c.requires.own;
    }

pub signal-answer-requires : goal.signal-answer-requires
unfolding handle_operands operands_fault
signal-answer-requires g c =
    let value : c.reg-in-Signal.result ≡ reg c.args.process.now.cpu (slice_index c.args.call.now.registers 1) = grind (arith, common_steps) in
    record { sure = λ no. rw value (finds _ None (faultless_at _ _ name.Signal _ c.in-Signal.is c.requires.there (c.requires.sure no))) }

pub signal_peer-answer-requires : goal.signal_peer-answer-requires
unfolding handle_operands operands_fault
signal_peer-answer-requires g c =
    let value : c.reg-in-SignalPeer.result ≡ reg c.args.process.now.cpu (slice_index c.args.call.now.registers 1) = grind (arith, common_steps) in
    record { sure = λ no. rw value (finds _ None (faultless_at _ _ name.SignalPeer _ c.in-SignalPeer.is c.requires.there (c.requires.sure no))) }

pub wait_poll-polled-requires : goal.wait_poll-polled-requires
unfolding handle_operands operands_fault
wait_poll-polled-requires g c =
    let value : c.reg-in-WaitPoll.result ≡ reg c.args.process.now.cpu (slice_index c.args.call.now.registers 1) = grind (arith, common_steps) in
    record { sure = λ no. rw value (finds _ None (faultless_at _ _ name.WaitPoll _ c.in-WaitPoll.is c.requires.there (c.requires.sure no))) }

pub wait_async-answer-requires-clause-handle : goal.wait_async-answer-requires-clause-handle
unfolding handle_operands operands_fault
wait_async-answer-requires-clause-handle g c =
    let value : c.reg-in-WaitAsync.result ≡ reg c.args.process.now.cpu (slice_index c.args.call.now.registers 1) = grind (arith, common_steps) in
    λ no. rw value (finds _ _ (faultless_at _ _ name.WaitAsync _ c.in-WaitAsync.is c.requires.there (c.requires.sure no)))

pub wait_async-answer-requires-clause-port : goal.wait_async-answer-requires-clause-port
unfolding handle_operands operands_fault
wait_async-answer-requires-clause-port g c =
    let value : c.reg-in-WaitAsync-2.result ≡ reg c.args.process.now.cpu (slice_index c.args.call.now.registers 2) = grind (arith, common_steps) in
    λ no. rw value (second (looked_up c.args.process.now.table.entries (reg c.args.process.now.cpu (slice_index c.args.call.now.registers 1)) [] WAIT)
    (looked_up c.args.process.now.table.entries (reg c.args.process.now.cpu (slice_index c.args.call.now.registers 2)) (kind.Port ∷ []) WRITE)
    (faultless_at _ _ name.WaitAsync _ c.in-WaitAsync.is c.requires.there (c.requires.sure no)))

pub port_queue-answer-requires : goal.port_queue-answer-requires
unfolding handle_operands operands_fault
port_queue-answer-requires g c =
    let value : c.reg-in-PortQueue.result ≡ reg c.args.process.now.cpu (slice_index c.args.call.now.registers 1) = grind (arith, common_steps) in
    record { sure = λ no. rw value (finds _ None (faultless_at _ _ name.PortQueue _ c.in-PortQueue.is c.requires.there (c.requires.sure no))) }

pub port_poll-answer-requires : goal.port_poll-answer-requires
unfolding handle_operands operands_fault
port_poll-answer-requires g c =
    let value : c.reg-in-PortPoll.result ≡ reg c.args.process.now.cpu (slice_index c.args.call.now.registers 1) = grind (arith, common_steps) in
    record { sure = λ no. rw value (finds _ None (faultless_at _ _ name.PortPoll _ c.in-PortPoll.is c.requires.there (c.requires.sure no))) }

pub port_cancel-answer-requires-clause-port : goal.port_cancel-answer-requires-clause-port
unfolding handle_operands operands_fault
port_cancel-answer-requires-clause-port g c =
    let value : c.reg-in-PortCancel.result ≡ reg c.args.process.now.cpu (slice_index c.args.call.now.registers 1) = grind (arith, common_steps) in
    λ no. rw value (finds _ _ (faultless_at _ _ name.PortCancel _ c.in-PortCancel.is c.requires.there (c.requires.sure no)))

pub port_cancel-answer-requires-clause-source : goal.port_cancel-answer-requires-clause-source
unfolding handle_operands operands_fault
port_cancel-answer-requires-clause-source g c =
    let value : c.reg-in-PortCancel-2.result ≡ reg c.args.process.now.cpu (slice_index c.args.call.now.registers 2) = grind (arith, common_steps) in
    λ no. rw value (is_live _ _ [] 0
    (second (looked_up c.args.process.now.table.entries (reg c.args.process.now.cpu (slice_index c.args.call.now.registers 1)) (kind.Port ∷ []) WRITE)
    (looked_up c.args.process.now.table.entries (reg c.args.process.now.cpu (slice_index c.args.call.now.registers 2)) [] 0)
    (faultless_at _ _ name.PortCancel _ c.in-PortCancel.is c.requires.there (c.requires.sure no))))

pub job_create-made-requires : goal.job_create-made-requires
unfolding handle_operands operands_fault
job_create-made-requires g c =
    let value : c.reg-in-JobCreate.result ≡ reg c.args.process.now.cpu (slice_index c.args.call.now.registers 1) = grind (arith, common_steps) in
    record { sure = λ no. rw value (finds _ None (faultless_at _ _ name.JobCreate _ c.in-JobCreate.is c.requires.there (c.requires.sure no))) }

pub job_set_policy-answer-requires : goal.job_set_policy-answer-requires
unfolding handle_operands operands_fault
job_set_policy-answer-requires g c =
    let value : c.reg-in-JobSetPolicy.result ≡ reg c.args.process.now.cpu (slice_index c.args.call.now.registers 1) = grind (arith, common_steps) in
    record { sure = λ no. rw value (finds _ None (faultless_at _ _ name.JobSetPolicy _ c.in-JobSetPolicy.is c.requires.there (c.requires.sure no))) }

pub handle_info-told-requires : goal.handle_info-told-requires
unfolding handle_operands operands_fault
handle_info-told-requires g c =
    let value : c.reg-in-HandleInfo.result ≡ reg c.args.process.now.cpu (slice_index c.args.call.now.registers 1) = grind (arith, common_steps) in
    record { sure = λ no. rw value (finds _ None (faultless_at _ _ name.HandleInfo _ c.in-HandleInfo.is c.requires.there (c.requires.sure no))) }
