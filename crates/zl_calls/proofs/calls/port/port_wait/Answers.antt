use Rattle.zl_calls.proofs.Common.{None, arith, common_steps, handle_operands, operands_fault, refl, reg, site_of, slice_index, sym, ◌∙◌, ◌≡◌}
use Rattle.zl_objects.specs.declared.awaited.Awaited.TheVariants as awaits
use Rattle.zl_calls.specs.declared.process.State.TheVariants as state
use Rattle.zl_calls.proofs.calls.Waited.{packet_comes, port_blocks, port_refuses}
use Rattle.zl_code.specs.declared.history.CallName.TheVariants as name
use Rattle.zl_calls.proofs.policy.Faultless.{faultless_at}
use Rattle.zl_calls.proofs.tables.Granted.{finds}
use Rattle.zl_calls.proofs.calls.port.port_wait.Goals as goal

pub returns-in-Err : goal.returns-in-Err
unfolding site_of
returns-in-Err g c =
    let port : c.register-value.result ≡ reg c.args.process.now.cpu (slice_index c.args.call.now.registers 1) = grind (arith, common_steps) in
    rw c.requires.name
    (port_refuses _ _ c.args.process.now c.args.objects.now c.in-Err.refused (rw port at (sym c.look_up.ensures ∙ c.in-Err.is)) _ _ c.answer_packet.ensures.ends
    c.answer_packet.ensures.process)

pub returns-in-Some : goal.returns-in-Some
unfolding site_of
returns-in-Some g c =
    let port : c.register-value.result ≡ reg c.args.process.now.cpu (slice_index c.args.call.now.registers 1) = grind (arith, common_steps) in
    rw c.requires.name
    (packet_comes _ _ c.args.process.now c.args.objects.now c.pop.new.self c.in-Ok.entry (rw port at (sym c.look_up.ensures ∙ c.in-Ok.is)) c.pop.ensures.rest
    c.in-Some.packet (sym c.pop.ensures.first ∙ c.in-Some.is) _ _ c.answer_packet-in-Some.ensures.ends
    c.answer_packet-in-Some.ensures.process)

pub returns-in-None : goal.returns-in-None
unfolding site_of
returns-in-None g c =
    let port : c.register-value.result ≡ reg c.args.process.now.cpu (slice_index c.args.call.now.registers 1) = grind (arith, common_steps) in
    rw c.requires.name
    (port_blocks _ _ c.args.process.now c.args.objects.now c.pop.new.self c.in-Ok.entry (rw port at (sym c.look_up.ensures ∙ c.in-Ok.is)) c.pop.ensures.rest
    (sym c.pop.ensures.first ∙ c.in-None.is) c.requires.counter (state.Blocked (awaits.PacketAt c.in-Ok.entry.koid) c.args.call.now.registers) refl)

pub look_up-requires : goal.look_up-requires
unfolding site_of handle_operands operands_fault
look_up-requires g c =
    let value : c.register-value.result ≡ reg c.args.process.now.cpu (slice_index c.args.call.now.registers 1) = grind (arith, common_steps) in
    record {
      sure = λ no. rw value
          (finds _ None (faultless_at c.args.call.now c.args.process.now.cpu name.PortWait c.args.process.now.table.entries c.requires.name
          (rw c.requires.name refl) (c.requires.sure no)));
    }
