use Rattle.zl_calls.proofs.Common.{None, arith, common_steps, handle_operands, number_at, operands_fault, reg, room_in, slice_get, slice_index, sym, ◌≡◌}
use Rattle.zl_calls.proofs.calls.ReaderTold.{at_read_slots, length_same, room_is, slots_act, values_fit}
use Rattle.zl_code.specs.declared.history.CallName.TheVariants as name
use Rattle.zl_calls.proofs.policy.Faultless.{faultless_at}
use Rattle.zl_calls.proofs.tables.Granted.{finds}
use Rattle.zl_calls.proofs.calls.channel.reading.read_slots.Goals as goal

pub chan_read_etc-requires : goal.chan_read_etc-requires
unfolding handle_operands operands_fault
chan_read_etc-requires g c =
    let value : c.register-channel.result ≡ reg c.args.process.now.cpu (slice_index c.args.call.now.registers 1) = grind (arith, common_steps) in
    record {
      sure = λ no. rw value
          (finds _ None (faultless_at c.args.call.now c.args.process.now.cpu name.ChanReadSlots c.args.process.now.table.entries c.requires.name
          c.requires.there (c.requires.sure no)));
    }

pub fill_places-requires : goal.fill_places-requires
fill_places-requires g c =
    rw c.store.ensures
    (values_fit (slice_get c.args.process.now.cpu.slots c.number-array.result) c.in-Some.slots.now c.room_for_handles-places.result
    (rw c.in-Some.is at (sym c.places.ensures)) c.room_for_handles-places.ensures c.args.process.now.table c.chan_read_etc.new.table c.args.objects.now
    c.chan_read_etc.new.objects c.register-channel.result c.register-room.result _ c.in-Ok.received c.received.view_is
    (rw c.in-Ok.is at c.chan_read_etc.ensures) c.as_slice-values.result.now c.as_slice-values.ensures)

pub returns-in-Ok : goal.returns-in-Ok
returns-in-Ok g c =
    let channel : c.register-channel.result ≡ reg c.args.process.now.cpu (slice_index c.args.call.now.registers 1) = grind (arith, common_steps) in
    let room : c.register-room.result ≡ reg c.args.process.now.cpu (slice_index c.args.call.now.registers 3) = grind (arith, common_steps) in
    let places : room_in (slice_get c.args.process.now.cpu.slots (number_at c.args.call.now.last 0 4)) ≡ c.room_for_handles-places.result =
    rw (← c.number-array.ensures)
    (room_is (slice_get c.args.process.now.cpu.slots c.number-array.result) c.in-Some.slots.now c.room_for_handles-places.result
    (rw c.in-Some.is at (sym c.places.ensures)) c.room_for_handles-places.ensures) in
    rw (at_read_slots c.args.call.now c.args.process.now.cpu c.requires.name c.requires.there)
    (slots_act _ _ _ _ _ c.args.process.now c.answered.new.self c.args.objects.now c.chan_read_etc.new.objects
    _ c.chan_read_etc.new.table _ c.in-Ok.received c.answered.result c.received.view_is
    (rw (← channel, ← room, places) (rw c.in-Ok.is at c.chan_read_etc.ensures)) c.answered.ensures.ends c.store.new.self c.fill_places.new.self c.len.result
    _ _ _ (grind (arith, common_steps)) c.deref.ensures.value (grind (arith, common_steps)) c.as_slice-values.ensures
    (omega (arith, c.len.ensures, c.deref.ensures.len, length_same c.deref.ensures.value)) c.as_slice-handles.ensures (grind (arith, common_steps)))
