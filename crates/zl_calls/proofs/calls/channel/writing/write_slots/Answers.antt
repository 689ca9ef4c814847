use Rattle.zl_code.specs.declared.history.CallName.TheVariants as name
use Rattle.zl_calls.proofs.Common.{Cpu, Some, [], ap, arith, array_in, bytes_in, common_steps, drop, emptied_count, false≢true, filled_among, handle_operands}
use Rattle.zl_calls.proofs.Common.{operands_fault, refl, reg, replicate, slice_index, slots_filled, sym, take, ◌∙◌, ◌≡◌}
use Rattle.zl_code.specs.Local.{is_in_memory}
use Rattle.zl_calls.proofs.policy.Faultless.{faultless_at}
use Rattle.zl_calls.proofs.policy.Examining.{list_fault}
use Rattle.zl_calls.proofs.tables.Granted.{behind, finds}
use Rattle.zl_calls.proofs.calls.SentSlots.{places_there, range_there, sent_are, slots_act}
use Rattle.zl_calls.proofs.calls.channel.writing.write_slots.Goals as goal

pub pack_places-filled-requires : goal.pack_places-filled-requires
pack_places-filled-requires g c =
    let count : c.register-count.result ≡ emptied_count c.args.call.now c.args.process.now.cpu = grind (arith, common_steps) in
    rw (count, c.number-array.ensures) (places_there c.args.call.now c.args.process.now.cpu c.requires.name c.requires.there)

pub unreachable-requires : goal.unreachable-requires
unreachable-requires g c =
    let cpu = c.args.process.now.cpu in
    let memory = ap (λ (q : Cpu). q.memory) c.pack_places-filled.ensures.emptied in
    let address : c.register-address.result ≡ reg cpu (slice_index c.args.call.now.registers 2) = grind (arith, common_steps) in
    let size : c.register-size.result ≡ reg cpu (slice_index c.args.call.now.registers 3) = grind (arith, common_steps) in
    let missing = c.in_default.ensures {u = tt} in
    false≢true (sym missing.missing ∙ ((λ k. is_in_memory (record cpu { memory = memory k }) (address k) (size k))
    ∙ range_there c.args.call.now cpu c.requires.name c.requires.there))

pub chan_write-answer-requires-clause-channel : goal.chan_write-answer-requires-clause-channel
unfolding handle_operands operands_fault
chan_write-answer-requires-clause-channel g c =
    let value : c.register-channel.result ≡ reg c.args.process.now.cpu (slice_index c.args.call.now.registers 1) = grind (arith, common_steps) in
    λ no. rw value
    (finds _ _ (faultless_at c.args.call.now c.args.process.now.cpu name.ChanWriteSlots c.args.process.now.table.entries c.requires.name
    c.requires.there (c.requires.sure no)))

pub chan_write-answer-requires-clause-list : goal.chan_write-answer-requires-clause-list
unfolding handle_operands operands_fault
chan_write-answer-requires-clause-list g c =
    let i = c.args.call.now in
    let cpu = c.args.process.now.cpu in
    let count : c.register-count.result ≡ emptied_count i cpu = grind (arith, common_steps) in
    let sent : take c.pack_places-filled.result c.in-Some-places.places.now ≡ filled_among (emptied_count i cpu) (array_in i cpu) =
    sent_are _ _ _ _ _ _ _ _ (c.in-Some-places.ensures {u = tt}) c.pack_places-filled.ensures.packed count c.number-array.ensures in
    λ no. rw sent (list_fault c.args.process.now.table.entries [] [] (filled_among (emptied_count i cpu) (array_in i cpu)) (λ v. refl)
    ∙ behind _ _ (faultless_at i cpu name.ChanWriteSlots c.args.process.now.table.entries c.requires.name c.requires.there (c.requires.sure no)))

pub empty_places-requires : goal.empty_places-requires
empty_places-requires g c = c.pack_places-filled.ensures.there

pub returns : goal.returns
returns g c =
    let i = c.args.call.now in
    let cpu = c.args.process.now.cpu in
    let packed = c.pack_places-filled.ensures in
    let memory = ap (λ (q : Cpu). q.memory) packed.emptied in
    let status : c.index-call-0.result ≡ slice_index i.registers 0 = grind (arith, common_steps) in
    let channel : c.register-channel.result ≡ reg cpu (slice_index i.registers 1) = grind (arith, common_steps) in
    let address : c.register-address.result ≡ reg cpu (slice_index i.registers 2) = grind (arith, common_steps) in
    let size : c.register-size.result ≡ reg cpu (slice_index i.registers 3) = grind (arith, common_steps) in
    let count : c.register-count.result ≡ emptied_count i cpu = grind (arith, common_steps) in
    let found = c.in-Some.ensures {u = tt} in
    let bytes : c.in-Some.bytes.now ≡ bytes_in i cpu = found.found ∙ (λ k. take (size k) (drop (address k) (memory k))) in
    let sent : take c.pack_places-filled.result c.in-Some-places.places.now ≡ filled_among (emptied_count i cpu) (array_in i cpu) =
    sent_are _ _ _ _ _ _ _ _ (c.in-Some-places.ensures {u = tt}) packed.packed count c.number-array.ensures in
    slots_act i c.args.process.now c.answer.new.self c.args.objects.now c.chan_write-answer.new.objects c.answer.result c.requires.name c.requires.there
    c.empty_places.new.self
    (c.empty_places.ensures ∙ (packed.emptied
    ∙ λ k. record cpu { slots = slots_filled cpu.slots (Some (c.number-array.ensures k, replicate (count k) 0)) }))
    c.chan_write-answer.new.table c.chan_write-answer.result (rw (← channel, ← bytes, ← sent) c.chan_write-answer.ensures)
    _ (sym c.index-call-0.is ∙ status) c.answer.ensures.ends c.answer.ensures.process
