use Rattle.zl_calls.proofs.Common.{None, arith, common_steps, handle_operands, operands_fault, reg, slice_index, ◌≡◌}
use Rattle.zl_calls.proofs.calls.ReaderTold.{at_read, length_same, parts_act}
use Rattle.zl_code.specs.declared.history.CallName.TheVariants as name
use Rattle.zl_calls.proofs.policy.Faultless.{faultless_at}
use Rattle.zl_calls.proofs.tables.Granted.{finds}
use Rattle.zl_calls.proofs.calls.channel.reading.read.Goals as goal

pub returns-in-Ok : goal.returns-in-Ok
returns-in-Ok g c = rw (at_read c.args.call.now c.args.process.now.cpu c.requires.name c.requires.there)
    (parts_act _ _ _ _ _ c.args.process.now c.answer_read.new.self c.args.objects.now c.chan_read_etc.new.objects
    c.chan_read_etc.new.table _ c.in-Ok.received c.answer_read.result c.received.view_is
    (grind (arith, common_steps))
    c.answer_read.ensures.ends c.store.new.self c.len.result _ _ _ (grind (arith, common_steps))
    c.deref.ensures.value (omega (arith, c.len.ensures, c.deref.ensures.len, length_same c.deref.ensures.value)) c.as_slice-sent.ensures
    c.as_slice-values.ensures (grind (arith, common_steps)))

pub chan_read_etc-requires : goal.chan_read_etc-requires
unfolding handle_operands operands_fault
chan_read_etc-requires g c =
    let value : c.register-channel.result ≡ reg c.args.process.now.cpu (slice_index c.args.call.now.registers 1) = grind (arith, common_steps) in
    record {
      sure = λ no. rw value
          (finds _ None (faultless_at c.args.call.now c.args.process.now.cpu name.ChanReadEtc c.args.process.now.table.entries c.requires.name
          c.requires.there (c.requires.sure no)));
    }
