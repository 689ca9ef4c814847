use Rattle.zl_calls.proofs.Common.{Err, IsTrue, ap, arith, false, false≢true, length, nat_lt, nat_tests, ◌||◌, ◌∙◌, ◌≡◌}
use Rattle.zl_channel.specs.declared.channel_end.PushFault.TheVariants as fault
use Rattle.zl_calls.proofs.tables.Taking.{few_taken}
use Rattle.zl_calls.proofs.calls.channel.writing.send.Goals as goal

pub unreachable-requires : goal.unreachable-requires
unreachable-requires c =
    let told = c.in-Err-OutOfRange.ensures {u = tt} in
    let back = ap fault.OutOfRange (rw c.in-Err-OutOfRange.field-0-is at told.handed_back) in
    let large : IsTrue (nat_lt 65536 (length c.args.letter.bytes.items) || nat_lt 64 (length c.take_each.new.taken.items)) =
    told.out_of_range.0 (ap Err (c.in-Err-OutOfRange.field-0-is ∙ back)) in
    let small : nat_lt 65536 (length c.args.letter.bytes.items) ≡ false = grind (arith, nat_tests, c.requires.small) in
    let taken = ap length (rw c.requires.empty at c.take_each.ensures.taken) in
    let gone = few_taken c.args.table.now c.args.handles.now in
    let few : nat_lt 64 (length c.take_each.new.taken.items) ≡ false = grind (arith, nat_tests, c.requires.few, taken, gone) in
    false≢true (rw (small, few) at large)
