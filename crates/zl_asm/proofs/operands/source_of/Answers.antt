use Rattle.zl_asm.proofs.Common.{field_of, length-map, source_of, tail_value}
use Rattle.zl_asm.proofs.LineOperands.{assembled}
use Rattle.zl_asm.proofs.operands.source_of.Goals as goal

pub returns : goal.returns
unfolding source_of
returns c =
    rw (length-map c.args.row.now.columns.now.fields.now field_of, ← c.registers-count.ensures, ← c.written.ensures)
    (assembled c.args.row.now.opcode c.registers-count.result c.written.result c.args.operands.now
    c.split_at.result.0.now c.split_at.result.1.now c.put_registers.new.places
    (tail_value c.in_ok-tail.tail) c.join-bytes.result c.split_at.ensures.front c.split_at.ensures.back c.split_at.ensures.front_len
    (rw (← c.registers-count.ensures) at c.requires) (c.in_ok-put_registers.ensures {u = tt}) (c.in_ok-tail.ensures {u = tt}) c.join-bytes.ensures)
