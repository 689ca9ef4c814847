use Rattle.zl_asm.proofs.Common.{arith, length, length-take-le, reading_of, string_bytes, tail_texts, take, ◌≡◌}
use Rattle.zl_asm.proofs.Joined.{row_written}
use Rattle.zl_asm.proofs.disassembling.push_row.Goals as goal

pub returns : goal.returns
returns c =
    let registers = c.split-parts.result.registers in
    let count = c.registers-registers.result in
    let len : length (take count registers) ≡ count = length-take-le count registers (omega (arith, c.requires, c.registers-registers.ensures)) in
    let read : registers ≡ (reading_of c.args.bytes).registers = c.split-parts.ensures.registers in
    rw (← c.registers-registers.ensures, ← c.written-ending.ensures) (rw read at (row_written (string_bytes c.args.text.now) c.args.row.name.now
    (string_bytes c.push_str.new.self) (string_bytes c.push_registers.new.text) (string_bytes c.push_tail.new.text)
    (take count registers) c.separator_behind.result.now (tail_texts c.args.count c.written-ending.result (reading_of c.args.bytes))
    (c.in_ok-push_str.ensures {u = tt}).bytes (c.in_ok-push_registers.ensures {u = tt}) (c.in_ok-push_tail.ensures {u = tt})
    (rw len c.separator_behind.ensures)))
