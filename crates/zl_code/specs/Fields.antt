-- What the decoder has read of the 16 bytes of an instruction. No public clause cites this module.
use Rattle.zl_code.specs.declared.fields.Fields.{Fields}
use Rattle.zl_code.specs.Spells.{Reading, number_at}

-- the fields behind the opcode
abbrev pub read_in : Fields → Reading
read_in f = record { registers = f.registers; imm = number_at f.last 0 4; target = number_at f.last 4 4; places = f.last }
