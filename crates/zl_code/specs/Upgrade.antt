-- An image of version 1 in version 2.
use Rattle.std.specs.Prelude.{Bool, false, slice_index}
use Rattle.zl_code.specs.declared.image.Version.TheVariants as version
use Rattle.zl_code.specs.declared.instr.Instr.{Instr}
use Rattle.zl_code.specs.declared.instr.Instr.TheVariants as instr
use Rattle.zl_code.specs.Image.{Image}
use Rattle.zl_code.specs.Instructions.{is_new}

-- the same fields, in version 2
abbrev pub upgraded : Image → Image
upgraded i = record i { version = version.Two }

-- the instruction is unknown, and has an opcode that version 2 knows
abbrev pub is_held : Instr → Bool
is_held (instr.Unknown bytes) = is_new (slice_index bytes 0)
is_held _ = false
