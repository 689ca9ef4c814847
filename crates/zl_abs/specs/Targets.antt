-- Where an instruction may jump.
use Rattle.std.specs.Prelude.{ℕ, Option, Some, None}
use Rattle.zl_code.specs.declared.instr.LocalInstr.{LocalInstr}
use Rattle.zl_code.specs.Image.{Image, local_at}
use Rattle.zl_abs.specs.Typing.{target_of}

-- where the local instruction may jump, the first instruction where there is none
abbrev pub jump_in : Option LocalInstr → ℕ
jump_in None = 0
jump_in (Some x) = target_of x

-- the same of the n-th instruction
abbrev pub jump_of : Image → ℕ → ℕ
jump_of i n = jump_in (local_at i n)
