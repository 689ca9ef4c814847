-- Where a local instruction jumps.
use Rattle.std.specs.Prelude.{ℕ, Option, Some, None}
use Rattle.zl_code.specs.declared.instr.Instr.{Instr}
use Rattle.zl_code.specs.declared.instr.Instr.TheVariants as instr
use Rattle.zl_code.specs.declared.instr.LocalInstr.{LocalInstr}
use Rattle.zl_code.specs.declared.instr.LocalInstr.TheVariants as local

-- the target of a jump, whether or not it is taken; nothing of another instruction
abbrev pub jump : LocalInstr → Option ℕ
jump (local.Jump target) = Some target
jump (local.JumpZero a target) = Some target
jump (local.JumpNotZero a target) = Some target
jump (local.JumpEqual a imm target) = Some target
jump (local.JumpNotEqual a imm target) = Some target
jump (local.JumpBelow a imm target) = Some target
jump (local.JumpNotBelow a imm target) = Some target
jump (local.JumpHas a imm target) = Some target
jump (local.JumpHasNot a imm target) = Some target
jump _ = None

-- the same of an instruction that may be a call
abbrev pub jump_of : Instr → Option ℕ
jump_of (instr.Local x) = jump x
jump_of _ = None
