use Rattle.zl_asm.proofs.Common.{behind, codes, map, register_text, string_bytes, take, ◌++◌, ◌≡◌}
use Rattle.zl_asm.proofs.disassembling.push_registers.Given as goal

abbrev pub invariant-loop-place : goal.invariant-loop-place
invariant-loop-place l = string_bytes l.text ≡ string_bytes l.fn.text ++ behind (codes " ") (map register_text (take l.place l.registers))
