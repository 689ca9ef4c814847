use Rattle.zl_asm.proofs.Common.{hex_text, string_bytes, take, ◌++◌, ◌≡◌}
use Rattle.zl_asm.proofs.disassembling.push_bytes.Given as goal

abbrev pub invariant-loop-byte : goal.invariant-loop-byte
invariant-loop-byte l = string_bytes l.text ≡ string_bytes l.fn.text ++ hex_text (take l.byte-index l.bytes)
