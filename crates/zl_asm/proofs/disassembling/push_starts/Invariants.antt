use Rattle.zl_asm.proofs.Common.{flat_map, start_text, string_bytes, take, ◌++◌, ◌≡◌}
use Rattle.zl_asm.proofs.disassembling.push_starts.Given as goal

abbrev pub invariant-loop-start : goal.invariant-loop-start
invariant-loop-start l = string_bytes l.text ≡ string_bytes l.fn.text ++ flat_map start_text (take l.start-index l.starts)
