use Rattle.zl_asm.proofs.Common.{code_lines, code_lines_from, drop, ended, instr_bytes, map, string_bytes, ◌++◌, ◌≡◌}
use Rattle.zl_asm.proofs.disassembling.push_code.Given as goal

abbrev pub invariant-loop-n : goal.invariant-loop-n
invariant-loop-n l =
    string_bytes l.text ++ ended (code_lines_from l.version (map instr_bytes l.code) l.n (drop l.n (map instr_bytes l.code)))
    ≡ string_bytes l.fn.text ++ ended (code_lines l.version (map instr_bytes l.code))
