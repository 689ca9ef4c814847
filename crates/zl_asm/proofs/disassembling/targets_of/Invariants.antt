use Rattle.zl_asm.proofs.Common.{TargetsAre, instr_bytes, length, map, take}
use Rattle.zl_asm.proofs.disassembling.targets_of.Given as goal

abbrev pub invariant-loop-instr : goal.invariant-loop-instr
invariant-loop-instr l = TargetsAre l.version l.targets.items (take l.instr-index (map instr_bytes l.code)) (length l.code)
