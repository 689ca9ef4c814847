use Rattle.zl_asm.proofs.Common.{all_of, drop, map, option_map, register_of, take, ◌++◌, ◌≡◌}
use Rattle.zl_asm.proofs.operands.put_registers.Given as goal

abbrev pub invariant-loop-i : goal.invariant-loop-i
invariant-loop-i l = record {
  so_far : all_of register_of (map (λ w. w.now) l.words)
      ≡ option_map (λ more. take l.i l.places ++ more) (all_of register_of (map (λ w. w.now) (drop l.i l.words)));
  untouched : drop l.i l.places ≡ drop l.i l.initial.places;
}
