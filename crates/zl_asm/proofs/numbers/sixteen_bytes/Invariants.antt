use Rattle.zl_asm.proofs.Common.{drop, hex_bytes, length, option_map, take, ◌*◌, ◌++◌, ◌≡◌}
use Rattle.zl_asm.proofs.numbers.sixteen_bytes.Given as goal

abbrev pub invariant-loop-i : goal.invariant-loop-i
invariant-loop-i l = record {
  so_far : hex_bytes l.digits ≡ option_map (λ rest. take l.i l.bytes ++ rest) (hex_bytes (drop (2 * l.i) l.digits));
  size : length l.bytes ≡ 16;
}
