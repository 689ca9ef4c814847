use Rattle.zl_code.proofs.Common.{drop, length, replicate, take, ◌≡◌}
use Rattle.zl_code.proofs.instr_bytes.seven.Given as goal

abbrev pub invariant-loop-place : goal.invariant-loop-place
invariant-loop-place l = record {
  front : take l.place l.registers ≡ take l.place l.used;
  behind : drop l.place l.registers ≡ drop l.place (replicate 7 0);
  size : length l.registers ≡ 7;
}
