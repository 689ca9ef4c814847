use Rattle.zl_asm.proofs.Common.{is_digit, list_all, take, true, value_of, ◌<◌, ◌^◌, ◌≡◌}
use Rattle.zl_asm.proofs.numbers.value_of.Given as goal

abbrev pub invariant-loop-byte : goal.invariant-loop-byte
invariant-loop-byte l = record {
  value : l.value ≡ value_of l.base (take l.byte-index l.digits);
  digits : list_all (is_digit l.base) (take l.byte-index l.digits) ≡ true;
  small : l.value < 2 ^ 32;
}
