use Rattle.zl_scenario.proofs.Common.{◌≡◌, ◌^◌, ◌<◌, true, take, list_all, decimal_value, is_decimal_digit}
use Rattle.zl_scenario.proofs.numbers.number.Given as goal

abbrev pub invariant-loop-byte : goal.invariant-loop-byte
invariant-loop-byte l = record {
  value : l.number ≡ decimal_value (take l.byte-index l.word);
  digits : list_all is_decimal_digit (take l.byte-index l.word) ≡ true;
  small : l.number < 2 ^ 64;
}
