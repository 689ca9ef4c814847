use Rattle.zl_scenario.proofs.Common.{◌≡◌, ◌+◌, ◌*◌, ◌-◌, ◌^◌, ◌<◌, true, Some, length, get_or, take, sym, ap, ◌∙◌, arith, list_all, nat_tests, decimal_value}
use Rattle.zl_scenario.proofs.Common.{is_decimal_digit}
use Rattle.std.proofs.Common.{take_all}
use Rattle.zl_scenario.proofs.Decimals.{none_empty, none_digit, none_large, some_number, not_digit, digit_value}
use Rattle.zl_scenario.proofs.numbers.number.Goals as goal

pub returns-then-is_empty : goal.returns-then-is_empty
returns-then-is_empty c = none_empty _ (grind (arith, nat_tests, c.is_empty.ensures))

pub returns-in_default : goal.returns-in_default
returns-in_default c =
    none_digit c.args.word.now c.loop-byte.byte-index (omega arith) (not_digit (get_or c.args.word.now c.loop-byte.byte-index 0) c.in_default.ensures)

pub returns-in_default-with_digit : goal.returns-in_default-with_digit
returns-in_default-with_digit c =
    let byte = get_or c.args.word.now c.loop-byte.byte-index 0 in
    let digit : c.in-Some.digit ≡ byte - 48 = digit_value byte c.in-Some.digit c.in-Some.ensures in
    let above : c.loop-byte.number * 10 + c.in-Some.digit < 2 ^ 64 → ⊥ = c.in_default-with_digit.ensures in
    none_large c.args.word.now c.loop-byte.byte-index (omega arith) (omega (arith, c.loop-byte.invariant.value))

pub returns : goal.returns
returns c =
    let word = c.args.word.now in
    let all : take c.loop-byte.byte-index word ≡ word = take_all _ word (omega arith) in
    let value : c.loop-byte.number ≡ decimal_value word = c.loop-byte.invariant.value ∙ ap decimal_value all in
    let digits : list_all is_decimal_digit word ≡ true = sym (ap (list_all is_decimal_digit) all) ∙ c.loop-byte.invariant.digits in
    let filled : 0 < length word = grind (arith, nat_tests, c.is_empty.ensures) in
    ap Some value ∙ some_number word filled digits (omega (arith, value, c.loop-byte.invariant.small))
