use Rattle.zl_asm.proofs.Common.{Some, ap, arith, get_or, is_digit, length, list_all, nat_tests, sym, take, take_all, true, value_of, ℕ, ◌*◌, ◌+◌, ◌<◌, ◌∙◌}
use Rattle.zl_asm.proofs.Common.{◌≡◌}
use Rattle.zl_asm.proofs.WordsNumber.{none_empty, none_digit, none_longer, some_number, not_digit, one_longer, all_longer}
use Rattle.zl_asm.proofs.numbers.value_of.Goals as goal

pub returns-then-is_empty : goal.returns-then-is_empty
returns-then-is_empty c = none_empty c.args.base c.args.digits.now (grind (arith, nat_tests, c.is_empty.ensures))

pub returns-in_default : goal.returns-in_default
returns-in_default c =
    none_digit c.args.base c.args.digits.now c.loop-byte.byte-index (omega arith)
    (not_digit c.args.base (get_or c.args.digits.now c.loop-byte.byte-index 0) c.in_default.ensures.value)

pub returns-in_default-longer : goal.returns-in_default-longer
returns-in_default-longer c =
    none_longer c.args.base c.loop-byte.value c.in-Some.digit c.loop-byte.byte-index c.args.digits.now (omega arith) c.loop-byte.invariant.value
    c.in-Some.ensures.value c.in_default-longer.ensures

pub loop-byte-preserved : goal.loop-byte-preserved
loop-byte-preserved c =
    let base = c.args.base in
    let digits = c.args.digits.now in
    let i = c.loop-byte.byte-index in
    let longer = c.in-Some-longer.ensures in
    record {
      value =
          longer.1 ∙ ap (λ (v : ℕ). v * base + c.in-Some.digit) c.loop-byte.invariant.value
          ∙ one_longer base c.in-Some.digit i digits (omega arith) c.in-Some.ensures.value;
      digits = all_longer base c.in-Some.digit i digits (omega arith) c.in-Some.ensures.value longer.0.0 c.loop-byte.invariant.digits;
      small = omega (arith, longer.1, longer.0.1);
    }

pub returns : goal.returns
returns c =
    let base = c.args.base in
    let digits = c.args.digits.now in
    let all : take c.loop-byte.byte-index digits ≡ digits = take_all _ digits (omega arith) in
    let value : c.loop-byte.value ≡ value_of base digits = c.loop-byte.invariant.value ∙ ap (value_of base) all in
    let each : list_all (is_digit base) digits ≡ true = sym (ap (list_all (is_digit base)) all) ∙ c.loop-byte.invariant.digits in
    let filled : 0 < length digits = grind (arith, nat_tests, c.is_empty.ensures) in
    ap Some value ∙ some_number base digits filled each (omega (arith, value, c.loop-byte.invariant.small))
