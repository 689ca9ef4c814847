use Rattle.zl_scenario.proofs.Common.{◌≡◌, drop, digits_of, digits_said}
use Rattle.zl_scenario.proofs.body.push_digits.Given as goal

abbrev pub invariant-loop-byte : goal.invariant-loop-byte
invariant-loop-byte l = digits_said l.digits (digits_of (drop l.byte-index l.line)) ≡ digits_said l.initial.digits (digits_of l.line)
