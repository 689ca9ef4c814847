use Rattle.zl_asm.proofs.Common.{arith, common_steps}
use Rattle.zl_asm.proofs.WordsHex.{not_sixteen, next_byte, no_byte, last_byte}
use Rattle.zl_asm.proofs.numbers.sixteen_bytes.Goals as goal

pub returns-then-digits : goal.returns-then-digits
returns-then-digits c = not_sixteen c.args.digits.now c.if-digits.true

pub returns-in_default : goal.returns-in_default
returns-in_default c = no_byte c.args.digits.now c.loop-i.i c.loop-i.bytes (omega arith) c.in_default.ensures c.loop-i.invariant.so_far

pub loop-i-preserved : goal.loop-i-preserved
loop-i-preserved c = record {
  so_far = next_byte c.args.digits.now c.loop-i.i c.loop-i.bytes c.in-Some.byte (omega arith) (omega arith) c.in-Some.ensures c.loop-i.invariant.so_far;
  size = grind (arith, common_steps);
}

pub returns : goal.returns
returns c = last_byte c.args.digits.now c.loop-i.i c.loop-i.bytes (omega arith) (omega arith) (omega arith) c.loop-i.invariant.so_far
