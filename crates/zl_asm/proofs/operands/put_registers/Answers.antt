use Rattle.zl_asm.proofs.Common.{List, Option, ap, arith, common_steps, drop, length, option_map, sym, ℕ, ◌++◌}
use Rattle.zl_asm.proofs.LineOperands.{next_register, no_register, last_register}
use Rattle.zl_asm.proofs.operands.put_registers.Goals as goal

pub returns-in_default : goal.returns-in_default
returns-in_default c =
    ap (λ (o : Option (List ℕ)). option_map (λ registers. registers ++ drop (length registers) c.args.places.now) o)
    (sym (no_register c.args.words.now c.loop-i.i _ c.loop-i.places (omega arith) c.in_default.ensures.value c.loop-i.invariant.so_far))

pub loop-i-preserved : goal.loop-i-preserved
loop-i-preserved c = record {
  so_far = next_register c.args.words.now c.loop-i.i _ c.loop-i.places c.in-Some.register (omega arith)
      (omega arith) c.in-Some.ensures.value c.loop-i.invariant.so_far;
  untouched = grind (arith, common_steps, c.loop-i.invariant.untouched);
}

pub returns : goal.returns
returns c =
    last_register c.args.words.now c.loop-i.i c.loop-i.places c.args.places.now (omega arith) (omega arith) c.loop-i.invariant.untouched
    c.loop-i.invariant.so_far
