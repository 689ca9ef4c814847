use Rattle.zl_code.proofs.Common.{ap, arith, refl, replicate}
use Rattle.std.proofs.lemmas.Grind.{common_steps}
use Rattle.zl_code.proofs.ImageCells.{one_placed, all_placed}
use Rattle.zl_code.proofs.instr_bytes.seven.Goals as goal

pub loop-place-init : goal.loop-place-init
loop-place-init c = record { front = refl; behind = ap (λ z. replicate 7 z) c.zero-registers.ensures; size = refl }

pub loop-place-preserved : goal.loop-place-preserved
loop-place-preserved c = record {
  front =
      one_placed c.args.used.now c.loop-place.registers c.loop-place.place c.loop-place.invariant.front
      c.index-used-place.result c.index-used-place.result (omega arith) (omega arith) c.index-used-place.is;
  behind = grind (arith, common_steps, c.loop-place.invariant.behind);
  size = grind (arith, common_steps);
}

pub returns : goal.returns
returns c =
    all_placed c.args.used.now c.loop-place.registers c.loop-place.place c.loop-place.invariant.front c.requires (omega arith) c.loop-place.invariant.behind
