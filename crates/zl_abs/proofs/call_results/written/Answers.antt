use Rattle.zl_abs.proofs.WrittenSteps.{written_skip, written_more}
use Rattle.zl_abs.proofs.call_results.written.Goals as goal

pub loop-place-preserved-then-not-is_written : goal.loop-place-preserved-then-not-is_written
loop-place-preserved-then-not-is_written g c =
    written_skip c.args.fields.now c.args.registers.now c.args.values.now _ _ c.loop-place.place _ _ c.loop-place.invariant c.loop-place-test.true
    c.requires.few c.requires.registers c.is_written.ensures c.if-not-is_written.true

pub loop-place-preserved : goal.loop-place-preserved
loop-place-preserved g c =
    written_more c.args.fields.now c.args.registers.now c.args.values.now _ _ c.loop-place.place _ _ c.loop-place.invariant c.loop-place-test.true
    c.requires.few c.requires.registers c.is_written.ensures _ _ _ c.if-not-is_written.false c.index-registers-place.is c.requires.values
    (rw c.all.ensures at c.index-values-all.is) c.push.ensures
