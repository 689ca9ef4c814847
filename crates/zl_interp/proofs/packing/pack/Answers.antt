use Rattle.zl_interp.proofs.Common.{arith, length, length-set, ◌<◌, ◌∙◌}
use Rattle.zl_interp.proofs.Packed.{brought, passed, rest_kept, rest_left}
use Rattle.zl_interp.proofs.packing.pack.Goals.{else-value-ne0, then-value-ne0}
use Rattle.zl_interp.proofs.packing.pack.Goals as goal

pub loop-n-preserved : goal.loop-n-preserved
loop-n-preserved c =
    let v = c.loop-n.invariant in
    let here : c.loop-n.n < length c.args.places.now = omega (arith, c.requires, c.loop-n-test.true) in
    elim c.if-value-ne0.branch [
      | then-value-ne0 w ↦ rw (w.places-is, w.packed-is) (record {
        packed = brought c.args.places.now c.loop-n.places c.loop-n.n c.loop-n.packed here v.packed v.within v.others v.same_length w.if-value-ne0.true;
        within = omega (arith, v.within);
        others = rest_kept c.args.places.now c.loop-n.places c.loop-n.n c.loop-n.packed here v.packed v.within v.others v.same_length;
        same_length = length-set c.loop-n.places c.loop-n.packed _ ∙ v.same_length;
      })
      | else-value-ne0 w ↦ rw (w.places-is, w.packed-is) (record {
        packed = passed c.args.places.now c.loop-n.places c.loop-n.n c.loop-n.packed here v.packed v.within v.others v.same_length w.if-value-ne0.false;
        within = omega (arith, v.within);
        others = rest_left c.args.places.now c.loop-n.places c.loop-n.n c.loop-n.packed here v.packed v.within v.others v.same_length;
        same_length = v.same_length;
      })
    ]
