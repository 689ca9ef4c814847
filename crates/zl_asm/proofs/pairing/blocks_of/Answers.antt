use Rattle.zl_asm.proofs.Common.{None, ap, arith, length-map, refl, replicate, sym, ◌∙◌}
use Rattle.zl_code.proofs.Nested.{read}
use Rattle.zl_code.specs.Blocks.{mark_of, marks_of}
use Rattle.zl_asm.proofs.PairedBlocks.{walk_begins, walk_more}
use Rattle.zl_asm.proofs.pairing.blocks_of.Goals as goal

pub loop-n-init : goal.loop-n-init
loop-n-init c =
    let same = ap (λ n. replicate n None) (sym (length-map c.args.code.now mark_of)) in
    walk_begins (marks_of c.args.code.now) _ _ (c.in_ok-homes.ensures ∙ same) (c.in_ok-ends.ensures ∙ same)

pub loop-n-preserved : goal.loop-n-preserved
loop-n-preserved c =
    rw (c.home_after-home.ensures, c.deref.ensures.value, c.put_end.ensures, c.closed_by.ensures, c.put.ensures)
    (walk_more (marks_of c.args.code.now) _ _ _ c.loop-n.n _ c.loop-n.invariant
    (omega (arith, length-map c.args.code.now mark_of, c.loop-n-test.true))
    (read mark_of c.args.code.now c.loop-n.n _ _ c.loop-n-test.true c.index-code-n.is refl))
