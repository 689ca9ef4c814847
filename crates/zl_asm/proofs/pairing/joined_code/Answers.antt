use Rattle.zl_asm.proofs.Common.{arith, length, length-map, ◌<◌, ◌∙◌}
use Rattle.zl_code.specs.Blocks.{mark_of, marks_of}
use Rattle.zl_asm.proofs.PairedBlocks.{joined_all, joined_more}
use Rattle.zl_asm.proofs.pairing.joined_code.Goals as goal

pub loop-n-preserved : goal.loop-n-preserved
loop-n-preserved c =
    let marks = marks_of c.args.code.now in
    let within : c.loop-n.n < length marks = omega (arith, length-map c.args.code.now mark_of, c.loop-n-test.true) in
    joined_more marks c.args.code.now c.loop-n.n c.index-code-n.result c.place_at-home.result c.place_at-closed.result c.loop-n.joined.items
    c.extend_from_slice.new.self.items _ c.loop-n-test.true c.index-code-n.is
    (rw c.deref.ensures.value at c.place_at-home.ensures ∙ c.requires.innermost.home c.loop-n.n within)
    (rw c.deref-in-loop-n.ensures.value at c.place_at-closed.ensures ∙ c.requires.closing c.loop-n.n within)
    c.loop-n.invariant (rw c.joined_to-instr.ensures at (c.in_ok-extend_from_slice.ensures {u = tt}).items)

pub returns : goal.returns
returns c = joined_all (marks_of c.args.code.now) c.args.code.now c.loop-n.joined.items _ c.loop-n.n (omega (arith, c.loop-n-test.false)) c.loop-n.invariant
