use Rattle.zl_interp.proofs.Common.{IsTrue, arith, false≢true, length, ◌∙◌, ◌≡◌}
use Rattle.std.specs.Prelude.{◌/◌}
use Rattle.zl_interp.proofs.Marked.{length-marked, whole_test}
use Rattle.zl_interp.proofs.bursts.has_marked.Goals as goal

pub returns-then-code-own : goal.returns-then-code-own
returns-then-code-own c = (
  λ no. absurd (false≢true no),
  λ h. absurd (
      let e : length c.args.code.now ≡ length c.args.own.now = h.long ∙ length-marked c.args.own.now c.args.marks.now in
      omega (arith, c.if-code-own.true, e)
      ),
)

pub returns : goal.returns
returns c =
    whole_test c.args.code.now c.args.own.now c.args.marks.now (length c.args.marks.now) c.loop-block.block (length c.args.marks.now / 64) c.requires
    (omega (arith, c.if-code-own.false)) (omega (arith, c.loop-block-test.false, c.loop-block.auto.block-end)) c.loop-block.invariant
    (IsTrue c.has_range.result) c.has_range.ensures
