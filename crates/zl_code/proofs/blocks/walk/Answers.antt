use Rattle.zl_code.proofs.Common.{None, ap, length-map, replicate, sym, ◌∙◌}
use Rattle.zl_code.specs.Blocks.{mark_of, marks_of}
use Rattle.zl_code.proofs.Nested.{read, walk_begins, walk_fails, walk_more}
use Rattle.zl_code.proofs.blocks.walk.Goals as goal

pub loop-place-init : goal.loop-place-init
loop-place-init c = walk_begins (marks_of c.args.code.now) _ (c.in_ok-homes.ensures ∙ ap (λ n. replicate n None) (sym (length-map c.args.code.now mark_of)))

pub returns-then-not-nests : goal.returns-then-not-nests
returns-then-not-nests c =
    walk_fails (marks_of c.args.code.now) _ _ _ _ _ c.loop-place.invariant (rw c.deref.ensures.value at c.home_at-home.ensures)
    (read mark_of c.args.code.now _ _ _ c.loop-place-test.true c.index-code-place.is c.mark_of-mark.ensures) (sym c.nests.ensures ∙ c.if-not-nests.true)

pub loop-place-preserved : goal.loop-place-preserved
loop-place-preserved c =
    rw (c.put.ensures, c.deeper-depth.ensures)
    (walk_more (marks_of c.args.code.now) _ _ _ _ _ c.loop-place.invariant (rw c.deref.ensures.value at c.home_at-home.ensures)
    (read mark_of c.args.code.now _ _ _ c.loop-place-test.true c.index-code-place.is c.mark_of-mark.ensures) (sym c.nests.ensures ∙ c.if-not-nests.false) _
    (rw c.deref-in-loop-place.ensures.value at c.home_behind-behind.ensures))
