use Rattle.zl_code.proofs.Common.{ap, length-map, map, sym, ◌∙◌}
use Rattle.zl_code.specs.Blocks.{mark_of, marks_of, stays}
use Rattle.zl_code.specs.Jumps.{jump_of}
use Rattle.zl_code.specs.Lists.{within}
use Rattle.zl_code.proofs.Nested.{jump_begins, jump_fails, jump_more, read, stays_so}
use Rattle.zl_code.proofs.blocks.all_stay.Goals as goal

pub loop-place-init : goal.loop-place-init
loop-place-init c = jump_begins _ _

pub returns-then-not-stays : goal.returns-then-not-stays
returns-then-not-stays c =
    let j = ap within (read jump_of c.args.code.now _ _ _ c.loop-place-test.true c.index-code-place.is c.jump_of.ensures) in
    let s = stays_so (marks_of c.args.code.now) c.requires.nest _ c.requires.homes c.loop-place.place c.jump_of.result in
    sym (jump_fails (marks_of c.args.code.now) (map jump_of c.args.code.now) _ (rw (length-map c.args.code.now mark_of) c.loop-place-test.true)
    (ap (stays (marks_of c.args.code.now) c.loop-place.place) j ∙ (s ∙ (sym c.stays.ensures ∙ c.if-not-stays.true))))

pub loop-place-preserved : goal.loop-place-preserved
loop-place-preserved c =
    let j = ap within (read jump_of c.args.code.now _ _ _ c.loop-place-test.true c.index-code-place.is c.jump_of.ensures) in
    let s = stays_so (marks_of c.args.code.now) c.requires.nest _ c.requires.homes c.loop-place.place c.jump_of.result in
    jump_more (marks_of c.args.code.now) (map jump_of c.args.code.now) _ c.loop-place.invariant
    (ap (stays (marks_of c.args.code.now) c.loop-place.place) j ∙ (s ∙ (sym c.stays.ensures ∙ c.if-not-stays.false)))
