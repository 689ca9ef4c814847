use Rattle.std.proofs.Common.{Bool, IfNone, IfSome, List, Some, ap, false, length, slice_get, subst, sym, ℕ, ◌<◌, ◌∙◌, ◌≡◌}
use Rattle.std.proofs.lemmas.List.{with_items_is}
use Rattle.zl_explore.specs.Marks.{AreMarks, AreWithin, IsMarked, unmarked}
use Rattle.zl_explore.proofs.Marking.{all_come, endless_some}
use Rattle.zl_explore.proofs.edges.endless_place.Goals as goal

pub mark_more-requires : goal.mark_more-requires
mark_more-requires c = subst (AreWithin c.args.edges.now) (sym c.loop.invariant.0 ∙ ap length (sym c.deref_mut.ensures.value)) c.requires

pub loop-smaller : goal.loop-smaller
loop-smaller c =
    let is = with_items_is c.loop.marks c.mark_more.new.marks (c.mark_more.ensures.length ∙ c.deref_mut.ensures.len) in
    subst (λ (m : List Bool). unmarked m < unmarked c.loop.marks.items) (sym is)
    (subst (λ (m : List Bool). unmarked c.mark_more.new.marks < unmarked m) c.deref_mut.ensures.value (c.mark_more.ensures.more c.loop-test.true))

pub loop-preserved : goal.loop-preserved
loop-preserved c =
    let is = with_items_is c.loop.marks c.mark_more.new.marks (c.mark_more.ensures.length ∙ c.deref_mut.ensures.len) in (
      ap length is ∙ (c.mark_more.ensures.length ∙ (ap length c.deref_mut.ensures.value ∙ c.loop.invariant.0)),
      subst (AreMarks c.args.edges.now) (sym is)
          (c.mark_more.ensures.marks (subst (AreMarks c.args.edges.now) (sym c.deref_mut.ensures.value) c.loop.invariant.1)),
    )

module _ (c : goal.After-drop-marks) where
  abbrev marks : List Bool
  marks = c.mark_more.new.marks

  is : c.deref.result.now ≡ marks
  is = c.deref.ensures.value ∙ with_items_is c.loop.marks marks (c.mark_more.ensures.length ∙ c.deref_mut.ensures.len)

  same : length marks ≡ c.args.count
  same = c.mark_more.ensures.length ∙ (ap length c.deref_mut.ensures.value ∙ c.loop.invariant.0)

  are : AreMarks c.args.edges.now marks
  are = c.mark_more.ensures.marks (subst (AreMarks c.args.edges.now) (sym c.deref_mut.ensures.value) c.loop.invariant.1)

pub returns-clause-some : goal.returns-clause-some
returns-clause-some c =
    endless_some c.args.edges.now (marks c) c.args.count (same c) c.requires (are c) (c.mark_more.ensures.closed c.loop-test.false) c.first_unmarked.result
    (subst (λ (m : List Bool). IfSome c.first_unmarked.result (λ place. slice_get m place ≡ Some false)) (is c) c.first_unmarked.ensures.some)

pub returns-clause-none : goal.returns-clause-none
returns-clause-none c =
    all_come c.args.edges.now (marks c) c.args.count (same c) c.requires (are c) (c.mark_more.ensures.closed c.loop-test.false) c.first_unmarked.result
    (subst (λ (m : List Bool). IfNone c.first_unmarked.result ((place : ℕ) → place < length m → IsMarked m place)) (is c) c.first_unmarked.ensures.none)
