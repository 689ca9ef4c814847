use Rattle.std.proofs.Common.{arith, length, sym, ◌<◌, ◌∙◌, ◌-◌}
use Rattle.std.proofs.lemmas.Bool.{false≢true, true≢false}
use Rattle.zl_explore.specs.Marks.{IsMarked}
use Rattle.zl_explore.proofs.Marking.{closed_all, closed_more, closed_none, edge_at, marked_at, marked_so, marks_more, unmarked_set, within_at}
use Rattle.zl_explore.proofs.edges.mark_more.Goals.{else-marks-to-via-then-marks-to+else-not-marks-from, else-marks-to-via-else-marks-to}
use Rattle.zl_explore.proofs.edges.mark_more.Goals as goal

pub loop-n-init : goal.loop-n-init
loop-n-init c = (λ are. are, omega arith, λ more. absurd (false≢true more), λ none. closed_none c.args.edges.now c.args.marks.now)

pub bounds-marks-to : goal.bounds-marks-to
bounds-marks-to c =
    let both = within_at c.args.edges.now (length c.args.marks.now) (c.loop-n.n - 1) c.requires (omega (arith, c.loop-n-test.true, c.loop-n.auto.n)) in
    omega (arith, both.1, c.loop-n.auto.marks)

pub bounds-marks-from : goal.bounds-marks-from
bounds-marks-from c =
    let both = within_at c.args.edges.now (length c.args.marks.now) (c.loop-n.n - 1) c.requires (omega (arith, c.loop-n-test.true, c.loop-n.auto.n)) in
    omega (arith, both.0, c.loop-n.auto.marks)

pub bounds-marks-from-then-not-marks-from : goal.bounds-marks-from-then-not-marks-from
bounds-marks-from-then-not-marks-from c =
    let both = within_at c.args.edges.now (length c.args.marks.now) (c.loop-n.n - 1) c.requires (omega (arith, c.loop-n-test.true, c.loop-n.auto.n)) in
    omega (arith, both.0, c.loop-n.auto.marks)

pub loop-n-preserved-then-not-marks-from : goal.loop-n-preserved-then-not-marks-from
loop-n-preserved-then-not-marks-from c =
    let edges = c.args.edges.now in
    let marks = c.loop-n.marks in
    let n = c.loop-n.n - 1 in
    let below : n < length edges = omega (arith, c.loop-n-test.true, c.loop-n.auto.n) in
    let both = within_at edges (length c.args.marks.now) n c.requires below in
    let from_within : (edge_at edges n).0 < length marks = omega (arith, both.0, c.loop-n.auto.marks) in
    let to_marked : IsMarked marks (edge_at edges n).1 =
    marked_at marks (edge_at edges n).1 (omega (arith, both.1, c.loop-n.auto.marks)) c.if-marks-to.true in
    let one = unmarked_set marks (edge_at edges n).0 from_within c.if-not-marks-from.true in (
      λ are. marks_more edges marks n below to_marked from_within (c.loop-n.invariant.0 are),
      omega (arith, one, c.loop-n.invariant.1),
      λ more. omega (arith, one, c.loop-n.invariant.1),
      λ none. absurd (true≢false none),
    )

pub loop-n-preserved : goal.loop-n-preserved
loop-n-preserved c =
    let edges = c.args.edges.now in
    let marks = c.loop-n.marks in
    let n = c.loop-n.n - 1 in
    let both = within_at edges (length c.args.marks.now) n c.requires (omega (arith, c.loop-n-test.true, c.loop-n.auto.n)) in (
      c.loop-n.invariant.0,
      c.loop-n.invariant.1,
      c.loop-n.invariant.2,
      λ none. closed_more edges marks c.loop-n.n c.loop-n-test.true c.loop-n.auto.n
          (λ is. elim c.else-marks-to.branch [
            | else-marks-to-via-then-marks-to+else-not-marks-from w ↦ marked_at marks (edge_at edges n).0 (omega (
              arith,
              both.0,
              c.loop-n.auto.marks,
            )) w.if-not-marks-from.false
            | else-marks-to-via-else-marks-to w ↦ absurd (false≢true (sym w.if-marks-to.false ∙ marked_so marks (edge_at edges n).1 is))
          ])
          (c.loop-n.invariant.3 none),
    )

pub returns-clause-marks : goal.returns-clause-marks
returns-clause-marks c = c.loop-n.invariant.0

pub returns-clause-more : goal.returns-clause-more
returns-clause-more c = c.loop-n.invariant.2

pub returns-clause-closed : goal.returns-clause-closed
returns-clause-closed c = λ none. closed_all c.args.edges.now c.loop-n.marks
    (λ i from below is. c.loop-n.invariant.3 none i (omega (arith, c.loop-n-test.false)) below is)
