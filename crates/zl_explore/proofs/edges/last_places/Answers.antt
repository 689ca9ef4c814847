use Rattle.std.proofs.Common.{ap, arith, length, length-set, true, ◌∙◌}
use Rattle.std.proofs.lemmas.List.{length-replicate}
use Rattle.zl_explore.proofs.Marking.{edge_at, last_all, last_first, last_more, within_at}
use Rattle.zl_explore.proofs.edges.last_places.Goals as goal

pub loop-from-init : goal.loop-from-init
loop-from-init c =
    let is = (c.in_ok-marks.ensures {u = tt}).items_if_clones_equal (λ y h. h) in
    (ap length is ∙ length-replicate c.args.count true, last_first c.args.edges.now c.in_ok-marks.marks.items c.args.count is)

pub index_mut-requires : goal.index_mut-requires
index_mut-requires c =
    let both = within_at c.args.edges.now c.args.count c.loop-from.from-index c.requires c.loop-from-test.true in
    omega (arith, both.0, c.loop-from.invariant.0)

pub loop-from-preserved : goal.loop-from-preserved
loop-from-preserved c = (
  length-set c.loop-from.marks.items (edge_at c.args.edges.now c.loop-from.from-index).0 _ ∙ c.loop-from.invariant.0,
  last_more c.args.edges.now c.loop-from.marks.items c.loop-from.from-index c.loop-from-test.true c.loop-from.invariant.1,
)

pub returns-clause-length : goal.returns-clause-length
returns-clause-length c = c.loop-from.invariant.0

pub returns-clause-marks : goal.returns-clause-marks
returns-clause-marks c = last_all c.args.edges.now c.loop-from.marks.items c.loop-from.from-index c.loop-from-test.false c.loop-from.invariant.1
