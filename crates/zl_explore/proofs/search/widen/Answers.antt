use Rattle.std.proofs.Common.{arith, length, refl, subst, sym, ◌≤◌}
use Rattle.zl_explore.specs.Edges.{AreEdges}
use Rattle.zl_explore.specs.Nodes.{IsTree}
use Rattle.zl_explore.proofs.Edging.{edges_all, edges_none}
use Rattle.zl_explore.proofs.Growing.{grows_extends, grows_none, grows_widened, ready_there, still_rooted, still_within}
use Rattle.zl_explore.proofs.Hearing.{turns_quiet_all}
use Rattle.zl_explore.proofs.Taking.{bad_here, came, edged, grown, heard, unedged}
use Rattle.zl_explore.proofs.search.widen.Goals as goal

pub loop-pid-init : goal.loop-pid-init
loop-pid-init g c = (grows_none _ _ _ _ _ _ refl, λ n i p there below. absurd (omega (arith, below)), edges_none _ _ _ _ _ _)

pub loop-pid-preserved : goal.loop-pid-preserved
loop-pid-preserved g c = (
  grown _ _ g.M.Machine.tells c.args.nodes.now.items c.args.place c.args.pids.now c.requires.within c.requires.ready c.loop-pid.pid-index
      c.loop-pid-test.true c.loop-pid.nodes.items
      c.loop-pid.invariant.0 c.in_ok-copy_at.field-0 c.in_ok-at.at (c.in_ok-copy_at.ensures {u = tt}) c.in_ok-at.told
      c.in_ok-at.ensures.next c.place_of.new.nodes.items
      c.in-Some-2.target (rw c.in-Some-2.is at (c.in_ok-target.ensures {u = tt}).some),
  heard _ _ g.M.Machine.tells c.args.nodes.now.items c.args.place c.args.pids.now c.requires.within c.requires.ready c.loop-pid.pid-index
      c.loop-pid-test.true c.loop-pid.nodes.items
      c.loop-pid.invariant.0 c.in_ok-copy_at.field-0 c.in_ok-at.at (c.in_ok-copy_at.ensures {u = tt}) c.in_ok-at.told
      c.in_ok-at.ensures.told c.args.bad.now c.in_default.ensures.none c.loop-pid.invariant.1,
  edged _ _ g.M.Machine.tells c.args.nodes.now.items c.args.place c.args.pids.now c.requires.within c.requires.ready c.loop-pid.pid-index
      c.loop-pid-test.true c.loop-pid.nodes.items
      c.loop-pid.invariant.0 c.in_ok-copy_at.field-0 c.in_ok-at.at (c.in_ok-copy_at.ensures {u = tt}) c.in_ok-at.told
      c.in_ok-at.ensures.next c.place_of.new.nodes.items
      c.in-Some-2.target (rw c.in-Some-2.is at (c.in_ok-target.ensures {u = tt}).some)
      c.args.course.now.edges.items c.loop-pid.course.edges.items c.loop-pid.invariant.2 c.push.new.self.items (c.in_ok-push.ensures {u = tt}).items,
)

pub copy_at-requires-clause-within : goal.copy_at-requires-clause-within
copy_at-requires-clause-within g c = still_within _ _ _ _ _ _ _ c.requires.within c.loop-pid.invariant.0

pub copy_at-requires-clause-tree : goal.copy_at-requires-clause-tree
copy_at-requires-clause-tree g c = still_rooted _ _ _ _ _ _ _ c.requires.tree c.loop-pid.invariant.0

pub place_of-requires-clause-came : goal.place_of-requires-clause-came
place_of-requires-clause-came g c = came _ _ g.M.Machine.tells c.args.nodes.now.items c.args.place c.args.pids.now c.requires.within c.requires.ready
    c.loop-pid.pid-index c.loop-pid-test.true c.loop-pid.nodes.items
    c.loop-pid.invariant.0 c.in_ok-copy_at.field-0 c.in_ok-at.at (c.in_ok-copy_at.ensures {u = tt}) c.in_ok-at.told
    c.in_ok-at.ensures.next

pub place_of-requires-clause-tree : goal.place_of-requires-clause-tree
place_of-requires-clause-tree g c = still_rooted _ _ _ _ _ _ _ c.requires.tree c.loop-pid.invariant.0

pub returns-in-Some-clause-widens : goal.returns-in-Some-clause-widens
returns-in-Some-clause-widens g c = bad_here _ _ g.M.Machine.tells c.args.nodes.now.items c.args.place c.args.pids.now c.requires.within
    c.requires.ready c.loop-pid.pid-index c.loop-pid-test.true c.loop-pid.nodes.items
    c.loop-pid.invariant.0 c.in_ok-copy_at.field-0 c.in_ok-at.at (c.in_ok-copy_at.ensures {u = tt}) c.in_ok-at.told
    c.in_ok-at.ensures.told c.args.bad.now c.in-Some.one (c.in-Some.ensures {u = tt}).some

pub returns-in_err-target-clause-tree : goal.returns-in_err-target-clause-tree
returns-in_err-target-clause-tree g c start tree =
    subst (IsTree g.M.Machine.ready g.M.Machine.next start) (sym (c.in_err-target.ensures {u = tt}).err) (c.loop-pid.invariant.0.tree start tree)

pub returns-in_default-2-clause-tree : goal.returns-in_default-2-clause-tree
returns-in_default-2-clause-tree g c start tree =
    subst (IsTree g.M.Machine.ready g.M.Machine.next start) (sym (rw c.in_default-2.is at (c.in_ok-target.ensures {u = tt}).none))
    (c.loop-pid.invariant.0.tree start tree)

pub returns-in_err-push-clause-tree : goal.returns-in_err-push-clause-tree
returns-in_err-push-clause-tree g c = (grown _ _ g.M.Machine.tells c.args.nodes.now.items c.args.place c.args.pids.now c.requires.within
    c.requires.ready c.loop-pid.pid-index c.loop-pid-test.true c.loop-pid.nodes.items
    c.loop-pid.invariant.0 c.in_ok-copy_at.field-0 c.in_ok-at.at (c.in_ok-copy_at.ensures {u = tt}) c.in_ok-at.told
    c.in_ok-at.ensures.next c.place_of.new.nodes.items
    c.in-Some-2.target (rw c.in-Some-2.is at (c.in_ok-target.ensures {u = tt}).some)).tree

pub returns-in_err-push-clause-extends : goal.returns-in_err-push-clause-extends
returns-in_err-push-clause-extends g c = grows_extends _ _ _ _ _ _ _ (grown _ _ g.M.Machine.tells c.args.nodes.now.items c.args.place c.args.pids.now
    c.requires.within c.requires.ready c.loop-pid.pid-index c.loop-pid-test.true c.loop-pid.nodes.items
    c.loop-pid.invariant.0 c.in_ok-copy_at.field-0 c.in_ok-at.at (c.in_ok-copy_at.ensures {u = tt}) c.in_ok-at.told
    c.in_ok-at.ensures.next c.place_of.new.nodes.items
    c.in-Some-2.target (rw c.in-Some-2.is at (c.in_ok-target.ensures {u = tt}).some))

pub returns-in_err-push-clause-edges : goal.returns-in_err-push-clause-edges
returns-in_err-push-clause-edges g c are = subst (AreEdges g.M.Machine.ready g.M.Machine.next c.place_of.new.nodes.items) (sym (c.in_err-push.ensures
    {u = tt}).items) (unedged _ _ g.M.Machine.tells c.args.nodes.now.items c.args.place c.args.pids.now c.requires.within c.requires.ready
    c.loop-pid.pid-index c.loop-pid-test.true c.loop-pid.nodes.items
    c.loop-pid.invariant.0 c.in_ok-copy_at.field-0 c.in_ok-at.at (c.in_ok-copy_at.ensures {u = tt}) c.in_ok-at.told
    c.in_ok-at.ensures.next c.place_of.new.nodes.items
    c.in-Some-2.target (rw c.in-Some-2.is at (c.in_ok-target.ensures {u = tt}).some)
    c.args.course.now.edges.items c.loop-pid.course.edges.items c.loop-pid.invariant.2 are)

pub returns-clause-have_edges : goal.returns-clause-have_edges
returns-clause-have_edges g c =
    let from = ready_there g.M.Machine.ready g.M.Machine.next c.args.nodes.now.items c.args.place c.args.pids.now c.requires.within c.requires.ready in
    edges_all _ _ _ _ _ _ c.loop-pid.pid-index c.loop-pid.nodes.items _ from.0 from.1 from.2 (omega (arith, c.loop-pid-test.false)) c.loop-pid.invariant.2

pub returns-clause-widens : goal.returns-clause-widens
returns-clause-widens g c =
    let from = ready_there g.M.Machine.ready g.M.Machine.next c.args.nodes.now.items c.args.place c.args.pids.now c.requires.within c.requires.ready in
    let enough : length c.args.pids.now ≤ c.loop-pid.pid-index = omega (arith, c.loop-pid-test.false) in (
      grows_widened _ _ c.args.nodes.now.items c.args.place c.args.pids.now c.loop-pid.pid-index c.loop-pid.nodes.items from.0 from.1 from.2
          enough c.loop-pid.invariant.0,
      turns_quiet_all _ _ c.args.bad.now c.args.nodes.now.items c.args.place c.args.pids.now c.loop-pid.pid-index c.loop-pid.nodes.items from.0 from.1 from.2
          enough (grows_extends _ _ _ _ _ c.loop-pid.pid-index c.loop-pid.nodes.items c.loop-pid.invariant.0) c.loop-pid.invariant.1,
    )
