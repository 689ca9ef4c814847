use Rattle.zl_sched.proofs.Common.{arith, get_or, not, refl, ◌==◌}
use Rattle.std.proofs.lemmas.Option.{slice_get-get_or}
use Rattle.zl_sched.proofs.Joining.{comes, has_place}
use Rattle.zl_sched.proofs.ready.push_others.Goals as goal

pub push_if-requires : goal.push_if-requires
push_if-requires c =
    let so_far = c.loop-other.invariant in
    record {
      room = has_place (λ q. not (q == c.args.pid)) c.args.ready.now.items c.args.pids.now c.loop-other.other-index
          (get_or c.args.pids.now c.loop-other.other-index 0) c.loop-other.ready.items so_far.0
          (slice_get-get_or c.args.pids.now c.loop-other.other-index 0 (omega (arith, c.loop-other-test.true, c.loop-other.auto.other-index-end))) _ refl _
          (omega (arith, c.requires.room, so_far.1));
    }

pub loop-other-preserved : goal.loop-other-preserved
loop-other-preserved c =
    let so_far = c.loop-other.invariant in (
      comes (λ q. not (q == c.args.pid)) c.args.ready.now.items c.args.pids.now c.loop-other.other-index
          (get_or c.args.pids.now c.loop-other.other-index 0) c.loop-other.ready.items so_far.0
          (slice_get-get_or c.args.pids.now c.loop-other.other-index 0 (omega (arith, c.loop-other-test.true, c.loop-other.auto.other-index-end))) _ refl
          c.push_if.new.ready.items c.push_if.ensures.items,
      omega (arith, c.push_if.ensures.capacity, so_far.1),
    )
