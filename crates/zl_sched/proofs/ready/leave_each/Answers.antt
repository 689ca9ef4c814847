use Rattle.zl_sched.proofs.Common.{ap, arith, filter, get_or, not, refl, sym, take, ◌==◌, ◌∙◌}
use Rattle.zl_sched.proofs.Joining.{none_leaves, one_leaves, one_stays, still_once}
use Rattle.zl_sched.proofs.ready.leave_each.Goals as goal

pub loop-koid-init : goal.loop-koid-init
loop-koid-init c = (sym (none_leaves c.args.world.now.world c.args.ready.now.items), refl)

pub loop-koid-preserved-then-is_ready : goal.loop-koid-preserved-then-is_ready
loop-koid-preserved-then-is_ready c =
    let so_far = c.loop-koid.invariant in (
      so_far.0 ∙ one_stays c.args.world.now.world c.args.koids.now c.loop-koid.koid-index (get_or c.args.koids.now c.loop-koid.koid-index 0)
          (omega (arith, c.loop-koid-test.true, c.loop-koid.auto.koid-index-end)) refl c.args.ready.now.items
          (sym c.is_ready.ensures ∙ c.if-is_ready.true),
      so_far.1,
    )

pub leave_one-requires : goal.leave_one-requires
leave_one-requires c =
    rw c.loop-koid.invariant.0
    (still_once c.args.world.now.world (take c.loop-koid.koid-index c.args.koids.now) c.args.ready.now.items c.requires
    (get_or c.args.koids.now c.loop-koid.koid-index 0))

pub loop-koid-preserved : goal.loop-koid-preserved
loop-koid-preserved c =
    let so_far = c.loop-koid.invariant in (
      c.leave_one.ensures.items ∙ (ap (filter (λ q. not (q == get_or c.args.koids.now c.loop-koid.koid-index 0))) so_far.0
          ∙ one_leaves c.args.world.now.world c.args.koids.now c.loop-koid.koid-index (get_or c.args.koids.now c.loop-koid.koid-index 0)
          (omega (arith, c.loop-koid-test.true, c.loop-koid.auto.koid-index-end)) refl c.args.ready.now.items
          (sym c.is_ready.ensures ∙ c.if-is_ready.false)),
      c.leave_one.ensures.capacity ∙ so_far.1,
    )
