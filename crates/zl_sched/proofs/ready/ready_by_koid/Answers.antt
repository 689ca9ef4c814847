use Rattle.zl_sched.proofs.Common.{[], arith, is_process, is_ready, pids_of, sym, ◌∙◌}
use Rattle.zl_rights.proofs.Settling.{filter-length}
use Rattle.zl_sched.proofs.Joining.{comes, has_place}
use Rattle.zl_sched.proofs.ready.ready_by_koid.Goals as goal

pub push_if-requires : goal.push_if-requires
push_if-requires c =
    let so_far = c.loop-n.invariant in
    record {
      room =
          has_place (λ q. is_process c.args.world.now.world is_ready q) []
          (pids_of c.args.world.now.world) c.loop-n.n c.in-Some.pid c.loop-n.ready.items so_far.0 (sym c.process_at.ensures.koid ∙ c.in-Some.is)
          c.is_ready.result c.is_ready.ensures _
          (omega (arith, filter-length (λ q. is_process c.args.world.now.world is_ready q) (pids_of c.args.world.now.world), so_far.1));
    }

pub loop-n-preserved : goal.loop-n-preserved
loop-n-preserved c =
    let so_far = c.loop-n.invariant in (
      comes (λ q. is_process c.args.world.now.world is_ready q) [] (pids_of c.args.world.now.world) c.loop-n.n c.in-Some.pid c.loop-n.ready.items so_far.0
          (sym c.process_at.ensures.koid ∙ c.in-Some.is)
          c.is_ready.result c.is_ready.ensures c.push_if.new.ready.items c.push_if.ensures.items,
      omega (arith, c.push_if.ensures.capacity, so_far.1),
    )
