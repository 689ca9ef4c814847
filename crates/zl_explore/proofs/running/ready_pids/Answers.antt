use Rattle.zl_code.proofs.Common.{is_process, is_ready, map, sym, ◌++◌, ◌∙◌}
use Rattle.zl_explore.proofs.Filtered.{filtered_more}
use Rattle.zl_explore.specs.Orders.{one_if}
use Rattle.zl_explore.proofs.running.ready_pids.Goals as goal

pub loop-n-preserved : goal.loop-n-preserved
loop-n-preserved c = c.in_ok-push_if.ensures
    ∙ ((λ i. c.loop-n.invariant i ++ one_if (c.is_ready.ensures i) c.in-Some.pid)
    ∙ sym (filtered_more (is_process c.args.world.now.world is_ready) c.loop-n.n c.in-Some.pid (map (λ e. e.0) c.args.world.now.world.processes)
    (sym c.process_at.ensures.koid ∙ c.in-Some.is)))
