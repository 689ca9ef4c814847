use Rattle.zl_objects.proofs.Common.{◌∙◌}
use Rattle.zl_objects.proofs.Budget.{handle_went}
use Rattle.zl_objects.proofs.CalmChanges.{less_still, still_then}
use Rattle.zl_objects.proofs.releasing.let_go_all.Goals as goal

pub loop-handle-preserved : goal.loop-handle-preserved
loop-handle-preserved c = record {
  goes = handle_went c.args.handles.now c.loop-handle.handle-index _ c.loop-handle-test.true c.args.by_koid.now.entries c.loop-handle.by_koid.entries
      c.let_go.new.by_koid.entries c.args.dying.now.items c.loop-handle.dying.items c.let_go.new.dying.items c.loop-handle.invariant.goes c.let_go.ensures.goes;
  still = still_then _ _ _ c.loop-handle.invariant.still (less_still c.loop-handle.by_koid.entries c.let_go.new.by_koid.entries _ c.let_go.ensures.objects);
  capacity = c.let_go.ensures.capacity ∙ c.loop-handle.invariant.capacity;
}
