use Rattle.zl_calls.proofs.Common.{HaveBegunBut, left_beside, refl}
use Rattle.zl_calls.proofs.processes.InOrder.{all_in_order}
use Rattle.zl_calls.proofs.processes.Started.{kept_started, left_started_too, map_started}
use Rattle.zl_calls.proofs.step.leaving.leave_listed.Goals as goal

pub invariant_of-processes : goal.invariant_of-processes
invariant_of-processes c =
    let begun : HaveBegunBut c.args.processes.now.unstarted.items c.leave_each.new.processes.items =
    rw c.leave_each.ensures
    (map_started (left_beside c.args.objects.now.objects) (left_started_too c.args.objects.now) c.args.processes.now.list.items
    c.args.processes.now.unstarted.items c.args.processes.now.started) in
    record {
      in_order = rw c.leave_each.ensures
          (all_in_order (left_beside c.args.objects.now.objects) (λ q. refl) c.args.processes.now.list.items c.args.processes.now.in_order);
      started = rw (c.keep_unstarted.ensures, c.deref-2.ensures.value)
          (kept_started c.leave_each.new.processes.items c.args.processes.now.unstarted.items begun);
    }
