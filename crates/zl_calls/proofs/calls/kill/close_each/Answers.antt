use Rattle.zl_calls.proofs.Common.{arith}
use Rattle.zl_calls.proofs.processes.InOrder.{closed_pid, set_in_order}
use Rattle.zl_calls.proofs.processes.Started.{closed_started, set_started}
use Rattle.zl_calls.proofs.parts.KillLists.{closed_each, one_closes, passed_over}
use Rattle.zl_calls.proofs.calls.kill.close_each.Goals.{in-Some, in_default}
use Rattle.zl_calls.proofs.calls.kill.close_each.Goals as goal

pub invariant_of-processes : goal.invariant_of-processes
invariant_of-processes c = record {
  in_order = set_in_order c.index_mut.result.now c.close_if_ended.new.process (closed_pid _ _ _ _ c.close_if_ended.ensures)
      c.loop-koid.processes.list.items c.in-Some.place c.index_mut.ensures.value c.loop-koid.processes.in_order;
  started = set_started c.index_mut.result.now c.close_if_ended.new.process (closed_started _ _ _ _ c.close_if_ended.ensures)
      c.loop-koid.processes.list.items c.in-Some.place c.index_mut.ensures.value _ c.loop-koid.processes.started;
}

pub loop-koid-preserved : goal.loop-koid-preserved
loop-koid-preserved c = elim c.match-place_from.branch [
  | in-Some w ↦ rw (w.processes-is, w.objects-is, w.from-is)
      (one_closes c.args.processes.now.list.items c.args.objects.now c.args.koids.now c.requires.rising c.requires.others c.loop-koid.koid-index
      c.loop-koid.from c.loop-koid.processes.list.items c.loop-koid.objects c.loop-koid.invariant c.loop-koid.processes.in_order
      w.in-Some.place w.index_mut.result.now w.close_if_ended.new.process w.close_if_ended.new.objects w.in-Some.ensures.behind w.in-Some.ensures.found
      w.index_mut.ensures.value w.close_if_ended.ensures)
  | in_default w ↦ rw (w.processes-is, w.objects-is, w.from-is)
      (passed_over c.args.processes.now.list.items c.args.objects.now c.args.koids.now c.requires.rising c.requires.others c.loop-koid.koid-index
      c.loop-koid.from c.loop-koid.processes.list.items c.loop-koid.objects c.loop-koid.invariant (w.in_default.ensures {u = tt}).missing)
]

pub returns : goal.returns
returns c =
    closed_each c.args.processes.now.list.items c.args.objects.now c.args.koids.now c.requires.rising c.requires.others c.loop-koid.koid-index
    c.loop-koid.from c.loop-koid.processes.list.items c.loop-koid.objects c.loop-koid.invariant (omega (arith, c.loop-koid-test.false))
