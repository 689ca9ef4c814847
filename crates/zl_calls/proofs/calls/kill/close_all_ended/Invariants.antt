use Rattle.zl_calls.proofs.Common.{length, ◌≡◌}
use Rattle.zl_calls.proofs.parts.KillParts.{IsClosing}
use Rattle.zl_calls.proofs.calls.kill.close_all_ended.Given as goal

abbrev pub invariant-loop-place : goal.invariant-loop-place
invariant-loop-place l = record {
  closing : IsClosing l.initial.processes.list.items l.initial.objects l.place l.processes.list.items l.objects;
  long : length l.processes.list.items ≡ length l.initial.processes.list.items;
}
