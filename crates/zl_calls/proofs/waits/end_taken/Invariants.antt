use Rattle.zl_calls.proofs.Common.{EndsWaits, take}
use Rattle.zl_calls.proofs.waits.TakenEnds.{is_over}
use Rattle.zl_calls.proofs.waits.end_taken.Given as goal

abbrev pub invariant-loop-handle : goal.invariant-loop-handle
invariant-loop-handle l = EndsWaits (is_over l.processes.list.items l.pid (take l.handle-index l.taken.handles.items)) l.initial.objects l.objects
