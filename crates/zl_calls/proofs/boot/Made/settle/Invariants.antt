use Rattle.zl_calls.proofs.Common.{◌≡◌}
use Rattle.zl_calls.proofs.boot.BootConsistent.{IsSwept}
use Rattle.zl_calls.proofs.boot.Made.settle.Given as goal

abbrev pub invariant-loop-koid : goal.invariant-loop-koid
invariant-loop-koid l = record {
  swept : IsSwept l.initial.self.objects l.self.objects l.koid;
  processes : l.self.processes.items ≡ l.initial.self.processes.items;
}
