use Rattle.zl_objects.proofs.Common.{All, false, is_due, take, ◌≡◌}
use Rattle.zl_objects.proofs.sleepers.Sleepers.due_anywhere.Given as goal

abbrev pub invariant-loop-place : goal.invariant-loop-place
invariant-loop-place l = All (λ s. is_due l.by_koid.entries s.awaited ≡ false) (take l.place l.self.list.items)
