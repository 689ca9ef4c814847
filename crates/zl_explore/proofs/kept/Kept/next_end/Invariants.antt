use Rattle.zl_code.proofs.Common.{◌≡◌, ◌≤◌}
use Rattle.zl_explore.specs.Kept.{IsWhole, told_of}
use Rattle.zl_explore.proofs.kept.Kept.next_end.Given as goal

abbrev pub invariant-loop : goal.invariant-loop
invariant-loop l =
    IsWhole l.self × (l.self.root ≡ l.initial.self.root) × (l.self.part ≡ l.initial.self.part) × (l.self.never ≡ l.initial.self.never)
    × (told_of l.self ≡ told_of l.initial.self) × (l.self.most ≡ l.initial.self.most) × (l.self.widened ≡ l.counter) × (l.initial.self.widened ≤ l.self.widened)
