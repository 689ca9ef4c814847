use Rattle.zl_asm.proofs.Common.{Resolves, held_by, length, ◌-◌}
use Rattle.zl_asm.proofs.draft.Draft.code.Given as goal

abbrev pub invariant-loop-entry : goal.invariant-loop-entry
invariant-loop-entry l = Resolves (held_by l.self) l.code.items

abbrev pub decreases-loop-entry : goal.decreases-loop-entry
decreases-loop-entry l = length l.self.sources.items - length l.code.items
