use Rattle.zl_asm.proofs.Common.{held_by}
use Rattle.zl_asm.proofs.DraftHolds.{memory_held}
use Rattle.zl_asm.proofs.DraftRefuses.{memory_refused}
use Rattle.zl_asm.proofs.draft.Draft.declare_memory.Goals as goal

pub returns-then-self-clause-refused : goal.returns-then-self-clause-refused
returns-then-self-clause-refused c = memory_refused (held_by c.args.self.now) c.args.bytes c.if-self.true

pub returns-clause-held : goal.returns-clause-held
returns-clause-held c = memory_held (held_by c.args.self.now) c.set_memory.new.self c.args.bytes c.set_memory.ensures c.requires.first c.if-self.false
