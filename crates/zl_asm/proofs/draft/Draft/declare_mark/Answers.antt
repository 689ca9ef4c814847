use Rattle.zl_asm.proofs.Common.{held_by, sym}
use Rattle.zl_asm.proofs.DraftHolds.{mark_held}
use Rattle.zl_asm.proofs.DraftRefuses.{mark_refused}
use Rattle.zl_asm.proofs.draft.Draft.declare_mark.Goals as goal

pub returns-then-is_raw-clause-refused : goal.returns-then-is_raw-clause-refused
returns-then-is_raw-clause-refused c = mark_refused (held_by c.args.self.now) (sym c.if-is_raw.ensures)

pub returns-clause-held : goal.returns-clause-held
returns-clause-held c = mark_held (held_by c.args.self.now) c.mark_raw.new.self c.mark_raw.ensures c.requires.first (sym c.if-is_raw.ensures)
