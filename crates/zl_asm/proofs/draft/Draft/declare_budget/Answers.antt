use Rattle.zl_asm.proofs.Common.{held_by}
use Rattle.zl_asm.proofs.DraftHolds.{budget_held}
use Rattle.zl_asm.proofs.DraftRefuses.{budget_refused}
use Rattle.zl_asm.proofs.draft.Draft.declare_budget.Goals as goal

pub returns-then-self-clause-refused : goal.returns-then-self-clause-refused
returns-then-self-clause-refused c = budget_refused (held_by c.args.self.now) c.args.steps c.if-self.true

pub returns-clause-held : goal.returns-clause-held
returns-clause-held c = budget_held (held_by c.args.self.now) c.set_budget.new.self c.args.steps c.set_budget.ensures c.requires.first c.if-self.false
