use Rattle.zl_asm.proofs.Common.{Declares, Directive, Holds, held_by, inr, subst, sym, true}
use Rattle.zl_asm.proofs.DraftHolds.{need_held}
use Rattle.zl_asm.proofs.DraftRefuses.{behind_refused}
use Rattle.zl_asm.proofs.draft.Draft.declare.Goals as goal

pub returns-then-self-clause-refused : goal.returns-then-self-clause-refused
returns-then-self-clause-refused c = inr (behind_refused (held_by c.args.self.now) c.args.directive c.if-self.true)

pub returns-in-Need-clause-held : goal.returns-in-Need-clause-held
returns-in-Need-clause-held c =
    subst (λ (x : Directive). Holds (held_by c.args.self.now) (Declares x) (record (held_by c.args.self.now) { image = c.add_need.new.self; has_begun = true }))
    (sym c.in-Need.is) (need_held (held_by c.args.self.now) c.add_need.new.self c.in-Need.condition c.add_need.ensures c.if-self.false)
