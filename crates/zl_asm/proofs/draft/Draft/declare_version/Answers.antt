use Rattle.zl_asm.proofs.Common.{IsTrue, held_by, is_kept_in_range}
use Rattle.zl_asm.proofs.DraftAdds.{none_kept}
use Rattle.zl_asm.proofs.DraftHolds.{version_held}
use Rattle.zl_asm.proofs.DraftRefuses.{version_refused}
use Rattle.zl_asm.proofs.draft.Draft.declare_version.Goals as goal

pub invariant_of-self-clause-fit : goal.invariant_of-self-clause-fit
invariant_of-self-clause-fit c =
    let i = c.set_version.new.self in
    none_kept (λ s. IsTrue (is_kept_in_range i.version i.raw s.kept)) c.args.self.now.sources.items
    c.args.self.now.has_begun c.args.self.now.unbegun c.if-self.false

pub returns-then-self-clause-refused : goal.returns-then-self-clause-refused
returns-then-self-clause-refused c = version_refused (held_by c.args.self.now) c.if-self.true

pub returns-clause-held : goal.returns-clause-held
returns-clause-held c = version_held (held_by c.args.self.now) c.set_version.new.self c.set_version.ensures c.requires.first c.if-self.false
