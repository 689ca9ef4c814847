use Rattle.zl_asm.proofs.Common.{SourceLine, ap, kept_value, map}
use Rattle.zl_asm.proofs.DraftHolds.{nothing_held}
use Rattle.zl_asm.proofs.draft.Draft.new.Goals as goal

pub returns-clause-nothing_said : goal.returns-clause-nothing_said
returns-clause-nothing_said c =
    rw c.new.ensures (nothing_held _ _ (ap (map _) c.with_hasher.ensures.empty) (ap (map (λ (s : SourceLine). kept_value s.kept)) c.new-3.ensures.items))
