use Rattle.zl_verify.proofs.Common.{arith, sym, ◌∙◌}
use Rattle.zl_verify.proofs.Blocked.{count_marks}
use Rattle.zl_verify.proofs.Numbering.{fewer_one, given_one, stuck_one}
use Rattle.zl_verify.proofs.steps.give.Goals as goal

pub returns-in_default-clause-stuck : goal.returns-in_default-clause-stuck
returns-in_default-clause-stuck c =
    stuck_one _ _ _ c.requires.nested _ _ (omega (arith, c.requires.there, count_marks c.args.image.now.code)) _
    (rw c.mark_at-mark.ensures at (sym c.longest_of.ensures ∙ c.in_default.is))

pub returns-clause-given : goal.returns-clause-given
returns-clause-given c =
    given_one _ _ _ c.requires.nested _ (c.requires.long ∙ sym (count_marks c.args.image.now.code)) _
    (omega (arith, c.requires.there, count_marks c.args.image.now.code)) (sym c.is_some.ensures ∙ c.if-is_some.false) _ _
    (rw c.mark_at-mark.ensures at (sym c.longest_of.ensures ∙ c.in-Some.is)) c.requires.given

pub returns-clause-fewer : goal.returns-clause-fewer
returns-clause-fewer c =
    fewer_one _ _ _ c.requires.nested _ (c.requires.long ∙ sym (count_marks c.args.image.now.code)) _
    (omega (arith, c.requires.there, count_marks c.args.image.now.code)) (sym c.is_some.ensures ∙ c.if-is_some.false) _ _
    (rw c.mark_at-mark.ensures at (sym c.longest_of.ensures ∙ c.in-Some.is))
