use Rattle.zl_abs.proofs.Common.{bounds_in, sym, ◌∙◌}
use Rattle.zl_abs.proofs.RuleSteps.{local_there, call_there}
use Rattle.zl_abs.proofs.rules.steps_rounding.Goals as goal

pub returns-in-Some : goal.returns-in-Some
returns-in-Some c =
    (rw (c.target_of-target.ensures, c.local_rule-changes.ensures) at c.steps_from.ensures)
    ∙ sym (local_there (bounds_in c.args.bounds) c.args.image.now c.args.at _ c.in-Some.local c.in-Some.ensures.value)

pub returns-in-Some-call_at : goal.returns-in-Some-call_at
returns-in-Some-call_at c =
    c.steps_of_call.ensures ∙ sym (call_there (bounds_in c.args.bounds) c.args.image.now c.args.at _ c.in-Some-call_at.call c.in-Some-call_at.ensures.value)
