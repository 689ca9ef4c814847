use Rattle.zl_command.proofs.Common.{IfOk-weaker, ap, app_of_fields, ap₂, with_rule, ◌∙◌}
use Rattle.zl_command.proofs.command.checking.Goals as goal

pub returns : goal.returns
returns c =
    IfOk-weaker c.arg.result _ _
    (λ made added. added.shape c.needed.ensures.local ∙ ap₂ with_rule (ap app_of_fields c.about.ensures ∙ c.new.ensures.app) c.needed.ensures.rule)
    c.arg.ensures
