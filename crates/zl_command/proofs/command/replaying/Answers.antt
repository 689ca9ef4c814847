use Rattle.zl_command.proofs.Common.{IfOk-weaker, ap, app_of_fields, ap₂, with_rule, ◌∙◌}
use Rattle.zl_command.proofs.command.replaying.Goals as goal

pub returns : goal.returns
returns c =
    let first = c.in_ok-arg.ensures.shape c.needed.ensures.local ∙ ap₂ with_rule (ap app_of_fields c.about.ensures ∙ c.new.ensures.app) c.needed.ensures.rule in
    IfOk-weaker c.arg-2.result _ _ (λ made added. added.shape c.needed-2.ensures.local ∙ ap₂ with_rule first c.needed-2.ensures.rule) c.arg-2.ensures
