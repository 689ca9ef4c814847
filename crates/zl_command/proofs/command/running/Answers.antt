use Rattle.zl_command.proofs.Common.{IfOk-weaker, ap, app_of_fields, ap₂, codes, numbered, optional, with_rule, ◌∙◌, ◌≡◌}
use Rattle.clap.specs.Words.{rule_of}
use Rattle.zl_command.proofs.command.running.Goals as goal

pub returns : goal.returns
returns c =
    let start = ap app_of_fields c.about.ensures ∙ c.new.ensures.app in
    let first = c.in_ok-arg.ensures.shape c.needed.ensures.local ∙ ap₂ with_rule start c.needed.ensures.rule in
    let second = c.in_ok-arg-2.ensures.shape c.numbered-workers.ensures.local ∙ ap₂ with_rule first c.numbered-workers.ensures.rule in
    let third = c.in_ok-arg-3.ensures.shape c.numbered-limit.ensures.local ∙ ap₂ with_rule second c.numbered-limit.ensures.rule in
    let burst_is : rule_of c.required.result ≡ optional (numbered (codes "burst") 1 1000000)
    = ap rule_of c.required.ensures ∙ ap optional c.numbered-burst.ensures.rule in
    let local = ap (λ a. a.global) c.required.ensures ∙ c.numbered-burst.ensures.local in
    IfOk-weaker c.arg-4.result _ _ (λ made added. added.shape local ∙ ap₂ with_rule third burst_is) c.arg-4.ensures
