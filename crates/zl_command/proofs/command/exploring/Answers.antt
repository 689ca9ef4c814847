use Rattle.zl_command.proofs.Common.{IfOk-weaker, ap, app_of_fields, ap₂, codes, numbered, optional, with_rule, ◌∙◌, ◌≡◌}
use Rattle.clap.specs.Words.{rule_of}
use Rattle.zl_command.proofs.command.exploring.Goals as goal

pub returns : goal.returns
returns c =
    let first = c.in_ok-arg.ensures.shape c.needed.ensures.local ∙ ap₂ with_rule (ap app_of_fields c.about.ensures ∙ c.new.ensures.app) c.needed.ensures.rule in
    let worlds_is : rule_of c.required.result ≡ optional (numbered (codes "worlds") 1 1000000000)
    = ap rule_of c.required.ensures ∙ ap optional c.numbered-worlds.ensures.rule in
    let worlds_local = ap (λ a. a.global) c.required.ensures ∙ c.numbered-worlds.ensures.local in
    let second = c.in_ok-arg-2.ensures.shape worlds_local ∙ ap₂ with_rule first worlds_is in
    let third = c.in_ok-arg-3.ensures.shape c.repeated.ensures.local ∙ ap₂ with_rule second c.repeated.ensures.rule in
    let fourth = c.in_ok-arg-4.ensures.shape c.single.ensures.local ∙ ap₂ with_rule third c.single.ensures.rule in
    let from_is : rule_of c.required-2.result ≡ optional (numbered (codes "from") 0 1000)
    = ap rule_of c.required-2.ensures ∙ ap optional c.numbered-from.ensures.rule in
    let from_local = ap (λ a. a.global) c.required-2.ensures ∙ c.numbered-from.ensures.local in
    IfOk-weaker c.arg-5.result _ _ (λ made added. added.shape from_local ∙ ap₂ with_rule fourth from_is) c.arg-5.ensures
