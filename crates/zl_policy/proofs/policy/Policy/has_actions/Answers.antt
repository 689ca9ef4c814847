use Rattle.std.proofs.Common.{rules, ◌∙◌, ap}
use Rattle.std.specs.Prelude.{is_some, not}
use Rattle.std.proofs.lemmas.Iterator.Search.{any_from_yields_List}
use Rattle.std.proofs.lemmas.Iterator.{YieldsList-from_slice}
use Rattle.zl_rights.specs.Signals.{is_empty}
use Rattle.zl_policy.proofs.Places.{any_set}
use Rattle.zl_policy.proofs.policy.Policy.has_actions.Goals as goal

pub returns : goal.returns
returns c =
    any_from_yields_List {all = c.self.inside.actions} (λ x. is_some x) _ _ _ c.any.ensures.ran (YieldsList-from_slice _ c.iter.ensures.rest)
    (λ x b q k. search rules)
    ∙ (any_set 0 c.self.inside.actions ∙ ap (λ p. not (is_empty p)) c.self.view_is)
