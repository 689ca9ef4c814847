use Rattle.std.proofs.Common.{rules, ◌∙◌, ap}
use Rattle.std.specs.List.{list_any}
use Rattle.std.proofs.lemmas.Iterator.Search.{any_from_yields_List}
use Rattle.std.proofs.lemmas.Iterator.{YieldsList-from_slice}
use Rattle.zl_rights.specs.Map.{get}
use Rattle.zl_rights.specs.Numbers.{condition_number}
use Rattle.zl_policy.specs.Policies.{conflicts, is_other}
use Rattle.zl_policy.proofs.Places.{any_numbered}
use Rattle.zl_policy.proofs.policy.Policy.conflicts.Goals as goal

pub returns : goal.returns
unfolding conflicts
returns c =
    any_from_yields_List {all = c.stands_for.result.now} (λ x. is_other c.args.action.now (get c.args.self.now (condition_number x))) _ _ _ c.any.ensures.ran
    (YieldsList-from_slice _ c.iter.ensures.rest) (λ x b q k. search rules)
    ∙ (any_numbered condition_number (λ n. is_other c.args.action.now (get c.args.self.now n)) c.stands_for.result.now
    ∙ ap (λ ns. list_any (λ n. is_other c.args.action.now (get c.args.self.now n)) ns) c.stands_for.ensures)
