use Rattle.zl_code.proofs.Common.{call_name, calls, rules, ◌∙◌}
use Rattle.std.proofs.lemmas.Iterator.Search.{find_from_yields_List}
use Rattle.std.proofs.lemmas.Iterator.{YieldsList-from_slice}
use Rattle.zl_code.proofs.CallList.{call_among}
use Rattle.zl_rights.proofs.Named.{by_name, found, missing}
use Rattle.zl_code.proofs.history.CallName.named.Goals as goal

pub returns-clause-some : goal.returns-clause-some
returns-clause-some c =
    let is = find_from_yields_List {all = calls} (by_name call_name calls c.args.name.now) _ _ _ c.find.ensures.ran
    (YieldsList-from_slice _ (c.iter.ensures.rest ∙ c.all.ensures)) (λ x b q k. search rules) in
    found call_name calls c.args.name.now c.copied.result (c.copied.ensures ∙ is)

pub returns-clause-none : goal.returns-clause-none
returns-clause-none c =
    let is = find_from_yields_List {all = calls} (by_name call_name calls c.args.name.now) _ _ _ c.find.ensures.ran
    (YieldsList-from_slice _ (c.iter.ensures.rest ∙ c.all.ensures)) (λ x b q k. search rules) in
    missing call_name calls c.args.name.now call_among c.copied.result (c.copied.ensures ∙ is)
