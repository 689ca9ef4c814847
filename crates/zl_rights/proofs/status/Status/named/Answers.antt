use Rattle.zl_rights.proofs.Common.{rules, ◌∙◌}
use Rattle.zl_rights.specs.Names.{status_name}
use Rattle.zl_rights.specs.Statuses.{all_statuses}
use Rattle.std.proofs.lemmas.Iterator.Search.{find_from_yields_List}
use Rattle.std.proofs.lemmas.Iterator.{YieldsList-from_slice}
use Rattle.zl_rights.proofs.Named.{by_name, found, missing, status_among}
use Rattle.zl_rights.proofs.status.Status.named.Goals as goal

pub returns-clause-some : goal.returns-clause-some
returns-clause-some c =
    let is = find_from_yields_List {all = all_statuses} (by_name status_name all_statuses c.args.name.now) _ _ _ c.find.ensures.ran
    (YieldsList-from_slice _ (c.iter.ensures.rest ∙ c.all.ensures)) (λ x b q k. search rules) in
    found status_name all_statuses c.args.name.now c.copied.result (c.copied.ensures ∙ is)

pub returns-clause-none : goal.returns-clause-none
returns-clause-none c =
    let is = find_from_yields_List {all = all_statuses} (by_name status_name all_statuses c.args.name.now) _ _ _ c.find.ensures.ran
    (YieldsList-from_slice _ (c.iter.ensures.rest ∙ c.all.ensures)) (λ x b q k. search rules) in
    missing status_name all_statuses c.args.name.now status_among c.copied.result (c.copied.ensures ∙ is)
