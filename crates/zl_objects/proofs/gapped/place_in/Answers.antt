use Rattle.zl_objects.proofs.Common.{IsSearchInRange, Listed, rules, subst, ℕ, ◌∙◌}
use Rattle.std.proofs.lemmas.List.Sorted.{answers_always}
use Rattle.zl_objects.proofs.Searching.{searched}
use Rattle.zl_objects.proofs.gapped.place_in.Goals as goal

-- the closure gives an entry's order
pub returns : goal.returns
returns c =
    let facts = c.binary_search_by_key.ensures in
    let by_order = facts.position (λ x. x.order) (answers_always _ _ _ (λ f a r g called. search rules)) in
    c.ok.ensures.value ∙ searched (λ (x : Listed). x.order) (λ (x : Listed). x.wait) c.args.order c.args.part.now.items
    c.binary_search_by_key.result c.requires
    (subst (λ (n : ℕ). IsSearchInRange c.binary_search_by_key.result n) c.args.part.now.ok.0 facts.bound) by_order
