use Rattle.zl_code.proofs.Common.{ap, map, map-append, [], ◌++◌, ◌∙◌, ◌∷◌}
use Rattle.zl_explore.specs.Searching.{States}
use Rattle.zl_explore.proofs.kept.Kept.keep_told.Goals as goal

pub returns-clause-ok : goal.returns-clause-ok
returns-clause-ok c =
    ap (map (λ states. states.items)) c.in_ok-push-2.ensures.items
    ∙ (map-append (λ states. states.items) c.args.self.now.told.items (c.in_ok-kept.kept ∷ [])
    ∙ ap (λ (x : States). map (λ states. states.items) c.args.self.now.told.items ++ (x ∷ []))
    (c.in_ok-kept.ensures.items_if_clones_equal (λ x y h i. (h.0 i, h.1 i))))
