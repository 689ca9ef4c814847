use Rattle.zl_objects.proofs.Common.{Objects, YieldsList-from_filter, YieldsList-from_rest, ap, descendants, filter, is_below, keys, map, nth_from_yields_List}
use Rattle.zl_objects.proofs.Common.{rules, slice_get, ◌∙◌}
use Rattle.zl_objects.proofs.objects.Objects.below.Goals as goal

pub returns : goal.returns
unfolding descendants
returns c =
    c.copied.ensures
    ∙ (nth_from_yields_List {s = c.filter.result}
    {all = filter (is_below c.self.inside.store.by_koid.entries c.args.job) (keys c.self.inside.store.by_koid)} _ _ c.args.n c.nth.ensures.ran
    (YieldsList-from_filter _ (is_below c.self.inside.store.by_koid.entries c.args.job) (YieldsList-from_rest (keys c.self.inside.store.by_koid)
    (c.filter.ensures.source ∙ c.keys.ensures.rest)) c.filter.ensures.closure (λ x b q k. search rules))
    ∙ ap (λ (r : Objects). slice_get (filter (is_below r.objects c.args.job) (map (λ e. e.0) r.objects)) c.args.n) c.self.view_is)
