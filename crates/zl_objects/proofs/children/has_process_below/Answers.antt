use Rattle.zl_objects.proofs.Common.{YieldsList-from_rest, any_from_yields_List, filter, get, has_process_below, is_process_below, passes_in, rules, ◌∙◌}
use Rattle.zl_objects.proofs.Index.{any_child, in_range}
use Rattle.zl_objects.proofs.children.has_process_below.Goals as goal

pub returns : goal.returns
unfolding has_process_below
returns c =
    any_from_yields_List (λ x. passes_in (is_process_below c.args.job) (get c.args.by_koid.now.entries x.1)) _ _ _ c.any.ensures.ran
    (YieldsList-from_rest (filter (in_range c.args.job) c.args.children.now.processes.keys) (rw (c.new.ensures.start, c.new.ensures.end) at
    (c.range.ensures.between c.new.ensures.exhausted))) (λ x b q k. search rules)
    ∙ any_child (is_process_below c.args.job) c.args.children.now.processes c.args.by_koid.now.entries c.args.job c.requires.in_order
    (λ k o at. (c.requires.listed k o at).processes c.args.job)
