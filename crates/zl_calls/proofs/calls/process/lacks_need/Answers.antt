use Rattle.zl_calls.proofs.Common.{Image, action_here, ap, can_be_needed, is_allowing, is_among, job_at, list_any, not, rules, sym, ◌&&◌, ◌∙◌}
use Rattle.std.proofs.lemmas.Iterator.Search.{any_from_yields_List}
use Rattle.std.proofs.lemmas.Iterator.{YieldsList-from_slice}
use Rattle.zl_calls.proofs.calls.Needs.{any_needed}
use Rattle.zl_calls.proofs.calls.process.lacks_need.Goals as goal

pub returns-then-is_checked : goal.returns-then-is_checked
returns-then-is_checked c = rw (sym c.is_checked.ensures ∙ c.if-is_checked.true)
    (any_from_yields_List {all = can_be_needed}
    (λ need. is_among c.image-image.result.now.needs need && not (is_allowing (action_here (job_at c.args.objects.now.objects c.args.job) need))) _ _ _
    c.any.ensures.ran (YieldsList-from_slice _ c.iter.ensures.rest) (λ x b q k. search rules)
    ∙ (any_needed c.image-image.result.now c.len.ensures.in_range (λ need. not (is_allowing (action_here (job_at c.args.objects.now.objects c.args.job) need)))
    ∙ ap (λ (image : Image). list_any (λ need. not (is_allowing (action_here (job_at c.args.objects.now.objects c.args.job) need))) image.needs)
    c.image-image.ensures))
