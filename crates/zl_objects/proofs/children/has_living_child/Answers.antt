use Rattle.zl_objects.proofs.Common.{has_job_below, has_process_below, or_left, refl, sym, ◌∙◌}
use Rattle.zl_objects.proofs.Index.{any_either}
use Rattle.zl_objects.proofs.children.has_living_child.Goals as goal

pub returns-then-has_job_below : goal.returns-then-has_job_below
returns-then-has_job_below c =
    let m = c.args.by_koid.now.entries in
    c.if-has_job_below.true ∙ sym (any_either m c.args.job
    ∙ or_left (has_job_below m c.args.job) (has_process_below m c.args.job) (sym c.has_job_below.ensures ∙ c.if-has_job_below.true))

pub returns-else-has_job_below : goal.returns-else-has_job_below
returns-else-has_job_below c =
    c.has_process_below.ensures ∙ rw (any_either c.args.by_koid.now.entries c.args.job, ← c.has_job_below.ensures, c.if-has_job_below.false) refl
