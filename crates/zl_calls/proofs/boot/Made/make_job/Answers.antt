use Rattle.zl_calls.proofs.Common.{sym, ◌∙◌}
use Rattle.zl_calls.proofs.boot.BootJobs.{job_fault, job_makes, no_parent, too_deep}
use Rattle.zl_calls.proofs.boot.Made.make_job.Goals as goal

pub returns-then-not-is_job-clause-err : goal.returns-then-not-is_job-clause-err
returns-then-not-is_job-clause-err c = λ lib. no_parent lib c.args.self.now c.requires c.args.parent (sym c.is_job.ensures ∙ c.if-not-is_job.true)

pub returns-in_default-clause-err : goal.returns-in_default-clause-err
returns-in_default-clause-err c =
    λ lib. too_deep lib c.args.self.now c.requires c.args.parent (sym c.is_job.ensures ∙ c.if-not-is_job.false)
    (λ x is. c.in_default.not-Ok x (c.job_below.ensures ∙ is))

pub returns-clause-ok : goal.returns-clause-ok
returns-clause-ok c = λ lib. job_makes lib c.args.self.now c.requires c.args.parent (sym c.is_job.ensures ∙ c.if-not-is_job.false) c.in-Ok.child
    (sym c.job_below.ensures ∙ c.in-Ok.is)
    c.make_object.result c.make_object.new.self c.make_object.ensures.left c.make_object.ensures.made

pub returns-clause-err : goal.returns-clause-err
returns-clause-err c = λ lib. rw (job_fault lib c.args.self.now c.requires c.args.parent (sym c.is_job.ensures ∙ c.if-not-is_job.false) c.in-Ok.child
    (sym c.job_below.ensures ∙ c.in-Ok.is)) c.make_object.ensures.err
