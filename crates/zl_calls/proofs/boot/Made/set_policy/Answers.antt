use Rattle.zl_calls.proofs.Common.{sym, ◌∙◌}
use Rattle.zl_calls.proofs.boot.BootJobs.{conflicting, has_one, no_such_job, policy_makes}
use Rattle.zl_calls.proofs.boot.Made.set_policy.Goals as goal

pub returns-then-not-is_job-clause-err : goal.returns-then-not-is_job-clause-err
returns-then-not-is_job-clause-err c =
    λ lib. no_such_job lib c.args.self.now c.requires c.args.job c.args.condition c.args.action (sym c.is_job.ensures ∙ c.if-not-is_job.true)

pub returns-then-has_children-clause-err : goal.returns-then-has_children-clause-err
returns-then-has_children-clause-err c =
    λ lib. has_one lib c.args.self.now c.requires c.args.job c.args.condition c.args.action (sym c.is_job.ensures ∙ c.if-not-is_job.false)
    (sym c.has_children.ensures ∙ c.if-has_children.true)

pub returns-in-Ok-clause-ok : goal.returns-in-Ok-clause-ok
returns-in-Ok-clause-ok c =
    λ lib. policy_makes lib c.args.self.now c.requires c.args.job c.args.condition c.args.action (sym c.is_job.ensures ∙ c.if-not-is_job.false)
    (sym c.has_children.ensures ∙ c.if-has_children.false) (sym c.set_policy.ensures.answer ∙ c.in-Ok.is) c.set_policy.new.self (c.in-Ok.ensures {u = tt}).ok

pub returns-in-Err-clause-err : goal.returns-in-Err-clause-err
returns-in-Err-clause-err c =
    λ lib. conflicting lib c.args.self.now c.requires c.args.job c.args.condition c.args.action (sym c.is_job.ensures ∙ c.if-not-is_job.false)
    (sym c.has_children.ensures ∙ c.if-has_children.false) c.in-Err.field-0 (sym c.set_policy.ensures.answer ∙ c.in-Err.is)
