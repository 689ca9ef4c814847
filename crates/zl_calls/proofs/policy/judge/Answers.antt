use Rattle.zl_calls.proofs.Common.{None, Some, ap, fault_of, site_of, sym, verdict_on, ◌∙◌, ◌≡◌}
use Rattle.zl_calls.proofs.policy.Examining.{judged}
use Rattle.zl_calls.proofs.policy.Verdicts.{at_site, unset}
use Rattle.zl_calls.proofs.policy.judge.Goals as goal

pub returns-then-not-has_policy : goal.returns-then-not-has_policy
returns-then-not-has_policy g c =
    at_site (site_of c.args.call.now c.args.process.now.cpu)
    (λ s. None ≡ verdict_on c.args.process.now.table.entries c.args.objects.now.objects c.args.process.now.pid s.request)
    (λ s. sym (unset c.args.process.now.table.entries c.args.objects.now.objects c.args.process.now.pid c.in_ok-job.job s.request c.in_ok-job.ensures
    (sym c.has_policy.ensures ∙ c.if-not-has_policy.true)))

pub returns-in-Ok : goal.returns-in-Ok
returns-in-Ok g c =
    judged c.args.process.now.table.entries c.args.objects.now.objects c.args.process.now.pid c.in_ok-job.job c.args.call.now c.args.process.now.cpu _ _ None
    c.in_ok-job.ensures c.row.ensures.row (sym (ap fault_of c.in-Ok.is) ∙ c.examine.ensures) c.on_making.ensures

pub returns-in-Err : goal.returns-in-Err
returns-in-Err g c =
    judged c.args.process.now.table.entries c.args.objects.now.objects c.args.process.now.pid c.in_ok-job.job c.args.call.now c.args.process.now.cpu _ _
    (Some c.in-Err.fault) c.in_ok-job.ensures c.row.ensures.row (sym (ap fault_of c.in-Err.is) ∙ c.examine.ensures) c.on_fault.ensures
