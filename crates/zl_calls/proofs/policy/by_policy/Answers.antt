use Rattle.zl_calls.proofs.Common.{site_of}
use Rattle.zl_calls.proofs.policy.Verdicts.{denied_so}
use Rattle.zl_calls.proofs.policy.by_policy.Goals as goal

pub returns-in-Denied-clause-policed : goal.returns-in-Denied-clause-policed
returns-in-Denied-clause-policed g c =
    denied_so c.deny.result (site_of c.args.call.now c.args.process.now.cpu) c.args.process.now c.deny.new.process c.args.objects.now
    c.deny.ensures.denied (rw c.in-Denied.is at (c.in_ok-judge.ensures {u = tt}))
