use Rattle.zl_calls.proofs.Common.{arith, eqb-true, sym}
use Rattle.zl_calls.proofs.processes.Started.{all_left_alone}
use Rattle.zl_calls.proofs.step.leaving.leave.Goals as goal

pub returns-else-not-is_empty : goal.returns-else-not-is_empty
returns-else-not-is_empty c =
    sym (all_left_alone c.args.objects.now c.args.processes.now.list.items c.args.processes.now.unstarted.items
    (omega (arith, eqb-true _ 0 (sym c.if-not-is_empty.ensures), c.args.processes.now.unstarted.ok.0)) c.args.processes.now.started)
