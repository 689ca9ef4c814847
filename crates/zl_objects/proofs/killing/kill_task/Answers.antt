use Rattle.zl_objects.proofs.Common.{◌∙◌}
use Rattle.zl_objects.proofs.Descending.{all_among}
use Rattle.zl_objects.proofs.killing.kill_task.Goals as goal

pub returns-then-list-clause-killed : goal.returns-then-list-clause-killed
returns-then-list-clause-killed c =
    c.kill_each.ensures.killed ∙ all_among c.args.by_koid.now.entries c.args.task c.requires.in_order c.as_slice.result.now
    (rw c.as_slice.ensures.value (c.requires.listed c.if-list.true))
