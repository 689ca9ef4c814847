use Rattle.zl_calls.proofs.Common.{Taken, ap}
use Rattle.zl_calls.proofs.tables.ChildBy.{child_noted}
use Rattle.zl_calls.proofs.tables.TaskBy.{task_noted}
use Rattle.zl_calls.proofs.step.note_taken.Goals as goal

pub returns-then-is_start-clause-child : goal.returns-then-is_start-clause-child
returns-then-is_start-clause-child c =
    child_noted c.args.call.now c.args.process.now.cpu c.args.process.now.table.entries c.note_child.new.self
    (ap (λ (t : Taken). t.started) c.note_child.ensures)

pub returns-then-is_kill-clause-task : goal.returns-then-is_kill-clause-task
returns-then-is_kill-clause-task c =
    task_noted c.args.call.now c.args.process.now.cpu c.args.process.now.table.entries c.args.objects.now c.note_task.new.self c.note_task.ensures.noted
