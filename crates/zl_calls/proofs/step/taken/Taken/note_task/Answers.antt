use Rattle.zl_calls.proofs.Common.{ListsTask, map, object_entry, subst, ℕ}
use Rattle.zl_calls.proofs.tables.TaskBy.{lists_seen}
use Rattle.zl_calls.proofs.step.taken.Taken.note_task.Goals as goal

pub returns-clause-noted : goal.returns-clause-noted
returns-clause-noted c = subst (λ (k : ℕ). ListsTask (map object_entry c.args.objects.now.objects) k c.list_told.result) c.named_by.ensures
    (lists_seen c.args.objects.now.objects c.named_by.result c.list_told.result c.list_told.ensures.koid c.list_told.ensures.task)
