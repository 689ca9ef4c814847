use Rattle.zl_objects.proofs.Walks.{first_from, none_from}
use Rattle.zl_objects.proofs.killing.next_from.Goals as goal

pub returns-in_err-koid-clause-next : goal.returns-in_err-koid-clause-next
returns-in_err-koid-clause-next c =
    rw (c.from_residual.ensures)
    (none_from c.args.by_koid.now c.args.from c.range.result (c.range.ensures.in_range tt) (c.in_err-koid.ensures {u = tt}).steps.0)

pub returns-clause-next : goal.returns-clause-next
returns-clause-next c =
    first_from c.args.by_koid.now c.args.from c.range.result _ (c.in_ok-koid.koid.now, _) (c.range.ensures.in_range tt) (c.in_ok-koid.ensures {u = tt}).steps
