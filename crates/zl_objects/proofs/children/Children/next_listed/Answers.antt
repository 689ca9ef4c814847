use Rattle.zl_objects.proofs.Descending.{first_listed, none_listed}
use Rattle.zl_objects.proofs.children.Children.next_listed.Goals as goal

pub returns-in_err-koid : goal.returns-in_err-koid
returns-in_err-koid c =
    rw (c.from_residual.ensures)
    (none_listed c.args.self.now c.args.job c.args.last c.range.result (c.range.ensures.in_range tt) (c.in_err-koid.ensures {u = tt}).steps.0)

pub returns : goal.returns
returns c =
    first_listed c.args.self.now c.args.job c.args.last c.range.result (c.range.ensures.in_range tt) c.in_ok-koid.field-0.now _
    (c.in_ok-koid.ensures {u = tt}).steps
