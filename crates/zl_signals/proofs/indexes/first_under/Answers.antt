use Rattle.zl_signals.proofs.Indexed.{first_under, none_under}
use Rattle.zl_signals.proofs.indexes.first_under.Goals as goal

pub returns-in_err-number : goal.returns-in_err-number
returns-in_err-number g c =
    rw c.from_residual.ensures (none_under g.K.Ord.cmp g.met.K.Ord.total c.args.index.now c.args.key c.range.result (c.range.ensures.in_range tt)
    (c.in_err-number.ensures {u = tt}).steps.0)

pub returns : goal.returns
returns g c =
    first_under g.K.Ord.cmp g.met.K.Ord.total c.args.index.now c.args.key c.range.result (c.range.ensures.in_range tt) c.in_ok-number.field-0.now _
    (c.in_ok-number.ensures {u = tt}).steps
