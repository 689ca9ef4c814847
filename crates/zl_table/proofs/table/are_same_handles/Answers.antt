use Rattle.std.proofs.Common.{rules}
use Rattle.zl_table.proofs.Compared.{compared, same_moved}
use Rattle.zl_table.proofs.table.are_same_handles.Goals as goal

pub returns : goal.returns
returns c =
    same_moved c.eq.result 0 c.args.one.now.slots c.args.other.now.slots (rw (c.iter.ensures.rest, c.iter-2.ensures.rest) at
    (compared (λ item. (item.0, item.1.now)) _ (λ x y. search rules) _ _ _ c.eq.ensures.ran))
