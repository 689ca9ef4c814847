use Rattle.std.proofs.Common.{arith}
use Rattle.zl_policy.proofs.Places.{set_more, set_same}
use Rattle.zl_policy.proofs.policy.Policy.set_unset.Goals as goal

pub returns-then-is_none : goal.returns-then-is_none
returns-then-is_none c =
    let unset = rw (c.get.ensures, ← c.place_of.ensures.place, ← c.self.view_is) at (c.if-is_none.ensures {u = tt}) in
    rw (← c.place_of.ensures.place, ← c.self.view_is)
    (set_more c.place_of.result c.args.action.now c.self.inside.actions (omega (arith, c.place_of.ensures.few, c.self.invariant)) unset)

pub returns-else-is_none : goal.returns-else-is_none
returns-else-is_none c = set_same _ c.args.action.now c.args.self.now (rw c.get.ensures at (c.if-is_none.ensures {u = tt}))
