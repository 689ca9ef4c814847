use Rattle.zl_explore.proofs.Keeping.{world_told}
use Rattle.zl_explore.proofs.Lists.{there_is}
use Rattle.zl_explore.proofs.kept.Kept.tell_world.Goals as goal

pub returns-in-Ok-taken_by-clause-leads : goal.returns-in-Ok-taken_by-clause-leads
returns-in-Ok-taken_by-clause-leads c =
    let k = c.args.self.now in
    let (n, there) = there_is k.nodes.items k.widened c.requires.within in
    world_told k c.requires.whole (record { turns = c.in-Ok-taken_by.turns; together = c.args.together }) c.requires.sees n there c.in-Ok.turns.items
    (c.in-Ok.ensures {u = tt}) (rw c.deref.ensures.value at (c.in-Ok-taken_by.ensures {u = tt}))
