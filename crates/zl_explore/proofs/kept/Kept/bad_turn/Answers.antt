use Rattle.zl_code.proofs.Common.{refl}
use Rattle.zl_explore.proofs.Keeping.{bad_told}
use Rattle.zl_explore.proofs.kept.Kept.bad_turn.Goals as goal

pub returns-in-Ok-push-clause-leads : goal.returns-in-Ok-push-clause-leads
returns-in-Ok-push-clause-leads c =
    bad_told c.args.self.now c.requires.whole c.args.pid c.args.bad c.requires.names c.in-Ok.turns.items c.in-Ok-taken_by.turns.items
    (c.in-Ok.ensures {u = tt}) (rw c.deref.ensures.value at (c.in-Ok-taken_by.ensures {u = tt}))
    (record { turns = c.push.new.self; bad = c.args.bad }) (c.in-Ok-push.ensures {u = tt}).items refl
