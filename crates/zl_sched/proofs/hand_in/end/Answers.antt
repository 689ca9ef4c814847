use Rattle.zl_sched.proofs.Common.{[], append-nil, refl, sym, ◌∷◌}
use Rattle.zl_sched.proofs.hand_in.end.Goals as goal

pub returns-then-is_only_local : goal.returns-then-is_only_local
returns-then-is_only_local c =
    rw c.if-is_only_local.true (record { last = []; items_are = sym (append-nil c.args.items.now.items); ends = (refl, refl); changes = refl })

pub returns : goal.returns
returns c =
    let did = (c.in-Some.ensures {u = tt}).ran in
    rw c.if-is_only_local.false (record {
      last = c.in-Some.item ∷ [];
      items_are = c.push_reserved.ensures.items;
      ends = (c.in-Some.item, refl, did.takes, (c.in-Some.ensures {u = tt}).own);
      changes = (did.tells, (c.in-Some.ensures {u = tt}).killed, (c.in-Some.ensures {u = tt}).told);
    })
