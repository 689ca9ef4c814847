use Rattle.zl_sched.proofs.Common.{List, ap, append-nil, arith, joining, length, length-append, not, one_if, refl, sym, ℕ}
use Rattle.zl_sched.proofs.Common.{◌++◌, ◌==◌, ◌∙◌, ◌≡◌}
use Rattle.zl_sched.proofs.Joining.{joining_rises, one_joins}
use Rattle.zl_sched.proofs.Queued.{none_counted}
use Rattle.zl_sched.proofs.ready.join.Goals as goal

pub push_if-requires : goal.push_if-requires
push_if-requires c =
    let told = rw c.in-One.is at c.requires.told in
    let joins : joining c.args.world.now.world c.args.pid c.args.out.now c.args.ready.now.items ≡ one_if (not (c.in-One.other == c.args.pid)) c.in-One.other
    = one_joins c.args.pid c.in-One.other _ (told refl)
    (joining_rises c.args.world.now.world c.args.pid c.args.out.now c.args.ready.now.items c.process_at.ensures.in_order) in
    record {
      room = omega (
        arith,
        c.requires.room,
        ap length joins,
        length-append c.args.ready.now.items (joining c.args.world.now.world c.args.pid c.args.out.now c.args.ready.now.items),
      );
    }

pub returns-in-Nobody-clause-items : goal.returns-in-Nobody-clause-items
returns-in-Nobody-clause-items c =
    let told = rw c.in-Nobody.is at c.requires.told in
    sym (ap (λ (ks : List ℕ). c.args.ready.now.items ++ ks) (none_counted _ (told refl)) ∙ append-nil c.args.ready.now.items)

pub returns-in-One-clause-items : goal.returns-in-One-clause-items
returns-in-One-clause-items c =
    let told = rw c.in-One.is at c.requires.told in
    c.push_if.ensures.items ∙ ap (λ (ks : List ℕ). c.args.ready.now.items ++ ks)
    (sym (one_joins c.args.pid c.in-One.other _ (told refl)
    (joining_rises c.args.world.now.world c.args.pid c.args.out.now c.args.ready.now.items c.process_at.ensures.in_order)))
