use Rattle.zl_sched.proofs.Common.{List, [], ap, arith, length, length-append, none_filtered, refl, requeued, subst, sym, vec_capacity}
use Rattle.zl_sched.proofs.Common.{ℕ, ◌++◌, ◌∙◌, ◌∷◌, ◌≡◌, ◌≤◌}
use Rattle.zl_sched.proofs.Common.{AreJoining, joined_by, still_ready}
use Rattle.zl_sched.proofs.ready.queue.Goals as goal

pub push_reserved-requires : goal.push_reserved-requires
push_reserved-requires c =
    let told : requeued c.args.world.now.world c.args.pid c.args.out.now c.args.ready.now.items ≡ c.args.ready.now.items ++ (c.args.pid ∷ [])
    = rw c.in-Same.is at c.requires.told
    ∙ ap (λ (ys : List ℕ). ys ++ (c.args.pid ∷ [])) (none_filtered c.args.pid c.args.ready.now.items c.requires.apart) in
    let one : length (c.args.pid ∷ []) ≡ 1 = refl in
    omega (arith, c.requires.room, ap length told, length-append c.args.ready.now.items (c.args.pid ∷ []), one, c.args.ready.now.ok.0)

pub returns-in-Same-clause-items : goal.returns-in-Same-clause-items
returns-in-Same-clause-items c =
    c.push_reserved.ensures.items ∙ (ap (λ (ys : List ℕ). ys ++ (c.args.pid ∷ [])) (sym (none_filtered c.args.pid c.args.ready.now.items c.requires.apart))
    ∙ sym (rw c.in-Same.is at c.requires.told))

pub come-requires : goal.come-requires
come-requires c =
    let told = rw c.in-Woke.is at c.requires.told in
    let stayed : still_ready c.args.world.now.world c.args.pid c.args.ready.now.items ≡ c.args.ready.now.items
    = told.0 ∙ none_filtered c.args.pid c.args.ready.now.items c.requires.apart in
    record {
      told = subst (λ (ks : List ℕ). AreJoining c.args.world.now.world c.args.pid c.args.out.now ks c.in-Woke.woke) stayed told.1;
      room = subst (λ (ks : List ℕ). length (joined_by c.args.world.now.world c.args.pid c.args.out.now ks) ≤ vec_capacity c.args.ready.now) stayed
          c.requires.room;
    }

pub returns-in-Woke-clause-items : goal.returns-in-Woke-clause-items
returns-in-Woke-clause-items c = c.come.ensures.items
    ∙ ap (joined_by c.args.world.now.world c.args.pid c.args.out.now)
    (sym ((rw c.in-Woke.is at c.requires.told).0 ∙ none_filtered c.args.pid c.args.ready.now.items c.requires.apart))
