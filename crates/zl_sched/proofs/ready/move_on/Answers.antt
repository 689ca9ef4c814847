use Rattle.zl_sched.proofs.Common.{AreJoining, List, arith, joined_by, length, still_ready, subst, sym, vec_capacity, ℕ, ◌∙◌, ◌≡◌, ◌≤◌}
use Rattle.zl_sched.proofs.ready.move_on.Goals as goal

pub come-requires : goal.come-requires
come-requires c =
    let told = rw c.in-Woke.is at c.requires.told in
    let stayed : still_ready c.args.world.now.world c.args.pid c.args.ready.now.items ≡ c.take_out.new.ready.items = told.0 ∙ sym c.take_out.ensures.items in
    record {
      told = subst (λ (ks : List ℕ). AreJoining c.args.world.now.world c.args.pid c.args.out.now ks c.in-Woke.woke) stayed told.1;
      room = subst (λ (ks : List ℕ). length (joined_by c.args.world.now.world c.args.pid c.args.out.now ks) ≤ vec_capacity c.take_out.new.ready) stayed
          (omega (arith, c.requires.room, c.take_out.ensures.capacity));
    }
