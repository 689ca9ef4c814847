use Rattle.zl_sched.proofs.Common.{arith, refl, vec_capacity, ◌∙◌}
use Rattle.zl_sched.proofs.Joining.{join_fits, joined_all, push_fits}
use Rattle.zl_sched.proofs.ready.come.Goals as goal

pub join-requires-clause-room : goal.join-requires-clause-room
join-requires-clause-room c =
    join_fits c.args.world.now.world c.args.pid c.args.out.now c.args.ready.now.items _ refl (vec_capacity c.args.ready.now) c.requires.room

pub push_if-requires : goal.push_if-requires
push_if-requires c = record {
  room = push_fits c.args.world.now.world c.args.pid c.args.out.now c.args.ready.now.items c.join.new.ready.items c.join.ensures.items
      (vec_capacity c.join.new.ready) (omega (arith, c.requires.room, c.join.ensures.capacity)) c.is_ready.result
      (rw c.join.ensures.world at c.is_ready.ensures);
}

pub returns-clause-items : goal.returns-clause-items
returns-clause-items c = c.push_if.ensures.items
    ∙ joined_all c.args.world.now.world c.args.pid c.args.out.now c.args.ready.now.items c.join.new.ready.items c.join.ensures.items c.is_ready.result
    (rw c.join.ensures.world at c.is_ready.ensures)
