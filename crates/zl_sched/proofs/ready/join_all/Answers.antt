use Rattle.zl_sched.proofs.Common.{List, ap, arith, joins, pids_of, sym, ℕ, ◌∙◌}
use Rattle.zl_sched.proofs.Joining.{comes, has_place, stays_front}
use Rattle.zl_sched.proofs.ready.join_all.Goals as goal

pub push_if-requires : goal.push_if-requires
push_if-requires c =
    let so_far = c.loop-n.invariant in
    record {
      room = has_place (λ q. joins c.args.world.now.world c.args.pid c.args.out.now c.args.ready.now.items q) c.args.ready.now.items
          (pids_of c.args.world.now.world) c.loop-n.n c.in-Some.other c.loop-n.ready.items so_far.0 (sym c.process_at.ensures.koid ∙ c.in-Some.is)
          c.is_new-joins.result
          (c.is_new-joins.ensures
          ∙ ap (λ (stayed : List ℕ). joins c.args.world.now.world c.args.pid c.args.out.now stayed c.in-Some.other)
          (stays_front c.args.ready.now.items _ _ c.len-stayed.result (c.deref.ensures.value ∙ so_far.0) so_far.2)) _
          (omega (arith, c.requires.room, so_far.1));
    }

pub loop-n-preserved : goal.loop-n-preserved
loop-n-preserved c =
    let so_far = c.loop-n.invariant in (
      comes (λ q. joins c.args.world.now.world c.args.pid c.args.out.now c.args.ready.now.items q) c.args.ready.now.items
          (pids_of c.args.world.now.world) c.loop-n.n c.in-Some.other c.loop-n.ready.items so_far.0 (sym c.process_at.ensures.koid ∙ c.in-Some.is)
          c.is_new-joins.result
          (c.is_new-joins.ensures
          ∙ ap (λ (stayed : List ℕ). joins c.args.world.now.world c.args.pid c.args.out.now stayed c.in-Some.other)
          (stays_front c.args.ready.now.items _ _ c.len-stayed.result
          (c.deref.ensures.value ∙ so_far.0) so_far.2)) c.push_if.new.ready.items c.push_if.ensures.items,
      c.push_if.ensures.capacity ∙ so_far.1,
      so_far.2,
    )
