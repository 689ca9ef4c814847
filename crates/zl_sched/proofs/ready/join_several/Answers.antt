use Rattle.zl_sched.proofs.Common.{List, ap, joining, length, subst, sym, vec_capacity, ℕ, ◌++◌, ◌∙◌, ◌≤◌}
use Rattle.std.proofs.lemmas.List.Sorted.{IsNonDecreasingBy-from_sort}
use Rattle.zl_sched.proofs.Joining.{joining_rises, several_join}
use Rattle.zl_sched.proofs.ready.join_several.Goals as goal

pub push_others-requires : goal.push_others-requires
push_others-requires c = record {
  room = subst (λ (ks : List ℕ). length (c.args.ready.now.items ++ ks) ≤ vec_capacity c.args.ready.now)
      (several_join c.args.pid c.args.list.pids.items c.as_slice.result.now
      (joining c.args.world.now.world c.args.pid c.args.out.now c.args.ready.now.items)
      (rw c.as_slice.ensures.value c.sort_unstable.ensures.permutation)
      (rw c.as_slice.ensures.value (IsNonDecreasingBy-from_sort (λ k. k) c.sort_unstable.new.self.items c.sort_unstable.ensures.sorted))
      (c.requires.told c.if-not-list.false)
      (joining_rises c.args.world.now.world c.args.pid c.args.out.now c.args.ready.now.items c.requires.in_order)) c.requires.room;
}

pub returns-clause-items : goal.returns-clause-items
returns-clause-items c = c.push_others.ensures.items
    ∙ ap (λ (ks : List ℕ). c.args.ready.now.items ++ ks)
    (sym (several_join c.args.pid c.args.list.pids.items c.as_slice.result.now
    (joining c.args.world.now.world c.args.pid c.args.out.now c.args.ready.now.items)
    (rw c.as_slice.ensures.value c.sort_unstable.ensures.permutation)
    (rw c.as_slice.ensures.value (IsNonDecreasingBy-from_sort (λ k. k) c.sort_unstable.new.self.items c.sort_unstable.ensures.sorted))
    (c.requires.told c.if-not-list.false)
    (joining_rises c.args.world.now.world c.args.pid c.args.out.now c.args.ready.now.items c.requires.in_order)))
