use Rattle.zl_objects.proofs.Common.{IsPartitionedBy, IsPlace, List, Sleeper, arith, koid_of, leb, leb-false, leb-true, rules, subst, sym, ◌<◌, ◌≤◌}
use Rattle.std.proofs.lemmas.List.Sorted.{IsPartitionPoint-from_clause, IsPartitionedBy-leb}
use Rattle.zl_objects.proofs.sleepers.Sleepers.place_behind.Goals as goal

pub returns : goal.returns
returns c =
    let seen = c.deref.ensures.value in
    let parted = subst (IsPartitionedBy (λ (s : Sleeper). leb (koid_of s.awaited) c.args.koid)) (sym seen)
    (IsPartitionedBy-leb (λ s. koid_of s.awaited) c.args.self.now.list.items c.args.koid c.args.self.now.in_order) in
    let point = IsPartitionPoint-from_clause (λ s. leb (koid_of s.awaited) c.args.koid) c.deref.result.now c.partition_point.result
    c.partition_point.ensures.partitioned parted (λ a r q k. search rules) in
    subst (λ (xs : List Sleeper). IsPlace (λ k. k ≤ c.args.koid) (λ k. c.args.koid < k) xs c.partition_point.result) seen (record {
      within = c.partition_point.ensures.bound;
      before = λ i d low. leb-true _ _ (point.0 i d (omega arith) low);
      behind = λ i d high inside. leb-false _ _ (point.1 i d high inside);
    })
