use Rattle.zl_objects.proofs.Common.{IsPartitionedBy, List, arith, ltb-false, ltb-true, rules, subst, sym}
use Rattle.std.proofs.Common.{ltb}
use Rattle.std.proofs.lemmas.List.Sorted.{IsPartitionPoint-from_clause, IsPartitionedBy-ltb}
use Rattle.zl_objects.specs.Groups.{IsGroupPlace}
use Rattle.zl_objects.specs.declared.groups.Group.{Group}
use Rattle.zl_objects.proofs.groups.Groups.place_of.Goals as goal

pub returns : goal.returns
returns c =
    let seen = c.deref.ensures.value in
    let parted = subst (IsPartitionedBy (λ (g : Group). ltb g.koid c.args.koid)) (sym seen)
    (IsPartitionedBy-ltb (λ g. g.koid) c.args.self.now.list.items c.args.koid c.args.self.now.in_order) in
    let point = IsPartitionPoint-from_clause (λ g. ltb g.koid c.args.koid) c.deref.result.now c.partition_point.result
    c.partition_point.ensures.partitioned parted (λ a r q k. search rules) in
    subst (λ (xs : List Group). IsGroupPlace c.args.koid xs c.partition_point.result) seen (record {
      within = c.partition_point.ensures.bound;
      before = λ i d low. ltb-true _ _ (point.0 i d (omega arith) low);
      behind = λ i d high inside. ltb-false _ _ (point.1 i d high inside);
    })
