use Rattle.zl_objects.proofs.Common.{arith, insert_entry, refl, sym, ◌+◌, ◌≡◌}
use Rattle.std.proofs.Common.{nat_cmp}
use Rattle.zl_objects.proofs.CalmMade.{pair_calm}
use Rattle.zl_objects.proofs.Index.{pair_indexed}
use Rattle.zl_objects.proofs.Kept.{pair_kept, roomy_kept}
use Rattle.zl_objects.proofs.Whole.{pair_created, end_taken, if_err, unless_err}
use Rattle.zl_objects.proofs.objects.Objects.create_pair.Goals as goal

pub invariant_of-store-2 : goal.invariant_of-store-2
invariant_of-store-2 c =
    let entered : c.insert-2.new.self.entries ≡ insert_entry nat_cmp c.insert.new.self.entries (c.self.inside.store.next_koid + 1) c.new_end-2.result =
    unless_err c.insert-2.result _ c.insert-2.ensures.entries (sym (c.if-is_err.ensures {u = tt}).value) in
    record {
      kept = pair_kept c.args.pair _ c.insert.new.self.entries _ _ _ _ c.args.handles c.new_end.result c.new_end-2.result c.self.inside.store.kept
          c.new_end.ensures c.new_end-2.ensures (omega (arith, c.in_ok-reserve.ensures.ok, c.len.ensures.len)) c.in_ok-insert.ensures.entries entered;
      calm = pair_calm c.self.inside.store.by_koid.entries c.self.inside.store.next_koid c.new_end.result c.self.inside.store.kept.whole.below
          c.self.inside.store.kept.whole.peers c.args.pair c.args.handles c.new_end-2.result c.insert.new.self.entries c.insert-2.new.self.entries
          c.new_end.ensures c.new_end-2.ensures c.in_ok-insert.ensures.entries entered c.self.inside.store.calm;
      indexed = pair_indexed c.args.pair c.args.handles c.self.inside.store.next_koid c.new_end.result c.new_end-2.result c.self.inside.store.indexed
          c.self.inside.store.kept.whole.below c.self.inside.store.kept.whole.peers c.new_end.ensures c.new_end-2.ensures
          c.in_ok-insert.ensures.entries entered;
    }

pub returns-clause-created : goal.returns-clause-created
returns-clause-created c =
    rw (
      pair_created c.self.inside.store.by_koid.entries c.insert.new.self.entries c.insert-2.new.self.entries
          c.self.inside.store.next_koid c.new_end.result c.new_end-2.result c.self.inside.store.kept.whole.below c.in_ok-insert.ensures.entries
          (unless_err c.insert-2.result _ c.insert-2.ensures.entries (sym (c.if-is_err.ensures {u = tt}).value)),
      c.new_end.ensures,
      c.new_end-2.ensures,
      ← c.self.view_is,
    ) refl

pub returns-then-is_err-clause-unchanged : goal.returns-then-is_err-clause-unchanged
returns-then-is_err-clause-unchanged c =
    rw (end_taken c.self.inside.store.by_koid.entries c.insert.new.self.entries c.insert-2.new.self.entries
    c.remove.new.self.entries c.self.inside.store.next_koid c.new_end.result c.self.inside.store.kept.whole.below c.in_ok-insert.ensures.entries
    (if_err c.insert-2.result _ c.insert-2.ensures.err (sym (c.if-is_err.ensures {u = tt}).value)) c.remove.ensures.entries) c.self.view_is

pub invariant_of-store-then-is_err : goal.invariant_of-store-then-is_err
invariant_of-store-then-is_err c =
    let same : c.remove.new.self.entries ≡ c.self.inside.store.by_koid.entries =
    end_taken c.self.inside.store.by_koid.entries c.insert.new.self.entries c.insert-2.new.self.entries
    c.remove.new.self.entries c.self.inside.store.next_koid c.new_end.result c.self.inside.store.kept.whole.below c.in_ok-insert.ensures.entries
    (if_err c.insert-2.result _ c.insert-2.ensures.err (sym (c.if-is_err.ensures {u = tt}).value)) c.remove.ensures.entries in
    record {
      kept = roomy_kept _ _ _ _ _ c.self.inside.store.kept same c.reserve.ensures.capacity;
      calm = rw same c.self.inside.store.calm;
      indexed = rw same c.self.inside.store.indexed;
    }
