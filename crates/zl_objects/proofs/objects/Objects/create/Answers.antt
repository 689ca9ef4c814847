use Rattle.zl_objects.proofs.Common.{SignalState, ap, arith, refl, sym}
use Rattle.zl_objects.proofs.CalmMade.{created_calm}
use Rattle.zl_objects.proofs.Index.{alone_paired, inserted_indexed, refused_indexed}
use Rattle.zl_objects.proofs.Kept.{inserted_kept, roomy_kept}
use Rattle.zl_objects.proofs.Whole.{if_err, unless_err}
use Rattle.zl_objects.proofs.objects.Objects.create.Goals as goal

pub invariant_of-store-in-Break-branch-4 : goal.invariant_of-store-in-Break-branch-4
invariant_of-store-in-Break-branch-4 c = record {
  kept = roomy_kept _ _ _ _ _ c.self.inside.store.kept refl c.make_room.ensures.capacity;
  calm = rw c.make_room_if.ensures.list c.self.inside.store.calm;
  indexed = refused_indexed c.self.inside.store.next_koid c.self.inside.store.indexed c.self.inside.store.kept.whole.below
      (λ k b apart listed. c.add.ensures.others k b apart listed) refl;
}

pub invariant_of-store-then-is_err : goal.invariant_of-store-then-is_err
invariant_of-store-then-is_err c =
    let same = if_err c.insert.result _ c.insert.ensures.err (sym (c.if-is_err.ensures {u = tt}).value) in
    record {
      kept = roomy_kept _ _ _ _ _ c.self.inside.store.kept same c.make_room.ensures.capacity;
      calm = rw (same, c.make_room_if.ensures.list) c.self.inside.store.calm;
      indexed = refused_indexed c.self.inside.store.next_koid c.self.inside.store.indexed c.self.inside.store.kept.whole.below
          (λ k b apart listed. c.remove.ensures k b apart (c.add.ensures.others k b apart listed)) same;
    }

pub invariant_of-store-2 : goal.invariant_of-store-2
invariant_of-store-2 c =
    let entered = unless_err c.insert.result _ c.insert.ensures.entries (sym (c.if-is_err.ensures {u = tt}).value) in
    record {
      kept = inserted_kept _ _ _ _ _ _ c.self.inside.store.kept c.requires.alone c.requires.unreserved (ap (λ (s : SignalState). s.waits) c.new.ensures)
          (omega (arith, c.in_ok-make_room.ensures.ok, c.len-count.ensures.len)) entered;
      calm = rw c.make_room_if.ensures.list (created_calm _ _ _ c.self.inside.store.kept.whole.below c.self.inside.store.kept.whole.peers
          (ap (λ (s : SignalState). s.waits) c.new.ensures) c.insert.new.self.entries entered c.self.inside.store.calm);
      indexed = inserted_indexed c.self.inside.store.next_koid _ c.self.inside.store.indexed c.add.ensures.others c.in_ok-add.ensures.added
          (alone_paired c.self.inside.store.by_koid.entries c.self.inside.store.next_koid c.self.inside.store.kept.whole.peers _ c.requires.alone) entered;
    }
