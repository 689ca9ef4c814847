use Rattle.zl_objects.proofs.Common.{Some, at_port, is_at, lookup, nat_cmp, refl, rules, set_value, user_packet, with_packet, ◌≡◌}
use Rattle.zl_objects.proofs.ByKoid.{written}
use Rattle.zl_objects.proofs.Refusable.{when_ok}
use Rattle.zl_objects.proofs.CalmChanges.{found_or_same_calm, keeps_port}
use Rattle.zl_objects.proofs.Kept.{port_or_same_kept}
use Rattle.zl_objects.proofs.Index.{kept_or_indexed}
use Rattle.zl_objects.proofs.objects.Objects.queue_user.Goals as goal

pub invariant_of-self-inside-2 : goal.invariant_of-self-inside-2
invariant_of-self-inside-2 c =
    let there : Some c.in-Some.object.now ≡ lookup (is_at (nat_cmp c.args.koid)) c.self.inside.store.by_koid.entries = search rules in
    let set : (c.get_mut.follows.lender c.queue_user-queued.new.self).entries
    ≡ set_value (is_at (nat_cmp c.args.koid)) c.self.inside.store.by_koid.entries c.queue_user-queued.new.self = search rules in
    record {
      kept = port_or_same_kept (λ p. with_packet p (user_packet c.args.key c.args.value)) (λ p. refl) _ _ _ _ c.args.koid
          c.in-Some.object.now c.queue_user-queued.new.self c.queue_user-queued.result c.self.inside.store.kept c.queue_user-queued.ensures.ok
          c.queue_user-queued.ensures.unchanged there set;
      calm = found_or_same_calm c.add_if.ensures.more (at_port (λ p. with_packet p (user_packet c.args.key c.args.value)))
          (keeps_port (λ p. with_packet p (user_packet c.args.key c.args.value))) c.self.inside.store.by_koid.entries
          (c.get_mut.follows.lender c.queue_user-queued.new.self).entries c.args.koid c.in-Some.object.now c.queue_user-queued.new.self there
          c.is_watched.result c.is_watched.ensures c.add_if.ensures.wanted c.queue_user-queued.result c.queue_user-queued.ensures.ok
          c.queue_user-queued.ensures.unchanged set
          c.self.inside.store.calm;
      indexed = kept_or_indexed (at_port (λ p. with_packet p (user_packet c.args.key c.args.value))) (keeps_port _) c.args.koid
          c.in-Some.object.now c.queue_user-queued.new.self c.queue_user-queued.result c.self.inside.store.indexed c.queue_user-queued.ensures.ok
          c.queue_user-queued.ensures.unchanged there set;
    }

pub returns-clause-ok : goal.returns-clause-ok
returns-clause-ok c =
    let there : Some c.in-Some.object.now ≡ lookup (is_at (nat_cmp c.args.koid)) c.self.inside.store.by_koid.entries = search rules in
    let set : (c.get_mut.follows.lender c.queue_user-queued.new.self).entries
    ≡ set_value (is_at (nat_cmp c.args.koid)) c.self.inside.store.by_koid.entries c.queue_user-queued.new.self = search rules in
    when_ok (c.queue_user-queued.new.self ≡ at_port (λ p. with_packet p (user_packet c.args.key c.args.value)) c.in-Some.object.now) _
    c.queue_user-queued.result
    (λ is. rw (
      written c.self.inside.store.by_koid.entries _ c.args.koid (at_port (λ p. with_packet p (user_packet c.args.key c.args.value))) c.in-Some.object.now
          c.queue_user-queued.new.self there is set,
      ← c.self.view_is,
    ) refl) c.queue_user-queued.ensures.ok
