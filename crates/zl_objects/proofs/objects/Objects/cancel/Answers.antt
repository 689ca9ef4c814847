use Rattle.zl_objects.proofs.Common.{Port, Some, at_port, is_at, is_from, lookup, nat_cmp, refl, rules, set_value, without_packets, ◌≡◌}
use Rattle.zl_objects.proofs.ByKoid.{written}
use Rattle.zl_objects.proofs.CalmChanges.{port_calm, some_out}
use Rattle.zl_objects.proofs.Kept.{port_kept}
use Rattle.zl_objects.proofs.Index.{port_indexed}
use Rattle.zl_objects.proofs.objects.Objects.cancel.Goals as goal

pub invariant_of-self-inside-2 : goal.invariant_of-self-inside-2
invariant_of-self-inside-2 c =
    let there : Some c.in-Some.object.now ≡ lookup (is_at (nat_cmp c.args.koid)) c.self.inside.store.by_koid.entries = search rules in
    let set : (c.get_mut.follows.lender c.cancel.new.self).entries
    ≡ set_value (is_at (nat_cmp c.args.koid)) c.self.inside.store.by_koid.entries c.cancel.new.self = search rules in
    let out : Port → Port = λ p. without_packets p (is_from c.args.source c.args.key) in
    record {
      kept = port_kept (λ p. without_packets p (is_from c.args.source c.args.key)) (λ p. refl) _ _ _ _ c.args.koid
          c.self.inside.store.kept
          (written c.self.inside.store.by_koid.entries _ c.args.koid (at_port (λ p. without_packets p (is_from c.args.source c.args.key))) c.in-Some.object.now
          c.cancel.new.self there c.cancel.ensures.rest set);
      calm = port_calm out (λ p. some_out _ p.packets) c.self.inside.store.by_koid.entries
          (c.get_mut.follows.lender c.cancel.new.self).entries c.args.koid (written c.self.inside.store.by_koid.entries _ c.args.koid (at_port out)
          c.in-Some.object.now c.cancel.new.self there c.cancel.ensures.rest set)
          c.self.inside.store.calm;
      indexed = port_indexed out c.args.koid c.self.inside.store.indexed
          (written c.self.inside.store.by_koid.entries _ c.args.koid (at_port out) c.in-Some.object.now c.cancel.new.self there c.cancel.ensures.rest set);
    }

pub returns-clause-rest : goal.returns-clause-rest
returns-clause-rest c =
    let there : Some c.in-Some.object.now ≡ lookup (is_at (nat_cmp c.args.koid)) c.self.inside.store.by_koid.entries = search rules in
    let set : (c.get_mut.follows.lender c.cancel.new.self).entries
    ≡ set_value (is_at (nat_cmp c.args.koid)) c.self.inside.store.by_koid.entries c.cancel.new.self = search rules in
    rw (
      written c.self.inside.store.by_koid.entries _ c.args.koid (at_port (λ p. without_packets p (is_from c.args.source c.args.key))) c.in-Some.object.now
          c.cancel.new.self there c.cancel.ensures.rest set,
      ← c.self.view_is,
    ) refl
