use Rattle.zl_objects.proofs.Common.{refl, rules, without_front}
use Rattle.zl_objects.proofs.ByKoid.{by_koid}
use Rattle.zl_objects.proofs.CalmChanges.{front_out, port_calm}
use Rattle.zl_objects.proofs.Kept.{port_kept}
use Rattle.zl_objects.proofs.Index.{port_indexed}
use Rattle.zl_objects.proofs.objects.Objects.pop.Goals as goal

pub invariant_of-self-inside-2 : goal.invariant_of-self-inside-2
invariant_of-self-inside-2 c =
    record {
      kept = port_kept without_front (λ p. refl) _ _ _ _ c.args.koid c.self.inside.store.kept (search (rules, by_koid));
      calm = port_calm without_front (λ p. front_out p.packets)
          c.self.inside.store.by_koid.entries (c.get_mut.follows.lender c.pop.new.self).entries c.args.koid (search (rules, by_koid)) c.self.inside.store.calm;
      indexed = port_indexed without_front c.args.koid c.self.inside.store.indexed (search (rules, by_koid));
    }
