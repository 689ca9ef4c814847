use Rattle.zl_objects.proofs.Common.{LetsGo, List, [], at_drop_all, at_drop_more, drop, get_or, subst, ℕ, ◌+◌}
use Rattle.zl_objects.proofs.Budget.{none_went}
use Rattle.zl_objects.proofs.Descending.{one_swept}
use Rattle.zl_objects.proofs.Released.{cascades_of}
use Rattle.zl_objects.proofs.Shedding.{sheds_none, sheds_then}
use Rattle.zl_objects.proofs.store.Store.sweep_each.Goals as goal

pub loop-koid-init : goal.loop-koid-init
loop-koid-init c = record { goes = none_went c.args.self.now.by_koid.entries c.args.koids.now; none = c.requires; sheds = sheds_none c.args.self.now }

pub loop-koid-preserved : goal.loop-koid-preserved
loop-koid-preserved c = record {
  goes =
      let koids = c.args.koids.now in
      let place = c.loop-koid.koid-index in
      one_swept c.args.self.now.by_koid.entries c.loop-koid.self.by_koid.entries c.remove_unkept.new.self.by_koid.entries koids (drop (place + 1) koids)
      (get_or koids place 0)
      (subst (λ (ks : List ℕ). LetsGo [] c.args.self.now.by_koid.entries koids c.loop-koid.self.by_koid.entries ks)
      (at_drop_more (λ ks. ks) koids place 0 c.loop-koid-test.true) c.loop-koid.invariant.goes) c.remove_unkept.ensures.goes;
  none = c.remove_unkept.ensures.none;
  sheds = sheds_then c.loop-koid.invariant.sheds (cascades_of [] _ _ _ _ c.remove_unkept.ensures.goes) c.remove_unkept.ensures.sheds;
}

pub returns-clause-goes : goal.returns-clause-goes
returns-clause-goes c =
    subst (λ (ks : List ℕ). LetsGo [] c.args.self.now.by_koid.entries c.args.koids.now c.loop-koid.self.by_koid.entries ks)
    (at_drop_all (λ ks. ks) c.args.koids.now c.loop-koid.koid-index c.loop-koid-test.false) c.loop-koid.invariant.goes
