use Rattle.zl_objects.proofs.Common.{List, [], arith, budget, length, refl, subst, sym, vec_capacity, ℕ, ◌++◌, ◌+◌, ◌<◌, ◌∙◌, ◌∷◌, ◌≡◌, ◌≤◌}
use Rattle.zl_objects.proofs.Budget.{both_went, none_went}
use Rattle.zl_objects.proofs.Released.{cascades_of}
use Rattle.zl_objects.proofs.Shedding.{sheds_none, sheds_then}
use Rattle.zl_objects.proofs.store.Store.remove_dying.Goals as goal

pub loop-koid-init : goal.loop-koid-init
loop-koid-init c =
    record { goes = none_went c.args.self.now.by_koid.entries c.args.self.now.dying.items; capacity = refl; sheds = sheds_none c.args.self.now }

pub invariant_of-self : goal.invariant_of-self
invariant_of-self c =
    record { kept = rw c.pop.ensures.capacity c.loop-koid.self.kept; calm = c.loop-koid.self.calm; indexed = c.loop-koid.self.indexed }

pub remove_noted-requires : goal.remove_noted-requires
remove_noted-requires c =
    let popped : c.loop-koid.self.dying.items ≡ c.pop.new.self.items ++ c.in-Some.koid ∷ [] = rw c.in-Some.is at c.pop.ensures.items in
    record {
      fits = subst (λ (d : List ℕ). budget c.loop-koid.self.by_koid.entries d ≤ vec_capacity c.pop.new.self) popped
          (omega (arith, c.loop-koid.invariant.goes.cheap, c.loop-koid.invariant.capacity, c.pop.ensures.capacity, c.requires.fits));
    }

pub loop-koid-smaller : goal.loop-koid-smaller
loop-koid-smaller c =
    let popped : c.loop-koid.self.dying.items ≡ c.pop.new.self.items ++ c.in-Some.koid ∷ [] = rw c.in-Some.is at c.pop.ensures.items in
    subst (λ (d : List ℕ). budget c.remove_noted.new.self.by_koid.entries c.remove_noted.new.self.dying.items
    + length c.remove_noted.new.self.by_koid.entries
    < budget c.loop-koid.self.by_koid.entries d + length c.loop-koid.self.by_koid.entries) (sym popped) c.remove_noted.ensures.less

pub loop-koid-preserved : goal.loop-koid-preserved
loop-koid-preserved c =
    let popped : c.loop-koid.self.dying.items ≡ c.pop.new.self.items ++ c.in-Some.koid ∷ [] = rw c.in-Some.is at c.pop.ensures.items in
    let before = c.loop-koid.invariant.sheds in
    record {
      goes = both_went [] [] _ _ _ _ _ _ c.loop-koid.invariant.goes (rw popped c.remove_noted.ensures.goes);
      capacity = c.remove_noted.ensures.capacity ∙ (c.pop.ensures.capacity ∙ c.loop-koid.invariant.capacity);
      sheds = sheds_then (record { waits = before.waits; made = before.made; next_koid = before.next_koid; sleepers = before.sleepers })
          (cascades_of [] _ _ _ _ c.remove_noted.ensures.goes) c.remove_noted.ensures.sheds;
    }
