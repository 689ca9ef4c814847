use Rattle.zl_objects.proofs.Common.{[], arith, refl, sym, vec_capacity, ◌∙◌, ◌∷◌, ◌≡◌}
use Rattle.zl_objects.proofs.Budget.{none_noted, test_fits, test_kept}
use Rattle.zl_objects.proofs.Shedding.{sheds_none}
use Rattle.zl_objects.proofs.store.Store.remove_unkept.Goals as goal

pub push_reserved-requires : goal.push_reserved-requires
push_reserved-requires c = omega (
  arith,
  none_noted c.args.self.now.by_koid.entries c.args.koid (vec_capacity c.args.self.now.dying) c.args.self.now.dying.items
      (sym c.is_unkept.ensures ∙ c.if-is_unkept.true) c.requires c.args.self.now.kept.whole.enough,
  c.args.self.now.dying.ok.0,
)

pub invariant_of-self : goal.invariant_of-self
invariant_of-self c =
    record { kept = rw c.push_reserved.ensures.capacity c.args.self.now.kept; calm = c.args.self.now.calm; indexed = c.args.self.now.indexed }

pub remove_dying-requires : goal.remove_dying-requires
remove_dying-requires c =
    let noted : c.push_reserved.new.self.items ≡ c.args.koid ∷ [] = c.push_reserved.ensures.items ∙ rw c.requires refl in
    record {
      fits = rw noted (omega (
        arith,
        test_fits c.args.self.now.by_koid.entries c.args.koid (sym c.is_unkept.ensures ∙ c.if-is_unkept.true),
        c.args.self.now.kept.whole.enough,
        c.push_reserved.ensures.capacity,
      ));
    }

pub returns-then-is_unkept-clause-goes : goal.returns-then-is_unkept-clause-goes
returns-then-is_unkept-clause-goes c =
    let noted : c.push_reserved.new.self.items ≡ c.args.koid ∷ [] = c.push_reserved.ensures.items ∙ rw c.requires refl in
    rw noted at c.remove_dying.ensures.goes

pub returns-else-is_unkept-clause-goes : goal.returns-else-is_unkept-clause-goes
returns-else-is_unkept-clause-goes c = test_kept c.args.self.now.by_koid.entries c.args.koid (sym c.is_unkept.ensures ∙ c.if-is_unkept.false)

pub returns-else-is_unkept-clause-sheds : goal.returns-else-is_unkept-clause-sheds
returns-else-is_unkept-clause-sheds c = record { waits = (sheds_none c.args.self.now).waits; made = refl; next_koid = refl; sleepers = refl }
