use Rattle.zl_objects.proofs.Common.{List, [], arith, held_once_less, length, refl, sym, vec_len, ℕ, ◌∙◌, ◌∷◌, ◌≡◌}
use Rattle.std.proofs.Common.{eqb-true}
use Rattle.zl_objects.proofs.Budget.{both_went}
use Rattle.zl_objects.proofs.CalmChanges.{keeps_less, less_still}
use Rattle.zl_objects.proofs.Index.{kept_indexed}
use Rattle.zl_objects.proofs.Kept.{less_kept}
use Rattle.zl_objects.proofs.Law.{leaves_largest}
use Rattle.zl_objects.proofs.Listed.{all_seen}
use Rattle.zl_objects.proofs.Released.{left_by, released, starts, waits_left}
use Rattle.zl_objects.proofs.Shedding.{sheds_listed}
use Rattle.zl_objects.proofs.objects.Objects.release.Goals as goal

pub let_go-requires : goal.let_go-requires
let_go-requires c = record { fits = starts c.self.inside.store.kept.whole c.self.invariant }

pub remove_dying-requires : goal.remove_dying-requires
remove_dying-requires c = record {
  fits = omega (arith, starts c.self.inside.store.kept.whole c.self.invariant, c.let_go.ensures.goes.cheap, c.let_go.ensures.capacity);
}

pub invariant_of-self-inside : goal.invariant_of-self-inside
invariant_of-self-inside c = record {
  kept = less_kept c.args.koid c.self.inside.store.kept c.let_go.ensures.objects c.let_go.ensures.capacity;
  calm = (less_still _ c.let_go.new.by_koid.entries c.args.koid c.let_go.ensures.objects).calm _ _ _ c.self.inside.store.calm;
  indexed = kept_indexed held_once_less keeps_less c.args.koid c.self.inside.store.indexed c.let_go.ensures.objects;
}

pub returns-clause-releases : goal.returns-clause-releases
returns-clause-releases c =
    rw (← c.self.view_is) (released (both_went (c.args.koid ∷ []) [] _ _ _ _ _ _ c.let_go.ensures.goes c.remove_dying.ensures.goes) c.self.invariant
    c.remove_dying.ensures.sheds.next_koid)

pub returns-clause-largest : goal.returns-clause-largest
returns-clause-largest c = leaves_largest (c.args.koid ∷ []) [] c.args.self.now _ (returns-clause-releases c)

pub returns-clause-waits : goal.returns-clause-waits
returns-clause-waits c =
    rw (← c.self.view_is) (waits_left (left_by (both_went (c.args.koid ∷ []) [] _ _ _ _ _ _ c.let_go.ensures.goes c.remove_dying.ensures.goes))
    c.self.inside.store.kept.whole.places)

pub returns-clause-places : goal.returns-clause-places
returns-clause-places c = c.remove_dying.new.self.kept.whole.places

pub returns-clause-listed : goal.returns-clause-listed
returns-clause-listed c =
    let left = sheds_listed c.remove_dying.ensures.sheds in
    rw (← c.self.view_is) record { waits = left.waits; made = left.made; asleep = left.asleep }

-- ---- another handle names the object, and nothing goes

no_items : (xs : List ℕ) → ◌≡◌ {A = ℕ} (length xs) 0 → xs ≡ []
no_items [] none = refl
no_items (x ∷ xs) none = absurd (omega (arith, none))

none_noted : (c : goal.Then-is_empty) → c.let_go.new.dying.items ≡ []
none_noted c =
    let none : vec_len c.let_go.new.dying ≡ 0 = eqb-true (vec_len c.let_go.new.dying) 0 (sym c.is_empty.ensures ∙ c.if-is_empty.true) in
    no_items c.let_go.new.dying.items (omega (arith, none, c.let_go.new.dying.ok.0))

pub invariant_of-self : goal.invariant_of-self
invariant_of-self c = none_noted c

pub returns-then-is_empty-clause-releases : goal.returns-then-is_empty-clause-releases
returns-then-is_empty-clause-releases c = rw (← c.self.view_is) (released (rw (none_noted c) at c.let_go.ensures.goes) c.self.invariant refl)

pub returns-then-is_empty-clause-largest : goal.returns-then-is_empty-clause-largest
returns-then-is_empty-clause-largest c = leaves_largest (c.args.koid ∷ []) [] c.args.self.now _ (returns-then-is_empty-clause-releases c)

pub returns-then-is_empty-clause-waits : goal.returns-then-is_empty-clause-waits
returns-then-is_empty-clause-waits c = rw (← c.self.view_is) (waits_left (left_by c.let_go.ensures.goes) c.self.inside.store.kept.whole.places)

pub returns-then-is_empty-clause-places : goal.returns-then-is_empty-clause-places
returns-then-is_empty-clause-places c = c.let_go.ensures.goes.places c.self.inside.store.kept.whole.places

pub returns-then-is_empty-clause-listed : goal.returns-then-is_empty-clause-listed
returns-then-is_empty-clause-listed c =
    let kept = less_kept c.args.koid c.self.inside.store.kept c.let_go.ensures.objects c.let_go.ensures.capacity in
    rw (← c.self.view_is) record {
      waits = sym (all_seen c.self.inside.store.waits.entries.items c.let_go.new.by_koid.entries kept.whole.places kept.listed);
      made = refl;
      asleep = (refl, refl);
    }
