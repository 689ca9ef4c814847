-- The programs of a library are as their checks promise, one more too.
use Rattle.zl_interp.proofs.Common.{IsTrue, IsVerified, List, Some, is_in_range, map, map-append, none-some, refl, same_Some, slice_get, subst, suc, sym, true}
use Rattle.zl_interp.proofs.Common.{zero, ℕ, ◌++◌, ◌∷◌, ◌≡◌, []}
use Rattle.std.specs.List.{AllByRecursion}
use Rattle.zl_code.specs.Image.{Program, Library}
use Rattle.zl_verify.specs.Checks.{HasStepBound}

abbrev InRange : Program → Type 0
InRange g = IsTrue (is_in_range g.image)

all_behind : (xs : Library) (g : Program) → AllByRecursion InRange xs → InRange g → AllByRecursion InRange (xs ++ g ∷ [])
all_behind [] g all one = (one, tt)
all_behind (x ∷ xs) g (first, all) one = (first, all_behind xs g all one)

found : (xs : Library) (g : Program) (n : ℕ) (h : Program) → slice_get (xs ++ g ∷ []) n ≡ Some h
    → ((m : ℕ) → slice_get xs m ≡ Some h → h.checked ≡ true → HasStepBound h.image) → (g.checked ≡ true → HasStepBound g.image) → h.checked ≡ true
    → HasStepBound h.image
found [] g zero h at old new checked = subst (λ (x : Program). x.checked ≡ true → HasStepBound x.image) (same_Some g h at) new checked
found [] g (suc n) h at old new checked = absurd (none-some h at)
found (x ∷ xs) g zero h at old new checked = old zero at checked
found (x ∷ xs) g (suc n) h at old new checked = found xs g n h at (λ m. old (suc m)) new checked

pub one_verified : (lib : Library) (g : Program) → IsVerified lib → InRange g → (g.checked ≡ true → HasStepBound g.image) → IsVerified (lib ++ g ∷ [])
one_verified lib g v range bound = record {
  images = all_behind lib g v.images range;
  bounds = λ n i at. found lib g n (record { checked = true; image = i }) at (λ m there checked. v.bounds m i there) bound refl;
}

-- of a list that is seen through f, where one more is pushed
pub pushed : {X : Type 0} (f : X → Program) (old between new : List X) (x : X) (g : Program) → IsVerified (map f old) → between ≡ old
    → new ≡ between ++ x ∷ [] → f x ≡ g → InRange g → (g.checked ≡ true → HasStepBound g.image) → IsVerified (map f new)
pushed f old between new x g v same is made range bound =
    subst (λ ys. IsVerified (map f ys)) (sym is) (subst (λ ys. IsVerified (map f (ys ++ x ∷ []))) (sym same) (subst IsVerified (sym (map-append f old (x ∷ [])))
    (subst (λ h. IsVerified (map f old ++ h ∷ [])) (sym made) (one_verified (map f old) g v range bound))))
