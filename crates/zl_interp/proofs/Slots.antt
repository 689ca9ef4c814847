-- One place of the slot arrays is written, or the first places of one.
use Rattle.zl_interp.proofs.Common.{IsSome, IsTrue, List, None, Option, Some, [], ap, get_or, get_or-map, length, map, refl, slice_get, slice_set, suc}
use Rattle.zl_interp.proofs.Common.{sym, with_items_is, zero, ℕ, ◌<◌, ◌∙◌, ◌∷◌, ◌≡◌}
use Rattle.std.proofs.Common.{Global, Vec}
use Rattle.std.specs.Vec.{with_items}
use Rattle.zl_code.specs.Asked.{has_places}
use Rattle.zl_code.specs.Effects.{filled_in, slots_filled}
use Rattle.zl_code.specs.Local.{overwritten}
use Rattle.zl_interp.specs.Running.{slot_in, slot_set, set_in}

set_behind : (y : List ℕ) (ys : List (List ℕ)) (n place value : ℕ) (o : Option (List ℕ)) → set_in (y ∷ ys) (suc n) place value o ≡ y ∷ set_in ys n place value o
set_behind y ys n place value None = refl
set_behind y ys n place value (Some places) = refl

-- the arrays as f sees them, where one that has the place is replaced by the same with the value there
pub slot_written : {V : Type 0} (f : V → List ℕ) (xs : List V) (array place value : ℕ) (d w : V) → IsSome (slot_in (map f xs) array place)
    → f w ≡ slice_set (f (get_or xs array d)) place value → map f (slice_set xs array w) ≡ slot_set (map f xs) array place value
slot_written f [] array place value d w there same = absurd cc
slot_written f (x ∷ xs) zero place value d w there same = λ i. same i ∷ map f xs
slot_written f (x ∷ xs) (suc n) place value d w there same =
    ap (λ (ys : List (List ℕ)). f x ∷ ys) (slot_written f xs n place value d w there same)
    ∙ sym (set_behind (f x) (map f xs) n place value (slice_get (map f xs) n))

-- where f sees the same in two lists, it sees the same in each place
pub same_at : {A B : Type 0} (f : A → B) (d : B) (xs ys : List A) (n : ℕ) (x y : A) → x ≡ get_or xs n x → y ≡ get_or ys n y → n < length xs → n < length ys
    → map f xs ≡ map f ys → f x ≡ f y
same_at f d xs ys n x y of_x of_y in_xs in_ys e =
    ap f of_x ∙ sym (get_or-map f xs n x d in_xs) ∙ ap (λ zs. get_or zs n d) e ∙ get_or-map f ys n y d in_ys ∙ sym (ap f of_y)

filled_behind : (y : List ℕ) (ys : List (List ℕ)) (n : ℕ) (vs : List ℕ) (o : Option (List ℕ)) → filled_in (y ∷ ys) (suc n) vs o ≡ y ∷ filled_in ys n vs o
filled_behind y ys n vs None = refl
filled_behind y ys n vs (Some places) = refl

filled_by : {V : Type 0} (f : V → List ℕ) (xs : List V) (array n : ℕ) (vs : List ℕ) (d w : V) → IsTrue (has_places n (slice_get (map f xs) array))
    → f w ≡ overwritten (f (get_or xs array d)) 0 vs → map f (slice_set xs array w) ≡ slots_filled (map f xs) (Some (array, vs))
filled_by f [] array n vs d w there same = absurd cc
filled_by f (x ∷ xs) zero n vs d w there same = λ i. same i ∷ map f xs
filled_by f (x ∷ xs) (suc array) n vs d w there same =
    ap (λ (ys : List (List ℕ)). f x ∷ ys) (filled_by f xs array n vs d w there same)
    ∙ sym (filled_behind (f x) (map f xs) array vs (slice_get (map f xs) array))

-- an array that is there is replaced by the same with the values in front
pub array_filled : (xs : List (Vec ℕ Global)) (array n : ℕ) (vs ws was : List ℕ) (v : Vec ℕ Global)
    → IsTrue (has_places n (slice_get (map (λ places. places.items) xs) array)) → v ≡ get_or xs array v → was ≡ v.items
    → length ws ≡ v.len → ws ≡ overwritten was 0 vs
    → map (λ places. places.items) (slice_set xs array (with_items v ws)) ≡ slots_filled (map (λ places. places.items) xs) (Some (array, vs))
array_filled xs array n vs ws was v there found opened long same =
    filled_by (λ places. places.items) xs array n vs v (with_items v ws) there
    (with_items_is v ws long ∙ same ∙ ap (λ (places : List ℕ). overwritten places 0 vs) (opened ∙ ap (λ places. places.items) found))
