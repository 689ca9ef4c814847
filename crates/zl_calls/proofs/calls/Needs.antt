-- What a program needs, looked for among all that can be needed.
use Rattle.zl_code.proofs.Common.{filter, is_in_range}
use Rattle.zl_calls.proofs.Common.{Bool, Condition, Image, List, [], ap, can_be_needed, false, is_among, list_any, refl, sym, true, ◌&&◌, ◌||◌, ◌∙◌, ◌∷◌, ◌≡◌}
use Rattle.zl_code.proofs.ImageNeeds.{needs_named-needs}
use Rattle.zl_code.proofs.ImageRanges.{ranges}

any_filtered : {X : Type 0} (p f : X → Bool) (xs : List X) → list_any f (filter p xs) ≡ list_any (λ x. p x && f x) xs
any_filtered p f [] = refl
any_filtered p f (x ∷ xs) = by (p x) refl (any_filtered p f xs)
  where
    by : (b : Bool) → p x ≡ b → list_any f (filter p xs) ≡ list_any (λ y. p y && f y) xs → list_any f (filter p (x ∷ xs)) ≡ list_any (λ y. p y && f y) (x ∷ xs)
    by true e rest = rw e (ap (λ b. f x || b) rest)
    by false e rest = rw e rest

-- a test that some need of an image passes, as some of all that can be needed is among its needs and passes it
pub any_needed : (i : Image) → is_in_range i ≡ true → (f : Condition → Bool) → list_any (λ c. is_among i.needs c && f c) can_be_needed ≡ list_any f i.needs
any_needed i fits f = sym (any_filtered (is_among i.needs) f can_be_needed) ∙ ap (list_any f) (needs_named-needs i.needs (ranges i fits).needs)
