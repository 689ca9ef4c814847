-- Two lists that iterators give, compared item by item, and the handles in two slabs.
use Rattle.zl_rights.proofs.Common.{◌≡◌, ℕ, ◌+◌, ◌-◌, Bool, true, false, List, [], ◌∷◌, map, refl, sym, ap, ◌∙◌, Option, Some, None, arith, false≢true}
use Rattle.std.specs.Bool.{Decides}
use Rattle.std.specs.List.{AllZip}
use Rattle.std.specs.Option.{MatchOption}
use Rattle.std.specs.Prelude.{IfSome, reverse}
use Rattle.std.proofs.lemmas.List.{reverse-reverse}
use Rattle.std.specs.Iterator.{ComparesItemsByEq, YieldsFirstBy, YieldsThen}
use Rattle.slab.specs.Slab.{entries_from}

module _ {A B : Type 0} (view : A → B) (eq : A → A → Bool) (decides : (x y : A) → Decides (eq x y) (view x ≡ view y)) where
  abbrev steps : List B → Option A → List B → Type 0
  steps = YieldsFirstBy view (λ rest. rest)

  -- the items that were given one by one, and what came behind them
  by_items : (s t u v : List B) (xs ys : List A) (o p : Option A) (r : Bool) → YieldsThen steps s xs o u → YieldsThen steps t ys p v
      → AllZip (λ x y. eq x y ≡ true) xs ys
      → MatchOption o (MatchOption p (r ≡ true) (λ _. r ≡ false)) (λ x. (r ≡ false) × IfSome p (λ y. eq x y ≡ false)) → Decides r (s ≡ t)
  by_items s t u v [] [] None None r one other zip last = grind (arith, one, other, last)
  by_items s t u v [] [] None (Some y) r one other zip last = grind (arith, one, other, last, false≢true)
  by_items s t u v [] [] (Some x) None r one other zip last = grind (arith, one, other, last, false≢true)
  by_items s t u v [] [] (Some x) (Some y) r one other zip last = grind (arith, one, other, last, decides x y, false≢true)
  by_items s t u v [] (y ∷ ys) o p r one other zip last = absurd zip
  by_items s t u v (x ∷ xs) [] o p r one other zip last = absurd zip
  by_items s t u v (x ∷ xs) (y ∷ ys) o p r one other zip last =
      let rest = by_items one.1.0 other.1.0 u v xs ys o p r (one.0, one.1.2, one.2) (other.0, other.1.2, other.2) zip.1 last in
      grind (arith, one.1.1, other.1.1, rest, zip.0, decides x y)

  -- `eq` of two iterators whose values are the lists of what is left
  pub compared : (s t : List B) (r : Bool) → ComparesItemsByEq steps (λ other it. it ≡ other) steps s t eq r → Decides r (s ≡ t)
  compared s t r ran = rw ran.7 at (by_items s ran.0 ran.5 ran.6 ran.1 ran.2 ran.3 ran.4 r ran.8 ran.9 ran.10 ran.11)

-- lists that are the same from their ends on
pub same_reversed : (xs ys : List ℕ) → reverse xs ≡ reverse ys → xs ≡ ys
same_reversed xs ys same = sym (reverse-reverse xs) ∙ ap reverse same ∙ reverse-reverse ys

module _ {X : Type 0} where
  abbrev higher : ℕ × X → ℕ × X
  higher e = (e.0 + 1, e.1)

  abbrev lower : ℕ × X → ℕ × X
  lower e = (e.0 - 1, e.1)

  -- the keys from one more on are one more
  up : (n : ℕ) (slots : List (Option X)) → entries_from (n + 1) slots ≡ map higher (entries_from n slots)
  up n [] = refl
  up n (None ∷ rest) = up (n + 1) rest
  up n (Some x ∷ rest) = ap (λ es. (n + 1, x) ∷ es) (up (n + 1) rest)

  down : (es : List (ℕ × X)) → map lower (map higher es) ≡ es
  down [] = refl
  down (e ∷ es) = let key : e.0 + 1 - 1 ≡ e.0 = omega arith in λ i. (key i, e.1) ∷ down es i

  -- the same entries from one key on are the same from the next on
  pub same_moved : (r : Bool) (n : ℕ) (a b : List (Option X)) → Decides r (entries_from n a ≡ entries_from n b)
      → Decides r (entries_from (n + 1) a ≡ entries_from (n + 1) b)
  same_moved r n a b decides = (
    λ yes_. rw (up n a, up n b, decides.0 yes_) refl,
    λ same. decides.1 (sym (down (entries_from n a)) ∙ ap (map lower) (sym (up n a) ∙ same ∙ up n b) ∙ down (entries_from n b)),
  )
