-- Lists that look the same, place by place, and a map that is copied entry by entry.
use Rattle.zl_objects.proofs.Common.{AllByRecursion, IsStrictlySortedBy, List, Map, [], ap, arith, insert_entry, keys_of, map, nat_cmp, nat_tests, option_map}
use Rattle.zl_objects.proofs.Common.{refl, slice_get, subst, suc, sym, take, zero, ℕ, ◌++◌, ◌+◌, ◌∙◌, ◌∷◌, ◌≡◌}
use Rattle.std.proofs.lemmas.Option.{slice_get-map}
use Rattle.std.specs.declared.cmp.Ordering.TheVariants.{Less}

module _ {A B : Type 0} (f : A → B) where
  -- lists that look the same look so at each place
  pub alike_at : (xs ys : List A) (n : ℕ) → map f xs ≡ map f ys → option_map f (slice_get xs n) ≡ option_map f (slice_get ys n)
  alike_at xs ys n same = sym (slice_get-map f xs n) ∙ ap (λ zs. slice_get zs n) same ∙ slice_get-map f ys n

  by_one : (xs ys : List A) (n : ℕ) → map f (take n xs) ≡ map f (take n ys) → option_map f (slice_get xs n) ≡ option_map f (slice_get ys n)
      → map f (take (suc n) xs) ≡ map f (take (suc n) ys)
  by_one [] [] n same here = refl
  by_one [] (y ∷ ys) zero same here = cc
  by_one [] (y ∷ ys) (suc n) same here = cc
  by_one (x ∷ xs) [] zero same here = cc
  by_one (x ∷ xs) [] (suc n) same here = cc
  by_one (x ∷ xs) (y ∷ ys) zero same here = cc
  by_one (x ∷ xs) (y ∷ ys) (suc n) same here = grind (arith, by_one xs ys n)

  -- lists that look the same up to a place and there do so up to the next one
  pub alike_more : (xs ys : List A) (n : ℕ) → map f (take n xs) ≡ map f (take n ys) → option_map f (slice_get xs n) ≡ option_map f (slice_get ys n)
      → map f (take (n + 1) xs) ≡ map f (take (n + 1) ys)
  alike_more xs ys n same here = let next : n + 1 ≡ suc n = omega arith in rw next (by_one xs ys n same here)

module _ {X : Type 0} where
  is_behind : (j : ℕ) (es : Map X) (k : ℕ) (v : X) (rest : Map X) → AllByRecursion (λ i. nat_cmp j i ≡ Less) (keys_of (es ++ (k, v) ∷ rest))
      → nat_cmp j k ≡ Less
  is_behind j [] k v rest all = all.0
  is_behind j (e ∷ es) k v rest all = is_behind j es k v rest all.1

  -- a key behind all others goes to the end
  put_behind : (es : Map X) (k : ℕ) (v : X) (rest : Map X) → IsStrictlySortedBy nat_cmp (keys_of (es ++ (k, v) ∷ rest))
      → insert_entry nat_cmp es k v ++ rest ≡ es ++ (k, v) ∷ rest
  unfolding IsStrictlySortedBy
  put_behind [] k v rest sorted = refl
  put_behind (e ∷ es) k v rest sorted = grind (arith, nat_tests, put_behind es k v rest sorted.1, is_behind e.0 es k v rest sorted.0)

  -- the first entry of what was left goes over, as it was
  pub one_copied : (es was rest whole new : Map X) (k : ℕ) (v w : X) → es ++ was ≡ whole → was ≡ (k, v) ∷ rest → w ≡ v → new ≡ insert_entry nat_cmp es k w
      → IsStrictlySortedBy nat_cmp (keys_of whole) → new ++ rest ≡ whole
  one_copied es was rest whole new k v w so_far first same entered sorted =
      let there : es ++ (k, v) ∷ rest ≡ whole = ap (λ ks. es ++ ks) (sym first) ∙ so_far in
      ap (λ m. m ++ rest) (entered ∙ ap (insert_entry nat_cmp es k) same)
      ∙ put_behind es k v rest (subst (λ m. IsStrictlySortedBy nat_cmp (keys_of m)) (sym there) sorted) ∙ there
