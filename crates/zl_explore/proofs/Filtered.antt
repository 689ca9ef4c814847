-- One more of a list that is read from its front.
use Rattle.std.proofs.Common.{ap, false, length, refl, slice_get, take, true, Bool, List, Some, [], ℕ, ◌+◌, ◌++◌, ◌<◌, ◌∙◌, ◌∷◌, ◌≡◌}
use Rattle.std.specs.List.{filter}
use Rattle.std.proofs.lemmas.List.{take_more}
use Rattle.std.proofs.lemmas.List.Elements.{filter-append}
use Rattle.std.proofs.lemmas.Option.{get_or_from_slice_get, slice_get_within}
use Rattle.zl_explore.specs.Orders.{one_if}

-- it comes if it passes
pub filtered_more : (test : ℕ → Bool) (n x : ℕ) (xs : List ℕ) → slice_get xs n ≡ Some x
    → filter test (take (n + 1) xs) ≡ filter test (take n xs) ++ one_if (test x) x
filtered_more test n x xs there =
    let within : n < length xs = slice_get_within xs n x there in
    ap (filter test) (take_more xs n x within ∙ ap (λ (y : ℕ). take n xs ++ (y ∷ [])) (get_or_from_slice_get xs n x x there))
    ∙ (filter-append test (take n xs) (x ∷ []) ∙ ap (λ (ys : List ℕ). filter test (take n xs) ++ ys) (alone (test x) refl))
  where
    alone : (b : Bool) → test x ≡ b → filter test (x ∷ []) ≡ one_if b x
    alone true is = rw is refl
    alone false is = rw is refl
