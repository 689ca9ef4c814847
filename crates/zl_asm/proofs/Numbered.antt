-- The lines of a text, yielded with their numbers.
use Rattle.zl_asm.proofs.Common.{List, [], ap, enumerate_from, length, map, refl, sym, take, take-map, ℕ, ◌+◌, ◌∙◌, ◌∷◌, ◌≡◌}

second_enumerated : {X : Type 0} (n : ℕ) (xs : List X) → map (λ p. p.1) (enumerate_from n xs) ≡ xs
second_enumerated n [] = refl
second_enumerated n (x ∷ xs) = ap (λ (ys : List _). x ∷ ys) (second_enumerated (n + 1) xs)

second_shown : {A B : Type 0} (v : A → B) (ys : List (ℕ × A)) → map (λ p. p.1) (map {B = ℕ × B} (λ p. (p.0, v p.1)) ys) ≡ map (λ p. v p.1) ys
second_shown v [] = refl
second_shown v (y ∷ ys) = ap (λ (zs : List _). v y.1 ∷ zs) (second_shown v ys)

-- so many lines were yielded
pub lines_so_far : {A : Type 0} (v : A → List ℕ) (lines : List (List ℕ)) (ys : List (ℕ × A))
    → map {B = ℕ × List ℕ} (λ p. (p.0, v p.1)) ys ≡ take (length ys) (enumerate_from 0 lines) → map (λ p. v p.1) ys ≡ take (length ys) lines
lines_so_far v lines ys e =
    sym (second_shown v ys) ∙ ap (map (λ (p : ℕ × List ℕ). p.1)) e ∙ sym (take-map (λ (p : ℕ × List ℕ). p.1) (length ys) (enumerate_from 0 lines))
    ∙ ap (take (length ys)) (second_enumerated 0 lines)

-- all lines were yielded
pub lines_all : {A : Type 0} (v : A → List ℕ) (lines : List (List ℕ)) (ys : List (ℕ × A)) → map {B = ℕ × List ℕ} (λ p. (p.0, v p.1)) ys ≡ enumerate_from 0 lines
    → map (λ p. v p.1) ys ≡ lines
lines_all v lines ys e = sym (second_shown v ys) ∙ ap (map (λ (p : ℕ × List ℕ). p.1)) e ∙ second_enumerated 0 lines
