-- The elements of a list, yielded with their numbers.
use Rattle.zl_trace.proofs.Common.{List, [], ap, arith, at_drop_more, drop, get_or, length, length-map, map, refl, sym, take, take-append-drop, take-map, ℕ}
use Rattle.zl_trace.proofs.Common.{◌++◌, ◌+◌, ◌<◌, ◌∙◌, ◌∷◌, ◌≡◌}
use Rattle.std.specs.List.{enumerate_from}
use Rattle.std.proofs.lemmas.List.FromFn.{length-enumerate_from, get_or-enumerate_from}

second_enumerated : {X : Type 0} (n : ℕ) (xs : List X) → map (λ p. p.1) (enumerate_from n xs) ≡ xs
second_enumerated n [] = refl
second_enumerated n (x ∷ xs) = ap (λ (ys : List _). x ∷ ys) (second_enumerated (n + 1) xs)

second_shown : {A B : Type 0} (v : A → B) (ys : List (ℕ × A)) → map (λ p. p.1) (map {B = ℕ × B} (λ p. (p.0, v p.1)) ys) ≡ map (λ p. v p.1) ys
second_shown v [] = refl
second_shown v (y ∷ ys) = ap (λ (zs : List _). v y.1 ∷ zs) (second_shown v ys)

-- all were yielded
pub all_yielded : {A B : Type 0} (v : A → B) (all : List B) (ys : List (ℕ × A)) → map {B = ℕ × B} (λ p. (p.0, v p.1)) ys ≡ enumerate_from 0 all
    → map (λ p. v p.1) ys ≡ all
all_yielded {A} {B} v all ys e = sym (second_shown v ys) ∙ ap (map (λ (p : ℕ × B). p.1)) e ∙ second_enumerated 0 all

-- one is yielded next, with its number, and others are left
pub record IsNext {B : Type 0} (all done : List B) (index : ℕ) (x : B) : Type 0 where
  pub number : index ≡ length done
  pub rest : List B
  pub cut : all ≡ done ++ (x ∷ rest)

pub next_by : {A B : Type 0} (v : A → B) (all : List B) (ys : List (ℕ × A)) (index : ℕ) (x : B)
    → map {B = ℕ × B} (λ p. (p.0, v p.1)) ys ≡ take (length ys) (enumerate_from 0 all)
    → length ys < length (enumerate_from 0 all) → ◌≡◌ {A = ℕ × B} (index, x) (get_or (enumerate_from 0 all) (length ys) (index, x))
    → IsNext all (map (λ p. v p.1) ys) index x
next_by {A} {B} v all ys index x front below e =
    let within : length ys < length all = omega (arith, length-enumerate_from 0 all) in
    let as_many : length (map (λ p. v p.1) ys) ≡ length ys = length-map ys (λ (p : ℕ × A). v p.1) in
    let both = e ∙ get_or-enumerate_from 0 all (length ys) (index, x) within in
    let number : index ≡ 0 + length ys = ap (λ (p : ℕ × B). p.0) both in
    let same : x ≡ get_or all (length ys) x = ap (λ (p : ℕ × B). p.1) both in
    let done : map (λ p. v p.1) ys ≡ take (length ys) all =
    sym (second_shown v ys) ∙ ap (map (λ (p : ℕ × B). p.1)) front ∙ sym (take-map (λ (p : ℕ × B). p.1) (length ys) (enumerate_from 0 all))
    ∙ ap (take (length ys)) (second_enumerated 0 all) in
    let next : drop (length ys) all ≡ x ∷ drop (length ys + 1) all =
    at_drop_more (λ (l : List B). l) all (length ys) x within ∙ ap (λ (y : B). y ∷ drop (length ys + 1) all) (sym same) in
    record {
      number = omega (arith, number, as_many);
      rest = drop (length ys + 1) all;
      cut = sym (take-append-drop (length ys) all) ∙ ap (λ (l : List B). l ++ drop (length ys) all) (sym done)
          ∙ ap (λ (l : List B). map (λ p. v p.1) ys ++ l) next;
    }
