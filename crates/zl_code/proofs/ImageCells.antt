-- Lists of seven and of eight numbers by their cells, and registers in seven places.
use Rattle.zl_code.proofs.Common.{List, [], ap, append-nil, arith, drop, get_or, length, refl, replicate, set, seven, suc, sym, take, take-append-drop}
use Rattle.zl_code.proofs.Common.{take-suc-set, take_all, take_more, ℕ, ◌++◌, ◌+◌, ◌<◌, ◌∙◌, ◌∷◌, ◌≡◌, ◌≤◌}

pub cells_7 : (xs rest : List ℕ) → length xs ≡ 7
    → get_or xs 0 0 ∷ get_or xs 1 0 ∷ get_or xs 2 0 ∷ get_or xs 3 0 ∷ get_or xs 4 0 ∷ get_or xs 5 0 ∷ get_or xs 6 0 ∷ rest ≡ xs ++ rest
cells_7 (a ∷ b ∷ c ∷ d ∷ e ∷ f ∷ g ∷ []) rest len = refl
cells_7 (a ∷ b ∷ c ∷ d ∷ e ∷ f ∷ g ∷ h ∷ xs) rest len = absurd (omega (arith, len))
cells_7 (a ∷ b ∷ c ∷ d ∷ e ∷ f ∷ []) rest len = absurd (omega (arith, len))
cells_7 (a ∷ b ∷ c ∷ d ∷ e ∷ []) rest len = absurd (omega (arith, len))
cells_7 (a ∷ b ∷ c ∷ d ∷ []) rest len = absurd (omega (arith, len))
cells_7 (a ∷ b ∷ c ∷ []) rest len = absurd (omega (arith, len))
cells_7 (a ∷ b ∷ []) rest len = absurd (omega (arith, len))
cells_7 (a ∷ []) rest len = absurd (omega (arith, len))
cells_7 [] rest len = absurd (omega (arith, len))

pub cells_8 : (xs : List ℕ) → length xs ≡ 8
    → get_or xs 0 0 ∷ get_or xs 1 0 ∷ get_or xs 2 0 ∷ get_or xs 3 0 ∷ get_or xs 4 0 ∷ get_or xs 5 0 ∷ get_or xs 6 0 ∷ get_or xs 7 0 ∷ [] ≡ xs
cells_8 [] len = absurd (omega (arith, len))
cells_8 (a ∷ xs) len = (let short : length xs ≡ 7 = omega (arith, len) in ap (λ (r : List ℕ). a ∷ r) (cells_7 xs [] short ∙ append-nil xs))

-- ---- the seven registers

-- registers, with what is left of seven zeros behind them
pub seven_places : (registers : List ℕ) → length registers ≤ 7 → registers ++ drop (length registers) (replicate 7 0) ≡ seven registers
seven_places [] few = refl
seven_places (a ∷ []) few = refl
seven_places (a ∷ b ∷ []) few = refl
seven_places (a ∷ b ∷ c ∷ []) few = refl
seven_places (a ∷ b ∷ c ∷ d ∷ []) few = refl
seven_places (a ∷ b ∷ c ∷ d ∷ e ∷ []) few = refl
seven_places (a ∷ b ∷ c ∷ d ∷ e ∷ f ∷ []) few = refl
seven_places (a ∷ b ∷ c ∷ d ∷ e ∷ f ∷ g ∷ []) few = refl
seven_places (a ∷ b ∷ c ∷ d ∷ e ∷ f ∷ g ∷ h ∷ registers) few = absurd (omega arith)

module _ (used places : List ℕ) (i : ℕ) (front : take i places ≡ take i used) where
  -- one register more is in its place
  pub one_placed : (r d : ℕ) → i < length used → i < length places → r ≡ get_or used i d → take (i + 1) (set places i r) ≡ take (i + 1) used
  one_placed r d within inside same =
      let next : i + 1 ≡ suc i = omega arith in
      ap (λ (n : ℕ). take n (set places i r)) next ∙ take-suc-set places i r inside ∙ (λ k. front k ++ same k ∷ []) ∙ sym (take_more used i d within)

  -- all of them are
  pub all_placed : length used ≤ 7 → i ≡ length used → drop i places ≡ drop i (replicate 7 0) → places ≡ seven used
  all_placed few all behind =
      sym (take-append-drop i places) ∙ (λ k. front k ++ behind k) ∙ (λ k. take_all i used (omega arith) k ++ drop (all k) (replicate 7 0))
      ∙ seven_places used few
