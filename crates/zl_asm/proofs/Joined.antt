-- Words with a text between any two, one word after the other.
use Rattle.zl_asm.proofs.Common.{Bool, List, [], ap, append-nil, append_assoc, arith, behind, codes, cond, eqb, false, filter, flat_map}
use Rattle.zl_asm.proofs.Common.{flat_map-append, get_or, joined, length, map, map-append, nat_tests, not, refl, register_text, suc, sym, take, take_more}
use Rattle.zl_asm.proofs.Common.{true, zero, ℕ}
use Rattle.zl_asm.proofs.Common.{◌++◌, ◌+◌, ◌<◌, ◌∙◌, ◌∷◌, ◌≡◌, ◌≤◌}
use Rattle.std.proofs.lemmas.List.Elements.{filter_more}

-- each word with the text before it
abbrev each_behind : List ℕ → List (List ℕ) → List ℕ
each_behind between words = flat_map (λ word. between ++ word) words

joined-cons : (between word : List ℕ) (words : List (List ℕ)) → joined between (word ∷ words) ≡ word ++ each_behind between words
unfolding joined
joined-cons between word [] = sym (append-nil word)
joined-cons between word (next ∷ words) =
    ap (λ (x : List ℕ). word ++ (between ++ x)) (joined-cons between next words)
    ∙ ap (λ (x : List ℕ). word ++ x) (sym (append_assoc between next (each_behind between words)))

one_behind : (between word : List ℕ) → each_behind between (word ∷ []) ≡ between ++ word
one_behind between word = append-nil (between ++ word)

-- more words behind some
joined-more : (between word : List ℕ) (words more : List (List ℕ))
    → joined between (word ∷ (words ++ more)) ≡ joined between (word ∷ words) ++ each_behind between more
joined-more between word words more =
    joined-cons between word (words ++ more) ∙ ap (λ (x : List ℕ). word ++ x) (flat_map-append (λ w. between ++ w) words more)
    ∙ sym (append_assoc word (each_behind between words) (each_behind between more))
    ∙ ap (λ (x : List ℕ). x ++ each_behind between more) (sym (joined-cons between word words))

-- one more word
pub next_word : (between word : List ℕ) (words : List (List ℕ)) → 0 < length words
    → joined between (words ++ (word ∷ [])) ≡ joined between words ++ (between ++ word)
next_word between word [] h = absurd (omega arith)
next_word between word (first ∷ words) h =
    joined-more between first words (word ∷ []) ∙ ap (λ (x : List ℕ). joined between (first ∷ words) ++ x) (one_behind between word)

-- what stands before the next word
abbrev pub between_now : List ℕ → List (List ℕ) → List ℕ
between_now separator [] = separator
between_now separator (word ∷ words) = codes ", "

behind-more : (separator word : List ℕ) (words : List (List ℕ))
    → behind separator (words ++ (word ∷ [])) ≡ behind separator words ++ (between_now separator words ++ word)
unfolding joined
behind-more separator word [] = refl
behind-more separator word (first ∷ words) =
    ap (λ (x : List ℕ). separator ++ x) (next_word (codes ", ") word (first ∷ words) (omega arith))
    ∙ sym (append_assoc separator (joined (codes ", ") (first ∷ words)) (codes ", " ++ word))

between-more : (separator word : List ℕ) (words : List (List ℕ)) → between_now separator (words ++ (word ∷ [])) ≡ codes ", "
between-more separator word [] = refl
between-more separator word (first ∷ words) = refl

-- ---- registers

-- nothing stands before the first of them
first_now : (separator : List ℕ) (i : ℕ) (registers : List ℕ) → i ≤ length registers
    → between_now separator (map register_text (take i registers)) ≡ cond (eqb i 0) separator (codes ", ")
first_now separator zero registers le = refl
first_now separator (suc i) [] le = absurd (omega arith)
first_now separator (suc i) (r ∷ registers) le = let later : eqb (suc i) 0 ≡ false = grind (arith, nat_tests) in rw later refl

pub register_more : (separator registers : List ℕ) (i d : ℕ) → i < length registers → behind separator (map register_text (take (i + 1) registers))
    ≡ behind separator (map register_text (take i registers)) ++ (cond (eqb i 0) separator (codes ", ") ++ register_text (get_or registers i d))
register_more separator registers i d within =
    ap (behind separator)
    (ap (map register_text) (take_more registers i d within) ∙ map-append register_text (take i registers) (get_or registers i d ∷ []))
    ∙ behind-more separator (register_text (get_or registers i d)) (map register_text (take i registers))
    ∙ ap (λ (x : List ℕ). behind separator (map register_text (take i registers)) ++ (x ++ register_text (get_or registers i d)))
    (first_now separator i registers (omega arith))

-- ---- places with a register

abbrev has_register : ℕ → Bool
has_register place = not (eqb place 255)

-- the texts of the registers in these places
abbrev pub texts : List ℕ → List (List ℕ)
texts places = map register_text (filter has_register places)

module _ (separator places : List ℕ) (i d : ℕ) (within : i < length places) where
  kept : (has : Bool) → has_register (get_or places i d) ≡ has
      → texts (take (i + 1) places) ≡ texts (take i places) ++ cond has (register_text (get_or places i d) ∷ []) []
  kept true is =
      ap (map register_text) (filter_more has_register places i d within ∙ rw is refl)
      ∙ map-append register_text (filter has_register (take i places)) (get_or places i d ∷ [])
  kept false is =
      ap (map register_text) (filter_more has_register places i d within ∙ rw is (append-nil (filter has_register (take i places))))
      ∙ sym (append-nil (texts (take i places)))

  -- a place with a register
  pub place_written : has_register (get_or places i d) ≡ true → behind separator (texts (take (i + 1) places))
      ≡ behind separator (texts (take i places)) ++ (between_now separator (texts (take i places)) ++ register_text (get_or places i d))
  place_written is = ap (behind separator) (kept true is) ∙ behind-more separator (register_text (get_or places i d)) (texts (take i places))

  pub place_after : has_register (get_or places i d) ≡ true → between_now separator (texts (take (i + 1) places)) ≡ codes ", "
  place_after is = ap (between_now separator) (kept true is) ∙ between-more separator (register_text (get_or places i d)) (texts (take i places))

  -- a place without one
  pub place_passed : has_register (get_or places i d) ≡ false → texts (take (i + 1) places) ≡ texts (take i places)
  place_passed is = kept false is ∙ append-nil (texts (take i places))

-- ---- the operands of a row

words_behind : (word : List ℕ) (words : List (List ℕ)) → each_behind (codes ", ") (word ∷ words) ≡ codes ", " ++ joined (codes ", ") (word ∷ words)
words_behind word words =
    append_assoc (codes ", ") word (each_behind (codes ", ") words) ∙ ap (λ (x : List ℕ). codes ", " ++ x) (sym (joined-cons (codes ", ") word words))

-- registers, and behind them the tail
pub operands_written : (separator : List ℕ) (registers : List ℕ) (tail : List (List ℕ)) → behind separator (map register_text registers ++ tail)
    ≡ behind separator (map register_text registers) ++ behind (cond (eqb (length registers) 0) separator (codes ", ")) tail
operands_written separator [] tail = refl
operands_written separator (r ∷ registers) [] =
    ap (behind separator) (append-nil (map register_text (r ∷ registers))) ∙ sym (append-nil (behind separator (map register_text (r ∷ registers))))
operands_written separator (r ∷ registers) (word ∷ words) =
    let front = joined (codes ", ") (map register_text (r ∷ registers)) in
    let some : eqb (length (r ∷ registers)) 0 ≡ false = grind (arith, nat_tests) in
    rw some (ap (λ (x : List ℕ). separator ++ x) (joined-more (codes ", ") (register_text r) (map register_text registers) (word ∷ words)
    ∙ ap (λ (x : List ℕ). front ++ x) (words_behind word words))
    ∙ sym (append_assoc separator front (codes ", " ++ joined (codes ", ") (word ∷ words))))

-- a whole row
pub row_written : (text name first third last : List ℕ) (registers : List ℕ) (separator : List ℕ) (tail : List (List ℕ)) → first ≡ text ++ name
    → third ≡ first ++ behind (codes " ") (map register_text registers) → last ≡ third ++ behind separator tail
    → separator ≡ cond (eqb (length registers) 0) (codes " ") (codes ", ")
    → last ≡ text ++ (name ++ behind (codes " ") (map register_text registers ++ tail))
row_written text name first third last registers separator tail a b c same =
    c ∙ (λ i. b i ++ behind (same i) tail)
    ∙ append_assoc first (behind (codes " ") (map register_text registers)) _
    ∙ (λ i. a i ++ sym (operands_written (codes " ") registers tail) i)
    ∙ append_assoc text name (behind (codes " ") (map register_text registers ++ tail))
