-- The words of a line that was written with spaces and commas between plain words.
use Rattle.zl_asm.proofs.Common.{Bool, List, Some, [], and_parts, ap, append-nil, append_assoc, codes, comma, false, is_word, joined, list_all, nat_lt, not}
use Rattle.zl_asm.proofs.Common.{not-true, operands_after, operands_of, refl, sym, true, word_before, words_from, words_of, ℕ, ◌&&◌, ◌++◌, ◌==◌, ◌∙◌, ◌∷◌, ◌≡◌}

-- a printed byte that is no space, comma or semicolon
abbrev pub is_plain : ℕ → Bool
is_plain b = not (b == 59) && (not (b == 32) && (not (b == 44) && (nat_lt 32 b && nat_lt b 127)))

-- a word that has a byte, and plain ones alone
abbrev pub is_plain_word : List ℕ → Bool
is_plain_word [] = false
is_plain_word (b ∷ bs) = is_plain b && list_all is_plain bs

pub plain_all : (word : List ℕ) → is_plain_word word ≡ true → list_all is_plain word ≡ true
plain_all [] h = absurd cc
plain_all (b ∷ bs) h = h

-- what is neither a semicolon, a space nor a comma
plain_parts : (b : ℕ) → is_plain b ≡ true → ((b == 59) ≡ false) × ((b == 32) ≡ false) × ((b == 44) ≡ false)
plain_parts b h =
    let p = and_parts (not (b == 59)) _ h in
    let q = and_parts (not (b == 32)) _ p.1 in
    let r = and_parts (not (b == 44)) _ q.1 in
    (not-true _ p.0, not-true _ q.0, not-true _ r.0)

-- plain bytes are read on as parts of the word
words_from-plain : (word plain rest : List ℕ) → list_all is_plain plain ≡ true → words_from word (plain ++ rest) ≡ words_from (word ++ plain) rest
unfolding words_from
words_from-plain word [] rest h = ap (λ (w : List ℕ). words_from w rest) (sym (append-nil word))
words_from-plain word (b ∷ bs) rest h =
    let p = and_parts (is_plain b) (list_all is_plain bs) h in
    let none = plain_parts b p.0 in
    rw (none.0, none.1, none.2) (words_from-plain (word ++ (b ∷ [])) bs rest p.1 ∙ ap (λ (w : List ℕ). words_from w rest) (append_assoc word (b ∷ []) bs))

before_plain : (word : List ℕ) (words : List (List ℕ)) → is_plain_word word ≡ true → word_before word words ≡ word ∷ words
before_plain [] words h = absurd cc
before_plain (b ∷ bs) words h = refl

-- a word alone
pub words_of-alone : (word : List ℕ) → is_plain_word word ≡ true → words_of word ≡ word ∷ []
unfolding words_from
words_of-alone word h = ap words_of (sym (append-nil word)) ∙ words_from-plain [] word [] (plain_all word h) ∙ before_plain word [] h

-- a word and a space
pub words_of-space : (word rest : List ℕ) → is_plain_word word ≡ true → words_of (word ++ (codes " " ++ rest)) ≡ word ∷ words_of rest
unfolding words_from
words_of-space word rest h = words_from-plain [] word (codes " " ++ rest) (plain_all word h) ∙ before_plain word (words_of rest) h

-- a word, a comma and a space
words_of-comma : (word rest : List ℕ) → is_plain_word word ≡ true → words_of (word ++ (codes ", " ++ rest)) ≡ word ∷ comma ∷ words_of rest
unfolding words_from
words_of-comma word rest h = words_from-plain [] word (codes ", " ++ rest) (plain_all word h) ∙ before_plain word (comma ∷ words_of rest) h

-- the words with a comma between any two
unfoldable pub with_commas : List (List ℕ) → List (List ℕ)
with_commas [] = []
with_commas (word ∷ []) = word ∷ []
with_commas (word ∷ next ∷ words) = word ∷ comma ∷ with_commas (next ∷ words)

words_of-joined : (words : List (List ℕ)) → list_all is_plain_word words ≡ true → words_of (joined (codes ", ") words) ≡ with_commas words
unfolding joined with_commas words_from
words_of-joined [] h = refl
words_of-joined (word ∷ []) h = words_of-alone word (and_parts (is_plain_word word) true h).0
words_of-joined (word ∷ next ∷ words) h =
    let p = and_parts (is_plain_word word) (list_all is_plain_word (next ∷ words)) h in
    words_of-comma word (joined (codes ", ") (next ∷ words)) p.0 ∙ ap (λ (ws : List (List ℕ)). word ∷ comma ∷ ws) (words_of-joined (next ∷ words) p.1)

-- a mnemonic with its operands
pub words_of-operands : (name : List ℕ) (words : List (List ℕ)) → is_plain_word name ≡ true → list_all is_plain_word words ≡ true
    → words_of (name ++ (codes " " ++ joined (codes ", ") words)) ≡ name ∷ with_commas words
words_of-operands name words named h = words_of-space name (joined (codes ", ") words) named ∙ ap (λ (ws : List (List ℕ)). name ∷ ws) (words_of-joined words h)

-- ---- operands

no_comma : (word : List ℕ) → is_plain_word word ≡ true → is_word word comma ≡ false
unfolding is_word
no_comma [] h = absurd cc
no_comma (b ∷ bs) h =
    let none = plain_parts b (and_parts (is_plain b) (list_all is_plain bs) h).0 in
    rw none.2 refl

operands_after-commas : (word : List ℕ) (words : List (List ℕ)) → list_all is_plain_word (word ∷ words) ≡ true
    → operands_after (with_commas (word ∷ words)) ≡ Some (word ∷ words)
unfolding operands_after with_commas is_word
operands_after-commas word [] h = let no = no_comma word (and_parts (is_plain_word word) true h).0 in rw no refl
operands_after-commas word (next ∷ words) h =
    let p = and_parts (is_plain_word word) (list_all is_plain_word (next ∷ words)) h in
    let no = no_comma word p.0 in
    rw (no, operands_after-commas next words p.1) refl

-- the operands are found between their commas
pub operands_of-commas : (word : List ℕ) (words : List (List ℕ)) → list_all is_plain_word (word ∷ words) ≡ true
    → operands_of (with_commas (word ∷ words)) ≡ Some (word ∷ words)
unfolding operands_of with_commas
operands_of-commas word [] h = operands_after-commas word [] h
operands_of-commas word (next ∷ words) h = operands_after-commas word (next ∷ words) h
