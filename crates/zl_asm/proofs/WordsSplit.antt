-- The words of a line, one byte after the other.
use Rattle.zl_asm.proofs.Common.{List, [], ap, append_assoc, arith, at_drop_all, at_drop_more, comma, drop, eqb, false, get_or, get_or-drop, length}
use Rattle.zl_asm.proofs.Common.{length-drop, nat_tests, refl, suc, sym, take, take-suc, take_all, word_before, words_from, ℕ, ◌++◌, ◌+◌, ◌-◌, ◌<◌, ◌∙◌, ◌∷◌}
use Rattle.zl_asm.proofs.Common.{◌≡◌, ◌≢◌, ◌≤◌}

-- the word of the bytes from start to i
abbrev pub part : List ℕ → ℕ → ℕ → List ℕ
part line start i = take (i - start) (drop start line)

before : (word : List ℕ) (words : List (List ℕ)) → word_before word words ≡ word_before word [] ++ words
before [] words = refl
before (b ∷ bs) words = refl

-- ---- by the next byte

at_semicolon : (word : List ℕ) (byte : ℕ) (bytes : List ℕ) → byte ≡ 59 → words_from word (byte ∷ bytes) ≡ word_before word []
unfolding words_from
at_semicolon word byte bytes e = rw e refl

at_space : (word : List ℕ) (byte : ℕ) (bytes : List ℕ) → byte ≡ 32 → words_from word (byte ∷ bytes) ≡ word_before word [] ++ words_from [] bytes
unfolding words_from
at_space word byte bytes e = rw e (before word (words_from [] bytes))

at_comma : (word : List ℕ) (byte : ℕ) (bytes : List ℕ) → byte ≡ 44 → words_from word (byte ∷ bytes) ≡ word_before word [] ++ comma ∷ words_from [] bytes
unfolding words_from
at_comma word byte bytes e = rw e (before word (comma ∷ words_from [] bytes))

at_letter : (word : List ℕ) (byte : ℕ) (bytes : List ℕ) → byte ≢ 59 → byte ≢ 32 → byte ≢ 44
    → words_from word (byte ∷ bytes) ≡ words_from (word ++ byte ∷ []) bytes
unfolding words_from
at_letter word byte bytes p q r =
    let p2 : eqb byte 59 ≡ false = grind (arith, nat_tests) in
    let q2 : eqb byte 32 ≡ false = grind (arith, nat_tests) in
    let r2 : eqb byte 44 ≡ false = grind (arith, nat_tests) in
    rw (p2, q2, r2) refl

-- ---- at a place of the line

at_byte : (word line : List ℕ) (i : ℕ) → i < length line → words_from word (drop i line) ≡ words_from word (get_or line i 0 ∷ drop (i + 1) line)
at_byte word line i within = at_drop_more (words_from word) line i 0 within

longer_part : (line : List ℕ) (start i : ℕ) → start ≤ i → i < length line → part line start i ++ get_or line i 0 ∷ [] ≡ part line start (i + 1)
longer_part line start i starts within =
    let inside : i - start < length (drop start line) = omega (arith, length-drop start line) in
    let place : start + (i - start) ≡ i = omega arith in
    let here : get_or (drop start line) (i - start) 0 ≡ get_or line i 0 = get_or-drop start line (i - start) 0 ∙ ap (λ (n : ℕ). get_or line n 0) place in
    let next : suc (i - start) ≡ i + 1 - start = omega arith in
    ap (λ (b : ℕ). part line start i ++ b ∷ []) (sym here) ∙ sym (take-suc (drop start line) (i - start) 0 inside)
    ∙ ap (λ (n : ℕ). take n (drop start line)) next

fresh_part : (line : List ℕ) (i : ℕ) → part line i i ≡ []
fresh_part line i = let none : i - i ≡ 0 = omega arith in ap (λ (n : ℕ). take n (drop i line)) none

-- the line ends at a semicolon
pub after_semicolon : (said whole : List (List ℕ)) (line : List ℕ) (start i : ℕ) → i < length line → get_or line i 0 ≡ 59
    → said ++ words_from (part line start i) (drop i line) ≡ whole → said ++ word_before (part line start i) [] ≡ whole
after_semicolon said whole line start i within e so_far =
    ap (λ (x : List (List ℕ)). said ++ x)
    (sym (at_byte (part line start i) line i within ∙ at_semicolon (part line start i) (get_or line i 0) (drop (i + 1) line) e)) ∙ so_far

-- a space parts words
pub after_space : (said whole : List (List ℕ)) (line : List ℕ) (start i : ℕ) → i < length line → get_or line i 0 ≡ 32
    → said ++ words_from (part line start i) (drop i line) ≡ whole
    → (said ++ word_before (part line start i) []) ++ words_from (part line (i + 1) (i + 1)) (drop (i + 1) line) ≡ whole
after_space said whole line start i within e so_far =
    let word = part line start i in
    append_assoc said (word_before word []) (words_from (part line (i + 1) (i + 1)) (drop (i + 1) line))
    ∙ ap (λ (x : List ℕ). said ++ (word_before word [] ++ words_from x (drop (i + 1) line))) (fresh_part line (i + 1))
    ∙ ap (λ (x : List (List ℕ)). said ++ x) (sym (at_byte word line i within ∙ at_space word (get_or line i 0) (drop (i + 1) line) e))
    ∙ so_far

-- a comma is a word
pub after_comma : (said whole : List (List ℕ)) (line : List ℕ) (start i : ℕ) → i < length line → get_or line i 0 ≡ 44
    → said ++ words_from (part line start i) (drop i line) ≡ whole
    → ((said ++ word_before (part line start i) []) ++ comma ∷ []) ++ words_from (part line (i + 1) (i + 1)) (drop (i + 1) line) ≡ whole
after_comma said whole line start i within e so_far =
    let word = part line start i in
    append_assoc (said ++ word_before word []) (comma ∷ []) (words_from (part line (i + 1) (i + 1)) (drop (i + 1) line))
    ∙ append_assoc said (word_before word []) (comma ∷ words_from (part line (i + 1) (i + 1)) (drop (i + 1) line))
    ∙ ap (λ (x : List ℕ). said ++ (word_before word [] ++ comma ∷ words_from x (drop (i + 1) line))) (fresh_part line (i + 1))
    ∙ ap (λ (x : List (List ℕ)). said ++ x) (sym (at_byte word line i within ∙ at_comma word (get_or line i 0) (drop (i + 1) line) e))
    ∙ so_far

-- another byte is one more of the word
pub after_letter : (said whole : List (List ℕ)) (line : List ℕ) (start i : ℕ) → start ≤ i → i < length line → get_or line i 0 ≢ 59 → get_or line i 0 ≢ 32
    → get_or line i 0 ≢ 44
    → said ++ words_from (part line start i) (drop i line) ≡ whole → said ++ words_from (part line start (i + 1)) (drop (i + 1) line) ≡ whole
after_letter said whole line start i starts within p q r so_far =
    let word = part line start i in
    ap (λ (x : List ℕ). said ++ words_from x (drop (i + 1) line)) (sym (longer_part line start i starts within))
    ∙ ap (λ (x : List (List ℕ)). said ++ x) (sym (at_byte word line i within ∙ at_letter word (get_or line i 0) (drop (i + 1) line) p q r))
    ∙ so_far

-- no byte is left
pub at_line_end : (said whole : List (List ℕ)) (line : List ℕ) (start i : ℕ) → length line ≤ i
    → said ++ words_from (part line start i) (drop i line) ≡ whole → said ++ word_before (part line start (length line)) [] ≡ whole
unfolding words_from
at_line_end said whole line start i all so_far =
    let here : part line start i ≡ drop start line = take_all (i - start) (drop start line) (omega (arith, length-drop start line)) in
    let there : part line start (length line) ≡ drop start line = take_all (length line - start) (drop start line) (omega (arith, length-drop start line)) in
    ap (λ (x : List ℕ). said ++ word_before x []) (there ∙ sym here)
    ∙ ap (λ (x : List (List ℕ)). said ++ x) (sym (at_drop_all (words_from (part line start i)) line i all))
    ∙ so_far
