-- The name of a label, and the row of a mnemonic.
use Rattle.zl_asm.proofs.Common.{List, None, Some, [], ap, arith, drop, drop_at, eqb, false, if_fits, is_name, is_word, label_of, length, length-append}
use Rattle.zl_asm.proofs.Common.{nat_tests, refl, take, take_at, true, ℕ, ◌++◌, ◌-◌, ◌∙◌, ◌∷◌, ◌≡◌, ◌≢◌}

-- ---- labels

is_colon : (byte : ℕ) → byte ≡ 58 → is_word (byte ∷ []) (58 ∷ []) ≡ true
unfolding is_word
is_colon byte e = rw e refl

is_no_colon : (byte : ℕ) → byte ≢ 58 → is_word (byte ∷ []) (58 ∷ []) ≡ false
unfolding is_word
is_no_colon byte e = let test : eqb byte 58 ≡ false = grind (arith, nat_tests) in rw test refl

-- a colon stands behind the name
pub with_colon : (word name : List ℕ) (last : ℕ) → word ≡ name ++ last ∷ [] → last ≡ 58 → label_of word ≡ if_fits is_name (Some name)
unfolding label_of
with_colon word name last whole e =
    let count : length name ≡ length word - 1 = omega (arith, ap (λ (x : List ℕ). length x) whole, length-append name (last ∷ [])) in
    let back : drop (length word - 1) word ≡ last ∷ [] =
    ap (λ (x : List ℕ). drop (length word - 1) x) whole ∙ drop_at name (last ∷ []) (length word - 1) count in
    let front : take (length word - 1) word ≡ name = ap (λ (x : List ℕ). take (length word - 1) x) whole ∙ take_at name (last ∷ []) (length word - 1) count in
    rw (back, is_colon last e, front) refl

-- another byte stands there
pub no_colon : (word name : List ℕ) (last : ℕ) → word ≡ name ++ last ∷ [] → last ≢ 58 → None ≡ label_of word
unfolding label_of
no_colon word name last whole e =
    let count : length name ≡ length word - 1 = omega (arith, ap (λ (x : List ℕ). length x) whole, length-append name (last ∷ [])) in
    let back : drop (length word - 1) word ≡ last ∷ [] =
    ap (λ (x : List ℕ). drop (length word - 1) x) whole ∙ drop_at name (last ∷ []) (length word - 1) count in
    rw (back, is_no_colon last e) refl

pub no_byte : (word : List ℕ) → length word ≡ 0 → None ≡ label_of word
unfolding label_of is_word
no_byte [] none = refl
no_byte (b ∷ word) none = absurd (omega arith)

-- a name, or another word before the colon
pub as_name : (name : List ℕ) → is_name name ≡ true → if_fits is_name (Some name) ≡ Some name
as_name name e = rw e refl

pub as_none : (name : List ℕ) → is_name name ≡ false → if_fits is_name (Some name) ≡ None
as_none name e = rw e refl
