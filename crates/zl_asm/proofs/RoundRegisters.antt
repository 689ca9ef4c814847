-- Registers, and the handles behind them, are read as they are written.
use Rattle.zl_asm.proofs.Common.{Bool, List, None, Option, Some, [], all_of, and_from, and_parts, ap, are_places, are_registers, arith, eqb-true, false, filter}
use Rattle.zl_asm.proofs.Common.{if◌then◌else◌, is_packed, le-leb, length, list_all, ltb-true, map, nat_le, nat_lt, not, places_of, refl, register_of}
use Rattle.zl_asm.proofs.Common.{register_text, replicate, suc, sym, take, true, zero, ℕ, ◌++◌, ◌-◌, ◌<◌, ◌==◌, ◌||◌, ◌∙◌, ◌∷◌, ◌≡◌}
use Rattle.std.specs.Fmt.{digits}
use Rattle.zl_code.proofs.Below.{all_below, below}
use Rattle.zl_asm.proofs.RoundWords.{is_plain_word}
use Rattle.std.proofs.Math.Bool.{or-false}
use Rattle.zl_rights.proofs.Settling.{filter-length}

-- the value is there, and is n
abbrev pub is_just : Option ℕ → ℕ → Bool
is_just None n = false
is_just (Some m) n = m == n

pub just : (o : Option ℕ) (n : ℕ) → is_just o n ≡ true → o ≡ Some n
just None n h = absurd cc
just (Some m) n h = ap (λ (k : ℕ). Some k) (eqb-true m n h)

plain_register : ℕ → Bool
plain_register r = is_plain_word (register_text r)

register_again : ℕ → Bool
register_again r = is_just (register_of (register_text r)) r

pub register_of-text : (r : ℕ) → r < 32 → register_of (register_text r) ≡ Some r
unfolding register_again all_below register_of digits
register_of-text r lt = just _ r (below register_again 32 r refl lt)

pub plain-register : (r : ℕ) → r < 32 → is_plain_word (register_text r) ≡ true
unfolding plain_register all_below digits
plain-register r lt = below plain_register 32 r refl lt

pub registers_again : (rs : List ℕ) → are_registers rs ≡ true → all_of register_of (map register_text rs) ≡ Some rs
unfolding all_of
registers_again [] h = refl
registers_again (r ∷ rs) h =
    let p = and_parts (nat_lt r 32) (are_registers rs) h in
    let lt : r < 32 = ltb-true r 32 p.0 in
    rw (register_of-text r lt, registers_again rs p.1) refl

pub plain-registers : (rs : List ℕ) → are_registers rs ≡ true → list_all is_plain_word (map register_text rs) ≡ true
plain-registers [] h = refl
plain-registers (r ∷ rs) h =
    let p = and_parts (nat_lt r 32) (are_registers rs) h in
    and_from _ _ (plain-register r (ltb-true r 32 p.0)) (plain-registers rs p.1)

pub are_registers-take : (n : ℕ) (rs : List ℕ) → are_registers rs ≡ true → are_registers (take n rs) ≡ true
are_registers-take zero rs h = refl
are_registers-take (suc n) [] h = refl
are_registers-take (suc n) (r ∷ rs) h =
    let p = and_parts (nat_lt r 32) (are_registers rs) h in
    and_from _ _ p.0 (are_registers-take n rs p.1)

-- ---- places for handles

abbrev pub is_taken : ℕ → Bool
is_taken place = not (place == 255)

pub are_registers-taken : (places : List ℕ) → are_places places ≡ true → are_registers (filter is_taken places) ≡ true
are_registers-taken [] h = refl
are_registers-taken (b ∷ bs) h =
    let p = and_parts (nat_lt b 32 || (b == 255)) (are_places bs) h in
    by (b == 255) p.0 (are_registers-taken bs p.1)
  where
    by : (t : Bool) → nat_lt b 32 || t ≡ true → are_registers (filter is_taken bs) ≡ true
        → are_registers (if not t then b ∷ filter is_taken bs else filter is_taken bs) ≡ true
    by true here more = more
    by false here more = and_from _ _ (sym (or-false (nat_lt b 32)) ∙ here) more

none_taken : (places : List ℕ) → list_all (λ x. x == 255) places ≡ true → filter is_taken places ≡ []
none_taken [] h = refl
none_taken (b ∷ bs) h = let p = and_parts (b == 255) (list_all (λ x. x == 255) bs) h in rw p.0 (none_taken bs p.1)

all_free : (places : List ℕ) → list_all (λ x. x == 255) places ≡ true → replicate (length places) 255 ≡ places
all_free [] h = refl
all_free (b ∷ bs) h =
    let p = and_parts (b == 255) (list_all (λ x. x == 255) bs) h in
    λ i. sym (eqb-true b 255 p.0) i ∷ all_free bs p.1 i

-- registers and then free places are all that stands there
taken_then_free : (places : List ℕ) → is_packed places ≡ true
    → filter is_taken places ++ replicate (length places - length (filter is_taken places)) 255 ≡ places
taken_then_free [] h = refl
taken_then_free (b ∷ bs) h = by (λ packed. taken_then_free bs packed) (b == 255) refl h
  where
    by : (is_packed bs ≡ true → filter is_taken bs ++ replicate (length bs - length (filter is_taken bs)) 255 ≡ bs) → (t : Bool) → (b == 255) ≡ t
        → (if t then list_all (λ x. x == 255) bs else is_packed bs) ≡ true → (if not t then b ∷ filter is_taken bs
        else filter is_taken bs) ++ replicate (suc (length bs) - length (if not t then b ∷ filter is_taken bs else filter is_taken bs)) 255 ≡ b ∷ bs
    by rest true e all =
        let whole : suc (length bs) - 0 ≡ suc (length bs) = omega arith in
        rw (none_taken bs all, whole) (λ i. sym (eqb-true b 255 e) i ∷ all_free bs all i)
    by rest false e packed =
        let less : suc (length bs) - suc (length (filter is_taken bs)) ≡ length bs - length (filter is_taken bs) = omega arith in
        rw less (ap (λ (xs : List ℕ). b ∷ xs) (rest packed))

pub places_of-taken : (places : List ℕ) → length places ≡ 8 → is_packed places ≡ true → places_of (filter is_taken places) ≡ Some places
places_of-taken places len packed =
    let few : nat_le (length (filter is_taken places)) 8 ≡ true = le-leb _ 8 (omega (arith, filter-length is_taken places)) in
    rw few (ap (λ (xs : List ℕ). Some xs)
    (ap (λ (n : ℕ). filter is_taken places ++ replicate (n - length (filter is_taken places)) 255) (sym len) ∙ taken_then_free places packed))
