-- The bytes of hexadecimal digits, two digits after the other.
use Rattle.zl_asm.proofs.Common.{List, None, Option, Some, [], ap, append-nil, append_assoc, arith, at_drop_all, at_drop_more, byte_before, digit_of, drop, eqb}
use Rattle.zl_asm.proofs.Common.{false, get_or, hex_bytes, if_fits, length, nat_tests, option_map, refl, set, suc, sym, take, take-suc-set, take_all, true, ℕ}
use Rattle.zl_asm.proofs.Common.{◌*◌, ◌++◌, ◌+◌, ◌<◌, ◌∙◌, ◌∷◌, ◌≡◌, ◌≢◌, ◌≤◌}

abbrev pub sixteen : Option (List ℕ) → Option (List ℕ)
sixteen o = if_fits (λ bytes. eqb (length bytes) 16) o

-- ---- how many bytes

counted : (high low : Option ℕ) (more : Option (List ℕ)) (bytes : List ℕ) (n : ℕ) → byte_before high low more ≡ Some bytes
    → ((ys : List ℕ) → more ≡ Some ys → n ≡ 2 * length ys) → suc (suc n) ≡ 2 * length bytes
counted (Some h1) (Some l) (Some m) bytes n e h =
    let same : (h1 * 16 + l) ∷ m ≡ bytes = cc in
    let inner : n ≡ 2 * length m = h m refl in
    let whole : suc (length m) ≡ length bytes = ap (λ (x : List ℕ). length x) same in
    omega arith
counted _ _ _ bytes n e h = absurd (cc)

count_of : (digits bytes : List ℕ) → hex_bytes digits ≡ Some bytes → length digits ≡ 2 * length bytes
unfolding hex_bytes
count_of [] bytes e = let same : [] ≡ bytes = cc in ap (λ (x : List ℕ). 2 * length x) same
count_of (d ∷ []) bytes e = absurd (cc)
count_of (h ∷ l ∷ digits) bytes e = counted (digit_of h) (digit_of l) (hex_bytes digits) bytes (length digits) e (λ more q. count_of digits more q)

other_count : (o : Option (List ℕ)) → ((bytes : List ℕ) → o ≡ Some bytes → length bytes ≢ 16) → None ≡ sixteen o
other_count None h = refl
other_count (Some bytes) h =
    let apart : length bytes ≢ 16 = h bytes refl in
    let test : eqb (length bytes) 16 ≡ false = grind (arith, nat_tests) in
    rw test refl

-- other than 32 digits
pub not_sixteen : (digits : List ℕ) → length digits ≢ 32 → None ≡ sixteen (hex_bytes digits)
not_sixteen digits apart =
    other_count (hex_bytes digits) (λ bytes e same. let n : length digits ≡ 2 * length bytes = count_of digits bytes e in apart (omega arith))

-- ---- two digits more

-- what the bytes of the digits are, where those of the first i pairs stand in bytes
abbrev pub InBytes : List ℕ → ℕ → List ℕ → Type 0
InBytes digits i bytes = hex_bytes digits ≡ option_map (λ rest. take i bytes ++ rest) (hex_bytes (drop (2 * i) digits))

at_pair : (digits : List ℕ) (i : ℕ) → 2 * i + 1 < length digits → hex_bytes (drop (2 * i) digits)
    ≡ byte_before (digit_of (get_or digits (2 * i) 0)) (digit_of (get_or digits (2 * i + 1) 0)) (hex_bytes (drop (2 * (i + 1)) digits))
unfolding hex_bytes
at_pair digits i within =
    let first : 2 * i < length digits = omega arith in
    let next : 2 * i + 1 + 1 ≡ 2 * (i + 1) = omega arith in
    at_drop_more hex_bytes digits (2 * i) 0 first
    ∙ at_drop_more (λ rest. hex_bytes (get_or digits (2 * i) 0 ∷ rest)) digits (2 * i + 1) 0 within
    ∙ ap (λ (n : ℕ). byte_before (digit_of (get_or digits (2 * i) 0)) (digit_of (get_or digits (2 * i + 1) 0)) (hex_bytes (drop n digits))) next

front_byte : (front : List ℕ) (high low : Option ℕ) (byte : ℕ) (more : Option (List ℕ)) → Some (byte ∷ []) ≡ byte_before high low (Some [])
    → option_map (λ rest. front ++ rest) (byte_before high low more) ≡ option_map (λ rest. (front ++ byte ∷ []) ++ rest) more
front_byte front (Some h) (Some l) byte None e = refl
front_byte front (Some h) (Some l) byte (Some m) e =
    let same : byte ≡ h * 16 + l = cc in
    ap Some (ap (λ (b : ℕ). front ++ b ∷ m) (sym same) ∙ sym (append_assoc front (byte ∷ []) m))
front_byte front _ _ byte more e = absurd (cc)

pub next_byte : (digits : List ℕ) (i : ℕ) (bytes : List ℕ) (byte : ℕ) → 2 * i + 1 < length digits → i < length bytes
    → Some (byte ∷ []) ≡ byte_before (digit_of (get_or digits (2 * i) 0)) (digit_of (get_or digits (2 * i + 1) 0)) (Some [])
    → InBytes digits i bytes → InBytes digits (i + 1) (set bytes i byte)
next_byte digits i bytes byte within inside e so_far =
    let next : suc i ≡ i + 1 = omega arith in
    let front : take i bytes ++ byte ∷ [] ≡ take (i + 1) (set bytes i byte) =
    sym (take-suc-set bytes i byte inside) ∙ ap (λ (n : ℕ). take n (set bytes i byte)) next in
    so_far
    ∙ ap (λ (o : Option (List ℕ)). option_map (λ rest. take i bytes ++ rest) o) (at_pair digits i within)
    ∙ front_byte (take i bytes) (digit_of (get_or digits (2 * i) 0)) (digit_of (get_or digits (2 * i + 1) 0)) byte (hex_bytes (drop (2 * (i + 1)) digits)) e
    ∙ ap (λ (x : List ℕ). option_map (λ rest. x ++ rest) (hex_bytes (drop (2 * (i + 1)) digits))) front

no_front : (high low : Option ℕ) (more : Option (List ℕ)) → None ≡ byte_before high low (Some []) → byte_before high low more ≡ None
no_front (Some h) (Some l) more e = absurd (cc)
no_front _ _ more e = refl

pub no_byte : (digits : List ℕ) (i : ℕ) (bytes : List ℕ) → 2 * i + 1 < length digits
    → None ≡ byte_before (digit_of (get_or digits (2 * i) 0)) (digit_of (get_or digits (2 * i + 1) 0)) (Some [])
    → InBytes digits i bytes → None ≡ sixteen (hex_bytes digits)
no_byte digits i bytes within e so_far =
    ap sixteen (sym (so_far ∙ ap (λ (o : Option (List ℕ)). option_map (λ rest. take i bytes ++ rest) o) (at_pair digits i within
    ∙ no_front (digit_of (get_or digits (2 * i) 0)) (digit_of (get_or digits (2 * i + 1) 0)) (hex_bytes (drop (2 * (i + 1)) digits)) e)))

pub last_byte : (digits : List ℕ) (i : ℕ) (bytes : List ℕ) → length digits ≡ 32 → 16 ≤ i → length bytes ≡ 16 → InBytes digits i bytes
    → Some bytes ≡ sixteen (hex_bytes digits)
unfolding hex_bytes
last_byte digits i bytes count all size so_far =
    let front : take i bytes ++ [] ≡ bytes = append-nil (take i bytes) ∙ take_all i bytes (omega arith) in
    let whole : hex_bytes digits ≡ Some bytes =
    so_far ∙ ap (λ (o : Option (List ℕ)). option_map (λ rest. take i bytes ++ rest) o) (at_drop_all hex_bytes digits (2 * i) (omega arith)) ∙ ap Some front in
    let test : eqb (length bytes) 16 ≡ true = grind (arith, nat_tests) in
    rw (whole, test) refl
