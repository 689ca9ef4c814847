-- Numbers as bytes, and parts of a list of bytes.
use Rattle.zl_code.proofs.Common.{List, [], add-zero, and_from, ap, arith, bytes_of, cases_lt, drop, drop-drop, get_or, get_or-drop, get_or-take, get_or_past}
use Rattle.zl_code.proofs.Common.{inl, inr, length, length-drop, length-take, list_all, lt-ltb, nat_lt, number_at, number_of, refl, suc, sym, take}
use Rattle.zl_code.proofs.Common.{take-append-drop, true, zero, ℕ, ◌%◌, ◌*◌, ◌++◌, ◌+◌, ◌/◌, ◌<◌, ◌^◌, ◌∙◌, ◌∷◌, ◌≡◌, ◌≤◌}
use Rattle.std.proofs.Math.Nat.{pow-suc}

abbrev pub IsBytes : List ℕ → Type 0
IsBytes bytes = (i : ℕ) → get_or bytes i 0 < 256

pub IsBytes-drop : (n : ℕ) (bytes : List ℕ) → IsBytes bytes → IsBytes (drop n bytes)
IsBytes-drop n bytes h i = rw get_or-drop (h (n + i))

pub IsBytes-take : (n : ℕ) (bytes : List ℕ) → IsBytes bytes → IsBytes (take n bytes)
IsBytes-take n bytes h i =
    elim (cases_lt i n) [
      | inl lt ↦ rw (get_or-take n bytes i 0 lt) (h i)
      | inr le ↦ rw (get_or_past (take n bytes) i 0 (omega (arith, length-take n bytes))) (omega arith)
    ]

pub list_all-from_IsBytes : (bytes : List ℕ) → IsBytes bytes → list_all (λ b. nat_lt b 256) bytes ≡ true
list_all-from_IsBytes [] h = refl
list_all-from_IsBytes (b ∷ bytes) h = and_from _ _ (lt-ltb b 256 (h 0)) (list_all-from_IsBytes bytes (λ i. h (suc i)))

-- ---- there and back

-- the bytes of the number of bytes are those bytes
bytes_of-number_of : (bytes : List ℕ) → IsBytes bytes → bytes_of (length bytes) (number_of bytes) ≡ bytes
bytes_of-number_of [] h = refl
bytes_of-number_of (b ∷ bytes) h =
    let lt : b < 256 = h 0 in
    let low : (b + 256 * number_of bytes) % 256 ≡ b = omega arith in
    let high : (b + 256 * number_of bytes) / 256 ≡ number_of bytes = omega arith in
    rw (low, high) (ap (λ (xs : List ℕ). b ∷ xs) (bytes_of-number_of bytes (λ i. h (suc i))))

-- the number of the bytes of a number is that number
pub number_of-bytes_of : (n v : ℕ) → v < 256 ^ n → number_of (bytes_of n v) ≡ v
number_of-bytes_of zero v lt = omega arith
number_of-bytes_of (suc n) v lt =
    let small : v / 256 < 256 ^ n = omega (arith, pow-suc 256 n) in
    omega (arith, number_of-bytes_of n (v / 256) small)

pub length-bytes_of : (n v : ℕ) → length (bytes_of n v) ≡ n
length-bytes_of zero v = refl
length-bytes_of (suc n) v = ap suc (length-bytes_of n (v / 256))

-- the bytes of a number that is read are where it was read
pub bytes_of-number_at : (bytes : List ℕ) (offset n : ℕ) → offset + n ≤ length bytes → IsBytes bytes
    → bytes_of n (number_at bytes offset n) ≡ take n (drop offset bytes)
bytes_of-number_at bytes offset n le h =
    let part = take n (drop offset bytes) in
    let len : length part ≡ n = omega (arith, length-take n (drop offset bytes), length-drop offset bytes) in
    ap (λ (k : ℕ). bytes_of k (number_of part)) (sym len) ∙ bytes_of-number_of part (IsBytes-take n (drop offset bytes) (IsBytes-drop offset bytes h))

-- ---- parts

-- the rest from k on is its first m bytes and the rest after them
pub parts_at : (k m : ℕ) (bytes : List ℕ) → drop k bytes ≡ take m (drop k bytes) ++ drop (k + m) bytes
parts_at k m bytes = sym (take-append-drop m (drop k bytes)) ∙ ap (λ (rest : List ℕ). take m (drop k bytes) ++ rest) (drop-drop m k bytes)

-- ---- numbers by their cells

two_cells : (bytes : List ℕ) → 2 ≤ length bytes → number_of (take 2 bytes) ≡ get_or bytes 0 0 + get_or bytes 1 0 * 256
two_cells [] le = absurd (omega arith)
two_cells (a ∷ []) le = absurd (omega arith)
two_cells (a ∷ b ∷ bytes) le = omega arith

four_cells : (bytes : List ℕ) → 4 ≤ length bytes
    → number_of (take 4 bytes) ≡ get_or bytes 0 0 + get_or bytes 1 0 * 256 + get_or bytes 2 0 * 65536 + get_or bytes 3 0 * 16777216
four_cells [] le = absurd (omega arith)
four_cells (a ∷ []) le = absurd (omega arith)
four_cells (a ∷ b ∷ []) le = absurd (omega arith)
four_cells (a ∷ b ∷ c ∷ []) le = absurd (omega arith)
four_cells (a ∷ b ∷ c ∷ d ∷ bytes) le = omega arith

first_of_rest : (bytes : List ℕ) (offset : ℕ) → get_or (drop offset bytes) 0 0 ≡ get_or bytes offset 0
first_of_rest bytes offset = get_or-drop offset bytes 0 0 ∙ ap (λ (k : ℕ). get_or bytes k 0) (add-zero offset)

pub number_at_2 : (bytes : List ℕ) (offset : ℕ) → offset + 2 ≤ length bytes
    → number_at bytes offset 2 ≡ get_or bytes offset 0 + get_or bytes (offset + 1) 0 * 256
number_at_2 bytes offset le =
    two_cells (drop offset bytes) (omega (arith, length-drop offset bytes)) ∙ (λ i. first_of_rest bytes offset i + get_or-drop offset bytes 1 0 i * 256)

pub number_at_4 : (bytes : List ℕ) (offset : ℕ) → offset + 4 ≤ length bytes → number_at bytes offset 4
    ≡ get_or bytes offset 0 + get_or bytes (offset + 1) 0 * 256 + get_or bytes (offset + 2) 0 * 65536 + get_or bytes (offset + 3) 0 * 16777216
number_at_4 bytes offset le =
    four_cells (drop offset bytes) (omega (arith, length-drop offset bytes))
    ∙ (λ i. first_of_rest bytes offset i + get_or-drop offset bytes 1 0 i * 256 + get_or-drop offset bytes 2 0 i * 65536
    + get_or-drop offset bytes 3 0 i * 16777216)
