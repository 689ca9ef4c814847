-- Numbers that are read from the data memory, and bytes that are written to it.
use Rattle.zl_verify.proofs.Common.{Image, IsMemory, List, [], arith, bytes_of, drop, get_or-drop, length, mod-lt, number_of, overwritten, slice_index, suc}
use Rattle.zl_verify.proofs.Common.{take, zero, ℕ, ◌*◌, ◌++◌, ◌+◌, ◌/◌, ◌<◌, ◌∷◌, ◌≡◌, ◌≤◌}
use Rattle.std.proofs.lemmas.List.{length-take, length-drop, length-append}
use Rattle.zl_code.proofs.ImageBytes.{length-bytes_of}

abbrev pub AreBytes : List ℕ → Type 0
AreBytes xs = (k : ℕ) → slice_index xs k < 256

-- one more than the largest number of n bytes
abbrev top : ℕ → ℕ
top zero = 1
top (suc n) = 256 * top n

some_top : (n : ℕ) → 0 < top n
some_top zero = omega arith
some_top (suc n) = let k = some_top n in omega arith

number_less : (n : ℕ) (xs : List ℕ) → AreBytes xs → number_of (take n xs) < top n
number_less zero xs h = omega arith
number_less (suc n) [] h = let k = some_top n in omega arith
number_less (suc n) (x ∷ xs) h =
    let first : x < 256 = h 0 in
    let rest : number_of (take n xs) < top n = number_less n xs (λ k. h (suc k)) in
    omega arith

pub all_dropped : (n : ℕ) (xs : List ℕ) → AreBytes xs → AreBytes (drop n xs)
all_dropped n xs h k = rw (get_or-drop n xs k 0) (h (n + k))

pub byte_less : (xs : List ℕ) (n : ℕ) → AreBytes xs → number_of (take 1 (drop n xs)) ≤ 255
byte_less xs n h = let k : number_of (take 1 (drop n xs)) < 256 = number_less 1 (drop n xs) (all_dropped n xs h) in omega arith

pub word_less : (xs : List ℕ) (n : ℕ) → AreBytes xs → number_of (take 8 (drop n xs)) ≤ 0xffff_ffff_ffff_ffff
word_less xs n h = let k : number_of (take 8 (drop n xs)) < 0x1_0000_0000_0000_0000 = number_less 8 (drop n xs) (all_dropped n xs h) in omega arith

pub all_taken : (n : ℕ) (xs : List ℕ) → AreBytes xs → AreBytes (take n xs)
all_taken zero xs h k = omega arith
all_taken (suc n) [] h k = omega arith
all_taken (suc n) (x ∷ xs) h zero = h 0
all_taken (suc n) (x ∷ xs) h (suc k) = all_taken n xs (λ j. h (suc j)) k

all_both : (xs ys : List ℕ) → AreBytes xs → AreBytes ys → AreBytes (xs ++ ys)
all_both [] ys h g k = g k
all_both (x ∷ xs) ys h g zero = h 0
all_both (x ∷ xs) ys h g (suc k) = all_both xs ys (λ j. h (suc j)) g k

pub all_of : (n v : ℕ) → AreBytes (bytes_of n v)
all_of zero v k = omega arith
all_of (suc n) v zero = mod-lt v (omega arith)
all_of (suc n) v (suc k) = all_of n (v / 256) k

-- a memory of bytes has bytes in it, where bytes are written to it
pub bytes_over : (memory bytes : List ℕ) (address : ℕ) → AreBytes memory → AreBytes bytes → AreBytes (overwritten memory address bytes)
bytes_over memory bytes address old new =
    all_both (take address memory) _ (all_taken address memory old) (all_both bytes _ new (all_dropped (address + length bytes) memory old))

-- the memory keeps its size, and has bytes in it
pub bytes_stored : (i : Image) (memory bytes : List ℕ) (address : ℕ) → IsMemory i memory → AreBytes bytes → address + length bytes ≤ length memory
    → IsMemory i (overwritten memory address bytes)
bytes_stored i memory bytes address m are fits = record { long = whole; bytes = bytes_over memory bytes address m.bytes are }
  where
    whole : length (overwritten memory address bytes) ≡ i.memory
    whole =
        let outer = length-append (take address memory) (bytes ++ drop (address + length bytes) memory) in
        let inner = length-append bytes (drop (address + length bytes) memory) in
        let front = length-take address memory in
        let back = length-drop (address + length bytes) memory in
        let size = m.long in
        omega arith

pub stored : (i : Image) (memory : List ℕ) (n v address : ℕ) → IsMemory i memory → address + n ≤ length memory
    → IsMemory i (overwritten memory address (bytes_of n v))
stored i memory n v address m fits = let long = length-bytes_of n v in bytes_stored i memory (bytes_of n v) address m (all_of n v) (omega arith)
