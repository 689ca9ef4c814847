-- A list of bytes in pieces of one size.
use Rattle.zl_code.proofs.Common.{Bool, DecodeFault, List, None, Option, [], and_parts, ap, append_assoc, arith, drop, drop-drop, drop_at, first_some, flat_map}
use Rattle.zl_code.proofs.Common.{flat_map-cons, length, length-append, length-drop, list_all, map, pieces, refl, suc, take, take-append-drop, take_at}
use Rattle.zl_code.proofs.Common.{take_rest, true, zero, ℕ, ◌*◌, ◌++◌, ◌+◌, ◌-◌, ◌/◌, ◌∙◌, ◌∷◌, ◌≡◌, ◌≤◌}
use Rattle.std.specs.Simd.{first_chunks}

-- ---- chunks

take_chunks : (size n m : ℕ) (bytes : List ℕ) → n ≤ m → take n (first_chunks size m bytes) ≡ pieces size n bytes
unfolding pieces
take_chunks size zero m bytes le = refl
take_chunks size (suc n) zero bytes le = absurd (omega arith)
take_chunks size (suc n) (suc m) bytes le = ap (λ (r : List (List ℕ)). take size bytes ∷ r) (take_chunks size n m (drop size bytes) (omega arith))

-- the first n chunks of the rest from the offset on are its n pieces
pub chunks_of_8 : (bytes : List ℕ) (offset n : ℕ) → offset + 8 * n ≤ length bytes
    → take n (first_chunks 8 (length (take (length bytes - offset) (drop offset bytes)) / 8) (take (length bytes - offset) (drop offset bytes)))
    ≡ pieces 8 n (drop offset bytes)
chunks_of_8 bytes offset n le =
    ap (λ (rest : List ℕ). take n (first_chunks 8 (length rest / 8) rest)) (take_rest bytes offset)
    ∙ take_chunks 8 n (length (drop offset bytes) / 8) (drop offset bytes) (omega (arith, length-drop offset bytes))

pub chunks_of_16 : (bytes : List ℕ) (offset n : ℕ) → offset + 16 * n ≤ length bytes
    → take n (first_chunks 16 (length (take (length bytes - offset) (drop offset bytes)) / 16) (take (length bytes - offset) (drop offset bytes)))
    ≡ pieces 16 n (drop offset bytes)
chunks_of_16 bytes offset n le =
    ap (λ (rest : List ℕ). take n (first_chunks 16 (length rest / 16) rest)) (take_rest bytes offset)
    ∙ take_chunks 16 n (length (drop offset bytes) / 16) (drop offset bytes) (omega (arith, length-drop offset bytes))

-- ---- what is behind n pieces

-- the bytes behind the first n pieces
pub after : ℕ → ℕ → List ℕ → List ℕ
after size zero bytes = bytes
after size (suc n) bytes = after size n (drop size bytes)

pub after_8 : (n : ℕ) (bytes : List ℕ) → after 8 n bytes ≡ drop (8 * n) bytes
unfolding after
after_8 zero bytes = refl
after_8 (suc n) bytes = after_8 n (drop 8 bytes) ∙ drop-drop (8 * n) 8 bytes ∙ (let e : 8 + 8 * n ≡ 8 * suc n = omega arith in ap (λ (k : ℕ). drop k bytes) e)

pub after_16 : (n : ℕ) (bytes : List ℕ) → after 16 n bytes ≡ drop (16 * n) bytes
unfolding after
after_16 zero bytes = refl
after_16 (suc n) bytes =
    after_16 n (drop 16 bytes) ∙ drop-drop (16 * n) 16 bytes ∙ (let e : 16 + 16 * n ≡ 16 * suc n = omega arith in ap (λ (k : ℕ). drop k bytes) e)

pub length-pieces : (size n : ℕ) (bytes : List ℕ) → length (pieces size n bytes) ≡ n
unfolding pieces
length-pieces size zero bytes = refl
length-pieces size (suc n) bytes = ap suc (length-pieces size n (drop size bytes))

-- what has the pieces as its bytes, with what is behind them, is all of the bytes
pub joined : {X : Type 0} (size : ℕ) (spell : X → List ℕ) (xs : List X) (bytes : List ℕ) → map spell xs ≡ pieces size (length xs) bytes
    → flat_map spell xs ++ after size (length xs) bytes ≡ bytes
unfolding pieces after
joined size spell [] bytes h = refl
joined size spell (x ∷ xs) bytes h =
    let first : spell x ≡ take size bytes = cc in
    let rest : map spell xs ≡ pieces size (length xs) (drop size bytes) = cc in
    (λ k. flat_map-cons spell x xs k ++ after size (length xs) (drop size bytes))
    ∙ append_assoc (spell x) (flat_map spell xs) (after size (length xs) (drop size bytes))
    ∙ (λ k. first k ++ joined size spell xs (drop size bytes) rest k)
    ∙ take-append-drop size bytes

-- how many bytes n pieces have
pub span : ℕ → ℕ → ℕ
span size zero = 0
span size (suc n) = size + span size n

pub span_8 : (n : ℕ) → span 8 n ≡ 8 * n
unfolding span
span_8 zero = refl
span_8 (suc n) = omega (arith, span_8 n)

pub span_16 : (n : ℕ) → span 16 n ≡ 16 * n
unfolding span
span_16 zero = refl
span_16 (suc n) = omega (arith, span_16 n)

-- ---- what is spelled one after another

-- Of things that have so many bytes each and are read again from them without a fault, followed by other bytes.
pub record Parted {X : Type 0} (size : ℕ) (spell : X → List ℕ) (fault : List ℕ → Option DecodeFault) (read : List ℕ → X) (xs : List X)
    (behind : List ℕ) : Type 0 where
  pub len : length (flat_map spell xs) ≡ span size (length xs)
  pub pieces_are : pieces size (length xs) (flat_map spell xs ++ behind) ≡ map spell xs
  pub rest_is : after size (length xs) (flat_map spell xs ++ behind) ≡ behind
  pub no_fault : first_some (map fault (map spell xs)) ≡ None
  pub again : map read (map spell xs) ≡ xs

-- what one such thing keeps
pub record Fits {X : Type 0} (size : ℕ) (spell : X → List ℕ) (fault : List ℕ → Option DecodeFault) (read : List ℕ → X) (x : X) : Type 0 where
  pub len : length (spell x) ≡ size
  pub fault_is : fault (spell x) ≡ None
  pub again : read (spell x) ≡ x

pub parted : {X : Type 0} (size : ℕ) (spell : X → List ℕ) (fault : List ℕ → Option DecodeFault) (read : List ℕ → X) (test : X → Bool)
    → ((x : X) → test x ≡ true → Fits size spell fault read x)
    → (xs : List X) (behind : List ℕ) → list_all test xs ≡ true → Parted size spell fault read xs behind
unfolding pieces after span
parted size spell fault read test fit [] behind h = record { len = refl; pieces_are = refl; rest_is = refl; no_fault = refl; again = refl }
parted size spell fault read test fit (x ∷ xs) behind h =
    let p = and_parts (test x) (list_all test xs) h in
    let f = fit x p.0 in
    let r = parted size spell fault read test fit xs behind p.1 in
    let whole : flat_map spell (x ∷ xs) ++ behind ≡ spell x ++ (flat_map spell xs ++ behind) =
    (λ k. flat_map-cons spell x xs k ++ behind) ∙ append_assoc (spell x) (flat_map spell xs) behind in
    let first : take size (flat_map spell (x ∷ xs) ++ behind) ≡ spell x = ap (take size) whole ∙ take_at (spell x) (flat_map spell xs ++ behind) size f.len in
    let rest : drop size (flat_map spell (x ∷ xs) ++ behind) ≡ flat_map spell xs ++ behind =
    ap (drop size) whole ∙ drop_at (spell x) (flat_map spell xs ++ behind) size f.len in
    record {
      len = ap length (flat_map-cons spell x xs) ∙ length-append (spell x) (flat_map spell xs) ∙ (λ k. f.len k + r.len k);
      pieces_are = λ k. first k ∷ (ap (pieces size (length xs)) rest ∙ r.pieces_are) k;
      rest_is = ap (after size (length xs)) rest ∙ r.rest_is;
      no_fault = rw f.fault_is r.no_fault;
      again = λ k. f.again k ∷ r.again k;
    }
