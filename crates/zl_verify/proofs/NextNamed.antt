-- Rows that say where each register is next named.
use Rattle.zl_verify.proofs.Common.{CallInstr, Image, Instr, List, LocalInstr, None, Option, Some, [], arith, bounds_of, call_in, get_or-set_other}
use Rattle.zl_verify.proofs.Common.{get_or-set_same, inl, inr, instr_at, length, local_in, none-some, refl, replicate, same_Some, slice_index, slice_index_or}
use Rattle.zl_verify.proofs.Common.{slice_set, subst, suc, sym, true, zero, ℕ, ◌++◌, ◌+◌, ◌-◌, ◌<◌, ◌∙◌, ◌∷◌, ◌≡◌, ◌≢◌, ◌≤◌, ◌⊎◌}
use Rattle.std.proofs.lemmas.List.{get_or-replicate}
use Rattle.zl_code.specs.Limits.{register_count}
use Rattle.zl_code.specs.declared.instr.Instr.TheVariants as instr
use Rattle.zl_verify.specs.Handing.{AreNames, AreNext, CallKeeps, IsNext, Keeps, hands_on, keeps_by}
use Rattle.zl_verify.proofs.Places.{equal_or_not}

-- ---- one instruction

pub local_keeps : (i : Image) (n r : ℕ) (x : LocalInstr) → local_in (instr_at i n) ≡ Some x → hands_on x r ≡ true → Keeps i r n
local_keeps i n r x e h s = by (instr_at i n) e
  where
    by : (o : Option Instr) → local_in o ≡ Some x → keeps_by i r s o ≡ true
    by None e = absurd (none-some x e)
    by (Some (instr.Local y)) e = let z : y ≡ x = same_Some y x e in rw z h
    by (Some (instr.Call y)) e = absurd (none-some x e)
    by (Some (instr.Unknown bytes)) e = absurd (none-some x e)

pub call_keeps : (i : Image) (n r : ℕ) (x : CallInstr) → call_in (instr_at i n) ≡ Some x → CallKeeps x r → Keeps i r n
call_keeps i n r x e h s = by (instr_at i n) e
  where
    by : (o : Option Instr) → call_in o ≡ Some x → keeps_by i r s o ≡ true
    by None e = absurd (none-some x e)
    by (Some (instr.Local y)) e = absurd (none-some x e)
    by (Some (instr.Call y)) e = let z : y ≡ x = same_Some y x e in rw z (h (bounds_of i.code) s)
    by (Some (instr.Unknown bytes)) e = absurd (none-some x e)

-- ---- rows

-- where the register isn't named
pub next_behind : (i : Image) (r n p : ℕ) → Keeps i r n → IsNext i r (n + 1) p → IsNext i r n p
next_behind i r n p e h = record { behind = (let b = h.behind in omega arith); inside = h.inside; kept = λ q a b. by q a b (equal_or_not n q) }
  where
    by : (q : ℕ) → n ≤ q → q < p → (n ≡ q) ⊎ (n ≢ q) → Keeps i r q
    by q a b (inl k) = subst (λ (x : ℕ). Keeps i r x) k e
    by q a b (inr d) = h.kept q (omega arith) b

next_here : (i : Image) (r n : ℕ) → n < length i.code → IsNext i r n n
next_here i r n h = record { behind = omega arith; inside = h; kept = λ q a b. absurd (omega arith) }

-- where all are named
pub here_all : (i : Image) (n : ℕ) → n < length i.code → AreNext i n (replicate register_count n)
here_all i n h r l = rw (get_or-replicate register_count r n 0 l) (next_here i r n h)

-- one more of a row
pub next_put : (i : Image) (n : ℕ) (row : List ℕ) (m p : ℕ) → m < length row → IsNext i m n p → ((r : ℕ) → r < m → IsNext i r n (slice_index row r))
    → (r : ℕ) → r < m + 1 → IsNext i r n (slice_index (slice_set row m p) r)
next_put i n row m p h a b r l = by (equal_or_not m r)
  where
    by : (m ≡ r) ⊎ (m ≢ r) → IsNext i r n (slice_index (slice_set row m p) r)
    by (inl q) = subst (λ (x : ℕ). IsNext i x n (slice_index (slice_set row m p) x)) q (rw (get_or-set_same row m p 0 h) a)
    by (inr d) = rw (get_or-set_other row m r p 0 (λ e. d (sym e))) (b r (omega arith))

-- the rows of the last instructions
pub rows_push : (i : Image) (rows : List (List ℕ)) (row : List ℕ) (n : ℕ) → length rows ≡ n → AreNext i (length i.code - 1 - n) row
    → ((k r : ℕ) → k < n → r < register_count → IsNext i r (length i.code - 1 - k) (slice_index (slice_index_or rows k []) r))
    → (k r : ℕ) → k < n + 1 → r < register_count → IsNext i r (length i.code - 1 - k) (slice_index (slice_index_or (rows ++ row ∷ []) k []) r)
rows_push i rows row n e a b k r h l = by (equal_or_not n k)
  where
    last : (rows : List (List ℕ)) → slice_index_or (rows ++ row ∷ []) (length rows) [] ≡ row
    last [] = refl
    last (x ∷ xs) = last xs

    other : (rows : List (List ℕ)) (k : ℕ) → k < length rows → slice_index_or (rows ++ row ∷ []) k [] ≡ slice_index_or rows k []
    other [] k h = absurd (omega arith)
    other (x ∷ xs) zero h = refl
    other (x ∷ xs) (suc k) h = other xs k (omega arith)

    by : (n ≡ k) ⊎ (n ≢ k) → IsNext i r (length i.code - 1 - k) (slice_index (slice_index_or (rows ++ row ∷ []) k []) r)
    by (inl q) =
        let f : slice_index_or (rows ++ row ∷ []) k [] ≡ row = subst (λ (x : ℕ). slice_index_or (rows ++ row ∷ []) x [] ≡ row) (e ∙ q) (last rows) in
        rw f (subst (λ (x : ℕ). IsNext i r (length i.code - 1 - x) (slice_index row r)) q (a r l))
    by (inr d) = rw (other rows k (omega arith)) (b k r (omega arith) l)

longer : (rows : List (List ℕ)) (row : List ℕ) → length (rows ++ row ∷ []) ≡ length rows + 1
longer [] row = refl
longer (x ∷ xs) row = let e = longer xs row in omega (arith, e)

-- one more row in front of those of the last instructions
pub more_rows : (i : Image) (size back : ℕ) (rows : List (List ℕ)) (row : List ℕ) → size ≡ length i.code → back < size → length rows ≡ back
    → length row ≡ register_count → AreNext i (size - 1 - back) row
    → ((k r : ℕ) → k < back → r < register_count → IsNext i r (length i.code - 1 - k) (slice_index (slice_index_or rows k []) r))
    → (size ≡ length i.code) × (0 < back + 1) × (back + 1 ≤ size) × (length (rows ++ row ∷ []) ≡ back + 1) × (length row ≡ register_count)
    × AreNext i (size - (back + 1)) row
    × ((k r : ℕ) → k < back + 1 → r < register_count → IsNext i r (length i.code - 1 - k) (slice_index (slice_index_or (rows ++ row ∷ []) k []) r))
more_rows i size back rows row s l n w a e =
    let long = longer rows row in
    let here : size - 1 - back ≡ size - (back + 1) = omega arith in
    let there : size - 1 - back ≡ length i.code - 1 - back = omega arith in (
      s,
      omega arith,
      omega arith,
      omega (arith, long),
      w,
      subst (λ (x : ℕ). AreNext i x row) here a,
      rows_push i rows row back n (subst (λ (x : ℕ). AreNext i x row) there a) e,
    )

next_back : (i : Image) (rows : List (List ℕ)) → AreNames i rows → (n r : ℕ) → n < length i.code → r < register_count
    → IsNext i r n (slice_index (slice_index_or rows (length i.code - 1 - n) []) r)
next_back i rows a n r h l =
    let e : length i.code - 1 - (length i.code - 1 - n) ≡ n = omega arith in
    subst (λ (x : ℕ). IsNext i r x (slice_index (slice_index_or rows (length i.code - 1 - n) []) r)) e (a.each (length i.code - 1 - n) r (omega arith) l)

-- what is read of a row
pub next_at : (i : Image) (rows : List (List ℕ)) → AreNames i rows → (n r : ℕ) → n < length i.code → r < register_count → (row : List ℕ)
    → row ≡ slice_index_or rows (length i.code - 1 - n) row → IsNext i r n (slice_index row r)
next_at i rows a n r h l row e =
    let k : slice_index_or rows (length i.code - 1 - n) [] ≡ row = same rows (length i.code - 1 - n) row (let b = a.long in omega arith) e in
    subst (λ (x : List ℕ). IsNext i r n (slice_index x r)) k (next_back i rows a n r h l)
  where
    same : (xs : List (List ℕ)) (m : ℕ) (d : List ℕ) → m < length xs → d ≡ slice_index_or xs m d → slice_index_or xs m [] ≡ d
    same [] m d h e = absurd (omega arith)
    same (x ∷ xs) zero d h e = sym e
    same (x ∷ xs) (suc m) d h e = same xs m d (omega arith) e
