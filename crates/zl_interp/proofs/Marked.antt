-- The places that are marked: what they hold, and what is known of those that aren't.
use Rattle.zl_interp.proofs.Common.{Agrees, Bool, HasBytes, Instr, IsTrue, List, None, Option, Some, [], ap, arith, false, false≢true, get_or, if◌then◌else◌}
use Rattle.zl_interp.proofs.Common.{inl, inr, instr_bytes, is_filled, length, marked, none-some, option_map, refl, same_Some, slice_get, slice_set, subst}
use Rattle.zl_interp.proofs.Common.{suc, sym, true, zero, ℕ, ◌+◌, ◌<◌, ◌↔◌, ◌∙◌, ◌∷◌, ◌≡◌, ◌≤◌, ◌⊎◌}
use Rattle.std.proofs.lemmas.Bool.{or_parts}
use Rattle.std.proofs.lemmas.Option.{slice_get-get_or, slice_get_read, slice_get_within}
use Rattle.std.specs.Prelude.{not, slice_index_or, ◌*◌, ◌||◌}
use Rattle.zl_interp.specs.Bursts.{AreUnmarked, IsSpelledAt, IsSpelledFrom}
use Rattle.zl_verify.proofs.Places.{below_or_not}

pub length-marked : (code : List Instr) (marks : List Bool) → length (marked code marks) ≡ length code
length-marked [] marks = refl
length-marked (x ∷ code) [] = ap suc (length-marked code [])
length-marked (x ∷ code) (m ∷ marks) = ap suc (length-marked code marks)

held : (code : List Instr) (marks : List Bool) (n : ℕ) (x : Instr) → slice_get (marked code marks) n ≡ Some (Some x) → slice_get code n ≡ Some x
held [] marks n x at = absurd (none-some (Some x) at)
held (y ∷ code) [] zero x at = absurd (none-some x (same_Some None (Some x) at))
held (y ∷ code) [] (suc n) x at = held code [] n x at
held (y ∷ code) (true ∷ marks) zero x at = same_Some (Some y) (Some x) at
held (y ∷ code) (false ∷ marks) zero x at = absurd (none-some x (same_Some None (Some x) at))
held (y ∷ code) (m ∷ marks) (suc n) x at = held code marks n x at

-- the code agrees with what is marked of it
pub marked_agrees : (code : List Instr) (marks : List Bool) → Agrees code (marked code marks)
marked_agrees code marks = record { long = sym (length-marked code marks); filled = held code marks }

-- a mark fills the place
pub marked_set : (code : List Instr) (marks : List Bool) (n : ℕ) → length marks ≡ length code
    → marked code (slice_set marks n true) ≡ slice_set (marked code marks) n (slice_get code n)
marked_set [] marks n long = refl
marked_set (x ∷ code) [] n long = absurd (omega (arith, long))
marked_set (x ∷ code) (m ∷ marks) zero long = refl
marked_set (x ∷ code) (m ∷ marks) (suc n) long =
    ap (λ ys. (if m then Some x else None) ∷ ys) (marked_set code marks n (omega (arith, long)))

-- and where there is no place, there is nothing to fill
pub marked_past : (code : List Instr) (marks : List Bool) (n : ℕ) → length code ≤ n
    → marked code marks ≡ slice_set (marked code marks) n (slice_get code n)
marked_past [] marks n past = refl
marked_past (x ∷ code) marks zero past = absurd (omega (arith, past))
marked_past (x ∷ code) [] (suc n) past = ap (λ ys. None ∷ ys) (marked_past code [] n (omega (arith, past)))
marked_past (x ∷ code) (m ∷ marks) (suc n) past = ap (λ ys. (if m then Some x else None) ∷ ys) (marked_past code marks n (omega (arith, past)))

-- whether a place is filled its mark says
pub mark_fills : (code : List Instr) (marks : List Bool) (n : ℕ) → length marks ≡ length code
    → slice_index_or marks n false ≡ is_filled (marked code marks) n
mark_fills [] [] n long = refl
mark_fills [] (k ∷ marks) n long = absurd (omega (arith, long))
mark_fills (x ∷ code) [] n long = absurd (omega (arith, long))
mark_fills (x ∷ code) (true ∷ marks) zero long = refl
mark_fills (x ∷ code) (false ∷ marks) zero long = refl
mark_fills (x ∷ code) (k ∷ marks) (suc n) long = mark_fills code marks n (omega (arith, long))

-- ---- what is compared

emptied : (own : List Instr) (marks : List Bool) (n : ℕ) (x : Instr) → slice_get marks n ≡ Some false → slice_get (marked own marks) n ≡ Some (Some x) → ⊥
emptied [] marks n x off at = none-some (Some x) at
emptied (y ∷ own) [] n x off at = none-some false off
emptied (y ∷ own) (true ∷ marks) zero x off at = false≢true (sym (same_Some true false off))
emptied (y ∷ own) (false ∷ marks) zero x off at = none-some x (same_Some None (Some x) at)
emptied (y ∷ own) (m ∷ marks) (suc n) x off at = emptied own marks n x off at

there : (own : List Instr) (marks : List Bool) (n : ℕ) (y : Instr) → slice_get marks n ≡ Some true → slice_get own n ≡ Some y
    → slice_get (marked own marks) n ≡ Some (Some y)
there [] marks n y on at = absurd (none-some y at)
there (z ∷ own) [] n y on at = absurd (none-some true on)
there (z ∷ own) (true ∷ marks) zero y on at = ap Some at
there (z ∷ own) (false ∷ marks) zero y on at = absurd (false≢true (same_Some false true on))
there (z ∷ own) (m ∷ marks) (suc n) y on at = there own marks n y on at

module _ (code own : List Instr) (marks : List Bool) (n : ℕ) where
  -- nothing has to stand where no mark is
  pub unmarked_is_spelled : slice_get marks n ≡ Some false → IsSpelledAt code (marked own marks) n
  unmarked_is_spelled off = λ x at. absurd (emptied own marks n x off at)

  module _ (long : (length marks ≡ length own) × (length code ≡ length own)) (within : n < length own) where
    mark_is : (m : Bool) → slice_index_or marks n false ≡ m → slice_get marks n ≡ Some m
    mark_is m is = slice_get-get_or marks n false (omega (arith, long.0, within)) ∙ ap Some is

    -- so a test of the mark may end it
    pub passes_unmarked : slice_index_or marks n false ≡ false → IsTrue (not (slice_index_or marks n false)) ↔ IsSpelledAt code (marked own marks) n
    passes_unmarked off = (λ _. unmarked_is_spelled (mark_is false off), λ _. ap not off)

    -- and where one is, the same bytes have to stand
    pub spelled_alike : (x y : Instr) → slice_index_or marks n false ≡ true → x ≡ get_or code n x → y ≡ get_or own n y → (passes : Type 0)
        → passes ↔ instr_bytes x ≡ instr_bytes y → passes ↔ IsSpelledAt code (marked own marks) n
    spelled_alike x y on of_x of_y passes test =
        let marks_it : slice_get marks n ≡ Some true = mark_is true on in
        let here : slice_get code n ≡ Some x = slice_get_read code (length code) n x refl (omega (arith, long.1, within)) of_x in
        let stands : slice_get own n ≡ Some y = slice_get_read own (length own) n y refl within of_y in (
          λ p z at. ap (option_map instr_bytes) here ∙ ap Some (test.0 p ∙ ap instr_bytes (same_Some y z (sym stands ∙ held own marks n z at))),
          λ f. test.1 (same_Some (instr_bytes x) (instr_bytes y) (sym (ap (option_map instr_bytes) here) ∙ f y (there own marks n y marks_it stands))),
        )

-- a block without a mark needs no look at its instructions
pub block_unmarked : (code own : List Instr) (marks : List Bool) (start end : ℕ) → AreUnmarked marks start end
    → IsSpelledFrom code (marked own marks) start end
block_unmarked code own marks start end off = λ n low high. unmarked_is_spelled code own marks n (off n low high)

-- one place more without a mark
pub unmarked_more : (marks : List Bool) (start n : ℕ) (any : Bool) → n < length marks → (any ≡ false → AreUnmarked marks start n)
    → any || slice_index_or marks n false ≡ false → AreUnmarked marks start (n + 1)
unmarked_more marks start n any within so_far none = λ m low high. by m low (below_or_not m n) high
  where
    by : (m : ℕ) → start ≤ m → (m < n) ⊎ (n ≤ m) → m < n + 1 → slice_get marks m ≡ Some false
    by m low (inl before) high = so_far (or_parts any (slice_index_or marks n false) none).0 m low before
    by m low (inr past) high =
        let here : n ≡ m = omega (arith, past, high) in
        subst (λ k. slice_get marks k ≡ Some false) here
        (slice_get-get_or marks n false within ∙ ap Some (or_parts any (slice_index_or marks n false) none).1)

-- places in one range and in the next are in both
pub spelled_on : (code : List Instr) (places : List (Option Instr)) (n m : ℕ) → IsSpelledFrom code places 0 n → IsSpelledFrom code places n m
    → IsSpelledFrom code places 0 m
spelled_on code places n m first second = λ k low high. by k (below_or_not k n) high
  where
    by : (k : ℕ) → (k < n) ⊎ (n ≤ k) → k < m → IsSpelledAt code places k
    by k (inl before) high = first k (omega arith) before
    by k (inr past) high = second k past high

-- and all of them are the whole
pub spelled_whole : (code own : List Instr) (marks : List Bool) → length code ≡ length own → IsSpelledFrom code (marked own marks) 0 (length own)
    → HasBytes code (marked own marks)
spelled_whole code own marks long all = record { long = long ∙ sym (length-marked own marks); bytes = λ n x at. all n (omega arith) (inside n x at) x at }
  where
    inside : (n : ℕ) (x : Instr) → slice_get (marked own marks) n ≡ Some (Some x) → n < length own
    inside n x at = slice_get_within own n x (held own marks n x at)

-- so a test of the places behind the last block is one of all
pub whole_test : (code own : List Instr) (marks : List Bool) (end n blocks : ℕ) → end ≡ length own → length code ≡ length own → n ≡ blocks
    → IsSpelledFrom code (marked own marks) 0 (n * 64) → (passes : Type 0) → passes ↔ IsSpelledFrom code (marked own marks) (blocks * 64) end
    → passes ↔ HasBytes code (marked own marks)
whole_test code own marks end n blocks ends long all first passes test = (
  λ p. spelled_whole code own marks long (subst (IsSpelledFrom code (marked own marks) 0) ends
      (spelled_on code (marked own marks) (blocks * 64) end (subst (λ k. IsSpelledFrom code (marked own marks) 0 (k * 64)) all first) (test.0 p))),
  λ h. test.1 (λ k low high. h.bytes k),
)
