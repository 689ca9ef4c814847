-- Labels stand once for the number of their instruction.
use Rattle.zl_asm.proofs.Common.{Blank, Bool, Code, Label, Line, List, None, Some, Version, [], aims, aims_at, all_of, and_from, ap, arith, bytes_decides}
use Rattle.zl_asm.proofs.Common.{cases_Bool}
use Rattle.zl_asm.proofs.Common.{cases_eq, eq-eqb, false, if◌then◌else◌, inl, inr, is_target, label_text, labels_from, length, list_any, ltb-true, map}
use Rattle.zl_asm.proofs.Common.{names_once, onto_all, or_left, or_right, pointwise, position_of, reading_of, refl, resolved, row_at, slice_index, suc, true, ℕ}
use Rattle.zl_asm.proofs.Common.{◌++◌, ◌+◌, ◌<◌, ◌==◌, ◌^◌, ◌∙◌, ◌∷◌, ◌≡◌, ◌≢◌, ◌≤◌}
use Rattle.zl_asm.proofs.RoundNumbers.{label_text-injective}
use Rattle.zl_asm.proofs.RoundSource.{IsPlaced}
use Rattle.zl_asm.proofs.RoundInstr.{IsInstr, source_said, instr_resolved, untargeted}

-- what the label before instruction n says, if a target names it
abbrev label_if : Bool → ℕ → List Line
label_if t n = if t then Label (label_text n) ∷ [] else []

-- what the lines of the instructions from number n on say
unfoldable pub code_said_from : Version → List (List ℕ) → ℕ → List (List ℕ) → List Line
code_said_from v code n [] = []
code_said_from v code n (bytes ∷ rest) = label_if (is_target v code n) n ++ (Code (source_said v (length code) bytes) ∷ code_said_from v code (suc n) rest)

abbrev entry_if : Bool → ℕ → List (List ℕ × ℕ)
entry_if t n = if t then (label_text n, n) ∷ [] else []

-- the labels among them
unfoldable pub labels_of : Version → List (List ℕ) → ℕ → List (List ℕ) → List (List ℕ × ℕ)
labels_of v code n [] = []
labels_of v code n (bytes ∷ rest) = entry_if (is_target v code n) n ++ labels_of v code (suc n) rest

pub labels_from-code : (v : Version) (code : List (List ℕ)) (n : ℕ) (rest : List (List ℕ))
    → labels_from n (code_said_from v code n rest ++ (Blank ∷ [])) ≡ labels_of v code n rest
unfolding labels_from code_said_from labels_of
labels_from-code v code n [] = refl
labels_from-code v code n (bytes ∷ rest) = by (is_target v code n) (labels_from-code v code (suc n) rest)
  where
    by : (t : Bool) → labels_from (suc n) (code_said_from v code (suc n) rest ++ (Blank ∷ [])) ≡ labels_of v code (suc n) rest
        → labels_from n ((label_if t n ++ (Code (source_said v (length code) bytes) ∷ code_said_from v code (suc n) rest)) ++ (Blank ∷ []))
        ≡ entry_if t n ++ labels_of v code (suc n) rest
    by true e = ap (λ (ls : List (List ℕ × ℕ)). (label_text n, n) ∷ ls) e
    by false e = e

-- ---- where a label stands

position_here : (t : ℕ) (labels : List (List ℕ × ℕ)) → position_of ((label_text t, t) ∷ labels) (label_text t) ≡ Some t
position_here t labels = let same = (bytes_decides (label_text t) (label_text t)).1 refl in rw same refl

position_past : (n t : ℕ) (labels : List (List ℕ × ℕ)) → n < 2 ^ 32 → t < 2 ^ 32 → n ≢ t
    → position_of ((label_text n, n) ∷ labels) (label_text t) ≡ position_of labels (label_text t)
position_past n t labels small low apart =
    elim (cases_Bool (pointwise ◌==◌ (label_text n) (label_text t)))
    as (λ _. position_of ((label_text n, n) ∷ labels) (label_text t) ≡ position_of labels (label_text t)) [
      | inl same ↦ absurd (apart (label_text-injective n t small low ((bytes_decides (label_text n) (label_text t)).0 same)))
      | inr other ↦ rw other refl
    ]

-- no label of a number below n
absent : (v : Version) (code : List (List ℕ)) (n : ℕ) (rest : List (List ℕ)) (t : ℕ) → t < n → n + length rest ≤ 2 ^ 32
    → position_of (labels_of v code n rest) (label_text t) ≡ None
unfolding labels_of
absent v code n [] t lt le = refl
absent v code n (bytes ∷ rest) t lt le = by (is_target v code n) (absent v code (suc n) rest t (omega arith) (omega arith))
  where
    by : (b : Bool) → position_of (labels_of v code (suc n) rest) (label_text t) ≡ None
        → position_of (entry_if b n ++ labels_of v code (suc n) rest) (label_text t) ≡ None
    by true e = position_past n t (labels_of v code (suc n) rest) (omega arith) (omega arith) (λ same. omega arith) ∙ e
    by false e = e

-- a target has its label
present : (v : Version) (code : List (List ℕ)) (n : ℕ) (rest : List (List ℕ)) (t : ℕ) → n ≤ t → t < n + length rest → n + length rest ≤ 2 ^ 32
    → is_target v code t ≡ true
    → position_of (labels_of v code n rest) (label_text t) ≡ Some t
unfolding labels_of
present v code n [] t ge lt le h = absurd (omega arith)
present v code n (bytes ∷ rest) t ge lt le h =
    elim (cases_eq n t) as (λ _. position_of (entry_if (is_target v code n) n ++ labels_of v code (suc n) rest) (label_text t) ≡ Some t) [
      | inl here ↦ let named : is_target v code n ≡ true = ap (is_target v code) here ∙ h in rw named
          (ap (λ (m : ℕ). position_of ((label_text m, m) ∷ labels_of v code (suc n) rest) (label_text t)) here
          ∙ position_here t (labels_of v code (suc n) rest))
      | inr apart ↦ by (is_target v code n) apart (present v code (suc n) rest t (grind arith) (omega arith) (omega arith) h)
    ]
  where
    by : (b : Bool) → n ≢ t → position_of (labels_of v code (suc n) rest) (label_text t) ≡ Some t
        → position_of (entry_if b n ++ labels_of v code (suc n) rest) (label_text t) ≡ Some t
    by true apart e = position_past n t (labels_of v code (suc n) rest) (omega arith) (omega arith) apart ∙ e
    by false apart e = e

-- no name stands twice
pub once : (v : Version) (code : List (List ℕ)) (n : ℕ) (rest : List (List ℕ)) → n + length rest ≤ 2 ^ 32 → names_once (labels_of v code n rest) ≡ true
unfolding labels_of names_once
once v code n [] le = refl
once v code n (bytes ∷ rest) le = by (is_target v code n) (absent v code (suc n) rest n (omega arith) (omega arith)) (once v code (suc n) rest (omega arith))
  where
    by : (b : Bool) → position_of (labels_of v code (suc n) rest) (label_text n) ≡ None → names_once (labels_of v code (suc n) rest) ≡ true
        → names_once (entry_if b n ++ labels_of v code (suc n) rest) ≡ true
    by true none more = rw (none, more) refl
    by false none more = more

-- ---- the bytes of all instructions

-- each has no fault
abbrev pub AllInstr : Version → Bool → List (List ℕ) → Type 0
AllInstr v raw [] = Unit {0}
AllInstr v raw (bytes ∷ rest) = IsInstr v raw bytes × AllInstr v raw rest

module _ (v : Version) (raw : Bool) (code : List (List ℕ)) (few : length code ≤ 2 ^ 32) where
  -- each target below the count is a label
  placed : (bytes : List ℕ) → ((test : List ℕ → Bool) → test bytes ≡ true → list_any test code ≡ true) → aims (row_at v (slice_index bytes 0)) ≡ true
      → IsPlaced (labels_of v code 0 code) (length code) (reading_of bytes).target
  placed bytes there aimed below =
      let t = (reading_of bytes).target in
      let named : is_target v code t ≡ true = there (aims_at v t) (and_from _ _ aimed (eq-eqb t t refl)) in
      let lt : t < length code = ltb-true t (length code) below in
      present v code 0 code t (omega arith) (omega arith) (omega arith) named

  rest_resolved : (rest : List (List ℕ)) → ((test : List ℕ → Bool) → list_any test rest ≡ true → list_any test code ≡ true) → AllInstr v raw rest
      → all_of (resolved (labels_of v code 0 code)) (map (source_said v (length code)) rest) ≡ Some (map (untargeted v) rest)
  unfolding all_of
  rest_resolved [] there all = refl
  rest_resolved (bytes ∷ rest) there all =
      let here = instr_resolved (labels_of v code 0 code) v (length code) raw bytes all.0
      (placed bytes (λ test h. there test (or_left (test bytes) (list_any test rest) h))) in
      let more = rest_resolved rest (λ test h. there test (or_right (test bytes) (list_any test rest) h)) all.1 in
      λ i. onto_all (here i) (more i)

  pub code_resolved : AllInstr v raw code → all_of (resolved (labels_of v code 0 code)) (map (source_said v (length code)) code)
      ≡ Some (map (untargeted v) code)
  code_resolved all = rest_resolved code (λ test h. h) all
