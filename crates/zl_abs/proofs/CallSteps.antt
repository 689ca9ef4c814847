-- One operand and one result more.
use Rattle.zl_abs.proofs.Common.{AbsVal, Bool, Cause, Err, Field, List, None, Ok, Operand, Option, Result, Some, State, [], add-one, and_then, ap, are_distinct}
use Rattle.zl_abs.proofs.Common.{are_words, arith, bound_at, cond, drop, drop-cons, drop_all, examined, examined_all, false, field_of, get_or}
use Rattle.zl_abs.proofs.Common.{get_or_default_zero, is_result, is_some, is_word, left_by, length, length-drop, map, not, operand_by, operands_at, refl}
use Rattle.zl_abs.proofs.Common.{slice_index, sym, take, take_all, those, true, ℕ, ◌&&◌, ◌++◌, ◌+◌, ◌-◌, ◌<◌, ◌||◌, ◌∙◌, ◌∷◌, ◌≡◌, ◌≤◌}
use Rattle.std.specs.List.{find, list_any}
use Rattle.zl_code.specs.declared.layout.Field.{Field as FieldInCode}
use Rattle.zl_abs.proofs.StateSteps.{Stands, drop_here}

-- ---- one field more

-- the register at a place
pub register_at : (rs : List ℕ) (i r : ℕ) → i < length rs → Stands rs i r → slice_index rs i ≡ r
register_at rs i r h q = sym (q ∙ get_or_default_zero rs i r h)

-- the registers from a field on that pass the test
abbrev pub those_from : (Field → Bool) → List FieldInCode → List ℕ → ℕ → List ℕ
those_from test fs rs i = those test (map field_of (drop i fs)) i rs

pub those_step : (test : Field → Bool) (fs : List FieldInCode) (rs : List ℕ) (i : ℕ) (d : FieldInCode) → i < length fs
    → those_from test fs rs i ≡ cond (test (field_of (get_or fs i d))) (slice_index rs i ∷ those_from test fs rs (i + 1)) (those_from test fs rs (i + 1))
those_step test fs rs i d h = rw (add-one, drop-cons fs i d h) refl

-- ---- operands

pub one_examined : (s : State) (o : Operand) → examined s o ≡ examined_all s (o ∷ [])
unfolding examined_all
one_examined s o = by (examined s o)
  where
    by : (x : Result State Cause) → x ≡ and_then x (λ t. Ok t)
    by (Ok t) = refl
    by (Err c) = refl

pub examined_more : (s : State) (os more : List Operand) → examined_all s (os ++ more) ≡ and_then (examined_all s os) (λ t. examined_all t more)
unfolding examined_all
examined_more s [] more = refl
examined_more s (o ∷ os) more = by (examined s o) (λ t. examined_more t os more)
  where
    by : (x : Result State Cause) → ((t : State) → examined_all t (os ++ more) ≡ and_then (examined_all t os) (λ u. examined_all u more))
        → and_then x (λ t. examined_all t (os ++ more)) ≡ and_then (and_then x (λ t. examined_all t os)) (λ t. examined_all t more)
    by (Ok t) each = each t
    by (Err c) each = refl

-- the first operands were examined, which left t of the state s, or found why one can't be
pub stops_there : (s t : State) (os more : List Operand) (fault : Option Cause) (b : Bool)
    → left_by t fault ≡ examined_all s os → b ≡ is_some fault → b ≡ true → left_by t fault ≡ examined_all s (os ++ more)
stops_there s t os more None b left is e = let z : true ≡ false = sym e ∙ is in absurd cc
stops_there s t os more (Some c) b left is e = rw (examined_more, sym left) refl

pub goes_on : (s t : State) (os more : List Operand) (fault : Option Cause) (b : Bool)
    → left_by t fault ≡ examined_all s os → b ≡ is_some fault → b ≡ false → examined_all s (os ++ more) ≡ examined_all t more
goes_on s t os more None b left is e = rw (examined_more, sym left) refl
goes_on s t os more (Some c) b left is e = let z : true ≡ false = sym is ∙ e in absurd cc

-- the registers from a field on are examined
abbrev pub examined_from : List FieldInCode → List ℕ → State → ℕ → Result State Cause
examined_from fs rs s i = examined_all s (operands_at (map field_of (drop i fs)) i rs)

module _ (fs : List FieldInCode) (rs : List ℕ) (i : ℕ) (all : Result State Cause) (s : State) (so_far : all ≡ examined_from fs rs s i) where
  module _ (r : ℕ) (d : FieldInCode) (t : State) (fault : Option Cause) (b : Bool) (h : i < length fs) (k : length fs ≤ length rs) (q : Stands rs i r)
      (left : left_by t fault ≡ examined_all s (operand_by (field_of (get_or fs i d)) r)) (is : b ≡ is_some fault) where
    here : operands_at (map field_of (drop i fs)) i rs
        ≡ operand_by (field_of (get_or fs i d)) r ++ operands_at (map field_of (drop (i + 1) fs)) (i + 1) rs
    here = rw (add-one, drop-cons fs i d h, register_at rs i r (omega (arith, h, k)) q) refl

    pub fields_stop : b ≡ true → left_by t fault ≡ all
    fields_stop e = stops_there s t _ _ fault b left is e ∙ sym (so_far ∙ ap (λ os. examined_all s os) here)

    pub fields_more : b ≡ false → all ≡ examined_from fs rs t (i + 1)
    fields_more e = so_far ∙ (ap (λ os. examined_all s os) here ∙ goes_on s t _ _ fault b left is e)

  pub fields_end : length fs ≤ i → Ok s ≡ all
  unfolding examined_all
  fields_end h = sym (so_far ∙ rw (drop_all i fs h) refl)

-- ---- words

-- the registers from a field on hold the words that the call reads
abbrev pub are_words_from : State → List FieldInCode → List ℕ → ℕ → Bool
are_words_from s fs rs i = are_words s (those_from is_word fs rs i)

module _ (s : State) (fs : List FieldInCode) (rs : List ℕ) (i : ℕ) (all : Bool) (so_far : all ≡ are_words_from s fs rs i) where
  module _ (r : ℕ) (d : FieldInCode) (t : Bool) (h : i < length fs) (k : length fs ≤ length rs) (q : Stands rs i r)
      (is : t ≡ (not (is_word (field_of (get_or fs i d))) || is_some (bound_at s r))) where
    step : all ≡ (t && are_words_from s fs rs (i + 1))
    step =
        so_far ∙ rw (those_step is_word fs rs i d h, register_at rs i r (omega (arith, h, k)) q, is)
        (by (is_word (field_of (get_or fs i d))) (those_from is_word fs rs (i + 1)))
      where
        by : (b : Bool) (rest : List ℕ) → are_words s (cond b (r ∷ rest) rest) ≡ ((not b || is_some (bound_at s r)) && are_words s rest)
        by true rest = refl
        by false rest = refl

    pub words_stop : t ≡ false → false ≡ all
    words_stop e = sym (step ∙ rw e refl)

    pub words_more : t ≡ true → all ≡ are_words_from s fs rs (i + 1)
    words_more e = step ∙ rw e refl

  pub words_end : length fs ≤ i → true ≡ all
  words_end h = sym (so_far ∙ rw (drop_all i fs h) refl)

-- ---- results

pub distinct_step : (xs : List (ℕ × AbsVal)) (i : ℕ) (x : ℕ × AbsVal) → i < length xs → Stands xs i x
    → are_distinct (drop i xs) ≡ (not (is_result (drop (i + 1) xs) (x.0)) && are_distinct (drop (i + 1) xs))
unfolding are_distinct
distinct_step xs i x h p = rw (drop_here xs i x h p) refl

pub distinct_end : (xs : List (ℕ × AbsVal)) (i : ℕ) → length xs ≤ i → are_distinct (drop i xs) ≡ true
unfolding are_distinct
distinct_end xs i h = rw (drop_all i xs h) refl

pub distinct_stop : (xs : List (ℕ × AbsVal)) (i : ℕ) (x : ℕ × AbsVal) → i < length xs → Stands xs i x → is_result (drop (i + 1) xs) (x.0) ≡ true
    → are_distinct (drop i xs) ≡ false
distinct_stop xs i x h p e = distinct_step xs i x h p ∙ rw e refl

pub distinct_more : (xs : List (ℕ × AbsVal)) (i : ℕ) (x : ℕ × AbsVal) → i < length xs → Stands xs i x → is_result (drop (i + 1) xs) (x.0) ≡ false
    → are_distinct (drop i xs) ≡ are_distinct (drop (i + 1) xs)
distinct_more xs i x h p e = distinct_step xs i x h p ∙ rw e refl

-- what a slice from a place on holds
pub rest_of : (xs : List (ℕ × AbsVal)) (i : ℕ) → take (length xs - i) (drop i xs) ≡ drop i xs
rest_of xs i = take_all _ _ (omega (arith, length-drop i xs))

-- one is found just where one passes
pub found_any : {X : Type 0} (test : X → Bool) (xs : List X) → is_some (find test xs) ≡ list_any test xs
found_any test [] = refl
found_any {X} test (x ∷ xs) = by (test x) (found_any test xs)
  where
    by : (b : Bool) → is_some (find test xs) ≡ list_any test xs → is_some (cond b (Some x) (find test xs)) ≡ (b || list_any test xs)
    by true later = refl
    by false later = later
