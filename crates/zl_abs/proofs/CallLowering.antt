-- The rules of the calls at a state and at one below it.
use Rattle.zl_abs.proofs.Common.{ANY, AbsVal, ArrayUse, Bool, CallInstr, Cause, Gives, Image, IsTrue, KNOWN_RIGHTS, Kind, List, None, Ok, Operand, Option}
use Rattle.zl_abs.proofs.Common.{Rights, SAME_RIGHTS, SlotArray, Some, State, Uses, [], all_below, and_parts, answers, are_distinct, are_words, arith}
use Rattle.zl_abs.proofs.Common.{array_fault, below, bit_and, bits, bound_at, bound_of, call_row, call_rule, copies, count_fits, eqb, examined, examined_all}
use Rattle.zl_abs.proofs.Common.{examined_by, false, fault_of, finished, finished_unless, gives, goes_on, has_one, if◌then◌else◌, is_as_long, is_declared}
use Rattle.zl_abs.proofs.Common.{is_has, is_result, is_some, is_written, kind_below, narrowed_value, nat_tests, not, number_at, passes, range_fits, refl}
use Rattle.zl_abs.proofs.Common.{rights_of, sends, slice_get, slice_index, state_after, stops, sum_fits, taken_from, takes_any, those, true, uses, uses_of}
use Rattle.zl_abs.proofs.Common.{value_at, values_by, values_of, with_all, with_value, within, zip, ℕ, ◌&&◌, ◌++◌, ◌+◌, ◌||◌, ◌∷◌, ◌≡◌, ◌≤◌}
use Rattle.zl_abs.specs.declared.value.AbsVal.TheVariants.{Word, Has, KindOf, RightsOf}
use Rattle.zl_abs.specs.declared.cause.Cause.TheVariants as cause
use Rattle.zl_abs.proofs.Order.{below_refl, same_kind_is, within_trans, within_refl}
use Rattle.zl_abs.proofs.StateOrder.{all_below_refl}
use Rattle.zl_abs.proofs.Lowering.{Lowers, IsBelow, WaysBelow, both_by, lowers_then, lowers_unless, not_kept, value_below, with_below, no_has}
use Rattle.zl_abs.proofs.TestLowering.{has_parts, has_from, zero_of, tag_there}
use Rattle.zl_abs.proofs.LocalLowering.{no_some}
use Rattle.zl_code.proofs.Common.{Condition, not-false, or_parts}
use Rattle.std.proofs.lemmas.Bool.{and_from, leb-true, le-leb}

-- ---- handle operands

any_kept : (kinds : List Kind) (k j : Option Kind) → kind_below k j ≡ true → takes_any kinds j ≡ true → takes_any kinds k ≡ true
any_kept kinds None None h e = e
any_kept [] (Some k) None h e = refl
any_kept (x ∷ kinds) (Some k) None h e = cc
any_kept kinds None (Some j) h e = cc
any_kept kinds (Some k) (Some j) h e = let p : k ≡ j = same_kind_is k j h in rw p e

three_faults : (p q r : Bool) (c d f : Cause) → (if p then Some c else (if q then Some d else (if r then Some f else None))) ≡ None
    → (p ≡ false) × (q ≡ false) × (r ≡ false)
three_faults false false false c d f e = (refl, refl, refl)
three_faults _ _ _ c d f e = cc

maybe_kept : (m m2 z : Bool) → (not m || m2) ≡ true → (m2 && not z) ≡ false → (m && not z) ≡ false
maybe_kept true true z h e = e
maybe_kept true false z h e = cc
maybe_kept false m2 z h e = refl

has_passes : (o : Operand) (m m2 : Bool) (k k2 : Option Kind) (r r2 : Rights) → IsTrue (below (Has m k r) (Has m2 k2 r2)) → fault_of o (Has m2 k2 r2) ≡ None
    → fault_of o (Has m k r) ≡ None
has_passes o m m2 k k2 r r2 h e =
    let p = has_parts m m2 k k2 r r2 h in
    let f =
    three_faults (m2 && not o.may_be_zero) (not (takes_any o.kinds k2)) (not (within o.needed (bits r2))) cause.NotLive cause.WrongKind cause.LacksRight e in
    let a = maybe_kept m m2 o.may_be_zero p.0 f.0 in
    let b = any_kept o.kinds k k2 p.1 (not-false _ f.1) in
    let c = within_trans (bits r) (bits r2) o.needed p.2 (not-false _ f.2) in
    rw (a, b, c) refl

zero_passes : (z m : Bool) → m ≡ true → (m && not z) ≡ false → z ≡ true
zero_passes true m h e = refl
zero_passes false true h e = cc
zero_passes false false h e = cc

word_passes : (t : Bool) → (if t then None else Some cause.NotLive) ≡ None → t ≡ true
word_passes true e = refl
word_passes false e = cc

fault_below : (o : Operand) (v w : AbsVal) → IsTrue (below v w) → fault_of o w ≡ None → fault_of o v ≡ None
unfolding below
fault_below o (Has m k r) (Has m2 k2 r2) h e = has_passes o m m2 k k2 r r2 h e
fault_below o (Word n) (Has m2 k2 r2) h e =
    let z = zero_of n m2 k2 r2 h in
    let f =
    three_faults (m2 && not o.may_be_zero) (not (takes_any o.kinds k2)) (not (within o.needed (bits r2))) cause.NotLive cause.WrongKind cause.LacksRight e in
    rw (z.0, zero_passes o.may_be_zero m2 z.1 f.0) refl
fault_below o (Word m) (Word n) h e =
    let p = and_parts o.may_be_zero (eqb n 0) (word_passes (o.may_be_zero && eqb n 0) e) in
    let q : eqb m 0 ≡ true = grind (arith, nat_tests) in
    rw (p.0, q) refl
fault_below o (KindOf _) (Word n) h e = absurd (tag_there n h ((and_parts o.may_be_zero (eqb n 0) (word_passes (o.may_be_zero && eqb n 0) e)).1))
fault_below o (RightsOf _) (Word n) h e = absurd (tag_there n h ((and_parts o.may_be_zero (eqb n 0) (word_passes (o.may_be_zero && eqb n 0) e)).1))
fault_below o _ _ h e = cc

taken_below : (s t : State) (o : Operand) → IsBelow s t → IsBelow (taken_from s o) (taken_from t o)
taken_below s t o h = both_by IsBelow o.is_taken _ s _ t (with_below s t o.value _ _ h (below_refl (Word 0))) h

examined_by_below : (s t : State) (o : Operand) (x y : Option Cause) → IsBelow s t → (y ≡ None → x ≡ None)
    → Lowers IsBelow (examined_by s o x) (examined_by t o y)
examined_by_below s t o x (Some c) h k = tt
examined_by_below s t o None None h k = taken_below s t o h
examined_by_below s t o (Some c) None h k = absurd (no_some c (k refl))

examined_below : (s t : State) (o : Operand) → IsBelow s t → Lowers IsBelow (examined s o) (examined t o)
examined_below s t o h = examined_by_below s t o _ _ h (fault_below o (value_at s o.value) (value_at t o.value) (value_below s t o.value h))

examined_all_below : (os : List Operand) (s t : State) → IsBelow s t → Lowers IsBelow (examined_all s os) (examined_all t os)
unfolding examined_all
examined_all_below [] s t h = h
examined_all_below (o ∷ os) s t h =
    lowers_then IsBelow IsBelow (examined s o) (examined t o) _ _ (examined_below s t o h) (λ u v k. examined_all_below os u v k)

-- ---- words

bound_kept : (v w : AbsVal) → IsTrue (below v w) → is_some (bound_of w) ≡ true → is_some (bound_of v) ≡ true
unfolding below
bound_kept (Has _ _ _) (Word _) h e = cc
bound_kept (Has _ _ _) _ h e = cc
bound_kept _ w h e = refl

words_kept : (s t : State) (rs : List ℕ) → IsBelow s t → are_words t rs ≡ true → are_words s rs ≡ true
words_kept s t [] h e = refl
words_kept s t (r ∷ rs) h e =
    let p = and_parts (is_some (bound_at t r)) (are_words t rs) e in
    and_from _ _ (bound_kept _ _ (value_below s t r h) p.0) (words_kept s t rs h p.1)

abbrev BoundBelow : Option ℕ → Option ℕ → Type 0
BoundBelow o None = Unit {0}
BoundBelow None (Some n) = ⊥
BoundBelow (Some m) (Some n) = m ≤ n

bound_below : (v w : AbsVal) → IsTrue (below v w) → BoundBelow (bound_of v) (bound_of w)
unfolding below
bound_below v (Has _ _ _) h = tt
bound_below (Word m) (Word n) h = leb-true m n h
bound_below (KindOf _) (Word n) h = leb-true ANY n h
bound_below (RightsOf _) (Word n) h = leb-true ANY n h
bound_below (KindOf _) (KindOf _) h = omega arith
bound_below (RightsOf _) (RightsOf _) h = omega arith
bound_below _ _ h = cc

sum_kept : (most : ℕ) (a b c d : Option ℕ) → BoundBelow a c → BoundBelow b d → sum_fits most c d ≡ true → sum_fits most a b ≡ true
sum_kept most a b None d h k e = cc
sum_kept most a b (Some m) None h k e = cc
sum_kept most None b (Some m) (Some n) h k e = absurd h
sum_kept most (Some x) None (Some m) (Some n) h k e = absurd k
sum_kept most (Some x) (Some y) (Some m) (Some n) h k e = le-leb _ _ (let p = leb-true (m + n) most e in omega arith)

range_kept : (i : Image) (s t : State) (o : Option (ℕ × ℕ)) → IsBelow s t → range_fits i t o ≡ true → range_fits i s o ≡ true
range_kept i s t None h e = refl
range_kept i s t (Some x) h e = sum_kept i.memory _ _ _ _ (bound_below _ _ (value_below s t (x.0) h)) (bound_below _ _ (value_below s t (x.1) h)) e

-- ---- slot arrays

long_kept : (o : Option SlotArray) (a b : Option ℕ) → BoundBelow a b → is_as_long o b ≡ true → is_as_long o a ≡ true
long_kept None a b h e = cc
long_kept (Some x) a None h e = cc
long_kept (Some x) None (Some n) h e = absurd h
long_kept (Some x) (Some m) (Some n) h e = le-leb _ _ (let p = leb-true n x.length e in omega arith)

count_kept : (i : Image) (s t : State) (x : ArrayUse) → IsBelow s t → count_fits i t x ≡ true → count_fits i s x ≡ true
count_kept i s t (sends array count) h e = long_kept (slice_get i.slots array) _ _ (bound_below _ _ (value_below s t count h)) e
count_kept i s t _ h e = refl

there_kept : (i : Image) (s t : State) (range : Option (ℕ × ℕ)) (array : ArrayUse) → IsBelow s t
    → (range_fits i t range && count_fits i t array) ≡ true → (range_fits i s range && count_fits i s array) ≡ true
there_kept i s t range array h e =
    let p = and_parts (range_fits i t range) (count_fits i t array) e in
    and_from _ _ (range_kept i s t range h p.0) (count_kept i s t array h p.1)

-- ---- destinations

-- the same registers with values below
abbrev ResultsBelow : List (ℕ × AbsVal) → List (ℕ × AbsVal) → Type 0
ResultsBelow [] [] = Unit {0}
ResultsBelow (x ∷ xs) (y ∷ ys) = (x.0 ≡ y.0) × IsTrue (below (x.1) (y.1)) × ResultsBelow xs ys
ResultsBelow [] (y ∷ ys) = ⊥
ResultsBelow (x ∷ xs) [] = ⊥

same_result : (r : ℕ) (xs ys : List (ℕ × AbsVal)) → ResultsBelow xs ys → is_result xs r ≡ is_result ys r
same_result r [] [] h = refl
same_result r (x ∷ xs) (y ∷ ys) h = rw (h.0, same_result r xs ys (h.2)) refl
same_result r _ _ h = absurd h

same_distinct : (xs ys : List (ℕ × AbsVal)) → ResultsBelow xs ys → are_distinct xs ≡ are_distinct ys
unfolding are_distinct
same_distinct [] [] h = refl
same_distinct (x ∷ xs) (y ∷ ys) h = rw (h.0, same_result (y.0) xs ys (h.2), same_distinct xs ys (h.2)) refl
same_distinct _ _ h = absurd h

none_kept : (s t : State) (xs ys : List (ℕ × AbsVal)) → IsBelow s t → ResultsBelow xs ys → has_one t ys ≡ false → has_one s xs ≡ false
none_kept s t [] [] h k e = refl
none_kept s t [] (y ∷ ys) h k e = absurd k
none_kept s t (x ∷ xs) [] h k e = absurd k
none_kept s t (x ∷ xs) (y ∷ ys) h k e =
    let p = or_parts (is_has (value_at t (y.0))) (has_one t ys) e in
    let q = no_has (value_at s (y.0)) (value_at t (y.0)) (value_below s t (y.0) h) (p.0) in
    rw (k.0, q, none_kept s t xs ys h (k.2) (p.1)) refl

with_all_below : (xs ys : List (ℕ × AbsVal)) (s t : State) → IsBelow s t → ResultsBelow xs ys → IsBelow (with_all s xs) (with_all t ys)
unfolding with_all
with_all_below [] [] s t h k = h
with_all_below [] (y ∷ ys) s t h k = absurd k
with_all_below (x ∷ xs) [] s t h k = absurd k
with_all_below (x ∷ xs) (y ∷ ys) s t h k =
    with_all_below xs ys (with_value s (x.0) (x.1)) (with_value t (y.0) (y.1)) (rw (k.0) (with_below s t (y.0) (x.1) (y.1) h (k.1))) (k.2)

answers_below : (s t : State) (xs ys : List (ℕ × AbsVal)) → IsBelow s t → ResultsBelow xs ys → Lowers IsBelow (answers s xs) (answers t ys)
answers_below s t xs ys h k =
    lowers_unless IsBelow (not (are_distinct xs)) (not (are_distinct ys)) _ _ _ _ (λ e. rw (same_distinct xs ys k) e)
    (lowers_unless IsBelow (has_one s xs) (has_one t ys) (Ok (with_all s xs)) (Ok (with_all t ys)) _ _ (none_kept s t xs ys h k) (with_all_below xs ys s t h k))

-- ---- the rule

module _ (i : Image) (s t : State) (operands : List Operand) (words : List ℕ) (range : Option (ℕ × ℕ)) (array : ArrayUse) (condition : Option Condition)
    (xs ys : List (ℕ × AbsVal)) (h : IsBelow s t) (l : ResultsBelow xs ys) where
  abbrev lower : Uses
  lower = uses operands words range array condition xs

  abbrev upper : Uses
  upper = uses operands words range array condition ys

  finished_below : (u v : State) → IsBelow u v → Lowers IsBelow (finished i s u lower) (finished i t v upper)
  finished_below u v k =
      lowers_unless IsBelow (not (are_words s words)) (not (are_words t words)) _ _ _ _ (not_kept _ _ (words_kept s t words h))
      (lowers_unless IsBelow (not (range_fits i s range && count_fits i s array)) (not (range_fits i t range && count_fits i t array)) _ _ _ _
      (not_kept _ _ (there_kept i s t range array h))
      (lowers_unless IsBelow (not (is_declared i condition)) (not (is_declared i condition)) _ _ _ _ (λ e. e) (answers_below u v xs ys k l)))

  unless_below : (o : Option Cause) (u v : State) → IsBelow u v → Lowers IsBelow (finished_unless o i s u lower) (finished_unless o i t v upper)
  unless_below (Some c) u v k = tt
  unless_below None u v k = finished_below u v k

  state_after_below : Lowers IsBelow (state_after i s lower) (state_after i t upper)
  state_after_below =
      lowers_then IsBelow IsBelow (examined_all s operands) (examined_all t operands) _ _ (examined_all_below operands s t h)
      (unless_below (array_fault i array))

-- ---- what an answer gives

narrowed_below : (v w : AbsVal) (asked : ℕ) → IsTrue (below v w) → IsTrue (below (narrowed_value v asked) (narrowed_value w asked))
unfolding below
narrowed_below (Has m k r) (Has m2 k2 r2) asked h =
    let p = has_parts m m2 k k2 r r2 h in
    let asked_for = rights_of (bit_and asked KNOWN_RIGHTS) in
    has_from true true k k2 _ _ refl p.1
    (both_by (λ q q2. within (bits q2) (bits q) ≡ true) (eqb asked SAME_RIGHTS) r asked_for r2 asked_for p.2 (within_refl (bit_and asked KNOWN_RIGHTS)))
narrowed_below (Has _ _ _) _ asked h = cc
narrowed_below (Word _) (Has _ _ _) asked h = refl
narrowed_below _ (Has _ _ _) asked h = cc
narrowed_below _ _ asked h = refl

one_below : (v w : AbsVal) → IsTrue (below v w) → IsTrue (all_below (v ∷ []) (w ∷ []))
unfolding all_below
one_below v w h = and_from _ _ h refl

given_below : (bounds : List ℕ) (g : Gives) (register : ℕ) (v w : AbsVal) (number : ℕ) → IsTrue (below v w)
    → IsTrue (all_below (values_by bounds g register v number) (values_by bounds g register w number))
given_below bounds copies register v w number h = one_below _ _ (narrowed_below v w number h)
given_below bounds _ register v w number h = all_below_refl _

values_below : (bounds : List ℕ) (s t : State) (c : CallInstr) → IsBelow s t → IsTrue (all_below (values_of bounds s c) (values_of bounds t c))
values_below bounds s t c h = given_below bounds (gives c.name) _ _ _ (number_at c.last 0 4) (value_below s t (slice_index c.registers 1) h)

same_below : (xs : List (ℕ × AbsVal)) → ResultsBelow xs xs
same_below [] = tt
same_below (x ∷ xs) = (refl, below_refl (x.1), same_below xs)

zip_below : (rs : List ℕ) (vs ws : List AbsVal) (more : List (ℕ × AbsVal)) → IsTrue (all_below vs ws) → ResultsBelow (zip rs vs ++ more) (zip rs ws ++ more)
unfolding all_below
zip_below [] vs ws more h = same_below more
zip_below (r ∷ rs) [] [] more h = same_below more
zip_below (r ∷ rs) (v ∷ vs) (w ∷ ws) more h = let p = and_parts (below v w) (all_below vs ws) h in (refl, p.0, zip_below rs vs ws more p.1)
zip_below (r ∷ rs) _ _ more h = cc

status_first : (vs ws : List AbsVal) → IsTrue (all_below vs ws) → IsTrue (all_below (Word 30 ∷ vs) (Word 30 ∷ ws))
unfolding all_below
status_first vs ws h = and_from _ _ (below_refl (Word 30)) h

way_on : (on : Bool) (u v : State) → IsBelow u v → WaysBelow (if on then passes u else stops) (if on then passes v else stops)
way_on true u v h = (tt, h)
way_on false u v h = (tt, tt)

pub call_below : (bounds : List ℕ) (i : Image) (c : CallInstr) (s t : State) → IsBelow s t → Lowers WaysBelow (call_rule bounds i c s) (call_rule bounds i c t)
unfolding call_rule uses_of
call_below bounds i c s t h =
    lowers_then IsBelow WaysBelow (state_after i s (uses_of bounds s c)) (state_after i t (uses_of bounds t c)) _ _ (state_after_below i s t _ _ _ _ _ _ _ h
    (zip_below (those is_written (call_row c.name).fields 0 c.registers) _ _ _ (status_first _ _ (values_below bounds s t c h))))
    (λ u v l. way_on (goes_on c.name) u v l)
