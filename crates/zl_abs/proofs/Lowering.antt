-- Where a state is below another, so is what a rule writes there.
use Rattle.zl_abs.proofs.Common.{ANY, AbsVal, Bool, Cause, Decides-eqb, Err, IsTrue, List, None, Ok, Option, Result, Some, State, Ways, [], all_below}
use Rattle.zl_abs.proofs.Common.{and_parts, and_then, arith, below, bound_of, computes, eqb, false, if◌then◌else◌, is_has, least_from, leb, ltb, map, moved}
use Rattle.zl_abs.proofs.Common.{nat_tests, not, passes, refl, retagged, rounded, slice_set, suc, true, untagged, value_at, with_value, word_at, word_or}
use Rattle.zl_abs.proofs.Common.{writes, zero, ℕ, ◌&&◌, ◌∷◌, ◌≡◌, ◌≤◌}
use Rattle.zl_abs.specs.declared.value.AbsVal.TheVariants.{Word, Has, KindOf, RightsOf}
use Rattle.zl_abs.proofs.Order.{below_refl}
use Rattle.std.proofs.lemmas.Bool.{and_from, leb-true, le-leb}

-- ---- rules that hold

-- where the upper rule holds, the lower holds too, and gives what is below
abbrev pub Lowers : {A : Type 0} → (A → A → Type 0) → Result A Cause → Result A Cause → Type 0
Lowers R x (Err c) = Unit {0}
Lowers R (Err c) (Ok b) = ⊥
Lowers R (Ok a) (Ok b) = R a b

abbrev pub IsBelow : State → State → Type 0
IsBelow s t = IsTrue (all_below s t)

-- an edge that is followed below is followed above, with a state above
abbrev pub WayBelow : Option State → Option State → Type 0
WayBelow None p = Unit {0}
WayBelow (Some s) None = ⊥
WayBelow (Some s) (Some t) = IsBelow s t

abbrev pub WaysBelow : Ways → Ways → Type 0
WaysBelow w v = WayBelow w.jumped v.jumped × WayBelow w.passed v.passed

pub lowers_then : {A B : Type 0} (R : A → A → Type 0) (Q : B → B → Type 0) (x y : Result A Cause) (f g : A → Result B Cause)
    → Lowers R x y → ((a b : A) → R a b → Lowers Q (f a) (g b)) → Lowers Q (and_then x f) (and_then y g)
lowers_then R Q x (Err c) f g h k = tt
lowers_then R Q (Err c) (Ok b) f g h k = absurd h
lowers_then R Q (Ok a) (Ok b) f g h k = k a b h

-- a test chooses on both sides
pub both_by : {A : Type 0} (R : A → A → Type 0) (t : Bool) (x y u v : A) → R x u → R y v → R (if t then x else y) (if t then u else v)
both_by R true x y u v h k = h
both_by R false x y u v h k = k

-- a test that holds above holds below
pub lowers_if : {B : Type 0} (Q : B → B → Type 0) (t u : Bool) (x y : Result B Cause) (c d : Cause) → (u ≡ true → t ≡ true) → Lowers Q x y
    → Lowers Q (if t then x else Err c) (if u then y else Err d)
lowers_if Q t false x y c d h k = tt
lowers_if Q true true x y c d h k = k
lowers_if Q false true x y c d h k = let e = h refl in cc

-- a fault that isn't there above isn't there below
pub lowers_unless : {B : Type 0} (Q : B → B → Type 0) (t u : Bool) (x y : Result B Cause) (c d : Cause) → (u ≡ false → t ≡ false) → Lowers Q x y
    → Lowers Q (if t then Err c else x) (if u then Err d else y)
lowers_unless Q t true x y c d h k = tt
lowers_unless Q false false x y c d h k = k
lowers_unless Q true false x y c d h k = let e = h refl in cc

pub not_kept : (t u : Bool) → (u ≡ true → t ≡ true) → not u ≡ false → not t ≡ false
not_kept true u h e = refl
not_kept false true h e = let k = h refl in cc
not_kept false false h e = cc

-- ---- registers

pub value_below : (s t : State) (r : ℕ) → IsBelow s t → IsTrue (below (value_at s r) (value_at t r))
unfolding all_below
value_below [] [] r h = below_refl (Word 0)
value_below (a ∷ s) (b ∷ t) zero h = (and_parts (below a b) (all_below s t) h).0
value_below (a ∷ s) (b ∷ t) (suc r) h = value_below s t r ((and_parts (below a b) (all_below s t) h).1)
value_below _ _ r h = cc

pub set_below : (s t : State) (r : ℕ) (v w : AbsVal) → IsBelow s t → IsTrue (below v w) → IsBelow (slice_set s r v) (slice_set t r w)
unfolding all_below
set_below [] [] r v w h k = h
set_below (a ∷ s) (b ∷ t) zero v w h k = and_from _ _ k ((and_parts (below a b) (all_below s t) h).1)
set_below (a ∷ s) (b ∷ t) (suc r) v w h k = let p = and_parts (below a b) (all_below s t) h in and_from _ _ p.0 (set_below s t r v w p.1 k)
set_below _ _ r v w h k = cc

-- the lower state has already what the upper gets
pub set_above : (s t : State) (r : ℕ) (w : AbsVal) → IsBelow s t → IsTrue (below (value_at s r) w) → IsBelow s (slice_set t r w)
unfolding all_below
set_above [] [] r w h k = h
set_above (a ∷ s) (b ∷ t) zero w h k = and_from _ _ k ((and_parts (below a b) (all_below s t) h).1)
set_above (a ∷ s) (b ∷ t) (suc r) w h k = let p = and_parts (below a b) (all_below s t) h in and_from _ _ p.0 (set_above s t r w p.1 k)
set_above _ _ r w h k = cc

-- more is known below
pub set_under : (s t : State) (r : ℕ) (v : AbsVal) → IsBelow s t → IsTrue (below v (value_at t r)) → IsBelow (slice_set s r v) t
unfolding all_below
set_under [] [] r v h k = h
set_under (a ∷ s) (b ∷ t) zero v h k = and_from _ _ k ((and_parts (below a b) (all_below s t) h).1)
set_under (a ∷ s) (b ∷ t) (suc r) v h k = let p = and_parts (below a b) (all_below s t) h in and_from _ _ p.0 (set_under s t r v p.1 k)
set_under _ _ r v h k = cc

pub map_below : (f : AbsVal → AbsVal) → ((v w : AbsVal) → IsTrue (below v w) → IsTrue (below (f v) (f w))) → (s t : State) → IsBelow s t
    → IsBelow (map f s) (map f t)
unfolding all_below
map_below f kept [] [] h = h
map_below f kept (a ∷ s) (b ∷ t) h = let p = and_parts (below a b) (all_below s t) h in and_from _ _ (kept a b p.0) (map_below f kept s t p.1)
map_below f kept _ _ h = cc

-- a tag that gets this or that, below a word
tag_word : (t : Bool) (v w u : AbsVal) → IsTrue (below v u) → IsTrue (below w u) → IsTrue (below (if t then v else w) u)
tag_word true v w u h k = h
tag_word false v w u h k = k

pub untagged_below : (r : ℕ) (v w : AbsVal) → IsTrue (below v w) → IsTrue (below (untagged r v) (untagged r w))
unfolding below
untagged_below r (Word m) (Word n) h = h
untagged_below r (Word m) (Has _ _ _) h = h
untagged_below r (Has _ _ _) (Has _ _ _) h = h
untagged_below r (KindOf x) (KindOf y) h = let e : x ≡ y = (Decides-eqb x y).0 h in rw e (below_refl (untagged r (KindOf y)))
untagged_below r (KindOf x) (Word n) h = tag_word (eqb x r) (Word ANY) (KindOf x) (Word n) h h
untagged_below r (RightsOf x) (RightsOf y) h = let e : x ≡ y = (Decides-eqb x y).0 h in rw e (below_refl (untagged r (RightsOf y)))
untagged_below r (RightsOf x) (Word n) h = tag_word (eqb x r) (Word ANY) (RightsOf x) (Word n) h h
untagged_below r _ _ h = cc

pub retagged_below : (b a : ℕ) (v w : AbsVal) → IsTrue (below v w) → IsTrue (below (retagged b a v) (retagged b a w))
unfolding below
retagged_below b a (Word m) (Word n) h = h
retagged_below b a (Word m) (Has _ _ _) h = h
retagged_below b a (Has _ _ _) (Has _ _ _) h = h
retagged_below b a (KindOf x) (KindOf y) h = let e : x ≡ y = (Decides-eqb x y).0 h in rw e (below_refl (retagged b a (KindOf y)))
retagged_below b a (KindOf x) (Word n) h = tag_word (eqb x b) (KindOf a) (KindOf x) (Word n) h h
retagged_below b a (RightsOf x) (RightsOf y) h = let e : x ≡ y = (Decides-eqb x y).0 h in rw e (below_refl (retagged b a (RightsOf y)))
retagged_below b a (RightsOf x) (Word n) h = tag_word (eqb x b) (RightsOf a) (RightsOf x) (Word n) h h
retagged_below b a _ _ h = cc

pub with_below : (s t : State) (r : ℕ) (v w : AbsVal) → IsBelow s t → IsTrue (below v w) → IsBelow (with_value s r v) (with_value t r w)
unfolding with_value
with_below s t r v w h k = map_below (untagged r) (untagged_below r) _ _ (set_below s t r v w h k)

pub moved_below : (s t : State) (a b : ℕ) (v w : AbsVal) → IsBelow s t → IsTrue (below v w) → IsBelow (moved s a b v) (moved t a b w)
moved_below s t a b v w h k =
    set_below _ _ b (Word 0) (Word 0) (map_below (retagged b a) (retagged_below b a) _ _ (with_below s t a v w h k)) (below_refl (Word 0))

-- ---- values

-- a lower value is a handle only where the upper is
pub no_has : (v w : AbsVal) → IsTrue (below v w) → is_has w ≡ false → is_has v ≡ false
unfolding below
no_has (Has x y z) (Word m) h k = cc
no_has (Has x y z) _ h k = cc
no_has _ w h k = refl

-- a word operand
pub word_or_below : (v w : AbsVal) → IsTrue (below v w) → Lowers (λ m n. m ≤ n) (word_or (bound_of v)) (word_or (bound_of w))
unfolding below
word_or_below v (Has _ _ _) h = tt
word_or_below (Word m) (Word n) h = leb-true m n h
word_or_below (KindOf _) (Word n) h = leb-true ANY n h
word_or_below (RightsOf _) (Word n) h = leb-true ANY n h
word_or_below (KindOf _) (KindOf _) h = omega arith
word_or_below (RightsOf _) (RightsOf _) h = omega arith
word_or_below _ _ h = cc

pub word_at_below : (s t : State) (r : ℕ) → IsBelow s t → Lowers (λ m n. m ≤ n) (word_at s r) (word_at t r)
word_at_below s t r h = word_or_below (value_at s r) (value_at t r) (value_below s t r h)

pub word_below : (m n : ℕ) → m ≤ n → IsTrue (below (Word m) (Word n))
unfolding below
word_below m n h = le-leb m n h

-- ---- rounding

step : (m n b c x : ℕ) → m ≤ n → b ≤ c → (if leb m x && ltb x b then x else b) ≤ (if leb n x && ltb x c then x else c)
step m n b c x h k = grind (arith, nat_tests)

least_monotone : (bs : List ℕ) (m n b c : ℕ) → m ≤ n → b ≤ c → least_from m b bs ≤ least_from n c bs
unfolding least_from
least_monotone [] m n b c h k = k
least_monotone (x ∷ bs) m n b c h k = least_monotone bs m n _ _ h (step m n b c x h k)

pub rounded_monotone : (bs : List ℕ) (m n : ℕ) → m ≤ n → rounded bs m ≤ rounded bs n
rounded_monotone bs m n h = least_monotone bs m n ANY ANY h (omega arith)

-- ---- writes

pub writes_below : (s t : State) (r : ℕ) (v w : AbsVal) → IsBelow s t → IsTrue (below v w) → Lowers WaysBelow (writes s r v) (writes t r w)
writes_below s t r v w h k =
    lowers_unless WaysBelow (is_has (value_at s r)) (is_has (value_at t r)) (Ok (passes (with_value s r v))) (Ok (passes (with_value t r w))) _ _
    (no_has (value_at s r) (value_at t r) (value_below s t r h)) (tt, with_below s t r v w h k)

pub computes_below : (bounds : List ℕ) (s t : State) (r m n : ℕ) → IsBelow s t → m ≤ n → Lowers WaysBelow (computes bounds s r m) (computes bounds t r n)
computes_below bounds s t r m n h k = writes_below s t r _ _ h (word_below _ _ (rounded_monotone bounds m n k))
