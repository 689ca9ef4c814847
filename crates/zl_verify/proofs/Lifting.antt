-- States that lie below those of every typing: one register of such a state rises, edges lead on, and a search takes it back.
use Rattle.zl_verify.proofs.Common.{ANY, AbsVal, AllFine, AllLead, Bool, Cause, Edge, Has, IfOk, IfSome, Image, IsAbove, IsFine, IsState, IsTrue, IsTyping}
use Rattle.zl_verify.proofs.Common.{KindOf, List, None, Ok, Option, Result, RightsOf, RuleHolds, Some, State, Stretches, Word, [], all_below, ap, arith, at}
use Rattle.zl_verify.proofs.Common.{both, bounds_of, can_be_named, eqb, false, if◌then◌else◌, inl, inr, is_in_range, is_named_well, length}
use Rattle.zl_verify.proofs.Common.{ltb, map, nat_tests, not}
use Rattle.zl_verify.proofs.Common.{none-some, option_map, raised, refl, replicate, rule, rule_fine, same_Some, slice_get, slice_get-get_or, slice_index_or}
use Rattle.zl_verify.proofs.Common.{slice_set, start_of, stretch, subst, suc, sym, true, untagged, value_at, with_value, zero, ℕ, ◌++◌, ◌-◌, ◌<◌, ◌∙◌, ◌∷◌, ◌≡◌}
use Rattle.zl_verify.proofs.Common.{◌≢◌, ◌⊎◌}
use Rattle.zl_abs.specs.Values.{below, joined}
use Rattle.zl_abs.specs.Laws.{IsAboveJoin}
use Rattle.zl_abs.specs.Fine.{Fits}
use Rattle.zl_abs.specs.States.{raised_at, refined, risen}
use Rattle.zl_abs.proofs.Order.{below_refl, joined_least}
use Rattle.zl_abs.proofs.FineStates.{fine_refined, fine_with, is_plain, joined_fits, plain_suits}
use Rattle.zl_abs.proofs.Lowering.{untagged_below}
use Rattle.zl_verify.specs.Going.{Goes, Searching, at_starts}
use Rattle.zl_verify.specs.Handing.{IsNext}
use Rattle.zl_verify.specs.Lists.{within}
use Rattle.zl_verify.specs.Low.{AllLow, AreLow, IsLow, IsLowOne, Reaches, Rises, is_climb}
use Rattle.zl_verify.specs.Search.{Table}
use Rattle.zl_verify.proofs.Ending.{Eases, EasesOr, easing}
use Rattle.zl_verify.proofs.HandingOn.{all_on, is_not, reaches_below, value_below}
use Rattle.zl_verify.proofs.Lowers.{typed_at}
use Rattle.zl_verify.proofs.Places.{equal_or_not, get_put, get_put_other}
use Rattle.zl_verify.proofs.Rising.{Raises, RaisesOr, leads_still, raising, typed_still}

-- ---- one register

set_below : (s t : State) (r : ℕ) (v : AbsVal) → IsTrue (all_below s t) → IsTrue (below v (value_at t r)) → IsTrue (all_below (slice_set s r v) t)
unfolding all_below
set_below [] [] r v h k = refl
set_below [] (b ∷ t) r v h k = cc
set_below (a ∷ s) [] r v h k = cc
set_below (a ∷ s) (b ∷ t) zero v h k = rw (k, (both (below a b) (all_below s t) h).1) refl
set_below (a ∷ s) (b ∷ t) (suc r) v h k =
    let p = both (below a b) (all_below s t) h in let q = set_below s t r v p.1 k in rw (p.0, q) refl

untag_below : (s t : State) (r : ℕ) → IsTrue (all_below s t) → ((x : ℕ) → untagged r (value_at t x) ≡ value_at t x) → IsTrue (all_below (map (untagged r) s) t)
unfolding all_below
untag_below [] [] r h k = refl
untag_below [] (b ∷ t) r h k = cc
untag_below (a ∷ s) [] r h k = cc
untag_below (a ∷ s) (b ∷ t) r h k =
    let p = both (below a b) (all_below s t) h in
    let q = untag_below s t r p.1 (λ x. k (suc x)) in
    let e : untagged r b ≡ b = k 0 in
    let f : IsTrue (below (untagged r a) b) = subst (λ (v : AbsVal). IsTrue (below (untagged r a) v)) e (untagged_below r a b p.0) in
    rw (f, q) refl

-- above what can't be named nothing can
unnamed_above : (v w : AbsVal) → can_be_named v ≡ false → IsTrue (below v w) → can_be_named w ≡ false
unfolding below
unnamed_above (Word m) (Word n) e h = grind (arith, nat_tests)
unnamed_above (Word m) (Has maybe k q) e h = let p = both (eqb m 0) maybe h in let z : true ≡ false = sym p.0 ∙ e in cc
unnamed_above (Has maybe k q) w e h = cc
unnamed_above (KindOf r) (Word n) e h = grind (arith, nat_tests)
unnamed_above (KindOf r) (Has maybe k q) e h = cc
unnamed_above (KindOf r) _ e h = refl
unnamed_above (RightsOf r) (Word n) e h = grind (arith, nat_tests)
unnamed_above (RightsOf r) (Has maybe k q) e h = cc
unnamed_above (RightsOf r) _ e h = refl
unnamed_above (Word m) _ e h = refl

-- where a register can't be named no tag names it
bare : (u : State) (r : ℕ) → IsState u → can_be_named (value_at u r) ≡ false → (x : ℕ) → untagged r (value_at u x) ≡ value_at u x
bare u r k e x = by (value_at u x) (k.tags x)
  where
    tag : (v : AbsVal) (q : ℕ) (b : Bool) → eqb q r ≡ b → can_be_named (value_at u q) ≡ true → (if b then Word ANY else v) ≡ v
    tag v q false f h = refl
    tag v q true f h =
        let i : q ≡ r = grind (arith, nat_tests) in
        let z : can_be_named (value_at u r) ≡ true = subst (λ (n : ℕ). can_be_named (value_at u n) ≡ true) i h in
        let y : true ≡ false = sym z ∙ e in cc

    by : (v : AbsVal) → IsTrue (is_named_well u v) → untagged r v ≡ v
    by (Word m) h = refl
    by (Has maybe j q) h = refl
    by (KindOf q) h = tag (KindOf q) q (eqb q r) refl h
    by (RightsOf q) h = tag (RightsOf q) q (eqb q r) refl h

-- a state of a typing that is above a state, and has as much in the register, is above the risen state
one_above : (s u : State) (r : ℕ) (v : AbsVal) → IsState u → IsTrue (all_below s u) → IsTrue (below v (value_at u r)) → IsTrue (all_below (raised_at s r v) u)
unfolding with_value
one_above s u r v k h a = by (can_be_named v) refl
  where
    by : (b : Bool) → can_be_named v ≡ b → IsTrue (all_below (if b then slice_set s r v else with_value s r v) u)
    by true e = set_below s u r v h a
    by false e = untag_below (slice_set s r v) u r (set_below s u r v h a) (bare u r k (unnamed_above v (value_at u r) e a))

-- what rises to a join is no tag
risen_plain : (a v : AbsVal) → below v a ≡ false → IfSome (joined a v) (λ j. is_plain j ≡ true)
unfolding below joined
risen_plain (Word m) (Word n) h = refl
risen_plain (Word m) (Has x i r) h = handed (eqb m 0) (Has true i r) refl
  where
    handed : (t : Bool) (v : AbsVal) → is_plain v ≡ true → IfSome (if t then Some v else None) (λ j. is_plain j ≡ true)
    handed true v e = e
    handed false v e = tt
risen_plain (Word m) _ h = refl
risen_plain (Has x i r) (Word n) h = handed (eqb n 0) (Has true i r) refl
  where
    handed : (t : Bool) (v : AbsVal) → is_plain v ≡ true → IfSome (if t then Some v else None) (λ j. is_plain j ≡ true)
    handed true v e = e
    handed false v e = tt
risen_plain (Has x i r) (Has y j q) h = refl
risen_plain (Has x i r) _ h = tt
risen_plain (KindOf r) (Word n) h = refl
risen_plain (KindOf r) (Has x i q) h = tt
risen_plain (KindOf r) (KindOf q) h = by (eqb r q) refl
  where
    by : (b : Bool) → eqb r q ≡ b → is_plain (if b then KindOf r else Word ANY) ≡ true
    by false e = refl
    by true e = let z : eqb q r ≡ true = grind (arith, nat_tests) in let y : true ≡ false = sym z ∙ h in cc
risen_plain (KindOf r) (RightsOf q) h = refl
risen_plain (RightsOf r) (Word n) h = refl
risen_plain (RightsOf r) (Has x i q) h = tt
risen_plain (RightsOf r) (RightsOf q) h = by (eqb r q) refl
  where
    by : (b : Bool) → eqb r q ≡ b → is_plain (if b then RightsOf r else Word ANY) ≡ true
    by false e = refl
    by true e = let z : eqb q r ≡ true = grind (arith, nat_tests) in let y : true ≡ false = sym z ∙ h in cc
risen_plain (RightsOf r) (KindOf q) h = refl

-- a fine state stays fine where a register rises to the join
one_fine : (s : State) (r : ℕ) (v j : AbsVal) → IsFine s → below v (value_at s r) ≡ false → joined (value_at s r) v ≡ Some j → Fits j
    → IsFine (raised_at s r j)
one_fine s r v j f h e k = by (can_be_named j) refl
  where
    plain : is_plain j ≡ true
    plain = subst (λ (o : Option AbsVal). IfSome o (λ x. is_plain x ≡ true)) e (risen_plain (value_at s r) v h)

    by : (b : Bool) → can_be_named j ≡ b → IsFine (if b then slice_set s r j else with_value s r j)
    by true n = fine_refined s r j f plain k (λ x. n)
    by false n = fine_with s r j f (plain_suits s j plain k)

-- what is above the value and what comes is above their join
join_above : (w a v j : AbsVal) → joined a v ≡ Some j → IsTrue (below a w) → IsTrue (below v w) → IsTrue (below j w)
join_above w a v j e h k = subst (IsAboveJoin w) e (joined_least a v w h k)

-- ---- states below those of every typing

-- the state rises to what a typing has at least in the register
pub risen_low : (i : Image) (n r : ℕ) (s t : State) (v : AbsVal) → IsLow i n s → IsLowOne i n r v → risen s r v ≡ Some t → IsLow i n t
risen_low i n r s t v low one h = by (below v (value_at s r)) refl h
  where
    above : (j : AbsVal) → joined (value_at s r) v ≡ Some j → (y : ℕ → Option State) → IsTyping i y → (o : Option State) → y n ≡ o → IsAbove o s → Reaches o r v
        → IsAbove o (raised_at s r j)
    above j e y k None q a b = a
    above j e y k (Some u) q a b =
        one_above s u r j (k.state n u q) a (join_above (value_at u r) (value_at s r) v j e (value_below s u r a) b)

    rose : (o : Option AbsVal) → below v (value_at s r) ≡ false → joined (value_at s r) v ≡ o → option_map (raised_at s r) o ≡ Some t → IsLow i n t
    rose None b e g = absurd (none-some t g)
    rose (Some j) b e g = subst (IsLow i n) (same_Some (raised_at s r j) t g) (record {
      fine = one_fine s r v j low.fine b e (subst (λ (o : Option AbsVal). IfSome o Fits) e (joined_fits (value_at s r) v (low.fine.fits r) one.fits));
      lower = λ y k. above j e y k (y n) refl (low.lower y k) (one.lower y k);
    })

    by : (b : Bool) → below v (value_at s r) ≡ b → (if b then Some s else option_map (raised_at s r) (joined (value_at s r) v)) ≡ Some t → IsLow i n t
    by true b g = subst (IsLow i n) (same_Some s t g) low
    by false b g = rose (joined (value_at s r) v) b refl g

-- a register in which a word other than 0 climbs is named by no tag
pub climbed_low : (i : Image) (n r : ℕ) (s : State) (v : AbsVal) → IsLow i n s → IsLowOne i n r v → is_climb (value_at s r) v ≡ true
    → IsLow i n (refined s r v)
climbed_low i n r s v low one h = record {
  fine = by (value_at s r) v refl h one.fits;
  lower = λ y k. above (y n) (low.lower y k) (one.lower y k);
}
  where
    by : (a w : AbsVal) → value_at s r ≡ a → is_climb a w ≡ true → Fits w → IsFine (refined s r w)
    by (Word m) (Word n) e c f =
        fine_refined s r (Word n) low.fine refl f
        (λ x. let z : eqb m 0 ≡ true = rw e at x in let y = (both (not (eqb m 0)) (ltb m n) c).0 in let q : true ≡ false = sym z ∙ is_not (eqb m 0) y in cc)
    by (Word m) (Has _ _ _) e c f = cc
    by (Word m) (KindOf _) e c f = cc
    by (Word m) (RightsOf _) e c f = cc
    by (Has _ _ _) w e c f = cc
    by (KindOf _) w e c f = cc
    by (RightsOf _) w e c f = cc

    above : (o : Option State) → IsAbove o s → Reaches o r v → IsAbove o (refined s r v)
    above None a b = a
    above (Some u) a b = set_below s u r v a b

-- what is known at a place of a register every typing has where it is next named
pub low_ahead : (i : Image) (n p r : ℕ) (s : State) → IsNext i r n p → IsLow i n s → IsLowOne i p r (value_at s r)
low_ahead i n p r s h low = record {
  fits = low.fine.fits r;
  lower = λ y k. all_on i y k (p - n) n r p (value_at s r) (let b = h.behind in omega arith) h.kept
      (reaches_below (y n) s r (value_at s r) (below_refl (value_at s r)) (low.lower y k));
}

-- ---- the table of them

nothing : (n m : ℕ) → within (slice_get (replicate {A = Option State} n None) m) ≡ None
nothing zero m = refl
nothing (suc n) zero = refl
nothing (suc n) (suc m) = nothing n m

pub none_low : (i : Image) (n : ℕ) → IsTrue (is_in_range i) → AreLow i (replicate {A = Option State} n None)
none_low i n range = record { range = range; each = λ m s e. absurd (none-some s (sym (nothing n m) ∙ e)) }

pub put_low : (i : Image) (states : List (Option State)) (n : ℕ) (s : State) → n < length states → AreLow i states → IsLow i n s
    → AreLow i (slice_set states n (Some s))
put_low i states n s h low one = record { range = low.range; each = λ m x e. by m x e (equal_or_not n m) }
  where
    by : (m : ℕ) (x : State) → at (slice_set states n (Some s)) m ≡ Some x → (n ≡ m) ⊎ (n ≢ m) → IsLow i m x
    by m x e (inl p) =
        let a : at (slice_set states n (Some s)) n ≡ Some x = subst (λ (k : ℕ). at (slice_set states n (Some s)) k ≡ Some x) (sym p) e in
        let b : s ≡ x = same_Some s x (sym (ap within (get_put states n (Some s) h)) ∙ a) in
        subst (λ (k : ℕ). IsLow i k x) p (subst (IsLow i n) b one)
    by m x e (inr d) = low.each m x (sym (ap within (get_put_other states n m (Some s) d)) ∙ e)

gone_low : (i : Image) (states : List (Option State)) (n : ℕ) → AreLow i states → AreLow i (slice_set states n None)
gone_low i states n low = record { range = low.range; each = λ m x e. by m x e (equal_or_not n m) }
  where
    gone : {A : Type 0} (xs : List (Option A)) (n : ℕ) (x : A) → at (slice_set xs n None) n ≡ Some x → ⊥
    gone [] n x e = none-some x e
    gone (y ∷ xs) zero x e = none-some x e
    gone (y ∷ xs) (suc n) x e = gone xs n x e

    by : (m : ℕ) (x : State) → at (slice_set states n None) m ≡ Some x → (n ≡ m) ⊎ (n ≢ m) → IsLow i m x
    by m x e (inl p) = absurd (gone states n x (subst (λ (k : ℕ). at (slice_set states n None) k ≡ Some x) (sym p) e))
    by m x e (inr d) = low.each m x (sym (ap within (get_put_other states n m None d)) ∙ e)

found_at : (states : List (Option State)) (n : ℕ) (o : Option State) → n < length states → o ≡ slice_index_or states n o → at states n ≡ o
found_at states n o h e = ap within (slice_get-get_or states n o h ∙ ap Some (sym e))

-- one register of what is known rises
rises_low : (i : Image) (states : List (Option State)) (n r : ℕ) (v : AbsVal) (o p : Option State) → n < length states → AreLow i states → IsLowOne i n r v
    → at states n ≡ o → Rises o r v p → AreLow i (slice_set states n p)
rises_low i states n r v None p h low one e g = rw g (gone_low i states n low)
rises_low i states n r v (Some s) p h low one e (inl g) = rw g (put_low i states n s h low (low.each n s e))
rises_low i states n r v (Some s) None h low one e (inr (inl g)) = gone_low i states n low
rises_low i states n r v (Some s) (Some t) h low one e (inr (inl g)) = put_low i states n t h low (risen_low i n r s t v (low.each n s e) one g)
rises_low i states n r v (Some s) p h low one e (inr (inr (c, g))) =
    rw g (put_low i states n (refined s r v) h low (climbed_low i n r s v (low.each n s e) one c))

pub known_rises : (i : Image) (states : List (Option State)) (n r : ℕ) (v : AbsVal) (o p : Option State) → n < length states → AreLow i states
    → IsLowOne i n r v → o ≡ slice_index_or states n o → Rises o r v p → AreLow i (slice_set states n p)
known_rises i states n r v o p h low one e g = rises_low i states n r v o p h low one (found_at states n o h e) g

-- ---- edges

all_low : (i : Image) (es : List Edge) → AllFine es → ((y : ℕ → Option State) → IsTyping i y → AllLead y es) → AllLow i es
all_low i [] f l = tt
all_low i (e ∷ es) f l = (record { fine = f.0; lower = λ y k. (l y k).0 }, all_low i es f.1 (λ y k. (l y k).1))

-- where the rule holds, its edges lead to such states
pub leads_low : (i : Image) (n : ℕ) (s : State) (es : List Edge) → IsTrue (is_in_range i) → IsLow i n s → Ok es ≡ rule i n s → AllLow i es
leads_low i n s es range low e =
    all_low i es (subst (λ (r : Result (List Edge) Cause). IfOk r AllFine) (sym e) (rule_fine (bounds_of i.code) i n s range low.fine))
    (λ y k. subst (λ (r : Result (List Edge) Cause). RuleHolds y r) (sym e) (typed_at i y k n s (low.lower y k)))

low_parts : (i : Image) (es fs : List Edge) → AllLow i (es ++ fs) → AllLow i es × AllLow i fs
low_parts i [] fs a = (tt, a)
low_parts i (e ∷ es) fs a = let b = low_parts i es fs a.1 in ((a.0, b.0), b.1)

pub first_low : (i : Image) (n : ℕ) (s : State) (es fs : List Edge) → IsTrue (is_in_range i) → IsLow i n s → Ok (es ++ fs) ≡ rule i n s → AllLow i es
first_low i n s es fs range low e = (low_parts i es fs (leads_low i n s (es ++ fs) range low e)).0

pub second_low : (i : Image) (n : ℕ) (s : State) (es fs : List Edge) → IsTrue (is_in_range i) → IsLow i n s → Ok (es ++ fs) ≡ rule i n s → AllLow i fs
second_low i n s es fs range low e = (low_parts i es fs (leads_low i n s (es ++ fs) range low e)).1

-- ---- from a search and back

pub taken_up : (i : Image) (bs : Stretches) (t : Table) (b : ℕ) (s : State) → Goes i bs t → at t.states b ≡ Some s → IsLow i (start_of i bs b) s
taken_up i bs t b s g e = record { fine = g.fine.each b s e; lower = λ y k. g.searching.lower y k b s e }

handed_on : (i : Image) (bs : Stretches) (t u : Table) (b : ℕ) (s : State) → Searching i bs t → IsLow i (start_of i bs b) s → Raises t b s u → Searching i bs u
handed_on i bs t u b s h low r = record {
  same = r.rises.same ∙ (h.same ∙ sym r.rises.long);
  begins = leads_still t u r.rises 0 _ h.begins;
  settled = λ m x e w. settled m x e w (r.rises.kept m);
  lower = λ y k. r.lower (at_starts i bs y) (h.lower y k) (low.lower y k);
  quiet = r.rises.quiet h.quiet;
}
  where
    settled : (m : ℕ) (x : State) → at u.states m ≡ Some x → slice_get u.waiting m ≡ Some false
        → ((at u.states m ≡ at t.states m) × (slice_get u.waiting m ≡ slice_get t.waiting m)) ⊎ (slice_get u.waiting m ≡ Some true)
        → RuleHolds (at u.states) (stretch i bs m x)
    settled m x e w (inl p) = typed_still t u r.rises (stretch i bs m x) (h.settled m x (sym p.0 ∙ e) (sym p.1 ∙ w))
    settled m x e w (inr p) = let z : Some false ≡ Some true = sym w ∙ p in absurd (cc)

pub handed_back : (i : Image) (bs : Stretches) (t u : Table) (b : ℕ) (s : State) → Goes i bs t → IsLow i (start_of i bs b) s
    → Some u ≡ raised t b s → Goes i bs u
handed_back i bs t u b s g low e =
    let r : Raises t b s u = subst (RaisesOr t b s) (sym e) (raising t b s g.searching.same) in
    let f : Eases t u = subst (EasesOr t) (sym e) (easing t b s g.fine low.fine) in
    record {
      stretches = g.stretches;
      searching = handed_on i bs t u b s g.searching low r;
      fine = f.fine;
      long = f.long ∙ g.long;
      range = g.range;
    }
