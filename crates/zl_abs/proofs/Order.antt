-- The order of values, and that their join is the least above both.
use Rattle.zl_abs.proofs.Common.{ANY, AbsVal, Bool, Decides-eqb, IsAboveJoin, IsTrue, JoinIsAbove, Kind, None, Option, Rights, Some, and_assoc, and_comm, arith}
use Rattle.zl_abs.proofs.Common.{below, bit_and, bits, eqb, false, if◌then◌else◌, joined, kind_below, kind_joined, larger, leb, nat_tests, not, refl, same_kind}
use Rattle.zl_abs.proofs.Common.{true, within, ℕ, ◌&&◌, ◌||◌, ◌≡◌}
use Rattle.std.specs.Int.Bits.{and_self}
use Rattle.zl_rights.specs.declared.kind.Kind.TheVariants.{Process, Channel, Event, Port, Eventpair, Job}
use Rattle.zl_abs.specs.declared.value.AbsVal.TheVariants.{Word, Has, KindOf, RightsOf}
use Rattle.std.proofs.lemmas.Bool.{and_parts, cond_both}

pub same_kind_refl : (a : Kind) → same_kind a a ≡ true
same_kind_refl Process = refl
same_kind_refl _ = refl

pub same_kind_is : (a b : Kind) → same_kind a b ≡ true → a ≡ b
same_kind_is Process Process h = refl
same_kind_is Channel Channel h = refl
same_kind_is Event Event h = refl
same_kind_is Port Port h = refl
same_kind_is Eventpair Eventpair h = refl
same_kind_is Job Job h = refl
same_kind_is _ _ h = cc

pub three : (a b c : Bool) → a ≡ true → b ≡ true → c ≡ true → (a && (b && c)) ≡ true
three a b c p q r = rw (p, q, r) refl

pub parts : (a b c : Bool) → (a && (b && c)) ≡ true → (a ≡ true) × (b ≡ true) × (c ≡ true)
parts true true true h = (refl, refl, refl)
parts _ _ _ h = cc

-- ---- flags, kinds, rights

pub or_trans : (x y z : Bool) → (not x || y) ≡ true → (not y || z) ≡ true → (not x || z) ≡ true
or_trans true true true h k = refl
or_trans false _ _ h k = refl
or_trans _ _ _ h k = cc

pub or_refl : (x : Bool) → (not x || x) ≡ true
or_refl true = refl
or_refl false = refl

pub kind_refl : (k : Option Kind) → kind_below k k ≡ true
kind_refl None = refl
kind_refl (Some k) = same_kind_refl k

pub kind_trans : (a b c : Option Kind) → kind_below a b ≡ true → kind_below b c ≡ true → kind_below a c ≡ true
kind_trans a b None h k = refl
kind_trans a None (Some z) h k = cc
kind_trans None (Some y) (Some z) h k = cc
kind_trans (Some x) (Some y) (Some z) h k = rw (same_kind_is x y h) k

pub within_refl : (r : ℕ) → within r r ≡ true
within_refl r = (Decides-eqb (bit_and r r) r).1 (and_self r)

pub is_within : (part whole : ℕ) → within part whole ≡ true → bit_and whole part ≡ part
is_within part whole h = (Decides-eqb (bit_and whole part) part).0 h

pub within_is : (part whole : ℕ) → bit_and whole part ≡ part → within part whole ≡ true
within_is part whole h = (Decides-eqb (bit_and whole part) part).1 h

pub within_trans : (a b c : ℕ) → within b a ≡ true → within c b ≡ true → within c a ≡ true
within_trans a b c h k =
    let p : bit_and a b ≡ b = is_within b a h in
    let q : bit_and b c ≡ c = is_within c b k in
    let e : bit_and (bit_and a b) c ≡ bit_and a (bit_and b c) = and_assoc c a b in
    within_is c a (cc)

pub below_refl : (a : AbsVal) → IsTrue (below a a)
unfolding below
below_refl (Word m) = grind (arith, nat_tests)
below_refl (Has maybe kind rights) = three _ _ _ (or_refl maybe) (kind_refl kind) (within_refl (bits rights))
below_refl (KindOf r) = grind (arith, nat_tests)
below_refl (RightsOf r) = grind (arith, nat_tests)

has_trans : (x x' x'' : Bool) (y y' y'' : Option Kind) (z z' z'' : ℕ) → ((not x || x') && (kind_below y y' && within z' z)) ≡ true
    → ((not x' || x'') && (kind_below y' y'' && within z'' z')) ≡ true → ((not x || x'') && (kind_below y y'' && within z'' z)) ≡ true
has_trans x x' x'' y y' y'' z z' z'' h k =
    let p = parts (not x || x') (kind_below y y') (within z' z) h in
    let q = parts (not x' || x'') (kind_below y' y'') (within z'' z') k in
    three _ _ _ (or_trans x x' x'' p.0 q.0) (kind_trans y y' y'' p.1 q.1) (within_trans z z' z'' p.2 q.2)

word_has : (m : ℕ) (x x' c : Bool) → (eqb m 0 && x) ≡ true → ((not x || x') && c) ≡ true → (eqb m 0 && x') ≡ true
word_has m x x' c h k = by (eqb m 0) x x' c h k
  where
    by : (e x x' c : Bool) → (e && x) ≡ true → ((not x || x') && c) ≡ true → (e && x') ≡ true
    by true true true c h k = refl
    by true true false c h k = cc
    by true false _ c h k = cc
    by false _ _ c h k = cc

word_word_has : (m n : ℕ) (x : Bool) → leb m n ≡ true → (eqb n 0 && x) ≡ true → (eqb m 0 && x) ≡ true
word_word_has m n x h k =
    let e = and_parts (eqb n 0) x k in
    let z : n ≡ 0 = (Decides-eqb n 0).0 e.0 in
    let y : m ≡ 0 = grind (arith, nat_tests) in
    rw (y, e.1) refl

any_apart : (s : ℕ) (x : Bool) → leb ANY s ≡ true → (eqb s 0 && x) ≡ true → ⊥
any_apart s x h k =
    let e = and_parts (eqb s 0) x k in
    let z : s ≡ 0 = (Decides-eqb s 0).0 e.0 in
    let f : leb ANY 0 ≡ true = rw z at h in
    cc

pub below_trans : (a b c : AbsVal) → IsTrue (below a b) → IsTrue (below b c) → IsTrue (below a c)
unfolding below
below_trans (Word m) (Word n) (Word o) h k = grind (arith, nat_tests)
below_trans (Word m) (Word n) (Has x y z) h k = word_word_has m n x h k
below_trans (Word m) (Has x y z) (Has x' y' z') h k = word_has m x x' _ h k
below_trans (Has x y z) (Has x' y' z') (Has x'' y'' z'') h k = has_trans x x' x'' y y' y'' (bits z) (bits z') (bits z'') h k
below_trans (KindOf r) (KindOf s) (KindOf t) h k = grind (arith, nat_tests)
below_trans (KindOf r) (KindOf s) (Word t) h k = k
below_trans (KindOf r) (Word s) (Word t) h k = grind (arith, nat_tests)
below_trans (KindOf r) (Word s) (Has x y z) h k = absurd (any_apart s x h k)
below_trans (RightsOf r) (RightsOf s) (RightsOf t) h k = grind (arith, nat_tests)
below_trans (RightsOf r) (RightsOf s) (Word t) h k = k
below_trans (RightsOf r) (Word s) (Word t) h k = grind (arith, nat_tests)
below_trans (RightsOf r) (Word s) (Has x y z) h k = absurd (any_apart s x h k)
below_trans _ _ _ h k = cc

-- ---- the join is above both

or_left : (x y : Bool) → (not x || (x || y)) ≡ true
or_left true y = refl
or_left false y = refl

or_right : (x y : Bool) → (not y || (x || y)) ≡ true
or_right true true = refl
or_right false true = refl
or_right x false = refl

or_true : (x : Bool) → (not x || true) ≡ true
or_true true = refl
or_true false = refl

kind_left : (a b : Option Kind) → kind_below a (kind_joined a b) ≡ true
kind_left None b = refl
kind_left (Some j) None = refl
kind_left (Some j) (Some k) = cond_both (same_kind j k) (Some j) None (λ o. kind_below (Some j) o ≡ true) (λ _. same_kind_refl j) (λ _. refl)

kind_right : (a b : Option Kind) → kind_below b (kind_joined a b) ≡ true
kind_right None b = refl
kind_right (Some j) None = refl
kind_right (Some j) (Some k) =
    cond_both (same_kind j k) (Some j) None (λ o. kind_below (Some k) o ≡ true) (λ h. rw (same_kind_is j k h) (same_kind_refl k)) (λ _. refl)

pub within_left : (a b : ℕ) → within (bit_and a b) a ≡ true
within_left a b = within_is _ _ (let e = and_assoc b a a in let f = and_self a in cc)

within_right : (a b : ℕ) → within (bit_and a b) b ≡ true
within_right a b = within_is _ _ (let e = and_comm b (bit_and a b) in let g = and_assoc b a b in let f = and_self b in cc)

word_left : (m n : ℕ) → leb m (if leb m n then n else m) ≡ true
word_left m n = grind (arith, nat_tests)

word_right : (m n : ℕ) → leb n (if leb m n then n else m) ≡ true
word_right m n = grind (arith, nat_tests)

zero_case : (m : ℕ) (c : AbsVal) → (m ≡ 0 → JoinIsAbove (Word m) (Some c)) → JoinIsAbove (Word m) (if eqb m 0 then Some c else None)
zero_case m c f = cond_both (eqb m 0) (Some c) None (JoinIsAbove (Word m)) (λ h. f ((Decides-eqb m 0).0 h)) (λ _. tt)

some_case : (t : Bool) (v c : AbsVal) → IsTrue (below v c) → JoinIsAbove v (if t then Some c else None)
some_case true v c h = h
some_case false v c h = tt

-- what two tags become is above a value that the first is above if they are equal, and any word
tag_above : (r s : ℕ) (u v : AbsVal) → (r ≡ s → IsTrue (below u v)) → IsTrue (below u (Word ANY)) → IsTrue (below u (if eqb r s then v else Word ANY))
tag_above r s u v f h = cond_both (eqb r s) v (Word ANY) (λ w. IsTrue (below u w)) (λ e. f ((Decides-eqb r s).0 e)) (λ _. h)

pub joined_left : (a b : AbsVal) → JoinIsAbove a (joined a b)
unfolding below joined
joined_left (Word m) (Word n) = word_left m n
joined_left (Word m) (Has maybe k r) = zero_case m _ (λ z. rw z refl)
joined_left (Word m) _ = word_left m ANY
joined_left (Has maybe k r) (Word m) = some_case (eqb m 0) (Has maybe k r) (Has true k r) (three _ _ _ (or_true maybe) (kind_refl k) (within_refl (bits r)))
joined_left (Has a k r) (Has b j q) = three _ _ _ (or_left a b) (kind_left k j) (within_left (bits r) (bits q))
joined_left (Has a k r) _ = tt
joined_left _ (Has _ _ _) = tt
joined_left _ (Word m) = word_right m ANY
joined_left (KindOf r) (KindOf s) = tag_above r s (KindOf r) (KindOf r) (λ _. below_refl (KindOf r)) refl
joined_left (RightsOf r) (RightsOf s) = tag_above r s (RightsOf r) (RightsOf r) (λ _. below_refl (RightsOf r)) refl
joined_left _ _ = refl

pub joined_right : (a b : AbsVal) → JoinIsAbove b (joined a b)
unfolding below joined
joined_right (Word m) (Word n) = word_right m n
joined_right (Word m) (Has maybe k r) = some_case (eqb m 0) (Has maybe k r) (Has true k r) (three _ _ _ (or_true maybe) (kind_refl k) (within_refl (bits r)))
joined_right (Word m) _ = word_right m ANY
joined_right (Has maybe k r) (Word m) = zero_case m _ (λ z. rw z refl)
joined_right (Has a k r) (Has b j q) = three _ _ _ (or_right a b) (kind_right k j) (within_right (bits r) (bits q))
joined_right (Has a k r) _ = tt
joined_right _ (Has _ _ _) = tt
joined_right _ (Word m) = word_left m ANY
joined_right (KindOf r) (KindOf s) = tag_above r s (KindOf s) (KindOf r) (λ e. rw e (below_refl (KindOf s))) refl
joined_right (RightsOf r) (RightsOf s) = tag_above r s (RightsOf s) (RightsOf r) (λ e. rw e (below_refl (RightsOf s))) refl
joined_right _ _ = refl

-- ---- and the least

larger_least : (m n d : ℕ) → leb m d ≡ true → leb n d ≡ true → leb (larger m n) d ≡ true
larger_least m n d h k = grind (arith, nat_tests)

or_least : (x y z : Bool) → (not x || z) ≡ true → (not y || z) ≡ true → (not (x || y) || z) ≡ true
or_least true y z h k = h
or_least false y z h k = k

kind_least : (a b d : Option Kind) → kind_below a d ≡ true → kind_below b d ≡ true → kind_below (kind_joined a b) d ≡ true
kind_least a b None h k = refl
kind_least None b (Some d) h k = cc
kind_least (Some x) None (Some d) h k = cc
kind_least (Some x) (Some y) (Some d) h k =
    let p : x ≡ d = same_kind_is x d h in
    let q : y ≡ d = same_kind_is y d k in
    let e : same_kind x y ≡ true = rw (p, q) (same_kind_refl d) in
    rw e h

within_least : (a b d : ℕ) → within d a ≡ true → within d b ≡ true → within d (bit_and a b) ≡ true
within_least a b d h k =
    let p : bit_and a d ≡ d = is_within d a h in
    let q : bit_and b d ≡ d = is_within d b k in
    let e : bit_and (bit_and a b) d ≡ bit_and a (bit_and b d) = and_assoc d a b in
    within_is d (bit_and a b) cc

has_least : (a b c : Bool) (k j l : Option Kind) (r q s : ℕ) → ((not a || c) && (kind_below k l && within s r)) ≡ true
    → ((not b || c) && (kind_below j l && within s q)) ≡ true → ((not (a || b) || c) && (kind_below (kind_joined k j) l && within s (bit_and r q))) ≡ true
has_least a b c k j l r q s h g =
    let p = parts (not a || c) (kind_below k l) (within s r) h in
    let t = parts (not b || c) (kind_below j l) (within s q) g in
    three _ _ _ (or_least a b c p.0 t.0) (kind_least k j l p.1 t.1) (within_least r q s p.2 t.2)

-- a zero word and a handle, below a handle
zero_least : (m : ℕ) (a b : Bool) (k l : Option Kind) (r s : Rights) → (eqb m 0 && b) ≡ true
    → ((not a || b) && (kind_below k l && within (bits s) (bits r))) ≡ true → IsAboveJoin (Has b l s) (if eqb m 0 then Some (Has true k r) else None)
unfolding below
zero_least m a b k l r s h g =
    let e = and_parts (eqb m 0) b h in
    let p = parts (not a || b) (kind_below k l) (within (bits s) (bits r)) g in
    rw (e.0) (three _ _ _ (e.1) (p.1) (p.2))

tags_least : (r s : ℕ) (x y : AbsVal) (d : AbsVal) → (r ≡ s → IsTrue (below x d)) → (eqb r s ≡ false → IsTrue (below y d))
    → IsTrue (below (if eqb r s then x else y) d)
tags_least r s x y d f g = cond_both (eqb r s) x y (λ w. IsTrue (below w d)) (λ h. f ((Decides-eqb r s).0 h)) g

zero_zero : (m n : ℕ) (x : Bool) → (eqb m 0 && x) ≡ true → (eqb n 0 && x) ≡ true → (eqb (larger m n) 0 && x) ≡ true
zero_zero m n x h k =
    let p : m ≡ 0 = (Decides-eqb m 0).0 (and_parts (eqb m 0) x h).0 in
    let q : n ≡ 0 = (Decides-eqb n 0).0 (and_parts (eqb n 0) x k).0 in
    rw (p, q, (and_parts (eqb m 0) x h).1) refl

tags_apart : (r s t : ℕ) → eqb r t ≡ true → eqb s t ≡ true → eqb r s ≡ false → ⊥
tags_apart r s t h k e = grind (arith, nat_tests)

pub joined_least : (a b d : AbsVal) → IsTrue (below a d) → IsTrue (below b d) → IsAboveJoin d (joined a b)
unfolding below joined
joined_least (Word m) (Word n) (Word o) h k = larger_least m n o h k
joined_least (Word m) (Word n) (Has x y z) h k = zero_zero m n x h k
joined_least (Word m) (Has x y z) (Has x' y' z') h k = zero_least m x x' y y' z z' h k
joined_least (Word m) (KindOf r) (Word o) h k = larger_least m ANY o h k
joined_least (Word m) (RightsOf r) (Word o) h k = larger_least m ANY o h k
joined_least (Has x y z) (Word m) (Has x' y' z') h k = zero_least m x x' y y' z z' k h
joined_least (Has x y z) (Has x' y' z') (Has x'' y'' z'') h k = has_least x x' x'' y y' y'' (bits z) (bits z') (bits z'') h k
joined_least (KindOf r) (Word n) (Word o) h k = larger_least n ANY o k h
joined_least (KindOf r) (KindOf s) (Word o) h k = tags_least r s (KindOf r) (Word ANY) (Word o) (λ _. h) (λ _. h)
joined_least (KindOf r) (RightsOf s) (Word o) h k = h
joined_least (KindOf r) (KindOf s) (KindOf t) h k = tags_least r s (KindOf r) (Word ANY) (KindOf t) (λ _. h) (λ e. absurd (tags_apart r s t h k e))
joined_least (RightsOf r) (Word n) (Word o) h k = larger_least n ANY o k h
joined_least (RightsOf r) (RightsOf s) (Word o) h k = tags_least r s (RightsOf r) (Word ANY) (Word o) (λ _. h) (λ _. h)
joined_least (RightsOf r) (KindOf s) (Word o) h k = h
joined_least (RightsOf r) (RightsOf s) (RightsOf t) h k = tags_least r s (RightsOf r) (Word ANY) (RightsOf t) (λ _. h) (λ e. absurd (tags_apart r s t h k e))
joined_least (Has _ _ _) _ (Word _) h k = cc
joined_least _ (Has _ _ _) (Word _) h k = cc
joined_least _ _ _ h k = cc
