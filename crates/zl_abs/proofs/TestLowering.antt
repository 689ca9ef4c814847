-- What the tests of jumps teach, at a state and at one below it.
use Rattle.zl_abs.proofs.Common.{ANY, AbsVal, Bool, Decides-eqb, IsTrue, KNOWN_RIGHTS, Kind, None, Option, Rights, Some, State, Ways, and_parts, ap, arith}
use Rattle.zl_abs.proofs.Common.{becomes, below, below_ways, bit_or, bits, capped, eqb, equal_ways, false, has_ways, if◌then◌else◌, kind_below, kind_numbered}
use Rattle.zl_abs.proofs.Common.{kind_ways, known_kind, known_other, known_rights, known_there, known_zero, leb, ltb, nat_tests, not, refined, refl, rights_of}
use Rattle.zl_abs.proofs.Common.{same_kind, smaller, subst, true, value_at, within, word_at, zero_ways, ℕ, ◌&&◌, ◌-◌, ◌<◌, ◌||◌, ◌∙◌, ◌≡◌, ◌≤◌}
use Rattle.zl_abs.specs.declared.value.AbsVal.TheVariants.{Word, Has, KindOf, RightsOf}
use Rattle.zl_abs.proofs.Order.{below_refl, kind_trans, kind_refl, within_refl, parts, three, same_kind_is}
use Rattle.zl_abs.proofs.StateOrder.{all_below_refl, all_below_trans}
use Rattle.zl_abs.proofs.Lowering.{Lowers, IsBelow, WayBelow, WaysBelow, lowers_then, value_below, set_below, set_above, set_under, word_at_below}
use Rattle.zl_abs.proofs.Lowering.{both_by, word_below}
use Rattle.zl_abs.proofs.RightsLowering.{within_gained, within_more}
use Rattle.std.proofs.lemmas.Bool.{leb-true, ltb-true, cond_both}

-- ---- values

pub has_parts : (a b : Bool) (k j : Option Kind) (r q : Rights) → IsTrue (below (Has a k r) (Has b j q))
    → ((not a || b) ≡ true) × (kind_below k j ≡ true) × (within (bits q) (bits r) ≡ true)
unfolding below
has_parts a b k j r q h = parts (not a || b) (kind_below k j) (within (bits q) (bits r)) h

pub has_from : (a b : Bool) (k j : Option Kind) (r q : Rights) → (not a || b) ≡ true → kind_below k j ≡ true → within (bits q) (bits r) ≡ true
    → IsTrue (below (Has a k r) (Has b j q))
unfolding below
has_from a b k j r q x y z = three _ _ _ x y z

zero_zero : IsTrue (below (Word 0) (Word 0))
zero_zero = below_refl (Word 0)

-- a word below a handle is 0
pub zero_of : (m : ℕ) (b : Bool) (k : Option Kind) (r : Rights) → IsTrue (below (Word m) (Has b k r)) → (m ≡ 0) × (b ≡ true)
unfolding below
zero_of m b k r h = let p = and_parts (eqb m 0) b h in ((Decides-eqb m 0).0 p.0, p.1)

large : (n : ℕ) → leb ANY n ≡ true → eqb n 0 ≡ false
large n h = grind (arith, nat_tests)

-- ---- more is known on both

way_refl : (s t : State) → IsBelow s t → (x y : Bool) → (y ≡ true → x ≡ true) → WayBelow (if x then None else Some s) (if y then None else Some t)
way_refl s t h true y k = tt
way_refl s t h false false k = h
way_refl s t h false true k = let e = k refl in cc

pub known_zero_below : (s t : State) (r : ℕ) (v w : AbsVal) → IsBelow s t → value_at s r ≡ v → IsTrue (below v w)
    → WayBelow (known_zero s r v) (known_zero t r w)
unfolding below
known_zero_below s t r (Has false k q) w h e b = tt
known_zero_below s t r (Has true k q) (Has true j p) h e b = set_below s t r _ _ h zero_zero
known_zero_below s t r (Word m) (Has b j p) h e k =
    let z = zero_of m b j p k in
    let u : value_at s r ≡ Word 0 = e ∙ ap Word z.0 in
    rw (z.1) (set_above s t r (Word 0) h (rw u zero_zero))
known_zero_below s t r (Word m) (Word _) h e b = h
known_zero_below s t r (KindOf _) (Word _) h e b = h
known_zero_below s t r (KindOf _) (KindOf _) h e b = h
known_zero_below s t r (RightsOf _) (Word _) h e b = h
known_zero_below s t r (RightsOf _) (RightsOf _) h e b = h
known_zero_below s t r _ _ h e b = cc

sure_below : (a b : Bool) (k j : Option Kind) (r q : Rights) → IsTrue (below (Has a k r) (Has b j q)) → IsTrue (below (Has false k r) (Has false j q))
sure_below a b k j r q h = let p = has_parts a b k j r q h in has_from false false k j r q refl p.1 p.2

zero_kept : (m n : ℕ) → leb m n ≡ true → eqb n 0 ≡ true → eqb m 0 ≡ true
zero_kept m n h k = grind (arith, nat_tests)

pub tag_there : (n : ℕ) → leb ANY n ≡ true → eqb n 0 ≡ true → ⊥
tag_there n h k = let z : n ≡ 0 = (Decides-eqb n 0).0 k in let b : leb ANY 0 ≡ true = rw z at h in cc

pub known_there_below : (s t : State) (r : ℕ) (v w : AbsVal) → IsBelow s t → IsTrue (below v w) → WayBelow (known_there s r v) (known_there t r w)
unfolding below
known_there_below s t r (Has a k q) (Has b j p) h e = set_below s t r _ _ h (sure_below a b k j q p e)
known_there_below s t r (Word m) (Has b j p) h e = let z = (zero_of m b j p e).0 in rw z tt
known_there_below s t r (Word m) (Word n) h e = way_refl s t h (eqb m 0) (eqb n 0) (zero_kept m n e)
known_there_below s t r (KindOf _) (Word n) h e = way_refl s t h false (eqb n 0) (λ k. absurd (tag_there n e k))
known_there_below s t r (KindOf _) (KindOf _) h e = h
known_there_below s t r (RightsOf _) (Word n) h e = way_refl s t h false (eqb n 0) (λ k. absurd (tag_there n e k))
known_there_below s t r (RightsOf _) (RightsOf _) h e = h
known_there_below s t r _ _ h e = cc

-- an edge that is followed where a test holds, with what it teaches
way_if : (x y : Bool) (u v : State) → (x ≡ true → y ≡ true) → IsBelow u v → WayBelow (if x then Some u else None) (if y then Some v else None)
way_if false y u v k h = tt
way_if true true u v k h = h
way_if true false u v k h = let e = k refl in cc

pub known_kind_below : (s t : State) (r : ℕ) (o : Option Kind) (v w : AbsVal) → IsBelow s t → IsTrue (below v w)
    → WayBelow (known_kind s r o v) (known_kind t r o w)
unfolding below
known_kind_below s t r None v w h e = tt
known_kind_below s t r (Some x) (Has a k q) (Has b j p) h e =
    let c = has_parts a b k j q p e in
    way_if (kind_below (Some x) k) (kind_below (Some x) j) _ _ (λ y. kind_trans (Some x) k j y c.1)
    (set_below s t r _ _ h (has_from false false (Some x) (Some x) q p refl (kind_refl (Some x)) c.2))
known_kind_below s t r (Some x) (Has _ _ _) _ h e = cc
known_kind_below s t r (Some x) _ w h e = tt

other_kept : (a b : Bool) (x k j : Kind) → (not a || b) ≡ true → same_kind k j ≡ true → (not b && same_kind x j) ≡ true → (not a && same_kind x k) ≡ true
other_kept true true x k j h p e = cc
other_kept true false x k j h p e = cc
other_kept false true x k j h p e = cc
other_kept false false x k j h p e = rw (same_kind_is k j p) e

-- whatever the lower has: the upper's edge is followed
way_some : (s t : State) (x : Bool) → IsBelow s t → WayBelow (if x then None else Some s) (Some t)
way_some s t true h = tt
way_some s t false h = h

pub known_other_below : (s t : State) (o : Option Kind) (v w : AbsVal) → IsBelow s t → IsTrue (below v w) → WayBelow (known_other s o v) (known_other t o w)
unfolding below
known_other_below s t None v w h e = h
known_other_below s t (Some x) (Has a (Some k) q) (Has b (Some j) p) h e =
    let c = has_parts a b (Some k) (Some j) q p e in
    way_refl s t h (not a && same_kind x k) (not b && same_kind x j) (other_kept a b x k j c.0 c.1)
known_other_below s t (Some x) (Has a (Some k) q) (Has b None p) h e = way_some s t (not a && same_kind x k) h
known_other_below s t (Some x) (Has a None q) (Has b (Some j) p) h e = let c = (has_parts a b None (Some j) q p e).1 in cc
known_other_below s t (Some x) (Has a None q) (Has b None p) h e = h
known_other_below s t (Some x) (Word m) (Has b (Some j) p) h e = let z = (zero_of m b (Some j) p e).1 in rw z h
known_other_below s t (Some x) (Word m) (Has b None p) h e = h
known_other_below s t (Some x) (Word _) (Word _) h e = h
known_other_below s t (Some x) (KindOf _) (Word _) h e = h
known_other_below s t (Some x) (KindOf _) (KindOf _) h e = h
known_other_below s t (Some x) (RightsOf _) (Word _) h e = h
known_other_below s t (Some x) (RightsOf _) (RightsOf _) h e = h
known_other_below s t (Some x) _ _ h e = cc

pub known_rights_below : (s t : State) (r imm : ℕ) (v w : AbsVal) → IsBelow s t → IsTrue (below v w)
    → WayBelow (known_rights s r imm v) (known_rights t r imm w)
unfolding below
known_rights_below s t r imm (Has a k q) (Has b j p) h e =
    let c = has_parts a b k j q p e in
    way_if (within imm KNOWN_RIGHTS) (within imm KNOWN_RIGHTS) _ _ (λ y. y)
    (set_below s t r _ _ h
    (has_from false false k j (rights_of (bit_or (bits q) imm)) (rights_of (bit_or (bits p) imm)) refl c.1 (within_gained (bits p) (bits q) imm c.2)))
known_rights_below s t r imm (Has _ _ _) _ h e = cc
known_rights_below s t r imm _ w h e = tt

-- ---- what is known below is below

way_under : (s t : State) (x : Bool) (u : State) → IsBelow u t → WayBelow (if x then Some u else None) (Some t)
way_under s t true u h = h
way_under s t false u h = tt

zero_under : (s t : State) (r : ℕ) (v : AbsVal) → IsBelow s t → value_at s r ≡ v → WayBelow (known_zero s r v) (Some t)
unfolding below
zero_under s t r (Has false k q) h e = tt
zero_under s t r (Has true k q) h e = all_below_trans _ s t (set_under s s r (Word 0) (all_below_refl s) (rw e refl)) h
zero_under s t r _ h e = h

there_under : (s t : State) (r : ℕ) (v : AbsVal) → IsBelow s t → value_at s r ≡ v → WayBelow (known_there s r v) (Some t)
there_under s t r (Word m) h e = way_some s t (eqb m 0) h
there_under s t r (Has a k q) h e =
    all_below_trans _ s t (set_under s s r (Has false k q) (all_below_refl s) (rw e (has_from false a k k q q refl (kind_refl k) (within_refl (bits q))))) h
there_under s t r _ h e = h

kind_under : (s t : State) (r : ℕ) (o : Option Kind) (v : AbsVal) → IsBelow s t → value_at s r ≡ v → WayBelow (known_kind s r o v) (Some t)
kind_under s t r None v h e = tt
kind_under s t r (Some x) (Has a k q) h e =
    cond_both (kind_below (Some x) k) (Some (refined s r (Has false (Some x) q))) None (λ o. WayBelow o (Some t)) (λ y. all_below_trans _ s t
    (set_under s s r (Has false (Some x) q) (all_below_refl s) (rw e (has_from false a (Some x) k q q refl y (within_refl (bits q))))) h) (λ _. tt)
kind_under s t r (Some x) _ h e = tt

other_under : (s t : State) (o : Option Kind) (v : AbsVal) → IsBelow s t → WayBelow (known_other s o v) (Some t)
other_under s t None v h = h
other_under s t (Some x) (Has a (Some k) q) h = way_some s t (not a && same_kind x k) h
other_under s t (Some x) _ h = h

rights_under : (s t : State) (r imm : ℕ) (v : AbsVal) → IsBelow s t → value_at s r ≡ v → WayBelow (known_rights s r imm v) (Some t)
rights_under s t r imm (Has a k q) h e =
    way_under s t (within imm KNOWN_RIGHTS) _ (all_below_trans _ s t (set_under s s r (Has false k (rights_of (bit_or (bits q) imm))) (all_below_refl s)
    (rw e (has_from false a k k (rights_of (bit_or (bits q) imm)) q refl (kind_refl k) (within_more (bits q) imm)))) h)
rights_under s t r imm _ h e = tt

-- ---- jumps

becomes_below : (a imm : ℕ) (o p : Option State) → WayBelow o p → WayBelow (becomes a imm o) (becomes a imm p)
becomes_below a imm None p h = tt
becomes_below a imm (Some s) None h = absurd h
becomes_below a imm (Some s) (Some t) h = set_below s t a _ _ h (below_refl (Word (capped imm)))

kind_ways_below : (s t : State) (a imm r : ℕ) → IsBelow s t → WaysBelow (kind_ways s a imm r) (kind_ways t a imm r)
kind_ways_below s t a imm r h =
    let v = value_below s t r h in
    both_by WaysBelow (eqb imm 0) _ _ _ _ (becomes_below a 0 _ _ (known_zero_below s t r _ _ h refl v), known_there_below s t r _ _ h v)
    (becomes_below a imm _ _ (known_kind_below s t r (kind_numbered imm) _ _ h v), known_other_below s t (kind_numbered imm) _ _ h v)

-- below any word every edge of a test is followed
abbrev any_ways : State → ℕ → ℕ → Ways
any_ways t a imm = record { jumped = becomes a imm (Some t); passed = Some t }

kind_ways_any : (s t : State) (a imm r : ℕ) → IsBelow s t → WaysBelow (kind_ways s a imm r) (any_ways t a imm)
kind_ways_any s t a imm r h =
    cond_both (eqb imm 0) _ _ (λ w. WaysBelow w (any_ways t a imm))
    (λ z. let e : imm ≡ 0 = (Decides-eqb imm 0).0 z in rw e (becomes_below a 0 _ _ (zero_under s t r _ h refl), there_under s t r _ h refl))
    (λ z. (becomes_below a imm _ _ (kind_under s t r (kind_numbered imm) _ h refl), other_under s t (kind_numbered imm) _ h))

pub less_kept : (m n c : ℕ) → m ≤ n → ltb n c ≡ true → ltb m c ≡ true
less_kept m n c h k = grind (arith, nat_tests)

both_kept : (x y z : Bool) → (y ≡ true → x ≡ true) → (y && z) ≡ true → (x && z) ≡ true
both_kept x true z h k = rw (h refl) k
both_kept x false z h k = cc

capped_most : (n imm : ℕ) → leb ANY n ≡ true → ltb n (capped imm) ≡ false
capped_most n imm h = by (ltb n (capped imm)) refl
  where
    le : (n : ℕ) → leb ANY n ≡ true → ANY ≤ n
    le n h = leb-true ANY n h

    by : (b : Bool) → ltb n (capped imm) ≡ b → b ≡ false
    by false e = refl
    by true e = absurd (let p = le n h in let q : n < capped imm = (ltb-true n (capped imm) e) in omega arith)

-- a tag and a word above it: both edges of the word are followed
word_is_any : (t : State) (a imm n : ℕ) → leb ANY n ≡ true
    → any_ways t a imm ≡ record { jumped = if ltb n (capped imm) then None else becomes a imm (Some t); passed = if eqb n 0 && eqb imm 0 then None else Some t }
word_is_any t a imm n h = rw (capped_most n imm h, large n h) refl

equal_by : (s t : State) (a imm : ℕ) (v w : AbsVal) → IsBelow s t → IsTrue (below v w) → Lowers WaysBelow (equal_ways s a imm v) (equal_ways t a imm w)
unfolding below
equal_by s t a imm v (Has _ _ _) h e = tt
equal_by s t a imm (Word m) (Word n) h e = (
  way_becomes (ltb m (capped imm)) (ltb n (capped imm)) (less_kept m n (capped imm) (leb-true m n e)),
  way_refl s t h _ _ (both_kept (eqb m 0) (eqb n 0) (eqb imm 0) (zero_kept m n e)),
)
  where
    way_becomes : (x y : Bool) → (y ≡ true → x ≡ true) → WayBelow (if x then None else becomes a imm (Some s)) (if y then None else becomes a imm (Some t))
    way_becomes true y k = tt
    way_becomes false false k = becomes_below a imm (Some s) (Some t) h
    way_becomes false true k = let z = k refl in cc
equal_by s t a imm (KindOf r) (Word n) h e = subst (λ (w : Ways). WaysBelow (kind_ways s a imm r) w) (word_is_any t a imm n e) (kind_ways_any s t a imm r h)
equal_by s t a imm (RightsOf r) (Word n) h e =
    subst (λ (w : Ways). WaysBelow (record { jumped = becomes a imm (Some s); passed = Some s }) w) (word_is_any t a imm n e)
    (becomes_below a imm (Some s) (Some t) h, h)
equal_by s t a imm (KindOf r) (KindOf q) h e = let p : r ≡ q = (Decides-eqb r q).0 e in rw p (kind_ways_below s t a imm q h)
equal_by s t a imm (RightsOf _) (RightsOf _) h e = (becomes_below a imm (Some s) (Some t) h, h)
equal_by s t a imm _ _ h e = cc

pub equal_below : (s t : State) (a imm : ℕ) → IsBelow s t → Lowers WaysBelow (equal_ways s a imm (value_at s a)) (equal_ways t a imm (value_at t a))
equal_below s t a imm h = equal_by s t a imm (value_at s a) (value_at t a) h (value_below s t a h)

zero_by : (s t : State) (a : ℕ) (v w : AbsVal) → IsBelow s t → value_at s a ≡ v → IsTrue (below v w) → Lowers WaysBelow (zero_ways s a v) (zero_ways t a w)
unfolding below
zero_by s t a (Has x k q) (Has y j p) h e b = (known_zero_below s t a (Has x k q) (Has y j p) h e b, known_there_below s t a (Has x k q) (Has y j p) h b)
zero_by s t a (Word m) (Has y j p) h e b =
    let z = zero_of m y j p b in
    let u : value_at s a ≡ Word 0 = e ∙ ap Word z.0 in
    rw (z.0, z.1) (set_below s t a (Word 0) (Word 0) h zero_zero, tt)
zero_by s t a (Word m) (Word n) h e b = equal_by s t a 0 (Word m) (Word n) h b
zero_by s t a (KindOf r) (Word n) h e b = equal_by s t a 0 (KindOf r) (Word n) h b
zero_by s t a (KindOf r) (KindOf q) h e b = equal_by s t a 0 (KindOf r) (KindOf q) h b
zero_by s t a (RightsOf r) (Word n) h e b = equal_by s t a 0 (RightsOf r) (Word n) h b
zero_by s t a (RightsOf r) (RightsOf q) h e b = equal_by s t a 0 (RightsOf r) (RightsOf q) h b
zero_by s t a _ _ h e b = cc

pub zero_below : (s t : State) (a : ℕ) → IsBelow s t → Lowers WaysBelow (zero_ways s a (value_at s a)) (zero_ways t a (value_at t a))
zero_below s t a h = zero_by s t a (value_at s a) (value_at t a) h refl (value_below s t a h)

smaller_kept : (m n c : ℕ) → m ≤ n → smaller m c ≤ smaller n c
smaller_kept m n c h = grind (arith, nat_tests)

pub below_below : (s t : State) (a imm : ℕ) → IsBelow s t → Lowers WaysBelow (below_ways s a imm) (below_ways t a imm)
below_below s t a imm h =
    lowers_then (λ m n. m ≤ n) WaysBelow (word_at s a) (word_at t a) _ _ (word_at_below s t a h)
    (λ m n p. (
      both_by WayBelow (eqb imm 0) _ _ _ _ tt (set_below s t a _ _ h (word_below _ _ (smaller_kept m n (imm - 1) p))),
      way_refl s t h (ltb m imm) (ltb n imm) (less_kept m n imm p),
    ))

has_by : (s t : State) (imm : ℕ) (v w : AbsVal) → IsBelow s t → IsTrue (below v w) → Lowers WaysBelow (has_ways s imm v) (has_ways t imm w)
unfolding below
has_by s t imm v (Has _ _ _) h e = tt
has_by s t imm (Word _) (Word _) h e = (h, h)
has_by s t imm (KindOf _) (Word _) h e = (h, h)
has_by s t imm (RightsOf r) (Word _) h e =
    (cond_both (eqb imm 0) (Some s) _ (λ o. WayBelow o (Some t)) (λ _. h) (λ _. rights_under s t r imm (value_at s r) h refl), h)
has_by s t imm (KindOf _) (KindOf _) h e = (h, h)
has_by s t imm (RightsOf r) (RightsOf q) h e =
    let p : r ≡ q = (Decides-eqb r q).0 e in
    let known = known_rights_below s t q imm (value_at s q) (value_at t q) h (value_below s t q h) in
    rw p (both_by WayBelow (eqb imm 0) (Some s) _ (Some t) _ h known, h)
has_by s t imm _ _ h e = cc

pub has_below : (s t : State) (a imm : ℕ) → IsBelow s t → Lowers WaysBelow (has_ways s imm (value_at s a)) (has_ways t imm (value_at t a))
has_below s t a imm h = has_by s t imm (value_at s a) (value_at t a) h (value_below s t a h)
