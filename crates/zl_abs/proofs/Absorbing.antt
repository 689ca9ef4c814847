-- A join with what lies below changes nothing; what lies below each other is the same.
use Rattle.zl_abs.proofs.Common.{ANY, AbsVal, Bool, Decides-eqb, IsTrue, Kind, None, Option, Rights, Some, State, [], all_below, all_joined, and_comm, ap}
use Rattle.zl_abs.proofs.Common.{arith, below, bit_and, bits, eqb, false, joined, kind_below, kind_joined, larger, leb, nat_tests, not, refl, rights_of, sym}
use Rattle.zl_abs.proofs.Common.{true, within, ℕ, ◌&&◌, ◌||◌, ◌∙◌, ◌∷◌, ◌≡◌}
use Rattle.zl_abs.specs.declared.value.AbsVal.TheVariants.{Word, Has, KindOf, RightsOf}
use Rattle.zl_abs.proofs.Order.{same_kind_is, same_kind_refl, parts, is_within}
use Rattle.std.proofs.lemmas.Bool.{and_parts}

-- ---- joins

larger_same : (m n : ℕ) → leb n m ≡ true → larger m n ≡ m
larger_same m n h = grind (arith, nat_tests)

or_same : (a b : Bool) → (not b || a) ≡ true → (a || b) ≡ a
or_same true b h = refl
or_same false false h = refl
or_same false true h = cc

kind_same : (k j : Option Kind) → kind_below j k ≡ true → kind_joined k j ≡ k
kind_same None j h = refl
kind_same (Some x) None h = cc
kind_same (Some x) (Some y) h = rw (same_kind_is y x h, same_kind_refl x) refl

has_same : (a b : Bool) (k j : Option Kind) (r q : Rights) → ((not b || a) && (kind_below j k && within (bits r) (bits q))) ≡ true
    → Has (a || b) (kind_joined k j) (rights_of (bit_and (bits r) (bits q))) ≡ Has a k r
has_same a b k j r q h =
    let p = parts (not b || a) (kind_below j k) (within (bits r) (bits q)) h in
    let e : bit_and (bits r) (bits q) ≡ bits r = and_comm (bits r) (bits q) ∙ is_within (bits r) (bits q) p.2 in
    rw (or_same a b (p.0), kind_same k j (p.1), e) refl

pub absorbs : (a b : AbsVal) → IsTrue (below b a) → joined a b ≡ Some a
unfolding below joined
absorbs (Word m) (Word n) h = ap (λ (x : ℕ). Some (Word x)) (larger_same m n h)
absorbs (Word m) (KindOf _) h = ap (λ (x : ℕ). Some (Word x)) (larger_same m ANY h)
absorbs (Word m) (RightsOf _) h = ap (λ (x : ℕ). Some (Word x)) (larger_same m ANY h)
absorbs (Has a k r) (Word n) h = let p = and_parts (eqb n 0) a h in rw (p.0, p.1) refl
absorbs (Has a k r) (Has b j q) h = ap Some (has_same a b k j r q h)
absorbs (KindOf r) (KindOf s) h = let p : eqb r s ≡ true = grind (arith, nat_tests) in rw p refl
absorbs (RightsOf r) (RightsOf s) h = let p : eqb r s ≡ true = grind (arith, nat_tests) in rw p refl
absorbs _ _ h = cc

pub all_absorb : (s t : State) → IsTrue (all_below t s) → all_joined s t ≡ Some s
unfolding all_below all_joined
all_absorb [] [] h = refl
all_absorb (a ∷ s) (b ∷ t) h = let p = and_parts (below b a) (all_below t s) h in rw (absorbs a b (p.0), all_absorb s t (p.1)) refl
all_absorb _ _ h = cc

-- ---- the order

flag_is : (a b : Bool) → (not a || b) ≡ true → (not b || a) ≡ true → a ≡ b
flag_is true true h k = refl
flag_is false false h k = refl
flag_is _ _ h k = cc

kind_is : (k j : Option Kind) → kind_below k j ≡ true → kind_below j k ≡ true → k ≡ j
kind_is None None h k = refl
kind_is (Some x) (Some y) h k = ap Some (same_kind_is x y h)
kind_is _ _ h k = cc

has_is : (a b : Bool) (k j : Option Kind) (r q : Rights) → ((not a || b) && (kind_below k j && within (bits q) (bits r))) ≡ true
    → ((not b || a) && (kind_below j k && within (bits r) (bits q))) ≡ true → Has a k r ≡ Has b j q
has_is a b k j r q h g =
    let p = parts (not a || b) (kind_below k j) (within (bits q) (bits r)) h in
    let t = parts (not b || a) (kind_below j k) (within (bits r) (bits q)) g in
    let e : bits r ≡ bits q = sym (is_within (bits r) (bits q) t.2) ∙ (and_comm (bits q) (bits r) ∙ is_within (bits q) (bits r) p.2) in
    let same : r ≡ q = ap rights_of e in
    rw (flag_is a b p.0 t.0, kind_is k j p.1 t.1, same) refl

number_is : (m n : ℕ) → leb m n ≡ true → leb n m ≡ true → m ≡ n
number_is m n h k = grind (arith, nat_tests)

pub below_antisymmetric : (a b : AbsVal) → IsTrue (below a b) → IsTrue (below b a) → a ≡ b
unfolding below
below_antisymmetric (Word m) (Word n) h k = ap Word (number_is m n h k)
below_antisymmetric (Has a i r) (Has b j q) h k = has_is a b i j r q h k
below_antisymmetric (KindOf r) (KindOf s) h k = ap KindOf ((Decides-eqb r s).0 h)
below_antisymmetric (RightsOf r) (RightsOf s) h k = ap RightsOf ((Decides-eqb r s).0 h)
below_antisymmetric _ _ h k = cc

pub all_below_antisymmetric : (s t : State) → IsTrue (all_below s t) → IsTrue (all_below t s) → s ≡ t
unfolding all_below
all_below_antisymmetric [] [] h k = refl
all_below_antisymmetric (a ∷ s) (b ∷ t) h k =
    let p = and_parts (below a b) (all_below s t) h in
    let q = and_parts (below b a) (all_below t s) k in
    rw (below_antisymmetric a b p.0 q.0, all_below_antisymmetric s t p.1 q.1) refl
all_below_antisymmetric _ _ h k = cc
