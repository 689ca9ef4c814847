-- How far a state can still rise: a join that isn't the state itself takes some of it.
use Rattle.zl_abs.proofs.Common.{ANY, AbsVal, Bool, Decides-eqb, Fits, IsFine, Kind, None, Option, Some, State, [], all_below, all_joined, and_comm, and_le_l}
use Rattle.zl_abs.proofs.Common.{arith, below, bit_and, bits, cons_if, eqb, false, if◌then◌else◌, inl, inr, joined, kind_below, kind_joined, larger, leb}
use Rattle.zl_abs.proofs.Common.{length, nat_tests, not, refl, same_kind, subst, suc, sym, true, value_at, within, ℕ, ◌&&◌, ◌*◌, ◌+◌, ◌-◌, ◌<◌, ◌||◌, ◌∙◌, ◌∷◌}
use Rattle.zl_abs.proofs.Common.{◌≡◌, ◌≢◌, ◌≤◌, ◌⊎◌}
use Rattle.zl_abs.specs.declared.value.AbsVal.TheVariants.{Word, Has, KindOf, RightsOf}
use Rattle.zl_abs.proofs.Order.{same_kind_is, same_kind_refl}
use Rattle.std.proofs.lemmas.Bool.{and_cases, cond_both}

-- ---- what it is

-- above what any word or handle has
abbrev pub MOST : ℕ
MOST = 36893488147419103232

abbrev one_if : Bool → ℕ
one_if true = 1
one_if false = 0

abbrev kind_room : Option Kind → ℕ
kind_room None = 0
kind_room (Some k) = 1

-- each step up in the order takes 1 at least
abbrev pub value_room : AbsVal → ℕ
value_room (Word m) = if eqb m 0 then MOST else ANY - m
value_room (Has maybe k r) = one_if (not maybe) + (kind_room k + bits r)
value_room _ = 1

unfoldable pub room : State → ℕ
room [] = 0
room (v ∷ s) = value_room v + room s

-- ---- values

-- the join has no more room than the first, and less where the second isn't below the first
abbrev Lessens : AbsVal → AbsVal → Option AbsVal → Type 0
Lessens a b None = Unit {0}
Lessens a b (Some c) = (value_room c ≤ value_room a) × (below b a ≡ false → value_room c < value_room a)

word_room : (m n : ℕ) → m ≤ ANY → n ≤ ANY → value_room (Word (larger m n)) ≤ value_room (Word m)
word_room m n h k = grind (arith, nat_tests)

word_less : (m n : ℕ) → m ≤ ANY → n ≤ ANY → leb n m ≡ false → value_room (Word (larger m n)) < value_room (Word m)
word_less m n h k p = grind (arith, nat_tests)

any_room : (m : ℕ) → m ≤ ANY → value_room (Word (larger m ANY)) ≡ 0
any_room m h = grind (arith, nat_tests)

flag_room : (a b : Bool) → one_if (not (a || b)) ≤ one_if (not a)
flag_room true b = omega arith
flag_room false true = omega arith
flag_room false false = omega arith

flag_less : (a b : Bool) → (not b || a) ≡ false → one_if (not (a || b)) < one_if (not a)
flag_less false true h = omega arith
flag_less true true h = cc
flag_less _ _ h = cc

kinds_room : (k j : Option Kind) → kind_room (kind_joined k j) ≤ kind_room k
kinds_room None j = omega arith
kinds_room (Some x) None = omega arith
kinds_room (Some x) (Some y) = cond_both (same_kind x y) (Some x) None (λ o. kind_room o ≤ 1) (λ _. omega arith) (λ _. omega arith)

turned : (x y : Kind) → same_kind x y ≡ true → same_kind y x ≡ false → ⊥
turned x y e h = let p : same_kind y x ≡ true = rw (same_kind_is x y e) (same_kind_refl y) in let g : true ≡ false = sym p ∙ h in cc

kinds_less : (k j : Option Kind) → kind_below j k ≡ false → kind_room (kind_joined k j) < kind_room k
kinds_less None j h = cc
kinds_less (Some x) None h = omega arith
kinds_less (Some x) (Some y) h = cond_both (same_kind x y) (Some x) None (λ o. kind_room o < 1) (λ e. absurd (turned x y e h)) (λ _. omega arith)

rights_less : (r q : ℕ) → within r q ≡ false → bit_and r q < r
rights_less r q h =
    let a : bit_and r q ≤ r = and_le_l r q in
    let b : bit_and q r ≢ r = λ e. (let f : within r q ≡ true = (Decides-eqb (bit_and q r) r).1 e in (let g : true ≡ false = sym f ∙ h in cc)) in
    let c : bit_and r q ≡ bit_and q r = and_comm r q in
    omega arith

three_false : (a b c : Bool) → (a && (b && c)) ≡ false → (a ≡ false) ⊎ ((b ≡ false) ⊎ (c ≡ false))
three_false false b c h = inl refl
three_false true false c h = inr (inl refl)
three_false true true false h = inr (inr refl)
three_false true true true h = cc

has_less : (a b : Bool) (k j : Option Kind) (r q : ℕ) → ((not b || a) && (kind_below j k && within r q)) ≡ false
    → one_if (not (a || b)) + (kind_room (kind_joined k j) + bit_and r q) < one_if (not a) + (kind_room k + r)
has_less a b k j r q h =
    let x = flag_room a b in
    let y = kinds_room k j in
    let z = and_le_l r q in
    elim (three_false (not b || a) (kind_below j k) (within r q) h) [
      | inl e ↦ (let f = flag_less a b e in omega arith)
      | inr s ↦ elim s [ inl e ↦ (let f = kinds_less k j e in omega arith) | inr e ↦ (let f = rights_less r q e in omega arith) ]
    ]

has_room : (a b : Bool) (k j : Option Kind) (r q : ℕ) → one_if (not (a || b)) + (kind_room (kind_joined k j) + bit_and r q) ≤ one_if (not a) + (kind_room k + r)
has_room a b k j r q =
    let x = flag_room a b in
    let y = kinds_room k j in
    let z = and_le_l r q in
    omega arith

kind_most : (k : Option Kind) → kind_room k ≤ 1
kind_most None = omega arith
kind_most (Some k) = omega arith

zero_most : (m : ℕ) (a b : ℕ) → eqb m 0 ≡ true → a ≤ 1 → b ≤ 0xffff_ffff → 0 + (a + b) < value_room (Word m)
zero_most m a b e h k = rw e (omega arith)

-- a word and a handle: their join is there where the word is 0
zero_lessens : (a b c : AbsVal) (m : ℕ) → (eqb m 0 ≡ true → Lessens a b (Some c)) → Lessens a b (if eqb m 0 then Some c else None)
zero_lessens a b c m f = cond_both (eqb m 0) (Some c) None (Lessens a b) f (λ _. tt)

tag_lessens : (t : Bool) (x b : AbsVal) → value_room x ≡ 1 → (t ≡ true → below b x ≡ true) → Lessens x b (Some (if t then x else Word ANY))
tag_lessens true x b e f = (omega arith, (λ h. let z : true ≡ false = sym (f refl) ∙ h in absurd (cc)))
tag_lessens false x b e f = (omega (arith, e), (λ h. omega (arith, e)))

any_lessens : (x b : AbsVal) (m : ℕ) → value_room x ≡ 1 → m ≤ ANY → Lessens x b (Some (Word (larger m ANY)))
any_lessens x b m e h = let a = any_room m h in (omega arith, (λ _. omega arith))

same_register : (r s : ℕ) → eqb r s ≡ true → eqb s r ≡ true
same_register r s e = grind (arith, nat_tests)

lessens : (a b : AbsVal) → Fits a → Fits b → Lessens a b (joined a b)
unfolding joined below
lessens (Word m) (Word n) f g = (word_room m n f g, word_less m n f g)
lessens (Word m) (Has x k r) f g =
    zero_lessens (Word m) (Has x k r) (Has true k r) m (λ e. let b = zero_most m (kind_room k) (bits r) e (kind_most k) g in (omega arith, λ _. b))
lessens (Word m) _ f g = (word_room m ANY f (omega arith), (λ h. word_less m ANY f (omega arith) h))
lessens (Has true k r) (Word n) f g =
    zero_lessens (Has true k r) (Word n) (Has true k r) n
    (λ e. (omega arith, λ h. let q : (eqb n 0 && true) ≡ true = rw e refl in let z : true ≡ false = sym q ∙ h in absurd (cc)))
lessens (Has false k r) (Word n) f g = zero_lessens (Has false k r) (Word n) (Has true k r) n (λ e. (omega arith, λ h. omega arith))
lessens (Has a k r) (Has b j q) f g = (has_room a b k j (bits r) (bits q), has_less a b k j (bits r) (bits q))
lessens (Has a k r) _ f g = tt
lessens (KindOf r) (Word n) f g = any_lessens (KindOf r) (Word n) n refl g
lessens _ (Has _ _ _) f g = tt
lessens (KindOf r) (KindOf s) f g = tag_lessens (eqb r s) (KindOf r) (KindOf s) refl (same_register r s)
lessens (RightsOf r) (Word n) f g = any_lessens (RightsOf r) (Word n) n refl g
lessens (RightsOf r) (RightsOf s) f g = tag_lessens (eqb r s) (RightsOf r) (RightsOf s) refl (same_register r s)
lessens _ _ f g = (omega arith, (λ _. omega arith))

-- ---- states

abbrev AllLessens : State → State → Option State → Type 0
AllLessens s t None = Unit {0}
AllLessens s t (Some u) = (room u ≤ room s) × (all_below t s ≡ false → room u < room s)

all_lessens : (s t : State) → ((r : ℕ) → Fits (value_at s r)) → ((r : ℕ) → Fits (value_at t r)) → AllLessens s t (all_joined s t)
unfolding all_joined all_below room
all_lessens [] [] f g = (omega arith, (λ h. cc))
all_lessens [] (b ∷ t) f g = tt
all_lessens (a ∷ s) [] f g = tt
all_lessens (a ∷ s) (b ∷ t) f g = by (joined a b) (all_joined s t) (lessens a b (f 0) (g 0)) (all_lessens s t (λ r. f (suc r)) (λ r. g (suc r)))
  where
    by : (o : Option AbsVal) (p : Option State) → Lessens a b o → AllLessens s t p → AllLessens (a ∷ s) (b ∷ t) (cons_if o p)
    by None p h k = tt
    by (Some v) None h k = tt
    by (Some v) (Some u) h k = (
      omega (arith, h.0, k.0),
      (λ e. elim (and_cases (below b a) (all_below t s) e) [ inl x ↦ (let y = h.1 x in omega (arith, k.0)) | inr x ↦ (let y = k.1 x in omega (arith, h.0)) ]),
    )

-- a join with what isn't below takes some of the room
pub room_falls : (s t u : State) → IsFine s → IsFine t → all_joined s t ≡ Some u → all_below t s ≡ false → room u < room s
room_falls s t u f g e h = (subst (AllLessens s t) e (all_lessens s t f.fits g.fits)).1 h

value_most : (v : AbsVal) → Fits v → value_room v ≤ MOST
value_most (Word m) h = grind (arith, nat_tests)
value_most (Has true k r) h = let a = kind_most k in omega arith
value_most (Has false k r) h = let a = kind_most k in omega arith
value_most (KindOf r) h = omega arith
value_most (RightsOf r) h = omega arith

all_most : (s : State) → ((r : ℕ) → Fits (value_at s r)) → room s ≤ length s * MOST
unfolding room
all_most [] h = omega arith
all_most (v ∷ s) h = let a = value_most v (h 0) in (let b = all_most s (λ r. h (suc r)) in omega arith)

-- the room of any state, and one more
abbrev pub TOP : ℕ
TOP = 32 * MOST + 1

pub room_top : (s : State) → IsFine s → room s < TOP
room_top s h =
    let a = all_most s h.fits in
    let b : length s ≡ 32 = h.state.long in
    let d : length s * MOST ≡ 32 * MOST = rw b refl in
    omega arith
