-- What the tests of jumps teach of a fine state, which stays fine.
use Rattle.zl_abs.proofs.Common.{ANY, AbsVal, Bool, Cause, Decides-eqb, Err, Fits, IfOk, IfSome, IsFine, IsTrue, KNOWN_RIGHTS, Kind, None, Ok, Option, Result}
use Rattle.zl_abs.proofs.Common.{Some, State, Ways, and_le_l, and_then, arith, becomes, below_ways, bit_and, bit_or, bits, bound_of, capped, eqb, equal_ways}
use Rattle.zl_abs.proofs.Common.{false, has_ways, if◌then◌else◌, is_named_well, kind_below, kind_numbered, kind_ways, known_kind, known_other, known_rights}
use Rattle.zl_abs.proofs.Common.{known_there, known_zero, ltb, nat_tests, not, or_lt, refined, refl, rights_of, same_kind, smaller, subst, sym, true, value_at}
use Rattle.zl_abs.proofs.Common.{within, word_at, word_or, zero_ways, ℕ, ◌&&◌, ◌-◌, ◌<◌, ◌∙◌, ◌≡◌, ◌≤◌}
use Rattle.zl_abs.specs.declared.value.AbsVal.TheVariants.{Word, Has, KindOf, RightsOf}
use Rattle.zl_abs.proofs.FineStates.{Named, is_plain, set_other, fine_refined}
use Rattle.std.proofs.lemmas.Bool.{cond_both}

-- the states at the ends of the edges are fine
abbrev pub FineWays : Ways → Type 0
FineWays w = IfSome w.jumped IsFine × IfSome w.passed IsFine

pub then_fine : {A B : Type 0} (P : A → Type 0) (Q : B → Type 0) (x : Result A Cause) (f : A → Result B Cause) → IfOk x P → ((a : A) → P a → IfOk (f a) Q)
    → IfOk (and_then x f) Q
then_fine P Q (Err c) f h k = tt
then_fine P Q (Ok a) f h k = k a h

-- ---- words

-- a bound of a word, 0 where a tag may name the register
abbrev pub IsBound : AbsVal → ℕ → Type 0
IsBound v m = (m ≤ ANY) × (Named v → m ≡ 0)

word_by : (v : AbsVal) → Fits v → IfOk (word_or (bound_of v)) (IsBound v)
word_by (Word m) h = (h, λ e. (Decides-eqb m 0).0 e)
word_by (Has a k q) h = tt
word_by (KindOf r) h = (omega arith, λ e. cc)
word_by (RightsOf r) h = (omega arith, λ e. cc)

pub word_fine : (s : State) (r : ℕ) → IsFine s → IfOk (word_at s r) (IsBound (value_at s r))
word_fine s r h = word_by (value_at s r) (h.fits r)

-- ---- more is known of register r alone

abbrev Knows : State → ℕ → State → Type 0
Knows s r t = IsFine t × ((q : ℕ) → eqb q r ≡ false → value_at t q ≡ value_at s q)

known_fine : (s : State) (r : ℕ) (o : Option State) → IfSome o (Knows s r) → IfSome o IsFine
known_fine s r None h = tt
known_fine s r (Some t) h = h.0

knows_itself : (s : State) (r : ℕ) → IsFine s → Knows s r s
knows_itself s r h = (h, λ q e. refl)

knows_itself_if : (s : State) (r : ℕ) (t : Bool) → IsFine s → IfSome (if t then None else Some s) (Knows s r)
knows_itself_if s r true h = tt
knows_itself_if s r false h = knows_itself s r h

-- the register turns out to have this handle, or to be 0
knows : (s : State) (r : ℕ) (v : AbsVal) → IsFine s → is_plain v ≡ true → Fits v → Named v → Knows s r (refined s r v)
knows s r v h e f k = (fine_refined s r v h e f (λ _. k), λ q e. set_other s r q v e)

knows_if : (s : State) (r : ℕ) (v : AbsVal) (t : Bool) → IsFine s → is_plain v ≡ true → (t ≡ true → Fits v) → Named v
    → IfSome (if t then Some (refined s r v) else None) (Knows s r)
knows_if s r v true h e f k = knows s r v h e (f refl) k
knows_if s r v false h e f k = tt

zero_known : (s : State) (r : ℕ) (v : AbsVal) → IsFine s → IfSome (known_zero s r v) (Knows s r)
zero_known s r (Has true k q) h = knows s r (Word 0) h refl (omega arith) refl
zero_known s r (Has false k q) h = tt
zero_known s r _ h = knows_itself s r h

there_known : (s : State) (r : ℕ) (v : AbsVal) → IsFine s → Fits v → IfSome (known_there s r v) (Knows s r)
there_known s r (Has a k q) h f = knows s r (Has false k q) h refl f refl
there_known s r (Word m) h f = knows_itself_if s r (eqb m 0) h
there_known s r _ h f = knows_itself s r h

kind_known : (s : State) (r : ℕ) (o : Option Kind) (v : AbsVal) → IsFine s → Fits v → IfSome (known_kind s r o v) (Knows s r)
kind_known s r None v h f = tt
kind_known s r (Some x) (Has a k q) h f = knows_if s r (Has false (Some x) q) (kind_below (Some x) k) h refl (λ _. f) refl
kind_known s r (Some x) _ h f = tt

other_known : (s : State) (r : ℕ) (o : Option Kind) (v : AbsVal) → IsFine s → IfSome (known_other s o v) (Knows s r)
other_known s r None v h = knows_itself s r h
other_known s r (Some x) (Has a (Some k) q) h = knows_itself_if s r (not a && same_kind x k) h
other_known s r (Some x) _ h = knows_itself s r h

gained_fit : (q imm : ℕ) → q ≤ 0xffff_ffff → within imm KNOWN_RIGHTS ≡ true → bit_or q imm ≤ 0xffff_ffff
gained_fit q imm h e =
    let p : bit_and KNOWN_RIGHTS imm ≡ imm = (Decides-eqb (bit_and KNOWN_RIGHTS imm) imm).0 e in
    let a = and_le_l KNOWN_RIGHTS imm in
    let b : bit_or q imm < 0x1_0000_0000 = or_lt 32 q imm (omega arith) (omega arith) in
    omega arith

rights_known : (s : State) (r imm : ℕ) (v : AbsVal) → IsFine s → Fits v → IfSome (known_rights s r imm v) (Knows s r)
rights_known s r imm (Has a k q) h f =
    knows_if s r (Has false k (rights_of (bit_or (bits q) imm))) (within imm KNOWN_RIGHTS) h refl (gained_fit (bits q) imm f) refl
rights_known s r imm _ h f = tt

-- ---- jumps

capped_fits : (imm : ℕ) → capped imm ≤ ANY
capped_fits imm = omega arith

becomes_fine : (s : State) (a imm : ℕ) → IsFine s → (Named (value_at s a) → capped imm ≡ 0) → IsFine (refined s a (Word (capped imm)))
becomes_fine s a imm h k = fine_refined s a (Word (capped imm)) h refl (capped_fits imm) (λ n. (Decides-eqb (capped imm) 0).1 (k n))

-- no tag names a register that has one
tag_unnamed : (s : State) (a r : ℕ) → IsFine s → value_at s a ≡ KindOf r → eqb a r ≡ false
tag_unnamed s a r h e = by (eqb a r) refl
  where
    named : Named (value_at s r)
    named = subst (λ v. IsTrue (is_named_well s v)) e (h.state.tags a)

    by : (t : Bool) → eqb a r ≡ t → t ≡ false
    by false p = refl
    by true p =
        let q : a ≡ r = (Decides-eqb a r).0 p in
        let n : Named (value_at s a) = subst (λ (x : ℕ). Named (value_at s x)) (sym q) named in
        let z : Named (KindOf r) = subst Named e n in
        cc

-- register a, which has a tag that names r, becomes the number where more is known of r
tag_becomes : (s : State) (a imm r : ℕ) (o : Option State) → IsFine s → value_at s a ≡ KindOf r → IfSome o (Knows s r) → IfSome (becomes a imm o) IsFine
tag_becomes s a imm r None h e k = tt
tag_becomes s a imm r (Some t) h e k =
    let same : value_at t a ≡ KindOf r = k.1 a (tag_unnamed s a r h e) ∙ e in
    becomes_fine t a imm k.0 (λ n. let z : Named (KindOf r) = subst Named same n in cc)

kind_fine : (s : State) (a imm r : ℕ) → IsFine s → value_at s a ≡ KindOf r → FineWays (kind_ways s a imm r)
kind_fine s a imm r h e =
    cond_both (eqb imm 0) _ _ FineWays (λ _. (tag_becomes s a 0 r _ h e (zero_known s r _ h), known_fine s r _ (there_known s r _ h (h.fits r))))
    (λ _. (tag_becomes s a imm r _ h e (kind_known s r (kind_numbered imm) _ h (h.fits r)), known_fine s r _ (other_known s r (kind_numbered imm) _ h)))

fine_unless : (s : State) (t : Bool) → IsFine s → IfSome (if t then None else Some s) IsFine
fine_unless s true h = tt
fine_unless s false h = h

not_less : (m n : ℕ) → m ≡ 0 → ltb m n ≡ false → n ≡ 0
not_less m n z e = grind (arith, nat_tests)

equal_by : (s : State) (a imm : ℕ) (v : AbsVal) → IsFine s → value_at s a ≡ v → IfOk (equal_ways s a imm v) FineWays
equal_by s a imm (Has x k q) h e = tt
equal_by s a imm (Word m) h e = (jumps, fine_unless s (eqb m 0 && eqb imm 0) h)
  where
    zero_of : Named (value_at s a) → m ≡ 0
    zero_of n = (Decides-eqb m 0).0 (subst Named e n)

    jumps : IfSome (if ltb m (capped imm) then None else becomes a imm (Some s)) IsFine
    jumps = cond_both (ltb m (capped imm)) _ _ (λ o. IfSome o IsFine) (λ _. tt) (λ p. becomes_fine s a imm h (λ n. not_less m (capped imm) (zero_of n) p))
equal_by s a imm (KindOf r) h e = kind_fine s a imm r h e
equal_by s a imm (RightsOf r) h e = (becomes_fine s a imm h (λ n. let z : Named (RightsOf r) = subst Named e n in cc), h)

pub equal_fine : (s : State) (a imm : ℕ) → IsFine s → IfOk (equal_ways s a imm (value_at s a)) FineWays
equal_fine s a imm h = equal_by s a imm (value_at s a) h refl

zero_by : (s : State) (a : ℕ) (v : AbsVal) → IsFine s → value_at s a ≡ v → IfOk (zero_ways s a v) FineWays
zero_by s a (Has x k q) h e = (
  known_fine s a (known_zero s a (Has x k q)) (zero_known s a (Has x k q) h),
  known_fine s a (known_there s a (Has x k q)) (there_known s a (Has x k q) h (subst Fits e (h.fits a))),
)
zero_by s a (Word m) h e = equal_by s a 0 (Word m) h e
zero_by s a (KindOf r) h e = equal_by s a 0 (KindOf r) h e
zero_by s a (RightsOf r) h e = equal_by s a 0 (RightsOf r) h e

pub zero_fine : (s : State) (a : ℕ) → IsFine s → IfOk (zero_ways s a (value_at s a)) FineWays
zero_fine s a h = zero_by s a (value_at s a) h refl

smaller_fits : (m n : ℕ) → m ≤ ANY → smaller m n ≤ ANY
smaller_fits m n h = grind (arith, nat_tests)

smaller_zero : (m n : ℕ) → m ≡ 0 → eqb (smaller m n) 0 ≡ true
smaller_zero m n h = grind (arith, nat_tests)

pub below_fine : (s : State) (a imm : ℕ) → IsFine s → IfOk (below_ways s a imm) FineWays
below_fine s a imm h =
    then_fine (IsBound (value_at s a)) FineWays (word_at s a) _ (word_fine s a h) (λ m p. (less m p (eqb imm 0), fine_unless s (ltb m imm) h))
  where
    less : (m : ℕ) → IsBound (value_at s a) m → (t : Bool) → IfSome (if t then None else Some (refined s a (Word (smaller m (imm - 1))))) IsFine
    less m p true = tt
    less m p false = fine_refined s a (Word (smaller m (imm - 1))) h refl (smaller_fits m (imm - 1) p.0) (λ n. smaller_zero m (imm - 1) (p.1 n))

has_by : (s : State) (imm : ℕ) (v : AbsVal) → IsFine s → IfOk (has_ways s imm v) FineWays
has_by s imm (Has x k q) h = tt
has_by s imm (Word m) h = (h, h)
has_by s imm (KindOf r) h = (h, h)
has_by s imm (RightsOf r) h =
    (cond_both (eqb imm 0) (Some s) _ (λ o. IfSome o IsFine) (λ _. h) (λ _. known_fine s r _ (rights_known s r imm (value_at s r) h (h.fits r))), h)

pub has_fine : (s : State) (a imm : ℕ) → IsFine s → IfOk (has_ways s imm (value_at s a)) FineWays
has_fine s a imm h = has_by s imm (value_at s a) h
