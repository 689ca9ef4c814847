-- Fine states: what may be written in one, the join of two, and the start.
use Rattle.zl_abs.proofs.Common.{ANY, AbsVal, Bool, Decides-eqb, Fits, IfSome, Image, IsFine, IsTrue, Kind, List, None, Option, Some, Start, State, []}
use Rattle.zl_abs.proofs.Common.{all_joined, and_le_l, and_parts, ap, arith, bit_and, bits, can_be_named, cons_if, eqb, false, get_or-set_other, if◌then◌else◌}
use Rattle.zl_abs.proofs.Common.{is_in_range, is_named_well, is_start_in_range, joined, larger, length, length-map, length-set, list_all, map, moved, nat_tests}
use Rattle.zl_abs.proofs.Common.{ranges, refined, refl, replicate, retagged, rights_allowed, slice_set, start_results, start_state, start_value, starts_from}
use Rattle.zl_abs.proofs.Common.{subst, suc, sym, true, untagged, value_at, with_all, with_value, within, zero, ℕ, ◌+◌, ◌<◌, ◌∙◌, ◌∷◌, ◌≡◌, ◌≤◌}
use Rattle.zl_rights.specs.declared.kind.Kind.TheVariants as kind
use Rattle.zl_abs.specs.declared.value.AbsVal.TheVariants.{Word, Has, KindOf, RightsOf}
use Rattle.std.proofs.lemmas.Bool.{cond_both}

-- ---- registers of a state that was written

set_at : (P : AbsVal → Type 0) (s : State) (r q : ℕ) (v : AbsVal) → P v → P (value_at s q) → P (value_at (slice_set s r v) q)
set_at P (a ∷ s) zero zero v h k = h
set_at P (a ∷ s) (suc r) (suc q) v h k = set_at P s r q v h k
set_at P _ _ _ v h k = k

-- the register may be none of the state's
set_self : (P : AbsVal → Type 0) (s : State) (r : ℕ) (v : AbsVal) → P v → P (Word 0) → P (value_at (slice_set s r v) r)
set_self P [] r v h k = k
set_self P (a ∷ s) zero v h k = h
set_self P (a ∷ s) (suc r) v h k = set_self P s r v h k

pub set_other : (s : State) (r q : ℕ) (v : AbsVal) → eqb q r ≡ false → value_at (slice_set s r v) q ≡ value_at s q
set_other s r q v e = get_or-set_other s r q v (Word 0) (λ p. let y = (Decides-eqb q r).1 p in let z : true ≡ false = sym y ∙ e in cc)

pub mapped_at : (f : AbsVal → AbsVal) → f (Word 0) ≡ Word 0 → (s : State) (q : ℕ) → value_at (map f s) q ≡ f (value_at s q)
mapped_at f z [] q = sym z
mapped_at f z (a ∷ s) zero = refl
mapped_at f z (a ∷ s) (suc q) = mapped_at f z s q

with_at : (P : AbsVal → Type 0) (s : State) (r q : ℕ) (v : AbsVal) → P (untagged r v) → P (untagged r (value_at s q)) → P (value_at (with_value s r v) q)
unfolding with_value
with_at P s r q v h k = subst P (sym (mapped_at (untagged r) refl (slice_set s r v) q)) (set_at (λ w. P (untagged r w)) s r q v h k)

with_self : (P : AbsVal → Type 0) (s : State) (r : ℕ) (v : AbsVal) → P (untagged r v) → P (Word 0) → P (value_at (with_value s r v) r)
unfolding with_value
with_self P s r v h k = subst P (sym (mapped_at (untagged r) refl (slice_set s r v) r)) (set_self (λ w. P (untagged r w)) s r v h k)

with_other : (s : State) (r q : ℕ) (v : AbsVal) → eqb q r ≡ false → value_at (with_value s r v) q ≡ untagged r (value_at s q)
unfolding with_value
with_other s r q v e = mapped_at (untagged r) refl (slice_set s r v) q ∙ ap (untagged r) (set_other s r q v e)

pub with_long : (s : State) (r : ℕ) (v : AbsVal) → length (with_value s r v) ≡ length s
unfolding with_value
with_long s r v = length-map (slice_set s r v) (untagged r) ∙ length-set s r v

-- ---- what may be written

-- the value fits, and if it is a tag, what it names is 0 or a handle
abbrev pub Suits : State → AbsVal → Type 0
Suits s v = Fits v × IsTrue (is_named_well s v)

-- no tag
abbrev pub is_plain : AbsVal → Bool
is_plain (KindOf r) = false
is_plain (RightsOf r) = false
is_plain v = true

pub plain_suits : (s : State) (v : AbsVal) → is_plain v ≡ true → Fits v → Suits s v
plain_suits s (Word m) e h = (h, refl)
plain_suits s (Has a k r) e h = (h, refl)
plain_suits s _ e h = cc

abbrev pub Named : AbsVal → Type 0
Named v = can_be_named v ≡ true

fits_untagged : (r : ℕ) (v : AbsVal) → Fits v → Fits (untagged r v)
fits_untagged r (Word m) h = h
fits_untagged r (Has a k q) h = h
fits_untagged r (KindOf x) h = cond_both (eqb x r) (Word ANY) (KindOf x) Fits (λ _. omega arith) (λ _. h)
fits_untagged r (RightsOf x) h = cond_both (eqb x r) (Word ANY) (RightsOf x) Fits (λ _. omega arith) (λ _. h)

named_untagged : (r : ℕ) (v : AbsVal) → Named v → Named (untagged r v)
named_untagged r (Word m) h = h
named_untagged r (Has a k q) h = h
named_untagged r _ h = cc

-- ---- a write

pub named_there : (s : State) (r x : ℕ) (v : AbsVal) → eqb x r ≡ false → Named (value_at s x) → Named (value_at (with_value s r v) x)
named_there s r x v e h = subst Named (sym (with_other s r x v e)) (named_untagged r (value_at s x) h)

well_untagged : (s : State) (r : ℕ) (v w : AbsVal) → IsTrue (is_named_well s w) → IsTrue (is_named_well (with_value s r v) (untagged r w))
well_untagged s r v (Word m) h = refl
well_untagged s r v (Has a k q) h = refl
well_untagged s r v (KindOf x) h =
    cond_both (eqb x r) (Word ANY) (KindOf x) (λ w. IsTrue (is_named_well (with_value s r v) w)) (λ _. refl) (λ e. named_there s r x v e h)
well_untagged s r v (RightsOf x) h =
    cond_both (eqb x r) (Word ANY) (RightsOf x) (λ w. IsTrue (is_named_well (with_value s r v) w)) (λ _. refl) (λ e. named_there s r x v e h)

pub fine_with : (s : State) (r : ℕ) (v : AbsVal) → IsFine s → Suits s v → IsFine (with_value s r v)
fine_with s r v h k = record {
  state = record {
    long = with_long s r v ∙ h.state.long;
    tags = λ q.
        with_at (λ w. IsTrue (is_named_well (with_value s r v) w)) s r q v (well_untagged s r v v k.1) (well_untagged s r v (value_at s q) (h.state.tags q));
  };
  fits = λ q. with_at Fits s r q v (fits_untagged r v k.0) (fits_untagged r (value_at s q) (h.fits q));
}

-- a handle or a word stands where it was written
pub named_self : (s : State) (r : ℕ) (v : AbsVal) → Named v → Named (value_at (with_value s r v) r)
named_self s r v h = with_self Named s r v (named_untagged r v h) refl

-- values that are no tags are written one after another
abbrev pub ArePlain : List (ℕ × AbsVal) → Type 0
ArePlain [] = Unit {0}
ArePlain (x ∷ xs) = (is_plain (x.1) ≡ true) × Fits (x.1) × ArePlain xs

pub fine_with_all : (xs : List (ℕ × AbsVal)) (s : State) → IsFine s → ArePlain xs → IsFine (with_all s xs)
unfolding with_all
fine_with_all [] s h k = h
fine_with_all (x ∷ xs) s h k = fine_with_all xs (with_value s (x.0) (x.1)) (fine_with s (x.0) (x.1) h (plain_suits s (x.1) k.0 k.1)) k.2

-- ---- more is known of a register

named_refined : (s : State) (r x : ℕ) (v : AbsVal) → (Named (value_at s r) → Named v) → Named (value_at s x) → Named (value_at (slice_set s r v) x)
named_refined s r x v k h = by (eqb x r) refl
  where
    by : (t : Bool) → eqb x r ≡ t → Named (value_at (slice_set s r v) x)
    by true e = let p : x ≡ r = (Decides-eqb x r).0 e in rw p (set_self Named s r v (k (subst (λ (y : ℕ). Named (value_at s y)) p h)) refl)
    by false e = subst Named (sym (set_other s r x v e)) h

well_refined : (s : State) (r : ℕ) (v w : AbsVal) → (Named (value_at s r) → Named v) → IsTrue (is_named_well s w) → IsTrue (is_named_well (slice_set s r v) w)
well_refined s r v (KindOf x) k h = named_refined s r x v k h
well_refined s r v (RightsOf x) k h = named_refined s r x v k h
well_refined s r v _ k h = refl

pub fine_refined : (s : State) (r : ℕ) (v : AbsVal) → IsFine s → is_plain v ≡ true → Fits v → (Named (value_at s r) → Named v) → IsFine (refined s r v)
fine_refined s r v h e f k = record {
  state = record {
    long = length-set s r v ∙ h.state.long;
    tags = λ q. set_at (λ w. IsTrue (is_named_well (slice_set s r v) w)) s r q v ((plain_suits (slice_set s r v) v e f).1)
        (well_refined s r v (value_at s q) k (h.state.tags q));
  };
  fits = λ q. set_at Fits s r q v f (h.fits q);
}

-- ---- a handle that moves

named_retagged : (b a : ℕ) (v : AbsVal) → Named v → Named (retagged b a v)
named_retagged b a (Word m) h = h
named_retagged b a (Has x k q) h = h
named_retagged b a _ h = cc

fits_retagged : (b a : ℕ) (v : AbsVal) → a < 32 → Fits v → Fits (retagged b a v)
fits_retagged b a (Word m) less h = h
fits_retagged b a (Has x k q) less h = h
fits_retagged b a (KindOf x) less h = cond_both (eqb x b) (KindOf a) (KindOf x) Fits (λ _. less) (λ _. h)
fits_retagged b a (RightsOf x) less h = cond_both (eqb x b) (RightsOf a) (RightsOf x) Fits (λ _. less) (λ _. h)

-- where the tags that named b name a, and b is 0
module _ (t : State) (a b : ℕ) (there : Named (value_at t a)) where
  abbrev left : State
  left = slice_set (map (retagged b a) t) b (Word 0)

  left_at : (P : AbsVal → Type 0) (q : ℕ) → P (Word 0) → P (retagged b a (value_at t q)) → P (value_at left q)
  left_at P q h k = set_at P (map (retagged b a) t) b q (Word 0) h (subst P (sym (mapped_at (retagged b a) refl t q)) k)

  named_left : (q : ℕ) → Named (value_at t q) → Named (value_at left q)
  named_left q h = left_at Named q refl (named_retagged b a (value_at t q) h)

  well_left : (w : AbsVal) → IsTrue (is_named_well t w) → IsTrue (is_named_well left (retagged b a w))
  well_left (Word m) h = refl
  well_left (Has x k q) h = refl
  well_left (KindOf x) h = cond_both (eqb x b) (KindOf a) (KindOf x) (λ w. IsTrue (is_named_well left w)) (λ _. named_left a there) (λ _. named_left x h)
  well_left (RightsOf x) h = cond_both (eqb x b) (RightsOf a) (RightsOf x) (λ w. IsTrue (is_named_well left w)) (λ _. named_left a there) (λ _. named_left x h)

  fine_left : IsFine t → a < 32 → IsFine left
  fine_left h less = record {
    state = record {
      long = length-set (map (retagged b a) t) b (Word 0) ∙ length-map t (retagged b a) ∙ h.state.long;
      tags = λ q. left_at (λ w. IsTrue (is_named_well left w)) q refl (well_left (value_at t q) (h.state.tags q));
    };
    fits = λ q. left_at Fits q (omega arith) (fits_retagged b a (value_at t q) less (h.fits q));
  }

pub fine_moved : (s : State) (a b : ℕ) (v : AbsVal) → IsFine s → a < 32 → Suits s v → Named v → IsFine (moved s a b v)
fine_moved s a b v h less k named = fine_left (with_value s a v) a b (named_self s a v named) (fine_with s a v h k) less

-- ---- the join

joined_named : (a b : AbsVal) → Named a → Named b → IfSome (joined a b) Named
unfolding joined
joined_named (Word m) (Word n) h k = let p : eqb (larger m n) 0 ≡ true = grind (arith, nat_tests) in p
joined_named (Word m) (Has x i r) h k = rw h refl
joined_named (Has x i r) (Word n) h k = rw k refl
joined_named (Has x i r) (Has y j q) h k = refl
joined_named _ _ h k = cc

word_fits : (m n : ℕ) → m ≤ ANY → n ≤ ANY → larger m n ≤ ANY
word_fits m n h k = grind (arith, nat_tests)

-- a handle that is there where a word is 0
handle_if : (P : AbsVal → Type 0) (t : Bool) (v : AbsVal) → P v → IfSome (if t then Some v else None) P
handle_if P true v h = h
handle_if P false v h = tt

pub joined_fits : (a b : AbsVal) → Fits a → Fits b → IfSome (joined a b) Fits
unfolding joined
joined_fits (Word m) (Word n) h k = word_fits m n h k
joined_fits (Word m) (Has x i r) h k = handle_if Fits (eqb m 0) (Has true i r) k
joined_fits (Word m) _ h k = word_fits m ANY h (omega arith)
joined_fits (Has x i r) (Word n) h k = handle_if Fits (eqb n 0) (Has true i r) h
joined_fits (Has x i r) (Has y j q) h k = let z = and_le_l (bits r) (bits q) in omega arith
joined_fits (Has x i r) _ h k = tt
joined_fits _ (Word n) h k = word_fits n ANY k (omega arith)
joined_fits _ (Has x i q) h k = tt
joined_fits (KindOf r) (KindOf q) h k = cond_both (eqb r q) (KindOf r) (Word ANY) Fits (λ _. h) (λ _. omega arith)
joined_fits (RightsOf r) (RightsOf q) h k = cond_both (eqb r q) (RightsOf r) (Word ANY) Fits (λ _. h) (λ _. omega arith)
joined_fits _ _ h k = omega arith

-- what both states name, the third names
module _ (s t u : State) (kept : (x : ℕ) → Named (value_at s x) → Named (value_at t x) → Named (value_at u x)) where
  kept_well : (r q : ℕ) (v : AbsVal) → (Named (value_at u r) → IsTrue (is_named_well u v)) → Named (value_at s r) → Named (value_at t q)
      → IsTrue (is_named_well u (if eqb r q then v else Word ANY))
  kept_well r q v is h k =
      cond_both (eqb r q) v (Word ANY) (λ w. IsTrue (is_named_well u w))
      (λ e. is (kept r h (subst (λ (y : ℕ). Named (value_at t y)) (sym ((Decides-eqb r q).0 e)) k))) (λ _. refl)

  joined_well : (a b : AbsVal) → IsTrue (is_named_well s a) → IsTrue (is_named_well t b) → IfSome (joined a b) (λ v. IsTrue (is_named_well u v))
  unfolding joined
  joined_well (Word m) (Has x i r) h k = handle_if (λ v. IsTrue (is_named_well u v)) (eqb m 0) (Has true i r) refl
  joined_well (Has x i r) (Word n) h k = handle_if (λ v. IsTrue (is_named_well u v)) (eqb n 0) (Has true i r) refl
  joined_well (Has x i r) (Has y j q) h k = refl
  joined_well (Has x i r) _ h k = tt
  joined_well _ (Has x i r) h k = tt
  joined_well (KindOf r) (KindOf q) h k = kept_well r q (KindOf r) (λ is. is) h k
  joined_well (RightsOf r) (RightsOf q) h k = kept_well r q (RightsOf r) (λ is. is) h k
  joined_well _ _ h k = refl

-- the join of two states, register by register
pub record IsJoin (s t u : State) : Type 0 where
  pub long : length u ≡ length s
  pub at : (r : ℕ) → joined (value_at s r) (value_at t r) ≡ Some (value_at u r)

all_joined_at : (s t : State) → IfSome (all_joined s t) (IsJoin s t)
unfolding all_joined joined
all_joined_at [] [] = record { long = refl; at = λ r. refl }
all_joined_at [] (b ∷ t) = tt
all_joined_at (a ∷ s) [] = tt
all_joined_at (a ∷ s) (b ∷ t) = by (joined a b) refl (all_joined s t) (all_joined_at s t)
  where
    at : (v : AbsVal) (u : State) → joined a b ≡ Some v → IsJoin s t u → (r : ℕ) → joined (value_at (a ∷ s) r) (value_at (b ∷ t) r) ≡ Some (value_at (v ∷ u) r)
    at v u e h zero = e
    at v u e h (suc r) = h.at r

    by : (o : Option AbsVal) → joined a b ≡ o → (p : Option State) → IfSome p (IsJoin s t) → IfSome (cons_if o p) (IsJoin (a ∷ s) (b ∷ t))
    by None e p h = tt
    by (Some v) e None h = tt
    by (Some v) e (Some u) h = record { long = ap suc h.long; at = at v u e h }

pub is_join : (s t u : State) → all_joined s t ≡ Some u → IsJoin s t u
is_join s t u e = subst (λ o. IfSome o (IsJoin s t)) e (all_joined_at s t)

pub fine_joined : (s t u : State) → IsFine s → IsFine t → all_joined s t ≡ Some u → IsFine u
fine_joined s t u h k e =
    let j = is_join s t u e in
    let at : (P : AbsVal → Type 0) → (r : ℕ) → IfSome (joined (value_at s r) (value_at t r)) P → P (value_at u r) =
    λ P r p. subst (λ o. IfSome o P) (j.at r) p in
    let kept : (x : ℕ) → Named (value_at s x) → Named (value_at t x) → Named (value_at u x) =
    λ x p q. at Named x (joined_named (value_at s x) (value_at t x) p q) in
    record {
      state = record {
        long = j.long ∙ h.state.long;
        tags = λ r. at (λ v. IsTrue (is_named_well u v)) r (joined_well s t u kept (value_at s r) (value_at t r) (h.state.tags r) (k.state.tags r));
      };
      fits = λ r. at Fits r (joined_fits (value_at s r) (value_at t r) (h.fits r) (k.fits r));
    }

-- ---- the start

zero_at : (n r : ℕ) → value_at (replicate n (Word 0)) r ≡ Word 0
zero_at zero r = refl
zero_at (suc n) zero = refl
zero_at (suc n) (suc r) = zero_at n r

zeros_fine : IsFine (replicate 32 (Word 0))
zeros_fine = record { state = record { long = refl; tags = λ r. rw (zero_at 32 r) refl }; fits = λ r. rw (zero_at 32 r) (omega arith) }

-- rights that a declaration may name
pub rights_fit : (o : Option Kind) (r : ℕ) → within r (rights_allowed o) ≡ true → r ≤ 0xffff_ffff
rights_fit o r h =
    let e : bit_and (rights_allowed o) r ≡ r = (Decides-eqb (bit_and (rights_allowed o) r) r).0 h in
    let a = and_le_l (rights_allowed o) r in
    let b = most o in
    omega arith
  where
    most : (o : Option Kind) → rights_allowed o ≤ 0xffff_ffff
    most None = omega arith
    most (Some kind.Process) = omega arith
    most (Some _) = omega arith

start_fits : (x : Start) → is_start_in_range x ≡ true → Fits (start_value x)
start_fits x h = rights_fit x.kind (bits x.rights) h

starts_plain : (r : ℕ) (xs : List Start) → list_all is_start_in_range xs ≡ true → ArePlain (starts_from r xs)
starts_plain r [] h = tt
starts_plain r (x ∷ xs) h =
    let p = and_parts (is_start_in_range x) (list_all is_start_in_range xs) h in
    (refl, start_fits x p.0, starts_plain (r + 1) xs p.1)

results_plain : (xs : List Start) → list_all is_start_in_range xs ≡ true → ArePlain (start_results xs)
results_plain [] h = (refl, (omega arith), tt)
results_plain (x ∷ xs) h =
    let p = and_parts (is_start_in_range x) (list_all is_start_in_range xs) h in
    (refl, start_fits x p.0, (refl, omega arith, starts_plain 2 xs p.1))

pub start_fine : (i : Image) → IsTrue (is_in_range i) → IsFine (start_state i)
unfolding start_state
start_fine i h = fine_with_all (start_results i.starts) (replicate 32 (Word 0)) zeros_fine (results_plain i.starts (ranges i h).starts)
