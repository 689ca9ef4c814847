-- What is marked and numbered makes the stretches of an image.
use Rattle.zl_verify.proofs.Common.{AreStretches, AreMarked, AreNumbered, Stretches, Bool, Image, List, None, Option, Some, ap, arith, at, false, inl, inr}
use Rattle.zl_verify.proofs.Common.{length, length-replicate, length-set, none-some, refl, replicate, same_Some, slice_get, slice_set, subst, suc, sym, true}
use Rattle.zl_verify.proofs.Common.{zero, ℕ, ◌++◌, ◌+◌, ◌<◌, ◌∙◌, ◌∷◌, ◌≡◌, ◌≢◌, ◌≤◌, ◌⊎◌, []}
use Rattle.zl_abs.specs.Targets.{jump_of}
use Rattle.zl_verify.specs.Lists.{within}
use Rattle.zl_verify.proofs.Places.{get_put, get_put_other, equal_or_not, there}

pub same_past : {X : Type 0} (xs : List X) (n : ℕ) (v : X) → length xs ≤ n → xs ≡ slice_set xs n v
same_past [] n v h = refl
same_past (x ∷ xs) zero v h = absurd (omega arith)
same_past (x ∷ xs) (suc n) v h = ap (λ ys. x ∷ ys) (same_past xs n v (omega arith))

-- ---- marks

still_on : (begins : List Bool) (k n : ℕ) → slice_get begins n ≡ Some true → slice_get (slice_set begins k true) n ≡ Some true
still_on begins k n on = elim (equal_or_not k n) [
  | inl e ↦ subst (λ (m : ℕ). slice_get (slice_set begins m true) n ≡ Some true) (sym e) (get_put begins n true (there begins n true on))
  | inr d ↦ get_put_other begins k n true d ∙ on
]

-- where one more instruction may jump is marked
pub marks_more : (i : Image) (begins : List Bool) (p : ℕ) → AreMarked i begins p → AreMarked i (slice_set begins (jump_of i p) true) (p + 1)
marks_more i begins p a = record {
  long = length-set begins (jump_of i p) true ∙ a.long;
  first = still_on begins (jump_of i p) 0 a.first;
  jumps = λ n h l. elim (equal_or_not p n) [
    | inl e ↦ subst (λ (m : ℕ). slice_get (slice_set begins (jump_of i m) true) (jump_of i n) ≡ Some true) (sym e)
        (get_put begins (jump_of i n) true (omega (arith, a.long)))
    | inr d ↦ still_on begins (jump_of i p) (jump_of i n) (a.jumps n (omega arith) l)
  ];
}

-- ---- numbers

get_last : (xs : List ℕ) (x : ℕ) → slice_get (xs ++ x ∷ []) (length xs) ≡ Some x
get_last [] x = refl
get_last (y ∷ xs) x = get_last xs x

get_before : (xs : List ℕ) (x n y : ℕ) → slice_get xs n ≡ Some y → slice_get (xs ++ x ∷ []) n ≡ Some y
get_before [] x n y h = cc
get_before (z ∷ xs) x zero y h = h
get_before (z ∷ xs) x (suc n) y h = get_before xs x n y h

length_more : (xs : List ℕ) (x : ℕ) → length (xs ++ x ∷ []) ≡ length xs + 1
length_more [] x = refl
length_more (y ∷ xs) x = let e = length_more xs x in omega arith

nothing : (n m : ℕ) → at (replicate {A = Option ℕ} n None) m ≡ None
nothing zero m = refl
nothing (suc n) zero = refl
nothing (suc n) (suc m) = nothing n m

pub numbers_begin : (begins : List Bool) → AreNumbered begins (replicate (length begins) None) [] 0
numbers_begin begins = record {
  long = length-replicate {A = Option ℕ} (length begins) None;
  few = omega arith;
  begin = λ n b e. absurd (none-some b (sym (nothing (length begins) n) ∙ e));
  all = λ n h. absurd (omega arith);
  first = λ h. absurd (omega arith);
}

off_on : Some false ≡ Some true → ⊥
off_on e = cc

pub numbers_same : (begins : List Bool) (numbers : List (Option ℕ)) (starts : List ℕ) (p : ℕ) → AreNumbered begins numbers starts p
    → slice_get begins p ≡ Some false → AreNumbered begins numbers starts (p + 1)
numbers_same begins numbers starts p a off = record {
  long = a.long;
  few = (let h = a.few in omega arith);
  begin = a.begin;
  all = λ n h on. by n h on (equal_or_not p n);
  first = λ h on. first on (equal_or_not p 0);
}
  where
    by : (n : ℕ) → n < p + 1 → slice_get begins n ≡ Some true → (p ≡ n) ⊎ (p ≢ n) → at numbers n ≡ None → ⊥
    by n h on (inl e) = absurd (off_on (sym off ∙ rw e on))
    by n h on (inr d) = a.all n (omega arith) on

    first : slice_get begins 0 ≡ Some true → (p ≡ 0) ⊎ (p ≢ 0) → at numbers 0 ≡ Some 0
    first on (inl e) = absurd (off_on (sym off ∙ rw e on))
    first on (inr d) = a.first (omega arith) on

pub numbers_more : (begins : List Bool) (numbers : List (Option ℕ)) (starts : List ℕ) (p : ℕ) → AreNumbered begins numbers starts p → p < length begins
    → AreNumbered begins (slice_set numbers p (Some (length starts))) (starts ++ p ∷ []) (p + 1)
numbers_more begins numbers starts p a inside = record {
  long = length-set numbers p (Some (length starts)) ∙ a.long;
  few = (let h = a.few in let l = length_more starts p in omega arith);
  begin = λ n b e. begin n b e (equal_or_not p n);
  all = λ n h on. all n h on (equal_or_not p n);
  first = λ h on. first on (equal_or_not p 0);
}
  where
    put : at (slice_set numbers p (Some (length starts))) p ≡ Some (length starts)
    put = ap within (get_put numbers p (Some (length starts)) (omega (arith, a.long)))

    other : (n : ℕ) → p ≢ n → at (slice_set numbers p (Some (length starts))) n ≡ at numbers n
    other n d = ap within (get_put_other numbers p n (Some (length starts)) d)

    begin : (n b : ℕ) → at (slice_set numbers p (Some (length starts))) n ≡ Some b → (p ≡ n) ⊎ (p ≢ n) → slice_get (starts ++ p ∷ []) b ≡ Some n
    begin n b e (inl q) =
        let z : length starts ≡ b =
        same_Some (length starts) b (sym put ∙ subst (λ (x : ℕ). at (slice_set numbers p (Some (length starts))) x ≡ Some b) (sym q) e) in
        subst (λ (x : ℕ). slice_get (starts ++ p ∷ []) x ≡ Some n) z (get_last starts p ∙ ap Some q)
    begin n b e (inr d) = get_before starts p b n (a.begin n b (sym (other n d) ∙ e))

    all : (n : ℕ) → n < p + 1 → slice_get begins n ≡ Some true → (p ≡ n) ⊎ (p ≢ n) → at (slice_set numbers p (Some (length starts))) n ≡ None → ⊥
    all n h on (inl q) none = none-some (length starts) (sym (subst (λ (x : ℕ). at (slice_set numbers p (Some (length starts))) x ≡ None) (sym q) none) ∙ put)
    all n h on (inr d) none = a.all n (omega arith) on (sym (other n d) ∙ none)

    first : slice_get begins 0 ≡ Some true → (p ≡ 0) ⊎ (p ≢ 0) → at (slice_set numbers p (Some (length starts))) 0 ≡ Some 0
    first on (inl q) =
        let z : length starts ≡ 0 = omega (arith, a.few) in
        subst (λ (x : ℕ). at (slice_set numbers p (Some (length starts))) x ≡ Some 0) q (put ∙ ap Some z)
    first on (inr d) = other 0 d ∙ a.first (omega arith) on

-- ---- the stretches

pub are_stretches : (i : Image) (begins : List Bool) (bs : Stretches) → 0 < length i.code → AreMarked i begins (length i.code)
    → AreNumbered begins bs.numbers bs.starts (length begins) → AreStretches i bs
are_stretches i begins bs h m a = record {
  long = a.long ∙ m.long;
  first = a.first (omega (arith, m.long)) m.first;
  begin = a.begin;
  jumps = λ n k l. a.all (jump_of i n) (omega (arith, m.long)) (m.jumps n k l);
}

pub numbers_pushed : (begins : List Bool) (numbers : List (Option ℕ)) (starts pushed : List ℕ) (p m : ℕ) → AreNumbered begins numbers starts p
    → p < length begins → m ≡ length starts → pushed ≡ starts ++ p ∷ [] → AreNumbered begins (slice_set numbers p (Some m)) pushed (p + 1)
numbers_pushed begins numbers starts pushed p m a inside count items = rw (count, items) (numbers_more begins numbers starts p a inside)
