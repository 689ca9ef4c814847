-- The labels of a text: where they stand, and that no name stands twice.
use Rattle.zl_asm.proofs.Common.{Blank, Bool, Code, Declares, Label, Line, List, None, Option, Some, [], ap, arith, cond, false, find, flat_map, is_some}
use Rattle.zl_asm.proofs.Common.{labels_from, length, lookup, map, names_once, nat_eq, nat_list_eq_equiv, not, option_map, pointwise, position_of, refl}
use Rattle.zl_asm.proofs.Common.{source_in, suc, sym, true, true≢false, ℕ, ◌++◌, ◌+◌, ◌∙◌, ◌∷◌, ◌≡◌}
use denote.Ref.{Bor}
use Rattle.std.proofs.lemmas.Bool.{and_right, and_parts, cond_both}

abbrev Labels : Type 0
Labels = List (List ℕ × ℕ)

abbrev pub same : List ℕ → List ℕ → Bool
same a b = pointwise nat_eq a b

pub same-symm : (a b : List ℕ) → same a b ≡ same b a
same-symm a b = nat_list_eq_equiv.symm a b

-- ---- a map's look-up

chosen : (b : Bool) (l : List ℕ × ℕ) (rest : Option (List ℕ × ℕ))
    → cond b (Some l.1) (option_map (λ m. m.1) rest) ≡ option_map (λ m. m.1) (cond b (Some l) rest)
chosen true l rest = refl
chosen false l rest = refl

-- a map of labels finds what the labels give
pub lookup_is : (es : List (Bor (List ℕ) × ℕ)) (name : List ℕ)
    → lookup (λ k. same name k.now) es ≡ position_of (map {B = List ℕ × ℕ} (λ l. (l.0.now, l.1)) es) name
lookup_is [] name = refl
lookup_is (e ∷ es) name =
    ap (λ (b : Bool). cond b (Some e.1) (lookup (λ k. same name k.now) es)) (same-symm name e.0.now)
    ∙ ap (λ (r : Option ℕ). cond (same e.0.now name) (Some e.1) r) (lookup_is es name)
    ∙ chosen (same e.0.now name) (e.0.now, e.1) (find (λ l. same l.0 name) (map {B = List ℕ × ℕ} (λ l. (l.0.now, l.1)) es))

-- ---- a list of labels in two parts

position-apart : (xs ys : Labels) (name : List ℕ) → position_of xs name ≡ None → position_of (xs ++ ys) name ≡ position_of ys name
position-apart [] ys name e = refl
position-apart (x ∷ xs) ys name e = by (same x.0 name) (position-apart xs ys name) e
  where
    by : (b : Bool) → (position_of xs name ≡ None → position_of (xs ++ ys) name ≡ position_of ys name)
        → option_map (λ l. l.1) (cond b (Some x) (find (λ l. same l.0 name) xs)) ≡ None
        → option_map (λ l. l.1) (cond b (Some x) (find (λ l. same l.0 name) (xs ++ ys))) ≡ position_of ys name
    by true rest e = cc
    by false rest e = rest e

position-there : (xs ys : Labels) (l : List ℕ × ℕ) (name : List ℕ) → same l.0 name ≡ true → is_some (position_of (xs ++ l ∷ ys) name) ≡ true
position-there [] ys l name e = rw e refl
position-there (x ∷ xs) ys l name e =
    cond_both (same x.0 name) (Some x) (find (λ m. same m.0 name) (xs ++ l ∷ ys)) (λ o. is_some (option_map (λ m. m.1) o) ≡ true) (λ _. refl)
    (λ _. position-there xs ys l name e)

-- ---- no name twice

pub alone_none : {X : Type 0} (o : Option X) → not (is_some o) ≡ true → o ≡ None
alone_none None e = refl
alone_none (Some n) e = absurd (true≢false (sym e))

-- one more name, which isn't there yet
pub once-more : (xs : Labels) (l : List ℕ × ℕ) → names_once xs ≡ true → position_of xs l.0 ≡ None → names_once (xs ++ l ∷ []) ≡ true
unfolding names_once
once-more [] l once apart = refl
once-more (x ∷ xs) l once apart = by (same x.0 l.0) (once-more xs l (and_parts _ _ once).1) refl apart
  where
    by : (b : Bool) → (position_of xs l.0 ≡ None → names_once (xs ++ l ∷ []) ≡ true) → same x.0 l.0 ≡ b
        → option_map (λ m. m.1) (cond b (Some x) (find (λ m. same m.0 l.0) xs)) ≡ None → names_once (x ∷ xs ++ l ∷ []) ≡ true
    by true rest e none = cc
    by false rest e none =
        let free = alone_none (position_of xs x.0) (and_parts _ _ once).0 in
        let other : same l.0 x.0 ≡ false = same-symm l.0 x.0 ∙ e in
        let nowhere : position_of (xs ++ l ∷ []) x.0 ≡ None =
        position-apart xs (l ∷ []) x.0 free ∙ ap (λ (b : Bool). option_map (λ m. m.1) (cond b (Some l) None)) other in
        rw nowhere (rest none)

-- a name that is there already
pub not-once : (xs ys : Labels) (l : List ℕ × ℕ) → is_some (position_of xs l.0) ≡ true → names_once (xs ++ l ∷ ys) ≡ false
unfolding names_once
not-once [] ys l there = absurd (true≢false (sym there))
not-once (x ∷ xs) ys l there = by (same x.0 l.0) (not-once xs ys l) refl there
  where
    by : (b : Bool) → (is_some (position_of xs l.0) ≡ true → names_once (xs ++ l ∷ ys) ≡ false) → same x.0 l.0 ≡ b
        → is_some (option_map (λ m. m.1) (cond b (Some x) (find (λ m. same m.0 l.0) xs))) ≡ true → names_once (x ∷ xs ++ l ∷ ys) ≡ false
    by true rest e there = rw (position-there xs ys l x.0 (same-symm l.0 x.0 ∙ e)) refl
    by false rest e there = and_right _ _ (rest there)

-- ---- lines in two parts

pub labels_from-append : (n : ℕ) (xs ys : List Line) → labels_from n (xs ++ ys) ≡ labels_from n xs ++ labels_from (n + length (flat_map source_in xs)) ys
unfolding labels_from
labels_from-append n [] ys = let count : n ≡ n + 0 = omega arith in ap (λ (k : ℕ). labels_from k ys) count
labels_from-append n (Blank ∷ xs) ys = labels_from-append n xs ys
labels_from-append n (Declares d ∷ xs) ys = labels_from-append n xs ys
labels_from-append n (Label name ∷ xs) ys = ap (λ (l : Labels). (name, n) ∷ l) (labels_from-append n xs ys)
labels_from-append n (Code s ∷ xs) ys =
    let count : suc n + length (flat_map source_in xs) ≡ n + suc (length (flat_map source_in xs)) = omega arith in
    labels_from-append (suc n) xs ys ∙ ap (λ (k : ℕ). labels_from (suc n) xs ++ labels_from k ys) count
