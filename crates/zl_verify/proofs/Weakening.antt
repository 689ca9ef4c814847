-- What a state describes, a state above describes too.
use Rattle.zl_verify.proofs.Common.{ANY, AbsVal, Bool, Describes, Entry, Has, Holds, IsAs, IsHandle, IsTrue, Kind, KindOf, List, None, Option, Rights, RightsOf}
use Rattle.zl_verify.proofs.Common.{SlotArray, Some, State, Table, Word, [], all_below, ap, arith, bits, both, eqb-true, false, inl, inr, keepers, kind_below}
use Rattle.zl_verify.proofs.Common.{kind_trans, length, nat_tests, not, one_if, owners, owns, parts, refl, slice_index, subst, suc, sym, true, value_at, within}
use Rattle.zl_verify.proofs.Common.{within_trans, ℕ, ◌+◌, ◌==◌, ◌||◌, ◌∙◌, ◌∷◌, ◌≡◌, ◌≤◌}
use Rattle.zl_abs.specs.Values.{below}
use Rattle.zl_abs.proofs.Lowering.{value_below}
use Rattle.zl_verify.proofs.Owners.{owns_0}

pub as_below : (k j : Option Kind) (q p : Rights) (o : Option Entry) → kind_below k j ≡ true → within (bits p) (bits q) ≡ true → IsAs k q o → IsAs j p o
as_below k j q p None e g l = l
as_below k j q p (Some y) e g (kind, rights) = (kind_trans (Some y.kind) k j kind e, within_trans (bits y.rights) (bits q) (bits p) rights g)

pub handle_below : (f : Table) (a b : Bool) (k j : Option Kind) (q p : Rights) (x : ℕ) → (not a || b) ≡ true → kind_below k j ≡ true
    → within (bits p) (bits q) ≡ true → IsHandle f a k q x → IsHandle f b j p x
handle_below f true b k j q p x m e g (inl (_, z)) = inl (m, z)
handle_below f false b k j q p x m e g (inl (no_zero, z)) = cc
handle_below f a b k j q p x m e g (inr l) = inr (as_below k j q p (f x) e g l)

pub described-below : (f : Table) (xs : List ℕ) (a b : AbsVal) (x : ℕ) → IsTrue (below a b) → x ≤ ANY → Describes f xs a x → Describes f xs b x
unfolding below
described-below f xs (Word m) (Word n) x e few d = grind (arith, nat_tests)
described-below f xs (Word m) (Has maybe k q) x e few d = let p = both (m == 0) maybe e in inl (p.1, zero_of p.0)
  where
    zero_of : (m == 0) ≡ true → x ≡ 0
    zero_of z = grind (arith, nat_tests)
described-below f xs (Has a k q) (Has b j p) x e few d = let c = parts _ _ _ e in handle_below f a b k j q p x c.0 c.1 c.2 d
described-below f xs (KindOf r) (KindOf t) x e few d = subst (λ u. Describes f xs (KindOf u) x) (eqb-true r t e) d
described-below f xs (KindOf r) (Word n) x e few d = grind (arith, nat_tests)
described-below f xs (RightsOf r) (RightsOf t) x e few d = subst (λ u. Describes f xs (RightsOf u) x) (eqb-true r t e) d
described-below f xs (RightsOf r) (Word n) x e few d = grind (arith, nat_tests)
described-below f xs _ _ x e few d = cc

-- a place that can only hold 0 holds 0
abbrev IsZeroThere : AbsVal → ℕ → Type 0
IsZeroThere (Word m) x = m ≡ 0 → x ≡ 0
IsZeroThere _ x = Unit {0}

owns-below : (v : ℕ) (a b : AbsVal) (x : ℕ) → IsTrue (below a b) → IsZeroThere a x → one_if (owns v a x) ≡ one_if (owns v b x)
unfolding below owns
owns-below v (Word m) (Has maybe k q) x e z = rw (z (eqb-true m 0 (both (m == 0) maybe e).0)) (sym (owns_0 v (Has maybe k q)))
owns-below v (Has a k q) (Has b j p) x e z = refl
owns-below v (Has maybe k q) _ x e z = cc
owns-below v _ (Has maybe k q) x e z = cc
owns-below v _ _ x e z = refl

owners-below : (v : ℕ) (s t : State) (xs : List ℕ) → IsTrue (all_below s t) → ((r : ℕ) → IsZeroThere (value_at s r) (slice_index xs r))
    → owners v s xs ≡ owners v t xs
unfolding all_below owners
owners-below v [] [] xs e z = refl
owners-below v (a ∷ s) (b ∷ t) [] e z = refl
owners-below v (a ∷ s) (b ∷ t) (x ∷ xs) e z =
    let p = both (below a b) (all_below s t) e in
    let one = owns-below v a b x p.0 (z 0) in
    let rest = owners-below v s t xs p.1 (λ r. z (suc r)) in
    omega arith
owners-below v _ _ xs e z = cc

length_below : (s t : State) → IsTrue (all_below s t) → length s ≡ length t
unfolding all_below
length_below [] [] e = refl
length_below (a ∷ s) (b ∷ t) e = let k = length_below s t (both (below a b) (all_below s t) e).1 in omega arith
length_below _ _ e = cc

small_is : (m x : ℕ) → x ≤ m → m ≡ 0 → x ≡ 0
small_is m x le z = omega arith

pub weaken : {f : Table} {s : State} {xs : List ℕ} {arrays : List SlotArray} {slots : List (List ℕ)} (t : State) → Holds f s xs arrays slots
    → IsTrue (all_below s t) → Holds f t xs arrays slots
weaken {f} {s} {xs} {arrays} {slots} t h e = record {
  width = h.width ∙ length_below s t e;
  small = h.small;
  described = λ r. described-below f xs (value_at s r) (value_at t r) (slice_index xs r) (value_below s t r e) (h.small r) (h.described r);
  lengths = h.lengths;
  narrow = h.narrow;
  stored = h.stored;
  once = λ v. ap (λ n. n + keepers v slots) (sym (owners-below v s t xs e (λ r. zero_at r (value_at s r) (h.described r)))) ∙ h.once v;
}
  where
    zero_at : (r : ℕ) (a : AbsVal) → Describes f xs a (slice_index xs r) → IsZeroThere a (slice_index xs r)
    zero_at r (Word m) d = λ z. small_is m (slice_index xs r) d z
    zero_at r _ d = tt
