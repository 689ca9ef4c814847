-- Handles that enter a table one after another, and those that are taken back in reverse.
use Rattle.zl_calls.proofs.Common.{Bool, Entry, Handles, IfSome, Inserts, InsertsEach, List, None, Option, Some, [], ap, arith, eq-eqb, false, get_or}
use Rattle.zl_calls.proofs.Common.{if◌then◌else◌, is_empty, length, length-take-le, ne_eqb, refl, subst, suc, sym, take, take_more, true, zero, ℕ, ◌++◌, ◌+◌}
use Rattle.zl_calls.proofs.Common.{◌<◌, ◌==◌, ◌∙◌, ◌∷◌, ◌≡◌, ◌≤◌}
use Rattle.zl_table.specs.Table.{TakesBack}

-- ---- one more behind the others

pub one_behind : (t u w : Handles) (es : List Entry) (vs : List ℕ) (e : Entry) (v : ℕ) → InsertsEach t es vs u → Inserts u e v w
    → InsertsEach t (es ++ e ∷ []) (vs ++ v ∷ []) w
one_behind t u w [] [] e v so_far last = record { between = w; inserts = subst (λ x. Inserts x e v w) so_far last; rest = refl }
one_behind t u w [] (y ∷ vs) e v so_far last = absurd so_far
one_behind t u w (x ∷ es) [] e v so_far last = absurd so_far
one_behind t u w (x ∷ es) (y ∷ vs) e v so_far last = record {
  between = so_far.between;
  inserts = so_far.inserts;
  rest = one_behind so_far.between u w es vs e v so_far.rest last;
}

-- there is a value for each
pub values_count : (t u : Handles) (es : List Entry) (vs : List ℕ) → InsertsEach t es vs u → length vs ≡ length es
values_count t u [] [] so_far = refl
values_count t u [] (y ∷ vs) so_far = absurd so_far
values_count t u (x ∷ es) [] so_far = absurd so_far
values_count t u (x ∷ es) (y ∷ vs) so_far = let rest = values_count so_far.between u es vs so_far.rest in omega (arith, rest)

-- the next of the list behind those before it
pub one_more : (t u w : Handles) (es : List Entry) (n : ℕ) (d : Entry) (vs : List ℕ) (v : ℕ) → n < length es → InsertsEach t (take n es) vs u
    → Inserts u (get_or es n d) v w → InsertsEach t (take (n + 1) es) (vs ++ v ∷ []) w
one_more t u w es n d vs v within so_far last = rw (take_more es n d within) (one_behind t u w (take n es) vs (get_or es n d) v so_far last)

pub places_left : (t u : Handles) (es : List Entry) (vs : List ℕ) (n : ℕ) → n < length es → InsertsEach t (take n es) vs u → length vs ≡ n
places_left t u es vs n within so_far = values_count t u (take n es) vs so_far ∙ length-take-le n es (omega (arith, within))

-- ---- the last is taken back

-- the last of the insertions, and those before it
record LastOf (before : Handles) (vs : List ℕ) (v : ℕ) (t : Handles) : Type 0 where
  pub entries : List Entry
  pub between : Handles
  pub earlier : InsertsEach before entries vs between
  pub entry : Entry
  pub inserts : Inserts between entry v t
  pub was : between.last ≡ (if is_empty vs then before.last else None)

none_either : (b : Bool) (o : Option ℕ) → o ≡ None → (if b then o else None) ≡ None
none_either true o none = none
none_either false o none = refl

last_of : (before t : Handles) (es : List Entry) (vs : List ℕ) (v : ℕ) → InsertsEach before es (vs ++ v ∷ []) t → LastOf before vs v t
last_of before t [] [] v is = absurd is
last_of before t (e ∷ []) [] v is =
    record { entries = []; between = before; earlier = refl; entry = e; inserts = subst (λ x. Inserts before e v x) (sym is.rest) is.inserts; was = refl }
last_of before t (e ∷ f ∷ es) [] v is = absurd is.rest
last_of before t [] (x ∷ vs) v is = absurd is
last_of before t (e ∷ es) (x ∷ vs) v is =
    let later : LastOf is.between vs v t = last_of is.between t es vs v is.rest in
    record {
      entries = e ∷ later.entries;
      between = later.between;
      earlier = record { between = is.between; inserts = is.inserts; rest = later.earlier };
      entry = later.entry;
      inserts = later.inserts;
      was = later.was ∙ none_either (is_empty vs) is.between.last is.inserts.last;
    }

none_taken : (values : List ℕ) (n : ℕ) → n < length values → is_empty (take n values) ≡ (n == 0)
none_taken [] n within = absurd (omega (arith, within))
none_taken (x ∷ xs) zero within = refl
none_taken (x ∷ xs) (suc n) within = sym (ne_eqb (suc n) 0 (λ e. omega (arith, e)))

-- insertions at these values led from one table to the other
pub record Grown (before : Handles) (values : List ℕ) (t : Handles) : Type 0 where
  pub entries : List Entry
  pub inserts : InsertsEach before entries values t

-- what the taking back of the value at place n is told, as the one removed last
abbrev pub told_at : ℕ → Option ℕ → Option ℕ
told_at n last = if n == 0 then last else None

pub told_first : (n : ℕ) (last told : Option ℕ) → n ≡ 0 → told ≡ last → told ≡ told_at n last
told_first n last told first is = is ∙ sym (rw (eq-eqb n 0 first) refl)

pub told_none : (n : ℕ) (last told : Option ℕ) → (n ≡ 0 → ⊥) → told ≡ None → told ≡ told_at n last
told_none n last told later is = is ∙ sym (rw (ne_eqb n 0 later) refl)

-- before a turn there was one value more, the k-th
module _ (before t : Handles) (last : Option ℕ) (values : List ℕ) (k n d : ℕ) (next : n + 1 ≡ k) (within : k ≤ length values) (was : before.last ≡ last)
    (grown : Grown before (take k values) t)
    (told : Option ℕ) (is_told : told ≡ told_at n last) where
  lasts : LastOf before (take n values) (get_or values n d) t
  lasts = last_of before t grown.entries (take n values) (get_or values n d)
      (subst (λ vs. InsertsEach before grown.entries vs t) (ap (λ i. take i values) (sym next) ∙ take_more values n d (omega (arith, next, within)))
      grown.inserts)

  tells : told ≡ lasts.between.last
  tells = is_told ∙ sym (lasts.was ∙ rw (none_taken values n (omega (arith, next, within)), was) refl)

  pub may_tell : IfSome told (λ v. v ≡ get_or values n d)
  may_tell = by_last told tells
    where
      by_last : (o : Option ℕ) → o ≡ lasts.between.last → IfSome o (λ v. v ≡ get_or values n d)
      by_last None is = tt
      by_last (Some l) is = sym (subst (λ o. IfSome o (λ l. get_or values n d ≡ l)) (sym is) lasts.inserts.again)

  pub one_back : (out : Option Entry) (t2 : Handles) → TakesBack t (get_or values n d) told out t2 → Grown before (take n values) t2
  one_back out t2 back = record {
    entries = lasts.entries;
    inserts = subst (λ x. InsertsEach before lasts.entries (take n values) x) (sym (back.table lasts.between lasts.entry lasts.inserts tells)) lasts.earlier;
  }

pub all_back : (before t : Handles) → Grown before [] t → t ≡ before
all_back before t grown = by_entries grown.entries grown.inserts
  where
    by_entries : (es : List Entry) → InsertsEach before es [] t → t ≡ before
    by_entries [] is = is
    by_entries (e ∷ es) is = absurd is
