-- Going through the objects by koid.
use Rattle.zl_objects.proofs.Common.{AllByRecursion, BTreeMap, Body, Bool, IsLeastFrom, IsNext, IsRangeOf, IsStrictlySortedBy, IsTrue, List, Map, None, Object}
use Rattle.zl_objects.proofs.Common.{Option, Some, [], all_killed, ap, arith, cases_Bool, each, eq-eqb, eqb-true, false, false≢true, get, get-each, has_key}
use Rattle.zl_objects.proofs.Common.{if◌then◌else◌, inl, inr, is_gt, is_some, is_within_here, keys_of, killed_body, killed_if, nat_cmp, nat_lt, nat_tests, not}
use Rattle.zl_objects.proofs.Common.{option_map, parent_at, parent_found, parent_held, refl, subst, sym, true, true≢false, unsigned_tied, update, ℕ, ◌&&◌, ◌+◌}
use Rattle.zl_objects.proofs.Common.{◌<◌, ◌==◌, ◌||◌, ◌∙◌, ◌∷◌, ◌≡◌, ◌≤◌}
use Rattle.std.specs.declared.cmp.Ordering.TheVariants.{Less}
use Rattle.std.specs.declared.ops.Bound.TheVariants.{Included, Unbounded}
use Rattle.zl_objects.specs.declared.object.Body.TheVariants as body
use Rattle.zl_objects.proofs.ByKoid.{looked_up}
use Rattle.zl_objects.proofs.Climbing.{same_below}

-- ---- the next koid

less : (a b : ℕ) → nat_cmp a b ≡ Less → a < b
less a b h = grind (arith, nat_tests, unsigned_tied a b, h)

not_above : (a b : ℕ) → is_gt (nat_cmp a b) ≡ false → a ≤ b
not_above a b h = grind (arith, nat_tests, unsigned_tied a b, h)

is_there : {X : Type 0} (o : Option X) (x : X) → o ≡ Some x → IsTrue (is_some o)
is_there o x is = ap is_some is

from_start : (a b : ℕ) → a ≤ b → is_gt (nat_cmp a b) ≡ false
from_start a b h = grind (arith, nat_tests, unsigned_tied a b, h)

-- the first of what lies from this koid on
pub first_from : (b : BTreeMap ℕ Object) (from : ℕ) (r t : List (ℕ × Object)) (e : ℕ × Object) → IsRangeOf nat_cmp (Included from) Unbounded b r → r ≡ e ∷ t
    → IsLeastFrom b.entries from e.0
first_from b from r t e part is =
    let whole : IsRangeOf nat_cmp (Included from) Unbounded b (e ∷ t) = subst (IsRangeOf nat_cmp (Included from) Unbounded b) is part in
    record {
      later = not_above from e.0 whole.1.0.0;
      there = is_there (get b.entries e.0) e.1 (sym (looked_up b.entries e.0) ∙ whole.1.1);
      least = λ j above there. not_above e.0 j (whole.2 j (from_start from j above, tt) (rw (looked_up b.entries j) there));
    }

-- nothing lies from this koid on
pub none_from : (b : BTreeMap ℕ Object) (from : ℕ) (r : List (ℕ × Object)) → IsRangeOf nat_cmp (Included from) Unbounded b r → r ≡ [] → (j : ℕ) → from ≤ j
    → has_key b.entries j ≡ false
none_from b from r part is j above = ap is_some (sym (looked_up b.entries j) ∙ part.5 is j (from_start from j above, tt))

-- ---- a change of each object below some koid

-- the change, below the koid
abbrev pub till : ℕ → (ℕ → Object → Object) → ℕ → Object → Object
till from f k o = if nat_lt k from then f k o else o

pub behind_first : (e : ℕ × Object) (m : Map Object) (j : ℕ) → IsTrue (has_key m j) → IsTrue (has_key (e ∷ m) j)
unfolding get
behind_first e m j there = elim (e.0 == j) as (λ b. IsTrue (is_some (if b then Some e.1 else get m j))) [ true ↦ refl | false ↦ there ]

behind_none : (e : ℕ × Object) (m : Map Object) (j : ℕ) → has_key (e ∷ m) j ≡ false → has_key m j ≡ false
behind_none e m j none = elim (cases_Bool (has_key m j)) [ inl there ↦ absurd (true≢false (sym (behind_first e m j there) ∙ none)) | inr gone ↦ gone ]

-- the first key is there
first_there : (e : ℕ × Object) (m : Map Object) → has_key (e ∷ m) e.0 ≡ true
unfolding get
first_there e m = rw (eq-eqb e.0 e.0 refl) refl

-- in order the first key is below the others
above_first : (a : ℕ) (m : Map Object) → AllByRecursion (λ y. nat_cmp a y ≡ Less) (keys_of m) → (j : ℕ) → IsTrue (has_key m j) → a < j
unfolding get
above_first a [] all j there = absurd (false≢true there)
above_first a (e ∷ m) all j there = elim (cases_Bool (e.0 == j)) [
  | inl here ↦ omega (arith, less a e.0 all.0, eqb-true e.0 j here)
  | inr apart ↦ above_first a m all.1 j (rw apart at there)
]

-- behind the first key, where another is asked for
there_behind : (e : ℕ × Object) (m : Map Object) (k : ℕ) → (e.0 == k) ≡ false → IsTrue (has_key (e ∷ m) k) → IsTrue (has_key m k)
unfolding get
there_behind e m k apart there = rw apart at there

module _ (f : ℕ → Object → Object) where
  none_yet : (m : Map Object) (from : ℕ) → ((j : ℕ) → IsTrue (has_key m j) → from ≤ j) → each (till from f) m ≡ m
  unfolding each
  none_yet [] from above = refl
  none_yet (e ∷ m) from above =
      let first : from ≤ e.0 = above e.0 (first_there e m) in
      let rest : each (till from f) m ≡ m = none_yet m from (λ j there. above j (behind_first e m j there)) in
      let later : nat_lt e.0 from ≡ false = grind (arith, nat_tests) in
      rw later (ap (λ es. e ∷ es) rest)

  all_done : (m : Map Object) (from : ℕ) → ((j : ℕ) → from ≤ j → has_key m j ≡ false) → each (till from f) m ≡ each f m
  unfolding each
  all_done [] from none = refl
  all_done (e ∷ m) from none = elim (cases_Bool (nat_lt e.0 from)) as (λ _. each (till from f) (e ∷ m) ≡ each f (e ∷ m)) [
    | inl done ↦ rw done (ap (λ es. (e.0, f e.0 e.1) ∷ es) (all_done m from (λ j above. behind_none e m j (none j above))))
    | inr later ↦
        let above : from ≤ e.0 = grind (arith, nat_tests) in
        absurd (true≢false (sym (first_there e m) ∙ none e.0 above))
  ]

  one_done : (m : Map Object) (from k : ℕ) → IsStrictlySortedBy nat_cmp (keys_of m) → IsLeastFrom m from k
      → update (each (till from f) m) k (f k) ≡ each (till (k + 1) f) m
  unfolding each update IsStrictlySortedBy
  one_done [] from k sorted next = refl
  one_done (e ∷ m) from k sorted next = elim (cases_Bool (e.0 == k)) as (λ _. update (each (till from f) (e ∷ m)) k (f k) ≡ each (till (k + 1) f) (e ∷ m)) [
    | inl here ↦
        let is : e.0 ≡ k = eqb-true e.0 k here in
        let not_yet : nat_lt e.0 from ≡ false = grind (arith, nat_tests, next.later) in
        let now : nat_lt e.0 (k + 1) ≡ true = grind (arith, nat_tests) in
        let before : each (till from f) m ≡ m = none_yet m from (λ j there. omega (arith, next.later, is, above_first e.0 m sorted.0 j there)) in
        let after : each (till (k + 1) f) m ≡ m = none_yet m (k + 1) (λ j there. omega (arith, is, above_first e.0 m sorted.0 j there)) in
        rw (here, not_yet, now) (ap (λ es. (k, f k e.1) ∷ es) before ∙ (ap (λ i. (i, f i e.1) ∷ m) (sym is) ∙ ap (λ es. (e.0, f e.0 e.1) ∷ es) (sym after)))
    | inr apart ↦
        let there : IsTrue (has_key m k) = there_behind e m k apart next.there in
        let below : e.0 < k = above_first e.0 m sorted.0 k there in
        let done : nat_lt e.0 from ≡ true = elim (cases_Bool (nat_lt e.0 from)) [
          | inl yet ↦ yet
          | inr later ↦
              let above : from ≤ e.0 = grind (arith, nat_tests) in
              absurd (omega (arith, below, next.least e.0 above (first_there e m)))
        ] in
        let now : nat_lt e.0 (k + 1) ≡ true = grind (arith, nat_tests) in
        rw (apart, done, now) (ap (λ es. (e.0, f e.0 e.1) ∷ es) (one_done m from k sorted.1 (record {
          later = next.later;
          there = there;
          least = λ j above there. next.least j above (behind_first e m j there);
        })))
  ]

  keys-each : (m : Map Object) (from : ℕ) → keys_of (each (till from f) m) ≡ keys_of m
  unfolding each
  keys-each [] from = refl
  keys-each (e ∷ m) from = ap (λ ks. e.0 ∷ ks) (keys-each m from)

  has_key-each : (m : Map Object) (from j : ℕ) → has_key (each (till from f) m) j ≡ has_key m j
  has_key-each m from j = rw (get-each m (till from f) j) (by_found (get m j))
    where
      by_found : (o : Option Object) → is_some (option_map (till from f j) o) ≡ is_some o
      by_found None = refl
      by_found (Some o) = refl

-- ---- a kill

-- what a kill of the task makes of k
abbrev pub kills : Map Object → ℕ → ℕ → Object → Object
kills m task k o = killed_if (is_within_here m task k) o

pub if_stays : (wanted : Bool) (o : Object) → parent_held (killed_if wanted o).body ≡ parent_held o.body
if_stays false o = refl
if_stays true o = killed_stays o.body
  where
    killed_stays : (b : Body) → parent_held (killed_body b) ≡ parent_held b
    killed_stays (body.Job own) = refl
    killed_stays _ = refl

-- whoever is among the killed stays so where jobs and processes stay where they are
pub same_within : (f : ℕ → Object → Object) → ((j : ℕ) (o : Object) → parent_held (f j o).body ≡ parent_held o.body) → (m : Map Object) (task k : ℕ)
    → is_within_here (each f m) task k ≡ is_within_here m task k
same_within f stays m task k = ap (λ b. not (task == 0) && ((k == task) || (not (task == 0) && b))) (same_below (each f m) m task parent 16 k)
  where
    by_found : (j : ℕ) (o : Option Object) → parent_found (option_map (f j) o) ≡ parent_found o
    by_found j None = refl
    by_found j (Some o) = stays j o

    parent : (j : ℕ) → parent_at (each f m) j ≡ parent_at m j
    parent j = ap parent_found (get-each m f j) ∙ by_found j (get m j)

till_stays : (m : Map Object) (task from j : ℕ) (o : Object) → parent_held (till from (kills m task) j o).body ≡ parent_held o.body
till_stays m task from j o =
    elim (nat_lt j from)
    as (λ t. parent_held (if t then kills m task j o else o).body ≡ parent_held o.body) [ true ↦ if_stays (is_within_here m task j) o | false ↦ refl ]

-- nothing is killed before the first koid
pub kill_begins : (m : Map Object) (task : ℕ) → m ≡ each (till 0 (kills m task)) m
kill_begins m task = sym (none_yet (kills m task) m 0 (λ j there. omega arith))

-- one koid more
pub kill_goes_on : (m now new : Map Object) (task from k : ℕ) (within : Bool) → now ≡ each (till from (kills m task)) m
    → IsStrictlySortedBy nat_cmp (keys_of now) → IsLeastFrom now from k → within ≡ is_within_here now task k → new ≡ update now k (killed_if within)
    → new ≡ each (till (k + 1) (kills m task)) m
kill_goes_on m now new task from k within is sorted next one set =
    set ∙ (ap (λ b. update now k (killed_if b)) (one ∙ (ap (λ n. is_within_here n task k) is
    ∙ same_within (till from (kills m task)) (till_stays m task from) m task k))
    ∙ (ap (λ n. update n k (kills m task k)) is
    ∙ one_done (kills m task) m from k (subst (IsStrictlySortedBy nat_cmp) (ap (λ n. keys_of n) is ∙ keys-each (kills m task) m from) sorted) (record {
      later = next.later;
      there = sym (has_key-each (kills m task) m from k) ∙ (ap (λ n. has_key n k) (sym is) ∙ next.there);
      least = λ j above there. next.least j above (ap (λ n. has_key n j) is ∙ (has_key-each (kills m task) m from j ∙ there));
    })))

-- no koid is left
pub kill_ends : (m now : Map Object) (task from : ℕ) → now ≡ each (till from (kills m task)) m → IsNext now from None → now ≡ all_killed m task
unfolding all_killed
kill_ends m now task from is none =
    is ∙ all_done (kills m task) m from (λ j above. sym (has_key-each (kills m task) m from j) ∙ (ap (λ n. has_key n j) (sym is) ∙ none j above))

-- what is there on the way was there before
pub there_before : (m now : Map Object) (task from k : ℕ) → now ≡ each (till from (kills m task)) m → IsTrue (has_key now k) → IsTrue (has_key m k)
there_before m now task from k is there = sym (has_key-each (kills m task) m from k) ∙ (ap (λ n. has_key n k) (sym is) ∙ there)
