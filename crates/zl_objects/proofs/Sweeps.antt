-- A sweep that goes from koid to koid and leaves what something keeps.
use Rattle.zl_objects.proofs.Common.{AreKeptBut, Bool, Cascades, HavePlaces, IsLeastFrom, IsNext, IsTrue, LetsGo, List, Map, None, Object, Some, Thins, []}
use Rattle.zl_objects.proofs.Common.{all_killed, all_koids, ap, append-nil, arith, budget, cases_Bool, count_by, each, eqb-true, false, false≢true, filter, get}
use Rattle.zl_objects.proofs.Common.{if◌then◌else◌, inl, inr, is_kept, is_named, is_sorted, is_within_here, killed_if, list_any, map, nat_cmp}
use Rattle.zl_objects.proofs.Common.{nat_lt, nat_tests, none-some, none_left, or_cases, or_left, or_right, refl, sym, true, ℕ, ◌++◌, ◌+◌, ◌<◌, ◌==◌, ◌∙◌, ◌∷◌}
use Rattle.zl_objects.proofs.Common.{◌≡◌, ◌≤◌}
use Rattle.zl_objects.proofs.Budget.{none_went, noted_last, noted_left, thin_then}
use Rattle.zl_objects.proofs.Released.{cascaded_named}

-- ---- koids above another

-- the koids of objects above k
abbrev later : ℕ → Map Object → List ℕ
later k m = filter (λ j. nat_lt k j) (all_koids m)

is_later : (k j : ℕ) (m : Map Object) (o : Object) → get m j ≡ Some o → k < j → IsTrue (list_any (λ x. x == j) (later k m))
unfolding get
is_later k j [] o at above = absurd (none-some o at)
is_later k j (e ∷ m) o at above = elim (cases_Bool (e.0 == j)) as (λ _. IsTrue (list_any (λ x. x == j) (later k (e ∷ m)))) [
  | inl here ↦
      let key : e.0 ≡ j = eqb-true e.0 j here in
      let passes : nat_lt k e.0 ≡ true = grind (arith, nat_tests, key, above) in
      rw passes (or_left (e.0 == j) _ here)
  | inr apart ↦ behind (nat_lt k e.0) (is_later k j m o (rw apart at at) above)
]
  where
    behind : (b : Bool) → IsTrue (list_any (λ x. x == j) (later k m)) → IsTrue (list_any (λ x. x == j) (if b then e.0 ∷ later k m else later k m))
    behind true h = or_right (e.0 == j) _ h
    behind false h = h

lies_later : (k j : ℕ) (xs : List ℕ) → IsTrue (list_any (λ x. x == j) (filter (λ i. nat_lt k i) xs)) → k < j
lies_later k j [] h = absurd (false≢true h)
lies_later k j (x ∷ xs) h = elim (cases_Bool (nat_lt k x)) as (λ _. k < j) [
  | inl passes ↦ elim (or_cases (x == j) _ (rw passes at h)) as (λ _. k < j) [
    | inl here ↦ let key : x ≡ j = eqb-true x j here in grind (arith, nat_tests, key, passes)
    | inr behind ↦ lies_later k j xs behind
  ]
  | inr fails ↦ lies_later k j xs (rw fails at h)
]

-- ---- the sweep

-- something keeps each object below this koid
pub record AreKeptBelow (from : ℕ) (m : Map Object) : Type 0 where
  pub in_order : IsTrue (is_sorted nat_cmp m)
  pub late : (k : ℕ) (o : Object) → get m k ≡ Some o → is_kept m k o ≡ false → from ≤ k

-- the sweep has come as far as this koid
pub record Sweeps (from : ℕ) (m m2 : Map Object) : Type 0 where
  pub cheap : count_by is_named m2 ≤ count_by is_named m
  pub kept : IsTrue (is_sorted nat_cmp m) → AreKeptBelow from m2
  pub leads : (rest : List ℕ) (m3 : Map Object) → Cascades rest m2 m3 → Cascades rest m m3
  pub places : HavePlaces m → HavePlaces m2
  pub thins : (k : ℕ) (o : Object) → get m2 k ≡ Some o → Thins m m2 k o

pub sweep_begins : (m : Map Object) → Sweeps 0 m m
sweep_begins m = record {
  cheap = omega arith;
  kept = λ sorted. record { in_order = sorted; late = λ k o at unkept. omega arith };
  leads = λ rest m3 tail. tail;
  places = λ have. have;
  thins = (none_went m []).thins;
}

pub sweep_goes_on : (m m2 m3 : Map Object) (from k : ℕ) → Sweeps from m m2 → IsLeastFrom m2 from k → LetsGo [] m2 (k ∷ []) m3 [] → Sweeps (k + 1) m m3
unfolding budget
sweep_goes_on m m2 m3 from k sweeps next went = record {
  cheap = omega (arith, sweeps.cheap, fewer);
  kept = λ sorted. by_kept (sweeps.kept sorted);
  leads = λ rest m4 tail. sweeps.leads rest m4 (went.leads rest m4 tail);
  places = λ have. went.places (sweeps.places have);
  thins = thin_then m m2 m3 sweeps.thins went.thins;
}
  where
    -- no more are named than before
    fewer : count_by is_named m3 ≤ count_by is_named m2
    fewer = cascaded_named [] m2 m3 (went.leads [] m3 (none_left m3))

    noted : AreKeptBelow from m2 → (j : ℕ) (o : Object) → get m2 j ≡ Some o → is_kept m2 j o ≡ false → IsTrue (list_any (λ x. x == j) (later k m2 ++ k ∷ []))
    noted old j o at unkept = elim (cases_Bool (k == j)) as (λ _. IsTrue (list_any (λ x. x == j) (later k m2 ++ k ∷ []))) [
      | inl here ↦ rw (eqb-true k j here) (noted_last j (later j m2))
      | inr apart ↦
          let least : k ≤ j = next.least j (old.late j o at unkept) (rw at refl) in
          let above : k < j = grind (arith, nat_tests, least, apart) in
          noted_left j (later k m2) (k ∷ []) (is_later k j m2 o at above)
    ]

    by_kept : AreKeptBelow from m2 → AreKeptBelow (k + 1) m3
    by_kept old =
        let left : AreKeptBut (later k m2 ++ []) m3 = went.notes (later k m2) (record { in_order = old.in_order; noted = noted old }) in
        record {
          in_order = left.in_order;
          late = λ j o at unkept. omega (arith, lies_later k j (all_koids m2) (rw (append-nil (later k m2)) at (left.noted j o at unkept)));
        }

-- no koid is left
pub sweep_ends : (m m2 : Map Object) (from : ℕ) → Sweeps from m m2 → IsNext m2 from None → LetsGo [] m (all_koids m) m2 []
unfolding budget
sweep_ends m m2 from sweeps none = record {
  cheap = omega (arith, sweeps.cheap);
  notes = λ others old.
      let kept : AreKeptBelow from m2 = sweeps.kept old.in_order in
      record { in_order = kept.in_order; noted = λ k o at unkept. absurd (false≢true (sym (none k (kept.late k o at unkept)) ∙ rw at refl)) };
  leads = sweeps.leads;
  places = sweeps.places;
  thins = sweeps.thins;
}

-- a kill leaves the koids
pub killed_koids : (m : Map Object) (task : ℕ) → all_koids (all_killed m task) ≡ all_koids m
unfolding all_killed each
killed_koids m task = same (λ j. killed_if (is_within_here m task j)) m
  where
    same : (f : ℕ → Object → Object) (n : Map Object) → map (λ (e : ℕ × Object). e.0) (each f n) ≡ map (λ (e : ℕ × Object). e.0) n
    same f [] = refl
    same f (e ∷ n) = ap (λ (ks : List ℕ). e.0 ∷ ks) (same f n)
