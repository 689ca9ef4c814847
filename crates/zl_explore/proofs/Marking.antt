-- Marks of the places that come to one from which none leads on.
use Rattle.std.proofs.Common.{Bool, IfNone, IfSome, List, None, Option, Some, [], ap, arith, false, get_or, length, length-set, refl, replicate, set, slice_get, subst, suc, sym, true, zero, ℕ, ◌-◌}
use Rattle.std.proofs.Common.{◌+◌, ◌<◌, ◌∙◌, ◌∷◌, ◌≡◌, ◌≤◌, ◌⊎◌}
use Rattle.std.proofs.lemmas.Bool.{cases_lt, true≢false}
use Rattle.std.proofs.lemmas.List.{length-replicate}
use Rattle.std.proofs.lemmas.Option.{none-some, same_Some, slice_get-get_or, slice_get_within}
use mathlib.Core.Logic.{inl, inr}
use Rattle.zl_explore.specs.Edges.{Comes, at_last, by_one}
use Rattle.zl_explore.specs.Marks.{AllCome, AreClosed, AreMarks, AreWithin, IsEndlessPlace, IsMarked, unmarked}
use Rattle.zl_explore.specs.Paths.{IsIn}

-- ---- the edge at a place

abbrev pub edge_at : List (ℕ × ℕ) → ℕ → ℕ × ℕ
edge_at edges n = get_or edges n (0, 0)

pub edge_in : (edges : List (ℕ × ℕ)) (n : ℕ) → n < length edges → IsIn edges (edge_at edges n)
edge_in edges n within = (n, slice_get-get_or edges n (0, 0) within)

pub within_at : (edges : List (ℕ × ℕ)) (count n : ℕ) → AreWithin edges count → n < length edges
    → ((edge_at edges n).0 < count) × ((edge_at edges n).1 < count)
unfolding AreWithin
within_at edges count n within below = within (edge_at edges n) (edge_in edges n below)

-- ---- one mark more

pub marked_set : (marks : List Bool) (i : ℕ) → i < length marks → IsMarked (set marks i true) i
marked_set [] i within = absurd (omega (arith, within))
marked_set (m ∷ marks) zero within = refl
marked_set (m ∷ marks) (suc i) within = marked_set marks i (omega (arith, within))

pub marked_still : (marks : List Bool) (i j : ℕ) → IsMarked marks j → IsMarked (set marks i true) j
marked_still [] i j is = absurd (none-some true is)
marked_still (m ∷ marks) zero zero is = refl
marked_still (m ∷ marks) zero (suc j) is = is
marked_still (m ∷ marks) (suc i) zero is = is
marked_still (m ∷ marks) (suc i) (suc j) is = marked_still marks i j is

pub marked_either : (marks : List Bool) (i j : ℕ) → IsMarked (set marks i true) j → (j ≡ i) ⊎ IsMarked marks j
marked_either [] i j is = absurd (none-some true is)
marked_either (m ∷ marks) zero zero is = inl refl
marked_either (m ∷ marks) zero (suc j) is = inr is
marked_either (m ∷ marks) (suc i) zero is = inr is
marked_either (m ∷ marks) (suc i) (suc j) is = elim (marked_either marks i j is) [
  | inl same ↦ inl (ap suc same)
  | inr before ↦ inr before
]

pub unmarked_set : (marks : List Bool) (i : ℕ) → i < length marks → get_or marks i false ≡ false → suc (unmarked (set marks i true)) ≡ unmarked marks
unmarked_set [] i within isnt = absurd (omega (arith, within))
unmarked_set (true ∷ marks) zero within isnt = absurd (true≢false isnt)
unmarked_set (false ∷ marks) zero within isnt = refl
unmarked_set (true ∷ marks) (suc i) within isnt = unmarked_set marks i (omega (arith, within)) isnt
unmarked_set (false ∷ marks) (suc i) within isnt = ap suc (unmarked_set marks i (omega (arith, within)) isnt)

pub marked_at : (marks : List Bool) (i : ℕ) → i < length marks → get_or marks i false ≡ true → IsMarked marks i
marked_at marks i within is = slice_get-get_or marks i false within ∙ ap Some is

pub marked_so : (marks : List Bool) (i : ℕ) → IsMarked marks i → get_or marks i false ≡ true
marked_so marks i is = same_Some _ _ (sym (slice_get-get_or marks i false (slice_get_within marks i true is)) ∙ is)

-- ---- the marks so far

-- who leads to a marked one by an edge from the n-th on is marked
abbrev pub ClosedFrom : List (ℕ × ℕ) → ℕ → List Bool → Type 0
ClosedFrom edges n marks = (i : ℕ) → n ≤ i → i < length edges → IsMarked marks (edge_at edges i).1 → IsMarked marks (edge_at edges i).0

module _ (edges : List (ℕ × ℕ)) (marks : List Bool) where
  pub closed_none : ClosedFrom edges (length edges) marks
  closed_none i from below is = absurd (omega (arith, from, below))

  pub closed_more : (n : ℕ) → 0 < n → n ≤ length edges → (IsMarked marks (edge_at edges (n - 1)).1 → IsMarked marks (edge_at edges (n - 1)).0)
      → ClosedFrom edges n marks → ClosedFrom edges (n - 1) marks
  closed_more n above within here closed i from below is = elim (cases_lt i n) [
    | inl less ↦
        let same : i ≡ n - 1 = omega (arith, from, less, above) in
        subst (λ (k : ℕ). IsMarked marks (edge_at edges k).0) (sym same) (here (subst (λ (k : ℕ). IsMarked marks (edge_at edges k).1) same is))
    | inr more ↦ closed i more below is
  ]

  pub closed_all : ClosedFrom edges 0 marks → AreClosed edges marks
  unfolding AreClosed
  closed_all closed from to (i, there) is =
      let below = slice_get_within edges i (from, to) there in
      let same : edge_at edges i ≡ (from, to) = same_Some _ _ (sym (slice_get-get_or edges i (0, 0) below) ∙ there) in
      subst (λ (e : ℕ × ℕ). IsMarked marks e.0) same (closed i (omega arith) below (subst (λ (e : ℕ × ℕ). IsMarked marks e.1) (sym same) is))

  -- one that leads to a marked one is marked
  pub marks_more : (n : ℕ) → n < length edges → IsMarked marks (edge_at edges n).1 → (edge_at edges n).0 < length marks
      → AreMarks edges marks → AreMarks edges (set marks (edge_at edges n).0 true)
  marks_more n below is within are = record {
    come = λ place marked. elim (marked_either marks (edge_at edges n).0 place marked) [
      | inl same ↦ subst (Comes edges) (sym same) (by_one (edge_at edges n).0 (edge_at edges n).1 (edge_in edges n below) (are.come (edge_at edges n).1 is))
      | inr before ↦ are.come place before
    ];
    last = λ place place_within is_last. marked_still marks (edge_at edges n).0 place
        (are.last place (subst (λ (k : ℕ). place < k) (length-set marks (edge_at edges n).0 true) place_within) is_last);
  }

-- who comes there is marked, once no mark is missing
pub come_marked : (edges : List (ℕ × ℕ)) (marks : List Bool) → AreWithin edges (length marks) → AreMarks edges marks → AreClosed edges marks
    → (place : ℕ) → place < length marks → Comes edges place → IsMarked marks place
unfolding AreClosed AreWithin
come_marked edges marks within are closed place below (at_last _ is_last) = are.last place below is_last
come_marked edges marks within are closed place below (by_one _ target is_in rest) =
    closed place target is_in (come_marked edges marks within are closed target (within (place, target) is_in).1 rest)

-- ---- those from which none leads on

pub unmarked_there : (marks : List Bool) (i : ℕ) → IsMarked (set marks i false) i → ⊥
unmarked_there [] i is = none-some true is
unmarked_there (m ∷ marks) zero is = true≢false (sym (same_Some _ _ is))
unmarked_there (m ∷ marks) (suc i) is = unmarked_there marks i is

pub marked_before : (marks : List Bool) (i j : ℕ) → IsMarked (set marks i false) j → IsMarked marks j
marked_before [] i j is = absurd (none-some true is)
marked_before (m ∷ marks) zero zero is = absurd (true≢false (sym (same_Some _ _ is)))
marked_before (m ∷ marks) zero (suc j) is = is
marked_before (m ∷ marks) (suc i) zero is = is
marked_before (m ∷ marks) (suc i) (suc j) is = marked_before marks i j is

pub marked_elsewhere : (marks : List Bool) (i j : ℕ) → (i ≡ j → ⊥) → IsMarked marks j → IsMarked (set marks i false) j
marked_elsewhere [] i j apart is = absurd (none-some true is)
marked_elsewhere (m ∷ marks) zero zero apart is = absurd (apart refl)
marked_elsewhere (m ∷ marks) zero (suc j) apart is = is
marked_elsewhere (m ∷ marks) (suc i) zero apart is = is
marked_elsewhere (m ∷ marks) (suc i) (suc j) apart is = marked_elsewhere marks i j (λ same. apart (ap suc same)) is

pub marked_replicate : (count place : ℕ) → place < count → IsMarked (replicate count true) place
marked_replicate zero place within = absurd (omega (arith, within))
marked_replicate (suc count) zero within = refl
marked_replicate (suc count) (suc place) within = marked_replicate count place (omega (arith, within))

-- none of the first n leads on from the place
abbrev pub NoneLeads : List (ℕ × ℕ) → ℕ → ℕ → Type 0
NoneLeads edges n place = (i : ℕ) → i < n → i < length edges → (edge_at edges i).0 ≡ place → ⊥

-- the marked places are those from which none of the first n leads on
pub record MarkLast (edges : List (ℕ × ℕ)) (n : ℕ) (marks : List Bool) : Type 0 where
  pub marked : (place : ℕ) → IsMarked marks place → NoneLeads edges n place
  pub last : (place : ℕ) → place < length marks → NoneLeads edges n place → IsMarked marks place

module _ (edges : List (ℕ × ℕ)) (marks : List Bool) where
  pub last_first : (count : ℕ) → marks ≡ replicate count true → MarkLast edges 0 marks
  last_first count is = record {
    marked = λ place marked i below. absurd (omega (arith, below));
    last = λ place within none. subst (λ (m : List Bool). IsMarked m place) (sym is)
        (marked_replicate count place (omega (arith, within, ap length is, length-replicate count true)));
  }

  pub last_more : (n : ℕ) → n < length edges → MarkLast edges n marks → MarkLast edges (n + 1) (set marks (edge_at edges n).0 false)
  last_more n here are = record {
    marked = λ place is i below within leads. elim (cases_lt i n) [
      | inl less ↦ are.marked place (marked_before marks (edge_at edges n).0 place is) i less within leads
      | inr more ↦
          let same : i ≡ n = omega (arith, below, more) in
          let from : place ≡ (edge_at edges n).0 = sym leads ∙ ap (λ (k : ℕ). (edge_at edges k).0) same in
          unmarked_there marks (edge_at edges n).0 (subst (IsMarked (set marks (edge_at edges n).0 false)) from is)
    ];
    last = λ place within none. marked_elsewhere marks (edge_at edges n).0 place (none n (omega arith) here)
        (are.last place (subst (λ (k : ℕ). place < k) (length-set marks (edge_at edges n).0 false) within) (λ i below. none i (omega (arith, below))));
  }

  pub last_all : (n : ℕ) → length edges ≤ n → MarkLast edges n marks → AreMarks edges marks
  last_all n enough are = record {
    come = λ place is. at_last place (λ target (i, there).
        let below = slice_get_within edges i (place, target) there in
        are.marked place is i (omega (arith, below, enough)) below
        (ap (λ (e : ℕ × ℕ). e.0) (same_Some _ _ (sym (slice_get-get_or edges i (0, 0) below) ∙ there))));
    last = λ place within is_last. are.last place within (λ i below in_edges leads.
        is_last (edge_at edges i).1 (subst (λ (k : ℕ). IsIn edges (k, (edge_at edges i).1)) leads (edge_in edges i in_edges)));
  }

-- ---- once no mark is missing

module _ (edges : List (ℕ × ℕ)) (marks : List Bool) (count : ℕ) (same : length marks ≡ count) (within : AreWithin edges count)
    (are : AreMarks edges marks) (closed : AreClosed edges marks) where
  pub endless_some : (found : Option ℕ) → IfSome found (λ place. slice_get marks place ≡ Some false) → IfSome found (IsEndlessPlace edges count)
  endless_some None there = tt
  endless_some (Some place) there =
      let below = slice_get_within marks place false there in (
        omega (arith, below, same),
        λ comes. true≢false (same_Some _ _ (sym
            (come_marked edges marks (subst (AreWithin edges) (sym same) within) are closed place below comes) ∙ there)),
      )

  pub all_come : (found : Option ℕ) → IfNone found ((place : ℕ) → place < length marks → IsMarked marks place) → IfNone found (AllCome edges count)
  all_come None all = λ place below. are.come place (all place (omega (arith, below, same)))
  all_come (Some place) all = tt
