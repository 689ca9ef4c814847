-- One register more of a state that is raised in place.
use Rattle.zl_abs.proofs.Common.{AbsVal, Bool, None, Some, State, all_below, all_joined, ap, below, drop, false, get_or_default, joined, length, not}
use Rattle.zl_abs.proofs.Common.{option_map, refl, set-get_or, slice_set, subst, sym, take, true, ℕ, ◌&&◌, ◌++◌, ◌+◌, ◌<◌, ◌∙◌, ◌≡◌, ◌≤◌}
use Rattle.zl_abs.proofs.StateSteps.{Stands, below_step, below_end, joined_more, joined_stop, joined_end}
use Rattle.zl_abs.proofs.Absorbing.{absorbs}

-- from the states at the start, with i registers raised to those of now
pub record IsRaised (old other now : State) (rose : Bool) (i : ℕ) : Type 0 where
  pub joined : all_joined old other ≡ option_map (λ rest. take i now ++ rest) (all_joined (drop i now) (drop i other))
  pub rises : all_below other old ≡ (not rose && all_below (drop i other) (drop i now))

none_after : (r b : Bool) → (not r && (false && b)) ≡ false
none_after true b = refl
none_after false b = refl

-- what is read twice from a place is the same
pub still_apart : (now : State) (i : ℕ) (x z y : AbsVal) → i < length now → Stands now i x → Stands now i z → below y x ≡ false → below y z ≡ false
still_apart now i x z y h p q e = subst (λ v. below y v ≡ false) (p ∙ (get_or_default now i x z h ∙ sym q)) e

module _ (old other now : State) (rose : Bool) (i : ℕ) (x y : AbsVal) (h : i < length now) (k : i < length other) (p : Stands now i x) (q : Stands other i y)
    (so_far : IsRaised old other now rose i) where
  pub raised_more : (v : AbsVal) → Some v ≡ joined x y → below y x ≡ false → IsRaised old other (slice_set now i v) true (i + 1)
  raised_more v e apart = record {
    joined = so_far.joined ∙ joined_more now other i x y v h k p q e;
    rises = so_far.rises ∙ (rw (below_step other now i y x k h q p, apart) (none_after rose (all_below (drop (i + 1) other) (drop (i + 1) now))));
  }

  pub raised_same : below y x ≡ true → IsRaised old other now rose (i + 1)
  raised_same under =
      let same : slice_set now i x ≡ now = subst (λ z. slice_set now i z ≡ now) (sym p) (set-get_or now i x) in
      let step = joined_more now other i x y x h k p q (sym (absorbs x y under)) in
      record {
        joined = so_far.joined ∙ subst (λ z. option_map (λ (rest : State). take i now ++ rest) (all_joined (drop i now) (drop i other))
            ≡ option_map (λ (rest : State). take (i + 1) z ++ rest) (all_joined (drop (i + 1) z) (drop (i + 1) other))) same step;
        rises = so_far.rises ∙ (rw (below_step other now i y x k h q p, under) refl);
      }

  pub raised_stop : None ≡ joined x y → all_joined old other ≡ None
  raised_stop e = so_far.joined ∙ ap (option_map (λ (rest : State). take i now ++ rest)) (joined_stop now other i x y h k p q e)

not_all : (r : Bool) → (not r && true) ≡ not r
not_all true = refl
not_all false = refl

pub raised_joined : (old other now : State) (rose : Bool) (i : ℕ) → length now ≤ i → length other ≤ i → IsRaised old other now rose i
    → all_joined old other ≡ Some now
raised_joined old other now rose i h k so_far = so_far.joined ∙ joined_end now other i h k

pub raised_rises : (old other now : State) (rose : Bool) (i : ℕ) → length now ≤ i → length other ≤ i → IsRaised old other now rose i
    → all_below other old ≡ not rose
raised_rises old other now rose i h k so_far = so_far.rises ∙ (rw (below_end other now i k h) (not_all rose))
