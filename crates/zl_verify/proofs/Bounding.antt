-- What a bound along the edges of a typing says of its step bound, and what is over of those of other typings.
use Rattle.zl_verify.proofs.Common.{AllBelow, AllByRecursion, AreAmong, AreTargets, Bool, Cause, Edge, Err, Follow, Image, IsAbove, IsAmong, IsBoundOf}
use Rattle.zl_verify.proofs.Common.{IsLeastTyping, IsNested, IsOver, IsOverBudget, IsStepBound, IsTyping, IsUnbounded, List, None, Ok, OneOf, Option, Result}
use Rattle.zl_verify.proofs.Common.{RuleBelow, Some, Spot, State, Targets, [], arith, at, bounds_of, call_at, false, if◌then◌else◌, inl, inr, is_pause, leads}
use Rattle.zl_verify.proofs.Common.{leads_by, leads_on, length, map, marks_of, refl, rule, rule_below, slice_get, spots, spots_from, spots_to, subst, suc, sym}
use Rattle.zl_verify.proofs.Common.{targets_of, true, ℕ, ◌∷◌, ◌≡◌, ◌≤◌}
use Rattle.zl_abs.specs.Typing.{Holds}
use Rattle.zl_verify.specs.declared.peaks.Unbounded.TheVariants as unbounded
use Rattle.zl_verify.proofs.Blocked.{count_marks}
use Rattle.zl_verify.proofs.Walking.{Goes, bounded, narrower}
use Rattle.zl_verify.proofs.Places.{mapped}

-- ---- edges of a lower state are among those of an upper

module _ (P : ℕ → Type 0) where
  one_of_those : (fs : List Edge) (e : Edge) → IsAmong fs e → AllByRecursion P (map (λ x. x.0) fs) → P (e.0)
  one_of_those [] e h b = absurd h
  one_of_those (f ∷ fs) e h b = elim h [ inl p ↦ subst P (sym (p.0)) (b.0) | inr r ↦ one_of_those fs e r (b.1) ]

  all_of_those : (fs es : List Edge) → AreAmong fs es → AllByRecursion P (map (λ x. x.0) fs) → AllByRecursion P (map (λ x. x.0) es)
  all_of_those fs [] h b = tt
  all_of_those fs (e ∷ es) h b = (one_of_those fs e (h.0) b, all_of_those fs es (h.1) b)

  of_rule : (t : ℕ → Option State) (r q : Result (List Edge) Cause) → RuleBelow r q → Holds t q → AllByRecursion P (targets_of q)
      → AllByRecursion P (targets_of r)
  of_rule t r (Err c) h y b = absurd y
  of_rule t (Err c) (Ok fs) h y b = tt
  of_rule t (Ok es) (Ok fs) h y b = all_of_those fs es h b

  unless_so : (p : Bool) (ms ns : List ℕ) → (AllByRecursion P ms → AllByRecursion P ns) → AllByRecursion P (if p then [] else ms)
      → AllByRecursion P (if p then [] else ns)
  unless_so true ms ns f b = tt
  unless_so false ms ns f b = f b

  -- the least typing leads to no more instructions than another
  lower_leads : (i : Image) (t y : ℕ → Option State) → IsLeastTyping i t → IsTyping i y → (n : ℕ) → AllByRecursion P (leads i y n)
      → AllByRecursion P (leads i t n)
  lower_leads i t y l w n b = by (t n) refl
    where
      at_both : (s : State) (o : Option State) → y n ≡ o → IsAbove o s → AllByRecursion P (leads_by i n o) → AllByRecursion P (leads_by i n (Some s))
      at_both s None q a c = absurd a
      at_both s (Some u) q a c =
          unless_so (is_pause (call_at i n)) (targets_of (rule i n u)) (targets_of (rule i n s))
          (of_rule y (rule i n s) (rule i n u) (rule_below (bounds_of i.code) i n s u a) (w.holds n u q)) c

      by : (o : Option State) → t n ≡ o → AllByRecursion P (leads_by i n o)
      by None e = tt
      by (Some s) e = at_both s (y n) refl (l.least y w n s e) b

-- ---- a typing whose edges are kept

module _ (i : Image) (states : List (Option State)) (targets : List Targets) (are : AreTargets i states targets) (long : length states ≡ length i.code)
    (nested : IsNested (marks_of i.code) targets) where
  same_leads : spots_from (marks_of i.code) targets ≡ leads_on i (at states)
  same_leads = λ j. λ p. spots (slice_get (marks_of i.code) p.0) p.0 p.1 (are.same p.0 j)

  led : (k : ℕ) (p : Spot) → Goes (marks_of i.code) targets k p → Follow (leads_on i (at states)) k p
  led k p g = subst (λ (f : Spot → List Spot). Follow f k p) same_leads g

  kept : (k : ℕ) (p : Spot) → Follow (leads_on i (at states)) k p → Goes (marks_of i.code) targets k p
  kept k p g = subst (λ (f : Spot → List Spot). Follow f k p) (sym same_leads) g

  pub step_bound : (steps : ℕ → List ℕ → ℕ) → IsBoundOf (marks_of i.code) targets i.budget steps → IsStepBound i (at states) steps
  step_bound steps b = record {
    within = λ n s cs q c. b.within n cs (let h = mapped states n s q in omega (arith, long, count_marks i.code)) c;
    falls = λ n cs c. subst (λ (f : Spot → List Spot). AllBelow steps (steps n cs) (f (n, cs))) same_leads (b.falls n cs c);
  }

  -- an instruction that is over in the least typing refutes each bound of each typing
  no_bound : (n : ℕ) → IsLeastTyping i (at states) → IsOver i (at states) n → (y : ℕ → Option State) (steps : ℕ → List ℕ → ℕ) → IsTyping i y
      → IsStepBound i y steps → ⊥
  no_bound n l over y steps w bound = by (at states n) refl over.follow
    where
      typed : (s : State) (o : Option State) → y n ≡ o → IsAbove o s → ⊥
      typed s None q a = a
      typed s (Some u) q a =
          let h : suc i.budget ≤ steps n over.counters =
          bounded (marks_of i.code) targets nested steps (suc (steps n over.counters))
          (λ m cs c k. subst (λ (f : Spot → List Spot). AllBelow steps (steps m cs) (f (m, cs))) (sym same_leads)
          (narrower steps (steps m cs) (slice_get (marks_of i.code) m) m cs (leads i (at states) m) (leads i y m)
          (λ P. lower_leads P i (at states) y l w m) (bound.falls m cs c)))
          (suc i.budget) n over.counters over.are (omega arith) (kept (suc i.budget) (n, over.counters) over.follow) in
          let k = bound.within n u over.counters q over.are in omega arith

      by : (o : Option State) → at states n ≡ o → OneOf (λ p. Follow (leads_on i (at states)) i.budget p) (spots_to i (n, over.counters) (leads_by i n o)) → ⊥
      by None e f = f
      by (Some s) e f = typed s (y n) refl (l.least y w n s e)

  pub over_budget : (n : ℕ) → IsLeastTyping i (at states) → IsUnbounded (marks_of i.code) targets i.budget (unbounded.Over n) → IsOverBudget i n
  over_budget n l u = record {
    found = at states;
    typing = l;
    none = no_bound n l over;
    over = over;
    first = λ m h o. u.1 m h (record { counters = o.counters; are = o.are; follow = kept (suc i.budget) (m, o.counters) o.follow });
  }
    where
      over : IsOver i (at states) n
      over = record { counters = u.0.counters; are = u.0.are; follow = led (suc i.budget) (n, u.0.counters) u.0.follow }
