-- Where blocks begin and end, place by place.
use Rattle.zl_asm.proofs.Common.{Instr, List, None, Option, Some, [], ap, append-nil, append_assoc, arith, at_drop_more, cases_eq, drop, drop_all}
use Rattle.zl_asm.proofs.Common.{end_among, eq-eqb, false, get_or, if◌then◌else◌, inl, inr, length, length-replicate, ne_eqb, refl, replicate, subst, suc, sym}
use Rattle.zl_asm.proofs.Common.{true, zero, ℕ, ◌++◌, ◌+◌, ◌<◌, ◌==◌, ◌∙◌, ◌∷◌, ◌≡◌, ◌≤◌}
use Rattle.std.specs.Prelude.{slice_get, slice_set}
use Rattle.std.proofs.lemmas.List.{length-set}
use Rattle.zl_code.proofs.Nesting.{opens, whole}
use Rattle.zl_code.proofs.Places.{get_put, get_put_other}
use Rattle.zl_code.specs.Blocks.{blocks_at, head_of, opened, tail_of}
use Rattle.zl_code.specs.Lists.{at, within}
use Rattle.zl_code.specs.declared.blocks.Mark.{Mark}
use Rattle.zl_code.specs.declared.blocks.Mark.TheVariants as mark
use Rattle.zl_asm.specs.Listing.{closes}
use Rattle.zl_asm.specs.Paired.{Walked, closed_by, home_after, joined_to, with_end}
unfoldable use Rattle.zl_asm.specs.Paired.{joined_from}

nothing_there : (n r : ℕ) → at {A = ℕ} (replicate n None) r ≡ None
nothing_there zero r = refl
nothing_there (suc n) zero = refl
nothing_there (suc n) (suc r) = nothing_there n r

one_more : (n : ℕ) → n + 1 ≡ suc n
one_more n = omega arith

pub walk_begins : (marks : List Mark) (homes ends : List (Option ℕ)) → homes ≡ replicate (length marks) None → ends ≡ replicate (length marks) None
    → Walked marks homes ends None 0
unfolding blocks_at end_among
walk_begins marks homes ends e f = record {
  innermost = record { long = ap length e ∙ length-replicate (length marks) None; home = λ n h. absurd (omega arith) };
  current = refl;
  long = ap length f ∙ length-replicate (length marks) None;
  closing = λ r l. ap (λ (xs : List (Option ℕ)). at xs r) f ∙ nothing_there (length marks) r;
}

pub walk_more : (marks : List Mark) (homes ends : List (Option ℕ)) (home : Option ℕ) (p : ℕ) (m : Mark) → Walked marks homes ends home p
    → p < length marks → slice_get marks p ≡ Some m
    → Walked marks (slice_set homes p home) (with_end ends (closed_by m home) p) (home_after m p home (at (slice_set homes p home))) (p + 1)
unfolding blocks_at end_among
walk_more marks homes ends home p m w l q = record {
  innermost = record { long = length-set homes p home ∙ w.innermost.long; home = homes_on };
  current = rw (one_more p, q) (behind m home w.current);
  long = still_long (closed_by m home) ∙ w.long;
  closing = λ r k. rw (one_more p, q) (closed m home w.current r k);
}
  where
    homes_on : (n : ℕ) → n < p + 1 → at (slice_set homes p home) n ≡ head_of (blocks_at marks n)
    homes_on n h = elim (cases_eq p n) [
      | inl e ↦ subst (λ (x : ℕ). at (slice_set homes p home) x ≡ head_of (blocks_at marks x)) e
          (ap within (get_put homes p home (omega (arith, w.innermost.long))) ∙ w.current)
      | inr d ↦ ap within (get_put_other homes p n home d) ∙ w.innermost.home n (omega arith)
    ]

    still_long : (o : Option ℕ) → length (with_end ends o p) ≡ length ends
    still_long None = refl
    still_long (Some r) = length-set ends r (Some p)

    open_at : (r : ℕ) → Some r ≡ head_of (blocks_at marks p) → (r < p) × (blocks_at marks p ≡ r ∷ blocks_at marks r)
    open_at r e = whole marks p r (blocks_at marks p) (opens marks p) (sym e)

    none_open : (rs : List ℕ) → None ≡ head_of rs → None ≡ head_of (tail_of rs)
    none_open [] e = refl
    none_open (r ∷ rs) e = cc

    behind : (m : Mark) (o : Option ℕ) → o ≡ head_of (blocks_at marks p)
        → home_after m p o (at (slice_set homes p home)) ≡ head_of (opened (Some m) p (blocks_at marks p))
    behind (mark.Rep imm end) o e = refl
    behind (mark.EndRep rep) None e = none_open (blocks_at marks p) e
    behind (mark.EndRep rep) (Some r) e =
        let b = open_at r e in
        let lt = b.0 in
        homes_on r (omega arith) ∙ ap head_of (sym (ap tail_of b.1))
    behind mark.Plain o e = e

    closed : (m : Mark) (o : Option ℕ) → o ≡ head_of (blocks_at marks p) → (r : ℕ) → r < length marks
        → at (with_end ends (closed_by m o) p) r ≡ (if closes (Some m) (head_of (blocks_at marks p)) r then Some p else end_among marks r p)
    closed (mark.EndRep rep) None e r k = rw (← e) (w.closing r k)
    closed (mark.EndRep rep) (Some h) e r k = elim (cases_eq h r) [
      | inl s ↦
          let b = open_at h e in
          let lt = b.0 in
          let t : (h == r) ≡ true = eq-eqb h r s in
          rw (← e, t) (subst (λ (x : ℕ). at (slice_set ends h (Some p)) x ≡ Some p) s (ap within (get_put ends h (Some p) (omega (arith, w.long)))))
      | inr d ↦
          let t : (h == r) ≡ false = ne_eqb h r d in
          rw (← e, t) (ap within (get_put_other ends h r (Some p) d) ∙ w.closing r k)
    ]
    closed (mark.Rep imm end) o e r k = w.closing r k
    closed mark.Plain o e r k = w.closing r k

-- ---- the code, instruction by instruction

pub joined_more : (marks : List Mark) (code : List Instr) (n : ℕ) (x : Instr) (home closed : Option ℕ) (old new whole : List Instr) → n < length code
    → x ≡ get_or code n x → home ≡ head_of (blocks_at marks n) → closed ≡ end_among marks n (length marks)
    → old ++ joined_from marks n (drop n code) ≡ whole → new ≡ old ++ joined_to x home closed ∷ []
    → new ++ joined_from marks (n + 1) (drop (n + 1) code) ≡ whole
unfolding joined_from
joined_more marks code n x home closed old new whole l at e f before written =
    ap (λ (xs : List Instr). xs ++ joined_from marks (n + 1) (drop (n + 1) code)) written
    ∙ append_assoc old (joined_to x home closed ∷ []) (joined_from marks (n + 1) (drop (n + 1) code))
    ∙ (λ i. old ++ joined_to (at i) (e i) (f i) ∷ joined_from marks (one_more n i) (drop (n + 1) code))
    ∙ sym (at_drop_more (λ (xs : List Instr). old ++ joined_from marks n xs) code n x l)
    ∙ before

pub joined_all : (marks : List Mark) (code joined whole : List Instr) (n : ℕ) → length code ≤ n → joined ++ joined_from marks n (drop n code) ≡ whole
    → joined ≡ whole
unfolding joined_from
joined_all marks code joined whole n le before =
    sym (append-nil joined) ∙ ap (λ (xs : List Instr). joined ++ joined_from marks n xs) (sym (drop_all n code le)) ∙ before
