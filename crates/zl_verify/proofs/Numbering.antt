-- Pairs given backwards: what one more leaves, and what is said by those that are missing.
use Rattle.zl_verify.proofs.Common.{Bool, IfSome, IsNested, List, Longest, Mark, None, Option, Some, Suits, Targets, ap, arith, at, false, get_or, imm_of, inl}
use Rattle.zl_verify.proofs.Common.{inr, is_some, length, length-replicate, length-set, min, places_by, refl, replicate, slice_get, slice_get-get_or, slice_set}
use Rattle.zl_verify.proofs.Common.{subst, suc, sum_by-set, sym, true, turns_left, zero, ℕ, ◌+◌, ◌-◌, ◌<◌, ◌∙◌, ◌∷◌, ◌≡◌, ◌≤◌, ◌⊎◌}
use Rattle.zl_code.specs.declared.blocks.Mark.TheVariants as mark
use Rattle.std.proofs.lemmas.List.{get_or-replicate}
use Rattle.std.proofs.lemmas.Option.{IfSome_then}
use Rattle.zl_verify.specs.Lists.{within}
use Rattle.zl_verify.specs.Longest.{AreLongest, FollowBehind, Given, IsKept, IsPairOf, IsStuckAt, IsStuckFrom, best_of, further, longest_by}
use Rattle.zl_verify.specs.Longest.{longest_from, longest_of}
use Rattle.zl_verify.specs.Longest.{missing, one_if, one_if_none, or_leaf, pair_at, plain, reach, through, through_by, turned, way_by, way_to}
use Rattle.zl_verify.proofs.Places.{below_or_not, get_past, nowhere, set_by, there}
use Rattle.zl_verify.proofs.Walking.{Block, Counted, Goes, IsEdge, Real, block_at, end_at, go_through, less, plain_edges, reach_turned, real_best, real_cut}
use Rattle.zl_verify.proofs.Walking.{real_end, real_flat, real_further, real_leaf, rep_step, short_turned, some_turns}

kept_same : (o : Option Longest) → IsKept o o
kept_same None = tt
kept_same (Some w) = refl

kept_on : (o p q : Option Longest) → IsKept o p → IsKept p q → IsKept o q
kept_on None p q h k = tt
kept_on (Some w) p q h k = rw h at k

module _ (marks : List Mark) (targets : List Targets) (most : ℕ) where
  -- what holds before place p was looked at, in a pass over these pairs
  pub record Passing (old pairs : List (Option Longest)) (p : ℕ) (changed : Bool) : Type 0 where
    pub given : Given marks targets most pairs
    pub long : length pairs ≡ length marks
    pub stuck : changed ≡ false → IsStuckFrom marks targets most pairs p
    pub fewer : missing pairs + one_if changed ≤ missing old

  -- what holds in a pass the other way over these pairs
  pub record PassingOn (old pairs : List (Option Longest)) : Type 0 where
    pub given : Given marks targets most pairs
    pub long : length pairs ≡ length marks
    pub fewer : missing pairs ≤ missing old

  -- what holds between passes
  pub record Going (pairs : List (Option Longest)) (changed : Bool) : Type 0 where
    pub given : Given marks targets most pairs
    pub long : length pairs ≡ length marks
    pub stuck : changed ≡ false → IsStuckFrom marks targets most pairs 0

module _ (marks : List Mark) (targets : List Targets) (most : ℕ) (nested : IsNested marks targets) where
  -- ---- what new pairs say

  -- the pair is real; or where there is none so many steps can be made
  abbrev Says : ℕ → ℕ → Option Longest → Type 0
  Says k n None = (cs : List ℕ) → Counted marks targets n cs → Goes marks targets k (n, cs)
  Says k n (Some w) = Real marks targets n w

  module _ (k : ℕ) (f : ℕ → Option Longest) (says : (m : ℕ) → Says k m (f m)) where
    way_says : (n : ℕ) (o : Option ℕ) → IfSome o (IsEdge marks targets n) → Says (suc k) n (way_to most f o)
    way_says n None edge = real_leaf marks targets n
    way_says n (Some m) edge = by (f m) (says m)
      where
        by : (o : Option Longest) → Says k m o → Says (suc k) n (way_by most o)
        by None h = λ cs c. edge.1 k cs (h cs (rw (edge.0) c))
        by (Some u) h = real_cut marks targets most n (further u) (real_further marks targets n m u edge h)

    plain_says : (n : ℕ) (x : Targets) → IfSome x.jump (IsEdge marks targets n) × IfSome x.next (IsEdge marks targets n) → Says (suc k) n (plain most f x)
    plain_says n x edges = by (way_to most f x.jump) (way_to most f x.next) (way_says n x.jump (edges.0)) (way_says n x.next (edges.1))
      where
        by : (o p : Option Longest) → Says (suc k) n o → Says (suc k) n p → Says (suc k) n (best_of o p)
        by None p a b = a
        by (Some v) None a b = b
        by (Some v) (Some u) a b = real_best marks targets n v u a b

    through_says : (r imm e : ℕ) (x : Targets) → slice_get marks r ≡ Some (mark.Rep imm e) → slice_get targets r ≡ Some x → x.jump ≡ None
        → x.next ≡ Some (r + 1) → Says (suc k) r (through most imm (f (r + 1)) (f (e + 1)))
    through_says r zero e x q t j n = absurd (let l = (nested.block r 0 e q).counted in omega arith)
    through_says r (suc i) e x q t j n = by (f (r + 1)) (says (r + 1))
      where
        b : Block marks targets r (suc i) e
        b = block_at marks targets nested r (suc i) e q

        after : (u : Longest) → Real marks targets (r + 1) u → (s : ℕ) → u.to_end ≡ Some s → (o : Option Longest) → Says k (e + 1) o
            → Says (suc k) r (through_by most (suc i) u.within (Some s) o)
        after u h s z None g = λ cs c. less marks targets (suc k) (suc (turns_left u (suc i) k)) (r, cs) (rw (some_turns u s i k z) (omega arith))
            (go_through marks targets r (suc i) e b u h x t j n cs c k (g cs (rw b.behind c)))
        after u h s z (Some a) g = real_cut marks targets most r (turned (suc i) u.within s a) (record {
          goes = λ cs c o p. rw (reach_turned u a i s o z) (go_through marks targets r (suc i) e b u h x t j n cs c (reach a o)
              (g.goes cs (rw b.behind c) o (subst (λ (rs : List ℕ). FollowBehind marks targets rs cs o) (sym b.behind) p)));
          short = short_turned (suc i) s u.within a g.short;
        })

        first : (u : Longest) → Real marks targets (r + 1) u → (s : Option ℕ) → u.to_end ≡ s → Says (suc k) r (through_by most (suc i) u.within s (f (e + 1)))
        first u h None z = real_flat marks targets r (min (u.within + 1) most) (λ cs c.
            less marks targets (min (u.within + 1) most) (suc u.within) (r, cs) (omega arith)
            (rep_step marks targets r (suc i) e x q t j n u.within cs (h.goes (suc i ∷ cs) (rw b.first (omega arith, omega (arith, b.imm_is), c)) None tt)))
        first u h (Some s) z = after u h s z (f (e + 1)) (says (e + 1))

        by : (o : Option Longest) → Says k (r + 1) o → Says (suc k) r (through most (suc i) o (f (e + 1)))
        by None h = λ cs c. rep_step marks targets r (suc i) e x q t j n k cs (h (suc i ∷ cs) (rw b.first (omega arith, omega (arith, b.imm_is), c)))
        by (Some u) h = first u h u.to_end refl

    says_from : (n : ℕ) (q : Option Mark) (t : Option Targets) → slice_get marks n ≡ q → slice_get targets n ≡ t → Suits marks q n t → n < length marks
        → Says (suc k) n (longest_from most q t f n)
    says_from n None t q s u l = absurd (nowhere marks n q l)
    says_from n (Some m) None q s u l = absurd (nowhere targets n s (omega (arith, nested.long)))
    says_from n (Some mark.Plain) (Some x) q s u l = plain_says n x (plain_edges marks targets n x.jump x.next q (ap places_by s) u)
    says_from n (Some (mark.Rep imm c)) (Some x) q s u l = elim u.1 [
      | inl h ↦ rw h (real_leaf marks targets n)
      | inr h ↦ rw h (through_says n imm c x q s (u.0) h)
    ]
    says_from n (Some (mark.EndRep r)) (Some x) q s u l = elim u [
      | inl h ↦ rw h.1 (real_leaf marks targets n)
      | inr h ↦ rw h.0 (real_end marks targets n r (imm_of marks r) x (end_at marks targets nested n r q) s h)
    ]

    pub says_more : (n : ℕ) → n < length marks → Says (suc k) n (longest_of marks targets most f n)
    says_more n l = says_from n (slice_get marks n) (slice_get targets n) refl refl (nested.suits n) l

  -- ---- one more

  says_given : (k n : ℕ) (o : Option Longest) → IfSome o (Real marks targets n) → (o ≡ None → Says k n None) → Says k n o
  says_given k n None h none = none refl
  says_given k n (Some w) h none = h

  numbered : (pairs : List (Option Longest)) → Given marks targets most pairs → (n : ℕ) (w : Longest) → n < length pairs → n < length marks
      → pair_at pairs n ≡ None → longest_of marks targets most (pair_at pairs) n ≡ Some w → Given marks targets most (slice_set pairs n (Some w))
  numbered pairs g n w h l z e = record {
    same = set_by pairs n (Some w) or_leaf (λ m o. m < length new → IfSome o (IsPairOf marks targets most (pair_at new) m)) h
        (λ i. record { before = pair_at pairs; kept = more; same = e })
        (λ m d i. IfSome_then (pair_at pairs m) (g.same m (omega (arith, length-set pairs n (Some w))))
        (λ u s. record { before = s.before; kept = λ y. kept_on (s.before y) (pair_at pairs y) (pair_at new y) (s.kept y) (more y); same = s.same }));
    real = set_by pairs n (Some w) or_leaf (λ m o. IfSome o (Real marks targets m)) h
        (rw e at (says_more zero (pair_at pairs) (λ y. says_given zero y (pair_at pairs y) (g.real y) (λ q cs c. tt)) n l)) (λ m d. g.real m);
  }
    where
      new : List (Option Longest)
      new = slice_set pairs n (Some w)

      more : (m : ℕ) → IsKept (pair_at pairs m) (pair_at new m)
      more = set_by pairs n (Some w) or_leaf (λ y o. IsKept (pair_at pairs y) o) h (rw z tt) (λ y d. kept_same (pair_at pairs y))

  of_place : (n : ℕ) (x : Targets) (f : ℕ → Option Longest) → n < length marks
      → longest_of marks targets most f n ≡ longest_by most (slice_get marks n) (get_or targets n x) f n
  of_place n x f h = rw (slice_get-get_or targets n x (omega (arith, nested.long))) refl

  -- one place was given a pair
  module _ (pairs : List (Option Longest)) (long : length pairs ≡ length marks) (n : ℕ) (h : n < length marks) (none : is_some (get_or pairs n None) ≡ false)
      (x : Targets) (w : Longest) (q : longest_by most (slice_get marks n) (get_or targets n x) (pair_at pairs) n ≡ Some w) where
    none_there : get_or pairs n None ≡ None
    none_there = by (get_or pairs n None) none
      where
        by : (o : Option Longest) → is_some o ≡ false → o ≡ None
        by None e = refl
        by (Some w) e = cc

    pub given_one : Given marks targets most pairs → Given marks targets most (slice_set pairs n (Some w))
    given_one g =
        numbered pairs g n w (omega (arith, long)) h (ap or_leaf (slice_get-get_or pairs n None (omega (arith, long))) ∙ none_there)
        (of_place n x (pair_at pairs) h ∙ q)

    pub fewer_one : missing (slice_set pairs n (Some w)) + 1 ≤ missing pairs
    unfolding missing
    fewer_one =
        let s = sum_by-set one_if_none pairs n (Some w) None (omega (arith, long)) in
        let o : one_if_none (get_or pairs n None) ≡ 1 = ap one_if_none none_there in omega arith

  -- the place can be given none
  pub stuck_one : (pairs : List (Option Longest)) (n : ℕ) → n < length marks → (x : Targets)
      → longest_by most (slice_get marks n) (get_or targets n x) (pair_at pairs) n ≡ None → IsStuckAt marks targets most pairs n
  stuck_one pairs n h x q z = of_place n x (pair_at pairs) h ∙ q

  -- the place before was given none, and nothing has changed
  pub passed_one : (old pairs : List (Option Longest)) (p : ℕ) (changed : Bool) → Passing marks targets most old pairs p changed → 0 < p
      → IsStuckAt marks targets most pairs (p - 1) → Passing marks targets most old pairs (p - 1) changed
  passed_one old pairs p changed g h k = record {
    given = g.given;
    long = g.long;
    stuck = λ c n i j z. elim (below_or_not n p) [
      | inl b ↦ (let a : p - 1 ≡ n = omega arith in subst (IsStuckAt marks targets most pairs) a k z)
      | inr b ↦ g.stuck c n b j z
    ];
    fewer = g.fewer;
  }

  -- ---- pass after pass

  -- at first nothing is given
  pub going_begins : (count : ℕ) (pairs : List (Option Longest)) → count ≡ length marks → pairs ≡ replicate count None → Going marks targets most pairs true
  going_begins count pairs l e = record {
    given = record { same = λ n h. rw (none n (omega (arith, long))) tt; real = λ n. real n (below_or_not n count) };
    long = long ∙ l;
    stuck = λ c. absurd (cc);
  }
    where
      long : length pairs ≡ count
      long = rw e (length-replicate count None)

      none : (n : ℕ) → n < count → pair_at pairs n ≡ None
      none n h = ap or_leaf (slice_get-get_or pairs n None (omega (arith, long))) ∙ rw e (get_or-replicate count n None None h)

      real : (n : ℕ) → (n < count) ⊎ (count ≤ n) → IfSome (pair_at pairs n) (Real marks targets n)
      real n (inl h) = rw (none n h) tt
      real n (inr h) = rw (get_past pairs n (omega (arith, long))) (real_leaf marks targets n)

  pub ends : (pairs : List (Option Longest)) → Going marks targets most pairs false → AreLongest marks targets most pairs
  ends pairs g = record {
    long = g.long;
    given = g.given;
    endless = λ n e k. subst (λ (o : Option Longest). Says k n o) e (all_say k n);
  }
    where
      -- where no pair is, that is in the list
      free : (n : ℕ) → pair_at pairs n ≡ None → (n < length pairs) × (at pairs n ≡ None)
      free n = by (slice_get pairs n) refl
        where
          by : (o : Option (Option Longest)) → slice_get pairs n ≡ o → or_leaf o ≡ None → (n < length pairs) × (within o ≡ None)
          by None q z = cc
          by (Some o) q z = (there pairs n o q, z)

      all_say : (k n : ℕ) → Says k n (pair_at pairs n)
      all_say zero n = says_given zero n (pair_at pairs n) (g.given.real n) (λ q cs c. tt)
      all_say (suc k) n =
          says_given (suc k) n (pair_at pairs n) (g.given.real n)
          (λ z. (let i = free n z in subst (λ (o : Option Longest). Says (suc k) n o) (g.stuck refl n (omega arith) i.0 i.1)
          (says_more k (pair_at pairs) (all_say k) n (omega (arith, g.long, i.0)))))
