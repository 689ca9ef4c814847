-- The largest number of each place, whatever its counters are: it is one of them, and none is larger.
use Rattle.zl_verify.proofs.Common.{AreCounters, AreHomes, ArePeaks, Bool, IfSome, IsBoundOf, IsNested, IsUnbounded, List, Longest, Mark, None, Option, Some}
use Rattle.zl_verify.proofs.Common.{Targets, [], ap, arith, at, blocks_at, cond, end_of, false, get_or, get_or-set_other, get_or-set_same, head_of, imm_of, inl}
use Rattle.zl_verify.proofs.Common.{inr, length, length-map, length-replicate, length-set, lengths, map, max, min, mul-le-mul_right, nat_le, nat_lt, nat_tests}
use Rattle.zl_verify.proofs.Common.{not, or_most, position, position_or_len, refl, replicate, slice_get, slice_get-get_or, slice_set, subst, suc, sym, true}
use Rattle.zl_verify.proofs.Common.{turns_left, zero, ℕ, ◌+◌, ◌-◌, ◌<◌, ◌∙◌, ◌∷◌, ◌≡◌, ◌≢◌, ◌≤◌}
use Rattle.zl_code.specs.declared.blocks.Mark.TheVariants as mark
use Rattle.zl_verify.specs.declared.peaks.Unbounded.TheVariants as unbounded
use Rattle.std.proofs.lemmas.List.{get_or-map, get_or-replicate, get_or_past}
use Rattle.std.proofs.lemmas.List.Recursion.{is_position_or_len}
use Rattle.std.proofs.lemmas.List.Quantifiers.{position-Some}
use Rattle.std.proofs.lemmas.List.Sums.{fails_before_first}
use Rattle.zl_verify.specs.Lists.{within}
use Rattle.zl_verify.specs.Longest.{AreLongest, leaf, or_leaf, pair_at, reach, reach_by}
use Rattle.zl_verify.specs.Peaks.{IsPeak, Reaches, home_behind, number, pair_in}
use Rattle.zl_verify.specs.Peaks.{peak_by, peak_home}
use Rattle.zl_verify.proofs.Places.{below_or_not, equal_or_not, get_past, set_by}
use Rattle.zl_verify.proofs.Walking.{AllOpen, Block, Real, are_full, block_at, blocks_next, bounded, end_at, full, less, less_one, no_turns, opens, real_flat}
use Rattle.zl_verify.proofs.Walking.{some_turns, turns}
use Rattle.zl_verify.proofs.Falling.{behind_end, falls, number_is}

-- where no place is found, the test fails at each
no_position : {X : Type 0} (p : X → Bool) (xs : List X) (n : ℕ) (d : X) → position p xs ≡ None → n < length xs → p (get_or xs n d) ≡ false
no_position p xs n d e h = fails_before_first p xs n d (let k = past_all (nat_lt (position_or_len p xs) (length xs)) refl in omega arith)
  where
    past_all : (b : Bool) → nat_lt (position_or_len p xs) (length xs) ≡ b → length xs ≤ position_or_len p xs
    past_all true q = let found : position p xs ≡ Some (position_or_len p xs) = rw q refl in let z : None ≡ Some (position_or_len p xs) = sym e ∙ found in cc
    past_all false q = grind (arith, nat_tests)

-- the first place is that of what is read of each
pub position_read : {X : Type 0} (f : X → ℕ) (p : ℕ → Bool) (xs : List X) → position (λ x. p (f x)) xs ≡ position p (map f xs)
position_read f p xs =
    rw (
      length-map xs f,
      is_position_or_len (λ ys. position_or_len p (map f ys)) (λ x. p (f x)) refl
          (λ x ys. turned_round (p (f x)) (position_or_len p (map f ys))) xs,
    ) refl
  where
    turned_round : (b : Bool) (n : ℕ) → cond (not b) (1 + n) 0 ≡ cond b 0 (1 + n)
    turned_round true n = refl
    turned_round false n = refl

-- ---- what holds of each place of a list, where one was written

set_each : {X : Type 0} (xs : List X) (p : ℕ) (v d : X) (P : ℕ → X → Type 0) → p < length xs → P p v → ((n : ℕ) → p ≢ n → P n (get_or xs n d)) → (n : ℕ)
    → P n (get_or (slice_set xs p v) n d)
set_each xs p v d P h this others n = elim (equal_or_not p n) [
  | inl e ↦ subst (λ m. P m (get_or (slice_set xs p v) m d)) e (rw (get_or-set_same xs p v d h) this)
  | inr e ↦ rw (get_or-set_other xs p n v d (λ z. e (sym z))) (others n e)
]

-- ---- the innermost block of each place

module _ (marks : List Mark) (targets : List Targets) (nested : IsNested marks targets) where
  home_is : (homes : List (Option ℕ)) (n : ℕ) (k : Option Mark) → slice_get marks n ≡ k → ((m : ℕ) → m ≤ n → at homes m ≡ head_of (blocks_at marks m))
      → home_behind k n (at homes) ≡ head_of (blocks_at marks (n + 1))
  home_is homes n None q h = h n (omega arith) ∙ rw (blocks_next marks n, q) refl
  home_is homes n (Some mark.Plain) q h = h n (omega arith) ∙ rw (blocks_next marks n, q) refl
  home_is homes n (Some (mark.Rep imm e)) q h = rw (blocks_next marks n, q) refl
  home_is homes n (Some (mark.EndRep r)) q h =
      let b = end_at marks targets nested n r q in
      h r (let l = b.before in omega arith) ∙ rw (blocks_next marks n, q, b.last) refl

  pub no_home : (homes : List (Option ℕ)) (count : ℕ) → count ≡ length marks → homes ≡ replicate count None → AreHomes marks homes 1
  unfolding blocks_at
  no_home homes count l e = record { long = long ∙ l; home = λ n h. (let z : n ≡ 0 = omega arith in rw z none) }
    where
      long : length homes ≡ count
      long = rw e (length-replicate count None)

      none : at homes 0 ≡ None
      none = elim (below_or_not 0 (length homes)) [
        | inl h ↦ ap within (slice_get-get_or homes 0 None h) ∙ rw e (get_or-replicate count 0 None None (omega (arith, long)))
        | inr h ↦ ap within (get_past homes 0 h)
      ]

  pub homes_more : (homes : List (Option ℕ)) (p : ℕ) → AreHomes marks homes p → 0 < p → p < length marks
      → AreHomes marks (slice_set homes p (home_behind (slice_get marks (p - 1)) (p - 1) (at homes))) (p + 1)
  homes_more homes p a h l = record {
    long = length-set homes p _ ∙ a.long;
    home = set_by homes p _ within (λ n o. n < p + 1 → o ≡ head_of (blocks_at marks n)) (omega (arith, a.long))
        (λ k. (let z : p - 1 + 1 ≡ p = omega arith in
        home_is homes (p - 1) (slice_get marks (p - 1)) refl (λ m i. a.home m (omega arith)) ∙ ap (λ (n : ℕ). head_of (blocks_at marks n)) z))
        (λ n d k. a.home n (omega arith));
  }

  pub homes_end : (homes : List (Option ℕ)) (p q : ℕ) → AreHomes marks homes p → q ≤ p → AreHomes marks homes q
  homes_end homes p q a h = record { long = a.long; home = λ n k. a.home n (omega arith) }

-- ---- turns

-- the most are made with the fewest turns left or with all
either_end : (f : Longest) (c imm y z most : ℕ) → 0 < c → c ≤ imm → min z most ≤ y → min (turns_left f (c - 1) z) most ≤ max y (turns_left f (imm - 1) y)
either_end f zero imm y z most h l m = absurd (omega arith)
either_end f (suc zero) imm y z most h l m = omega arith
either_end f (suc (suc a)) zero y z most h l m = absurd (omega arith)
either_end f (suc (suc a)) (suc zero) y z most h l m = absurd (omega arith)
either_end f (suc (suc a)) (suc (suc b)) y z most h l m = rw (less_one (suc a), less_one (suc b)) (by f.to_end refl)
  where
    by : (o : Option ℕ) → f.to_end ≡ o → min (turns_left f (suc a) z) most ≤ max y (turns_left f (suc b) y)
    by None e = rw (no_turns f a z e, no_turns f b y e) (omega arith)
    by (Some t) e = rw (some_turns f t a z e, some_turns f t b y e) (let i : a ≤ b = omega arith in let k = mul-le-mul_right (t + 1) i in omega arith)

peak_upper : (w f : Longest) (o : Option ℕ) (c imm y z most : ℕ) → 0 < c → c ≤ imm → min z most ≤ y
    → min (reach_by w.within o (turns_left f (c - 1) z)) most ≤ min (peak_by w f o imm y) most
peak_upper w f None c imm y z most h l m = omega arith
peak_upper w f (Some t) c imm y z most h l m = by (turns_left f (c - 1) z) (turns_left f (imm - 1) y) (either_end f c imm y z most h l m)
  where
    by : (p q : ℕ) → min p most ≤ max y q → min (max w.within (t + 1 + p)) most ≤ min (max w.within (t + 1 + max y q)) most
    by p q h = omega arith

module _ (marks : List Mark) (targets : List Targets) (most : ℕ) (pairs : List (Option Longest)) (nested : IsNested marks targets)
    (are : AreLongest marks targets most pairs) where
  abbrev V : ℕ → Longest
  V n = pair_in most pairs n

  abbrev N : List ℕ → ℕ → ℕ
  N cs n = number marks (pair_in most pairs) cs n

  -- ---- none is larger

  upper_in : (peaks : List ℕ) (n : ℕ) → ArePeaks marks targets most pairs peaks (n + 1) → (rs : List ℕ) → AllOpen marks n rs → (cs : List ℕ)
      → AreCounters marks rs cs
      → min (reach (V n) (behind_end marks targets most pairs rs cs)) most ≤ peak_home marks (pair_in most pairs) peaks most n (head_of rs)
  upper_in peaks n p [] o [] c = omega arith
  upper_in peaks n p [] o (i ∷ cs) c = absurd c
  upper_in peaks n p (r ∷ rs) o [] c = absurd c
  upper_in peaks n p (r ∷ rs) o (i ∷ cs) c =
      let b = block_at marks targets nested r (imm_of marks r) (end_of marks r) o.0.rep in
      let h = p.peak (end_of marks r + 1) (let l = o.0.until in omega arith) in
      rw o.0.rep (peak_upper (V n) (V (r + 1)) (V n).to_end i (imm_of marks r) (get_or peaks (end_of marks r + 1) 0) (N cs (end_of marks r + 1)) most c.0 c.1
      (h.upper cs (rw (o.0.around, sym b.behind) at c.2)))

  -- ---- it is reached

  real_pair : (n : ℕ) → Real marks targets n (V n)
  real_pair n = by (pair_at pairs n) refl (are.given.real n)
    where
      by : (o : Option Longest) → pair_at pairs n ≡ o → IfSome o (Real marks targets n) → Real marks targets n (or_most most o)
      by None e r = real_flat marks targets n most (λ cs c. are.endless n e most cs c)
      by (Some w) e r = r

  reached_full : (n k : ℕ) → k ≤ (V n).within → Reaches marks targets k n
  reached_full n k h = (let c = are_full marks targets nested n in record {
    counters = full marks targets nested (blocks_at marks n);
    are = c;
    follow = less marks targets k (V n).within (n, full marks targets nested (blocks_at marks n)) h
        ((real_pair n).goes (full marks targets nested (blocks_at marks n)) c None tt);
  })

  module _ (n r : ℕ) (peaks : List ℕ) (e : blocks_at marks n ≡ r ∷ blocks_at marks r) (b : Block marks targets r (imm_of marks r) (end_of marks r))
      (h : Reaches marks targets (get_or peaks (end_of marks r + 1) 0) (end_of marks r + 1)) where
    abbrev Y : ℕ
    Y = get_or peaks (end_of marks r + 1) 0

    counted : AreCounters marks (blocks_at marks r) h.counters
    counted = rw b.behind at h.are

    -- with this many turns left
    with_turns : (t : ℕ) → (V n).to_end ≡ Some t → (c : ℕ) → suc c ≤ imm_of marks r → (k : ℕ) → k ≤ t + 1 + turns_left (V (r + 1)) c Y
        → Reaches marks targets k n
    with_turns t q c high k l = record {
      counters = suc c ∷ h.counters;
      are = rw e (omega arith, high, counted);
      follow = less marks targets k (reach (V n) (Some (turns_left (V (r + 1)) c Y))) (n, suc c ∷ h.counters) (rw q (omega arith))
          ((real_pair n).goes (suc c ∷ h.counters) (rw e (omega arith, high, counted)) (Some (turns_left (V (r + 1)) c Y))
          (rw e (turns marks targets r (imm_of marks r) (end_of marks r) b (V (r + 1)) (real_pair (r + 1)) h.counters counted Y h.follow c (omega arith))));
    }

    at_either : (t : ℕ) → (V n).to_end ≡ Some t → (imm : ℕ) → imm_of marks r ≡ imm → (k : ℕ) → k ≤ t + 1 + max Y (turns_left (V (r + 1)) (imm - 1) Y)
        → Reaches marks targets k n
    at_either t q zero i k l = absurd (omega (arith, b.counted))
    at_either t q (suc c) i k l = elim (below_or_not (t + 1 + Y) k) [
      | inl m ↦ with_turns t q c (omega (arith, i)) k (let z = rw (less_one c) at l in omega arith)
      | inr m ↦ with_turns t q 0 (omega (arith, i)) k m
    ]

    peak_real : (o : Option ℕ) → (V n).to_end ≡ o → (k : ℕ) → k ≤ peak_by (V n) (V (r + 1)) o (imm_of marks r) Y → Reaches marks targets k n
    peak_real None q k l = reached_full n k l
    peak_real (Some t) q k l = elim (below_or_not (V n).within k) [ inl m ↦ at_either t q (imm_of marks r) refl k (omega arith) | inr m ↦ reached_full n k m ]

  real_in : (peaks : List ℕ) (n : ℕ) → ArePeaks marks targets most pairs peaks (n + 1) → (rs : List ℕ) → blocks_at marks n ≡ rs → AllOpen marks n rs
      → Reaches marks targets (peak_home marks (pair_in most pairs) peaks most n (head_of rs)) n
  real_in peaks n p [] e o = reached_full n (V n).within (omega arith)
  real_in peaks n p (r ∷ rs) e o =
      let b = block_at marks targets nested r (imm_of marks r) (end_of marks r) o.0.rep in
      rw o.0.rep (peak_real n r peaks (e ∙ ap (λ (xs : List ℕ). r ∷ xs) o.0.around) b
      (p.peak (end_of marks r + 1) (let l = o.0.until in omega arith)).real (V n).to_end refl
      (min (peak_by (V n) (V (r + 1)) (V n).to_end (imm_of marks r) (get_or peaks (end_of marks r + 1) 0)) most) (omega arith))

  -- ---- place by place

  pub peaks_begin : (peaks : List ℕ) (p : ℕ) → length peaks ≡ length marks → length marks ≤ p → ArePeaks marks targets most pairs peaks p
  peaks_begin peaks p l e = record {
    long = l;
    peak = λ n h. rw (get_or_past peaks n 0 (omega arith)) (record {
      upper = λ cs c. rw (number_is marks targets most pairs cs n, get_past pairs n (omega (arith, are.long)))
          (by (behind_end marks targets most pairs (blocks_at marks n) cs));
      real = reached_full n 0 (omega arith);
    });
  }
    where
      by : (o : Option ℕ) → min (reach leaf o) most ≤ 0
      by None = omega arith
      by (Some x) = omega arith

  pub peaks_more : (homes : List (Option ℕ)) (peaks : List ℕ) (p size : ℕ) → ArePeaks marks targets most pairs peaks p → 0 < p → p ≤ length marks → p ≤ size
      → AreHomes marks homes size
      → ArePeaks marks targets most pairs (slice_set peaks (p - 1) (peak_home marks (pair_in most pairs) peaks most (p - 1) (at homes (p - 1)))) (p - 1)
  peaks_more homes peaks p size a h l m homed = record {
    long = length-set peaks (p - 1) _ ∙ a.long;
    peak = set_each peaks (p - 1) _ 0 (λ n k. p - 1 ≤ n → IsPeak marks targets most pairs n k) (omega (arith, a.long))
        (λ i. rw (homed.home (p - 1) (omega arith)) (record {
          upper = λ cs c. rw (number_is marks targets most pairs cs (p - 1))
              (upper_in peaks (p - 1) on (blocks_at marks (p - 1)) (opens marks targets nested (p - 1)) cs c);
          real = real_in peaks (p - 1) on (blocks_at marks (p - 1)) refl (opens marks targets nested (p - 1));
        }))
        (λ n d i. a.peak n (omega arith));
  }
    where
      on : ArePeaks marks targets most pairs peaks (p - 1 + 1)
      on = let z : p ≡ p - 1 + 1 = omega arith in subst (λ (n : ℕ). ArePeaks marks targets most pairs peaks n) z a

  -- in a program without blocks they are the most steps within none
  pub flat_peaks : ((n : ℕ) → blocks_at marks n ≡ []) → ArePeaks marks targets most pairs (lengths most pairs) 0
  flat_peaks flat = record {
    long = length-map pairs (λ o. (or_most most o).within) ∙ are.long;
    peak = λ n h. rw (length_at n) (record {
      upper = λ cs c. rw (number_is marks targets most pairs cs n)
          (upper_flat n (blocks_at marks n) (flat n) cs c);
      real = reached_full n (V n).within (omega arith);
    });
  }
    where
      upper_flat : (n : ℕ) (rs : List ℕ) → rs ≡ [] → (cs : List ℕ) → AreCounters marks rs cs
          → min (reach (V n) (behind_end marks targets most pairs rs cs)) most ≤ (V n).within
      upper_flat n [] e [] c = omega arith
      upper_flat n [] e (i ∷ cs) c = absurd c
      upper_flat n (r ∷ rs) e cs c = absurd (cc)

      here : (n : ℕ) → n < length pairs → get_or pairs n None ≡ pair_at pairs n
      here n h = ap or_leaf (sym (slice_get-get_or pairs n None h))

      length_at : (n : ℕ) → get_or (lengths most pairs) n 0 ≡ (V n).within
      length_at n = elim (below_or_not n (length pairs)) [
        | inl h ↦ get_or-map (λ o. (or_most most o).within) pairs n None 0 h ∙ ap (λ o. (or_most most o).within) (here n h)
        | inr h ↦ get_or_past (lengths most pairs) n 0 (omega (arith, length-map pairs (λ o. (or_most most o).within)))
            ∙ ap (λ (o : Option (Option Longest)). (or_most most (or_leaf o)).within) (sym (get_past pairs n h))
      ]

  -- ---- what is over, and what isn't

  module _ (budget : ℕ) (is_most : most ≡ budget + 1) (peaks : List ℕ) (are_peaks : ArePeaks marks targets most pairs peaks 0) where
    -- where the test fails, all numbers are below most
    under : (n : ℕ) → nat_le most (get_or peaks n 0) ≡ false → (cs : List ℕ) → AreCounters marks (blocks_at marks n) cs → N cs n < most
    under n k cs c = let u = (are_peaks.peak n (omega arith)).upper cs c in let l = below (get_or peaks n 0) k in omega arith
      where
        below : (k : ℕ) → nat_le most k ≡ false → k < most
        below k h = grind (arith, nat_tests)

    -- where no place is found, the numbers are a bound
    pub is_bound : position (nat_le most) peaks ≡ None → IsBoundOf marks targets budget (λ n cs. N cs n)
    is_bound e = record {
      within = λ n cs h c. (let u = every n h cs c in omega arith);
      falls = λ n cs c. elim (below_or_not n (length marks)) [
        | inl h ↦ falls marks targets most pairs nested are n cs c (every n h cs c)
        | inr h ↦ rw (get_past targets n (omega (arith, nested.long))) tt
      ];
    }
      where
        every : (n : ℕ) → n < length marks → (cs : List ℕ) → AreCounters marks (blocks_at marks n) cs → N cs n < most
        every n h cs c = under n (no_position (nat_le most) peaks n 0 e (omega (arith, are_peaks.long))) cs c

    pub first_over : (n : ℕ) → position (nat_le most) peaks ≡ Some n → IsUnbounded marks targets budget (unbounded.Over n)
    first_over n e = (let f = position-Some (nat_le most) peaks n 0 e in (
      over f.1,
      λ m h o. (let u = under m (f.2 m h) o.counters o.are in
          let b = bounded marks targets nested (λ n cs. N cs n) most (λ n cs c h. falls marks targets most pairs nested are n cs c h)
          (suc budget) m o.counters o.are u o.follow in omega arith),
    ))
      where
        at_least : (k : ℕ) → nat_le most k ≡ true → most ≤ k
        at_least k h = grind (arith, nat_tests)

        over : nat_le most (get_or peaks n 0) ≡ true → Reaches marks targets (suc budget) n
        over k = (let f = (are_peaks.peak n (omega arith)).real in let l = at_least (get_or peaks n 0) k in
            record { counters = f.counters; are = f.are; follow = less marks targets (suc budget) (get_or peaks n 0) (n, f.counters) (omega arith) f.follow })
