-- The numbers of places with counters fall along the edges.
use Rattle.zl_verify.proofs.Common.{AllBelow, AllByRecursion, AreCounters, IfSome, IsNested, List, Longest, Mark, None, Option, Some, Spot, Suits, Targets, []}
use Rattle.zl_verify.proofs.Common.{ap, arith, blocks_at, end_of, head_of, imm_of, inl, inr, length, max, min, option_to_list, or_most, refl, slice_get, spots}
use Rattle.zl_verify.proofs.Common.{spots_from, suc, turns_left, zero, ℕ, ◌++◌, ◌+◌, ◌-◌, ◌<◌, ◌∙◌, ◌∷◌, ◌≡◌, ◌≤◌}
use Rattle.zl_code.specs.declared.blocks.Mark.TheVariants as mark
use Rattle.zl_verify.specs.Longest.{AreLongest, IsKept, IsPairOf, at_end, best, best_of, cut, further, longest_from, pair_at, past, reach, reach_by, through}
use Rattle.zl_verify.specs.Longest.{through_by, turned, way_by, way_to}
use Rattle.zl_verify.specs.Peaks.{end_by, in_block, number, pair_in}
use Rattle.zl_verify.proofs.Places.{below_or_not, get_past, nowhere}
use Rattle.zl_verify.proofs.Walking.{Block, Real, block_at, end_at, end_leads, less_one, no_turns, reach_best, reach_further, reach_turned, reach_uncut}
use Rattle.zl_verify.proofs.Walking.{short_further, short_turned, turns_more}

-- from w more steps are reached than from u, whatever is behind the endrep
abbrev IsHigher : Longest → Longest → Type 0
IsHigher w u = (o : Option ℕ) → reach u o < reach w o

within_reach : (w : Longest) (o : Option ℕ) → w.within ≤ reach w o
within_reach w None = omega arith
within_reach w (Some x) = by w.to_end
  where
    by : (o : Option ℕ) → w.within ≤ reach_by w.within o x
    by None = omega arith
    by (Some t) = omega arith

module _ (marks : List Mark) (targets : List Targets) (most : ℕ) (pairs : List (Option Longest)) where
  abbrev pub W : ℕ → Longest
  W n = pair_in most pairs n

  abbrev pub Number : List ℕ → ℕ → ℕ
  Number cs n = number marks (pair_in most pairs) cs n

  -- the steps behind the endrep of the innermost of these blocks
  abbrev pub behind_end : List ℕ → List ℕ → Option ℕ
  behind_end rs [] = None
  behind_end [] (c ∷ cs) = None
  behind_end (r ∷ rs) (c ∷ cs) = Some (turns_left (W (r + 1)) (c - 1) (Number cs (end_of marks r + 1)))

  abbrev Behind : ℕ → List ℕ → Option ℕ
  Behind n cs = behind_end (blocks_at marks n) cs

  pub number_is : (cs : List ℕ) (n : ℕ) → Number cs n ≡ reach (W n) (behind_end (blocks_at marks n) cs)
  unfolding number
  number_is [] n = refl
  number_is (c ∷ cs) n = by (blocks_at marks n)
    where
      by : (rs : List ℕ) → in_block (pair_in most pairs) (head_of rs) n c (Number cs (end_by marks (head_of rs) + 1)) ≡ reach (W n) (behind_end rs (c ∷ cs))
      by [] = refl
      by (r ∷ rs) = refl

  -- ---- where a spot leads, numbers are smaller

  abbrev pub AllFall : ℕ → List Spot → Type 0
  AllFall k ps = AllBelow (λ n cs. Number cs n) k ps

  module _ (nested : IsNested marks targets) (are : AreLongest marks targets most pairs) where
    -- ---- edges within a block

    higher_way : (m : ℕ) (u : Longest) → Real marks targets m u → (cut most (further u)).within < most → IsHigher (cut most (further u)) u
    higher_way m u r h o = rw (reach_uncut most (further u) (short_further u.within u.to_end r.short) h o, reach_further u o) (omega arith)

    abbrev Lower : Longest → ℕ → Type 0
    Lower v m = v.within < most → IsHigher v (W m)

    higher_to : (f : ℕ → Option Longest) → ((m : ℕ) → IsKept (f m) (pair_at pairs m)) → (j : Option ℕ) → IfSome (way_to most f j) (λ v. IfSome j (Lower v))
    higher_to f kept None = tt
    higher_to f kept (Some m) = by (f m) (kept m) (are.given.real m)
      where
        by : (o : Option Longest) → IsKept o (pair_at pairs m) → IfSome (pair_at pairs m) (Real marks targets m) → IfSome (way_by most o) (λ v. Lower v m)
        by None k r = tt
        by (Some u) k r = λ h. rw k (higher_way m u (rw k at r) h)

    module _ (n : ℕ) (cs : List ℕ) (c : AreCounters marks (blocks_at marks n) cs) where
      -- the pair falls along these edges
      abbrev Low : List Spot → Longest → Type 0
      Low ps w = w.within < most → AllFall (reach w (Behind n cs)) ps

      in_block_too : (m : ℕ) → blocks_at marks m ≡ blocks_at marks n → (w v u : Longest) → IsHigher w (W m)
          → reach w (Behind n cs) ≤ max (reach v (Behind n cs)) (reach u (Behind n cs)) → Number cs m < reach (best v u) (Behind n cs)
      in_block_too m e w v u h l = rw (number_is cs m, e, reach_best v u (Behind n cs)) (let k = h (Behind n cs) in omega arith)

      best_low : (j o : Option ℕ) → AllByRecursion (λ m. blocks_at marks m ≡ blocks_at marks n) (option_to_list j ++ option_to_list o)
          → (p q : Option Longest) → IfSome p (λ v. IfSome j (Lower v)) → IfSome q (λ u. IfSome o (Lower u))
          → IfSome (best_of p q) (Low (spots (Some mark.Plain) n cs (option_to_list j ++ option_to_list o)))
      best_low j o a None q f g = tt
      best_low j o a (Some v) None f g = tt
      best_low None None a (Some v) (Some u) f g = λ h. tt
      best_low None (Some m) a (Some v) (Some u) f g = λ h. (in_block_too m a.0 u v u (g (omega arith)) (omega arith), tt)
      best_low (Some i) None a (Some v) (Some u) f g = λ h. (in_block_too i a.0 v v u (f (omega arith)) (omega arith), tt)
      best_low (Some i) (Some m) a (Some v) (Some u) f g = λ h. (
        in_block_too i a.0 v v u (f (omega arith)) (omega arith),
        (in_block_too m a.1.0 u v u (g (omega arith)) (omega arith), tt),
      )

      -- ---- through a block

      first_number : (imm e : ℕ) → Block marks targets n imm e → Number (imm ∷ cs) (n + 1) ≡ turns_left (W (n + 1)) imm (Number cs (e + 1))
      first_number zero e b = absurd (omega (arith, b.counted))
      first_number (suc i) e b = number_is (suc i ∷ cs) (n + 1) ∙ rw (b.first, b.end_is, less_one i) (turns_more (W (n + 1)) i (Number cs (e + 1)))

      through_low : (f : ℕ → Option Longest) → ((m : ℕ) → IsKept (f m) (pair_at pairs m)) → (imm e : ℕ) → Block marks targets n imm e
          → IfSome (through most imm (f (n + 1)) (f (e + 1))) (Low ((n + 1, imm ∷ cs) ∷ []))
      through_low f kept zero e b = absurd (omega (arith, b.counted))
      through_low f kept (suc i) e b = by (f (n + 1)) (kept (n + 1))
        where
          y : ℕ
          y = Number cs (e + 1)

          enters : (w : Longest) → turns_left (W (n + 1)) (suc i) y < reach w (Behind n cs) → AllFall (reach w (Behind n cs)) ((n + 1, suc i ∷ cs) ∷ [])
          enters w h = (rw (first_number (suc i) e b) h, tt)

          after : (u : Longest) → W (n + 1) ≡ u → (t : ℕ) → u.to_end ≡ Some t → (o : Option Longest) → IsKept o (pair_at pairs (e + 1))
              → IfSome (through_by most (suc i) u.within (Some t) o) (Low ((n + 1, suc i ∷ cs) ∷ []))
          after u g t q None z = tt
          after u g t q (Some a) z = λ h.
              let y_is : y ≡ reach a (Behind n cs) = number_is cs (e + 1) ∙ rw (z, b.behind) refl in
              let r : Real marks targets (e + 1) a = rw z at (are.given.real (e + 1)) in
              enters (cut most (turned (suc i) u.within t a))
              (rw (
                reach_uncut most (turned (suc i) u.within t a) (short_turned (suc i) t u.within a r.short) h (Behind n cs),
                reach_turned u a i t (Behind n cs) q,
              )
              (rw (g, y_is) (omega arith)))

          first : (u : Longest) → W (n + 1) ≡ u → (s : Option ℕ) → u.to_end ≡ s
              → IfSome (through_by most (suc i) u.within s (f (e + 1))) (Low ((n + 1, suc i ∷ cs) ∷ []))
          first u g None q = λ h.
              let w : Longest = record { within = min (u.within + 1) most; to_end = None } in
              let l : turns_left (W (n + 1)) (suc i) y ≡ u.within = rw g (no_turns u i y q) in
              let k : w.within ≤ reach w (Behind n cs) = within_reach w (Behind n cs) in
              enters w (omega arith)
          first u g (Some t) q = after u g t q (f (e + 1)) (kept (e + 1))

          by : (o : Option Longest) → IsKept o (pair_at pairs (n + 1)) → IfSome (through most (suc i) o (f (e + 1))) (Low ((n + 1, suc i ∷ cs) ∷ []))
          by None z = tt
          by (Some u) z = first u (ap (or_most most) z) u.to_end refl

      -- ---- around and out of a block

      past_low : (r imm : ℕ) → Block marks targets r imm n → (cs : List ℕ) → AreCounters marks (r ∷ blocks_at marks r) cs
          → AllFall (reach at_end (behind_end (r ∷ blocks_at marks r) cs)) (past marks (r ∷ blocks_at marks r) cs ∷ [])
      past_low r imm b [] c = absurd c
      past_low r imm b (zero ∷ cs) c = absurd (omega (arith, c.0))
      past_low r imm b (suc zero ∷ cs) c = (omega arith, tt)
      past_low r imm b (suc (suc i) ∷ cs) c =
          let m : Number (suc i ∷ cs) (r + 1) ≡ turns_left (W (r + 1)) (suc i) (Number cs (end_of marks r + 1)) =
          number_is (suc i ∷ cs) (r + 1) ∙ rw (b.first, less_one i) (turns_more (W (r + 1)) i (Number cs (end_of marks r + 1))) in
          (rw (m, less_one (suc i)) (omega arith), tt)

      -- ---- from each instruction

      low_from : (f : ℕ → Option Longest) → ((m : ℕ) → IsKept (f m) (pair_at pairs m)) → (k : Option Mark) (t : Option Targets) → slice_get marks n ≡ k
          → slice_get targets n ≡ t → Suits marks k n t → n < length marks
          → IfSome (longest_from most k t f n) (Low (spots_from marks targets (n, cs)))
      low_from f kept k None q t s l = tt
      low_from f kept None (Some x) q t s l = absurd (nowhere marks n q l)
      low_from f kept (Some mark.Plain) (Some x) q t s l =
          rw (q, t) (best_low x.jump x.next s (way_to most f x.jump) (way_to most f x.next) (higher_to f kept x.jump) (higher_to f kept x.next))
      low_from f kept (Some (mark.Rep imm e)) (Some x) q t s l = elim s.1 [
        | inl h ↦ rw (q, t, s.0, h) (λ k. tt)
        | inr h ↦ rw (q, t, s.0, h) (through_low f kept imm e (block_at marks targets nested n imm e q))
      ]
      low_from f kept (Some (mark.EndRep r)) (Some x) q t s l = elim s [
        | inl h ↦ rw (q, t, h.0, h.1) (λ k. tt)
        | inr h ↦ (let b = end_at marks targets nested n r q in let d : AreCounters marks (r ∷ blocks_at marks r) cs = rw b.last at c in
            rw (h.0, end_leads marks targets n r (imm_of marks r) x b t h cs d) (λ k. rw b.last (past_low r (imm_of marks r) b cs d)))
      ]

      falls_by : (o : Option Longest) → n < length marks → IfSome o (IsPairOf marks targets most (pair_at pairs) n)
          → reach (or_most most o) (Behind n cs) < most → AllFall (reach (or_most most o) (Behind n cs)) (spots_from marks targets (n, cs))
      falls_by None l k h = absurd (let m = within_reach (or_most most None) (Behind n cs) in omega arith)
      falls_by (Some w) l k h =
          (rw k.same at (low_from k.before k.kept (slice_get marks n) (slice_get targets n) refl refl (nested.suits n) l))
          (let m = within_reach w (Behind n cs) in omega arith)

      pub falls : Number cs n < most → AllFall (Number cs n) (spots_from marks targets (n, cs))
      falls h = elim (below_or_not n (length pairs)) [
        | inl l ↦ rw (number_is cs n) (falls_by (pair_at pairs n) (omega (arith, are.long)) (are.given.same n l) (rw (number_is cs n) at h))
        | inr l ↦ rw (get_past targets n (omega (arith, nested.long, are.long))) tt
      ]
