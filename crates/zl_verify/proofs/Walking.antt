-- Steps one after another through counted blocks.
use Rattle.zl_verify.proofs.Common.{AllBelow, AllByRecursion, AreCounters, Follow, IfSome, IsNested, List, Longest, Mark, None, OneOf, Option, Some, Spot}
use Rattle.zl_verify.proofs.Common.{Suits, Targets, [], ap, arith, blocks_at, end_of, eqb, false, imm_of, inl, inr, map, max, min, nat_tests, option_map}
use Rattle.zl_verify.proofs.Common.{option_to_list, places, places_at, refl, slice_get, spots, spots_from, subst, suc, sym, true, turns_left, zero, ℕ, ◌*◌}
use Rattle.zl_verify.proofs.Common.{◌++◌, ◌+◌, ◌-◌, ◌<◌, ◌∙◌, ◌∷◌, ◌≡◌, ◌≤◌, ◌⊎◌}
use Rattle.zl_code.specs.declared.blocks.Mark.TheVariants as mark
use Rattle.zl_code.specs.Blocks.{IsBlock, end_in, imm_in, opened}
use Rattle.zl_verify.specs.Longest.{FollowBehind, IsReal, IsShort, at_end, best, cut, further, larger, leaf, past, reach, reach_by, turned}
use Rattle.zl_verify.specs.Steps.{counters_at, spot_at}
use Rattle.zl_verify.proofs.Places.{equal_or_not}

pub one_too : (P Q : Spot → Type 0) → ((p : Spot) → P p → Q p) → (ps : List Spot) → OneOf P ps → OneOf Q ps
one_too P Q f [] h = h
one_too P Q f (p ∷ ps) h = elim h [ inl a ↦ inl (f p a) | inr r ↦ inr (one_too P Q f ps r) ]

pub fewer : (to : Spot → List Spot) (k j : ℕ) (p : Spot) → k ≤ j → Follow to j p → Follow to k p
fewer to zero j p h f = tt
fewer to (suc k) zero p h f = absurd (omega arith)
fewer to (suc k) (suc j) p h f = one_too (λ q. Follow to j q) (λ q. Follow to k q) (λ q g. fewer to k j q (omega arith) g) (to p) f

pub greater : (a b : ℕ) → (max a b ≡ a) ⊎ (max a b ≡ b)
greater zero b = inr (omega arith)
greater (suc a) zero = inl (omega arith)
greater (suc a) (suc b) = elim (greater a b) [ inl h ↦ inl (omega arith) | inr h ↦ inr (omega arith) ]

pub less_one : (i : ℕ) → suc i - 1 ≡ i
less_one i = omega arith

pub one_more_time : (i t : ℕ) → suc i * (t + 1) ≡ i * (t + 1) + (t + 1)
one_more_time i t = omega arith

-- ---- what is reached by pairs

pub reach_best : (v w : Longest) (o : Option ℕ) → reach (best v w) o ≡ max (reach v o) (reach w o)
reach_best v w None = refl
reach_best v w (Some x) = by v.to_end w.to_end
  where
    by : (s t : Option ℕ) → reach_by (max v.within w.within) (larger s t) x ≡ max (reach_by v.within s x) (reach_by w.within t x)
    by None None = refl
    by None (Some t) = omega arith
    by (Some s) None = omega arith
    by (Some s) (Some t) = omega arith

pub reach_further : (w : Longest) (o : Option ℕ) → reach (further w) o ≡ suc (reach w o)
reach_further w None = omega arith
reach_further w (Some x) = by w.to_end
  where
    by : (s : Option ℕ) → reach_by (w.within + 1) (option_map (λ t. t + 1) s) x ≡ suc (reach_by w.within s x)
    by None = omega arith
    by (Some t) = omega arith

reach_cut : (most : ℕ) (w : Longest) (o : Option ℕ) → reach (cut most w) o ≤ reach w o
reach_cut most w None = omega arith
reach_cut most w (Some x) = by w.to_end
  where
    by : (s : Option ℕ) → reach_by (min w.within most) (option_map (λ t. min t most) s) x ≤ reach_by w.within s x
    by None = omega arith
    by (Some t) = omega arith

-- below the cut nothing was cut
pub reach_uncut : (most : ℕ) (w : Longest) → IsShort w.within w.to_end → (cut most w).within < most → (o : Option ℕ) → reach (cut most w) o ≡ reach w o
reach_uncut most w short h None = omega arith
reach_uncut most w short h (Some x) = by w.to_end short
  where
    by : (s : Option ℕ) → IsShort w.within s → reach_by (min w.within most) (option_map (λ t. min t most) s) x ≡ reach_by w.within s x
    by None l = omega (arith, h)
    by (Some t) l = omega (arith, h)

not_zero : (c : ℕ) → eqb (suc c) 0 ≡ false
not_zero c = grind (arith, nat_tests)

pub no_turns : (f : Longest) (c y : ℕ) → f.to_end ≡ None → turns_left f (suc c) y ≡ f.within
no_turns f c y e = rw (not_zero c, e) refl

pub some_turns : (f : Longest) (t c y : ℕ) → f.to_end ≡ Some t → turns_left f (suc c) y ≡ c * (t + 1) + max f.within (t + 1 + y)
some_turns f t c y e = rw (not_zero c, e, less_one c) refl

-- one turn before those
pub turns_more : (f : Longest) (c y : ℕ) → reach f (Some (turns_left f c y)) ≡ turns_left f (suc c) y
turns_more f c y = by f.to_end refl c
  where
    once : (w t a y : ℕ) → max w (t + 1 + (a + max w (t + 1 + y))) ≡ a + (t + 1) + max w (t + 1 + y)
    once w t a y = omega arith

    by : (o : Option ℕ) → f.to_end ≡ o → (c : ℕ) → reach_by f.within o (turns_left f c y) ≡ turns_left f (suc c) y
    by None e c = sym (no_turns f c y e)
    by (Some t) e zero = rw (some_turns f t zero y e) (omega arith)
    by (Some t) e (suc c) = rw (some_turns f t c y e, some_turns f t (suc c) y e, one_more_time c t) (once f.within t (c * (t + 1)) y)

pub reach_turned : (f a : Longest) (i t : ℕ) (o : Option ℕ) → f.to_end ≡ Some t → reach (turned (suc i) f.within t a) o ≡ suc (turns_left f (suc i) (reach a o))
reach_turned f a i t None e = rw (some_turns f t i a.within e, less_one i, one_more_time i t) (omega arith)
reach_turned f a i t (Some x) e = rw (some_turns f t i (reach a (Some x)) e, less_one i, one_more_time i t) (by a.to_end)
  where
    by : (s : Option ℕ) → reach_by (max (i * (t + 1) + f.within) (i * (t + 1) + (t + 1) + a.within) + 1) (option_map (λ y. i * (t + 1) + (t + 1) + y + 1) s) x
        ≡ suc (i * (t + 1) + max f.within (t + 1 + reach_by a.within s x))
    by None = omega arith
    by (Some s) = omega arith

pub short_further : (w : ℕ) (o : Option ℕ) → IsShort w o → IsShort (w + 1) (option_map (λ t. t + 1) o)
short_further w None h = tt
short_further w (Some t) h = omega arith

pub short_turned : (imm t w : ℕ) (a : Longest) → IsShort a.within a.to_end → IsShort (turned imm w t a).within (turned imm w t a).to_end
short_turned imm t w a h = by a.to_end h
  where
    by : (o : Option ℕ) → IsShort a.within o → IsShort (turned imm w t a).within (option_map (λ x. imm * (t + 1) + x + 1) o)
    by None h = tt
    by (Some x) h = omega arith

-- ---- steps one after another

pub blocks_next : (marks : List Mark) (n : ℕ) → blocks_at marks (n + 1) ≡ opened (slice_get marks n) n (blocks_at marks n)
unfolding blocks_at
blocks_next marks n = let e : n + 1 ≡ suc n = omega arith in rw e refl

module _ (marks : List Mark) (targets : List Targets) where
  abbrev pub Goes : ℕ → Spot → Type 0
  Goes k p = Follow (spots_from marks targets) k p

  abbrev pub Counted : ℕ → List ℕ → Type 0
  Counted n cs = AreCounters marks (blocks_at marks n) cs

  abbrev pub Real : ℕ → Longest → Type 0
  Real n w = IsReal marks targets n w

  pub less : (k j : ℕ) (p : Spot) → k ≤ j → Goes j p → Goes k p
  less k j p h g = fewer (spots_from marks targets) k j p h g

  -- ---- what is real of an instruction

  pub real_flat : (n k : ℕ) → ((cs : List ℕ) → Counted n cs → Goes k (n, cs)) → Real n (record { within = k; to_end = None })
  real_flat n k g = record { goes = λ cs c o b. by cs c o; short = tt }
    where
      by : (cs : List ℕ) → Counted n cs → (o : Option ℕ) → Goes (reach (record { within = k; to_end = None }) o) (n, cs)
      by cs c None = g cs c
      by cs c (Some x) = g cs c

  pub real_leaf : (n : ℕ) → Real n leaf
  real_leaf n = real_flat n 0 (λ cs c. tt)

  pub real_cut : (most n : ℕ) (w : Longest) → Real n w → Real n (cut most w)
  real_cut most n w r = record {
    goes = λ cs c o b. less (reach (cut most w) o) (reach w o) (n, cs) (reach_cut most w o) (r.goes cs c o b);
    short = by w.to_end r.short;
  }
    where
      by : (o : Option ℕ) → IsShort w.within o → IsShort (min w.within most) (option_map (λ t. min t most) o)
      by None h = tt
      by (Some t) h = omega arith

  pub real_best : (n : ℕ) (v w : Longest) → Real n v → Real n w → Real n (best v w)
  real_best n v w a b = record {
    goes = λ cs c o g. rw (reach_best v w o) (elim (greater (reach v o) (reach w o)) [ inl h ↦ rw h (a.goes cs c o g) | inr h ↦ rw h (b.goes cs c o g) ]);
    short = by v.to_end w.to_end a.short b.short;
  }
    where
      by : (o p : Option ℕ) → IsShort v.within o → IsShort w.within p → IsShort (max v.within w.within) (larger o p)
      by None None h k = tt
      by None (Some y) h k = omega arith
      by (Some x) None h k = omega arith
      by (Some x) (Some y) h k = omega arith

  -- ---- along an edge

  abbrev pub IsEdge : ℕ → ℕ → Type 0
  IsEdge n m = (blocks_at marks m ≡ blocks_at marks n) × ((k : ℕ) (cs : List ℕ) → Goes k (m, cs) → Goes (suc k) (n, cs))

  pub real_further : (n m : ℕ) (w : Longest) → IsEdge n m → Real m w → Real n (further w)
  real_further n m w edge r = record {
    goes = λ cs c o b. rw (reach_further w o) (edge.1 (reach w o) cs
        (r.goes cs (rw (edge.0) c) o (subst (λ (rs : List ℕ). FollowBehind marks targets rs cs o) (sym (edge.0)) b)));
    short = short_further w.within w.to_end r.short;
  }

  -- the edges of an instruction that is no end of a block
  pub plain_edges : (n : ℕ) (j o : Option ℕ) → slice_get marks n ≡ Some mark.Plain → places_at targets n ≡ option_to_list j ++ option_to_list o
      → AllByRecursion (λ m. blocks_at marks m ≡ blocks_at marks n) (option_to_list j ++ option_to_list o) → IfSome j (IsEdge n) × IfSome o (IsEdge n)
  plain_edges n None None q e a = (tt, tt)
  plain_edges n None (Some m) q e a = (tt, (a.0, λ k cs g. rw (q, e) (inl g)))
  plain_edges n (Some i) None q e a = ((a.0, λ k cs g. rw (q, e) (inl g)), tt)
  plain_edges n (Some i) (Some m) q e a = ((a.0, λ k cs g. rw (q, e) (inl g)), (a.1.0, λ k cs g. rw (q, e) (inr (inl g))))

  -- ---- the ends of blocks

  pub rep_step : (n imm e : ℕ) (x : Targets) → slice_get marks n ≡ Some (mark.Rep imm e) → slice_get targets n ≡ Some x → x.jump ≡ None
      → x.next ≡ Some (n + 1) → (k : ℕ) (cs : List ℕ) → Goes k (n + 1, imm ∷ cs) → Goes (suc k) (n, cs)
  rep_step n imm e x q t j h k cs g = rw (q, t, j, h) (inl g)

  not_on : (r n : ℕ) → r < n → eqb (r + 1) (n + 1) ≡ false
  not_on r n h = grind (arith, nat_tests)

  same_on : (n : ℕ) → eqb (n + 1) (n + 1) ≡ true
  same_on n = grind (arith, nat_tests)

  -- how an endrep leads on
  abbrev pub LeadsOn : ℕ → ℕ → Targets → Type 0
  LeadsOn n r x = (x.next ≡ Some (n + 1)) × ((x.jump ≡ Some (r + 1)) ⊎ (x.jump ≡ None) × (imm_of marks r ≤ 1))

  -- the block that begins at r and ends at e
  pub record Block (r imm e : ℕ) : Type 0 where
    pub rep : slice_get marks r ≡ Some (mark.Rep imm e)
    pub counted : 0 < imm
    pub before : r < e
    pub ends : slice_get marks e ≡ Some (mark.EndRep r)
    pub first : blocks_at marks (r + 1) ≡ r ∷ blocks_at marks r
    pub last : blocks_at marks e ≡ r ∷ blocks_at marks r
    pub behind : blocks_at marks (e + 1) ≡ blocks_at marks r
    pub imm_is : imm_of marks r ≡ imm
    pub end_is : end_of marks r ≡ e

  -- an endrep that leads on leads to one spot
  pub end_spots : (n r imm : ℕ) → Block r imm n → (j : Option ℕ) → (j ≡ Some (r + 1)) ⊎ (j ≡ None) × (imm_of marks r ≤ 1) → (cs : List ℕ)
      → AreCounters marks (r ∷ blocks_at marks r) cs
      → spots (Some (mark.EndRep r)) n cs (option_to_list j ++ ((n + 1) ∷ [])) ≡ past marks (r ∷ blocks_at marks r) cs ∷ []
  end_spots n r imm b j d [] c = absurd c
  end_spots n r imm b j d (zero ∷ cs) c = absurd (omega (arith, c.0))
  end_spots n r imm b j (inl e) (suc zero ∷ cs) c = rw (e, not_on r n b.before, same_on n, b.end_is) refl
  end_spots n r imm b j (inr e) (suc zero ∷ cs) c = rw (e.0, same_on n, b.end_is) refl
  end_spots n r imm b j (inl e) (suc (suc i) ∷ cs) c = rw (e, not_on r n b.before, same_on n) refl
  end_spots n r imm b j (inr e) (suc (suc i) ∷ cs) c = absurd (omega (arith, c.1, e.1))

  pub end_leads : (n r imm : ℕ) (x : Targets) → Block r imm n → slice_get targets n ≡ Some x → LeadsOn n r x
      → (cs : List ℕ) → AreCounters marks (r ∷ blocks_at marks r) cs → spots_from marks targets (n, cs) ≡ past marks (r ∷ blocks_at marks r) cs ∷ []
  end_leads n r imm x b t h cs c = rw (b.ends, t, h.0) (end_spots n r imm b x.jump (h.1) cs c)

  pub block_by : (r imm e : ℕ) → slice_get marks r ≡ Some (mark.Rep imm e) → IsBlock marks r imm e → Block r imm e
  block_by r imm e q b = record {
    rep = q;
    counted = b.counted;
    before = b.before;
    ends = b.ends;
    first = blocks_next marks r ∙ rw q refl;
    last = b.inside;
    behind = blocks_next marks e ∙ rw (b.ends, b.inside) refl;
    imm_is = ap imm_in q;
    end_is = ap end_in q;
  }

  module _ (nested : IsNested marks targets) where
    pub block_at : (r imm e : ℕ) → slice_get marks r ≡ Some (mark.Rep imm e) → Block r imm e
    block_at r imm e q = block_by r imm e q (nested.block r imm e q)

    pub end_at : (e r : ℕ) → slice_get marks e ≡ Some (mark.EndRep r) → Block r (imm_of marks r) e
    end_at e r q = block_at r (imm_of marks r) e (nested.begin e r q)

  -- a block, and the pair of its first instruction
  module _ (r imm e : ℕ) (b : Block r imm e) (f : Longest) (real : Real (r + 1) f) where
    -- with so many turns left, from where the endrep leads
    pub turns : (cs : List ℕ) → Counted r cs → (y : ℕ) → Goes y (e + 1, cs) → (c : ℕ) → c ≤ imm
        → Goes (turns_left f c y) (past marks (r ∷ blocks_at marks r) (suc c ∷ cs))
    turns cs k y g zero l = rw b.end_is g
    turns cs k y g (suc c) l = subst (λ (m : ℕ). Goes m (r + 1, suc c ∷ cs)) (turns_more f c y)
        (real.goes (suc c ∷ cs) (rw b.first (omega arith, omega (arith, b.imm_is), k)) (Some (turns_left f c y)) (rw b.first (turns cs k y g c (omega arith))))

    -- from the rep through all turns
    pub go_through : (x : Targets) → slice_get targets r ≡ Some x → x.jump ≡ None → x.next ≡ Some (r + 1) → (cs : List ℕ) → Counted r cs → (y : ℕ)
        → Goes y (e + 1, cs)
        → Goes (suc (turns_left f imm y)) (r, cs)
    go_through x q j n cs c y g =
        rep_step r imm e x b.rep q j n (turns_left f imm y) cs (by imm b.counted (turns cs c y g imm (omega arith)))
      where
        by : (i : ℕ) → 0 < i → Goes (turns_left f i y) (past marks (r ∷ blocks_at marks r) (suc i ∷ cs)) → Goes (turns_left f i y) (r + 1, i ∷ cs)
        by zero l h = absurd (omega arith)
        by (suc i) l h = h

  pub real_end : (e r imm : ℕ) (x : Targets) → Block r imm e → slice_get targets e ≡ Some x → LeadsOn e r x → Real e at_end
  real_end e r imm x b q h = record { goes = λ cs c o g. by cs c o g; short = omega arith }
    where
      by : (cs : List ℕ) → Counted e cs → (o : Option ℕ) → FollowBehind marks targets (blocks_at marks e) cs o → Goes (reach at_end o) (e, cs)
      by cs c None g = tt
      by cs c (Some k) g = less (max 0 (0 + 1 + k)) (suc k) (e, cs) (omega arith)
          (rw (end_leads e r imm x b q h cs (rw b.last at c)) (inl (rw b.last at g)))

-- ---- which blocks are open at a place

rep_in : Option Mark → ℕ
rep_in (Some (mark.EndRep r)) = r
rep_in _ = 0

-- at the place n the block is open that begins at r, in these blocks
pub record IsOpen (marks : List Mark) (n r : ℕ) (rs : List ℕ) : Type 0 where
  pub before : r < n
  pub until : n ≤ end_of marks r
  pub rep : slice_get marks r ≡ Some (mark.Rep (imm_of marks r) (end_of marks r))
  pub counted : 0 < imm_of marks r
  pub around : rs ≡ blocks_at marks r

abbrev pub AllOpen : List Mark → ℕ → List ℕ → Type 0
AllOpen marks n [] = Unit {0}
AllOpen marks n (r ∷ rs) = IsOpen marks n r rs × AllOpen marks n rs

module _ (marks : List Mark) (targets : List Targets) (nested : IsNested marks targets) where
  -- one place on, where none of these blocks ends
  one_further : (n : ℕ) (rs : List ℕ) → AllOpen marks n rs → ((s : ℕ) → slice_get marks n ≡ Some (mark.EndRep s) → AllOpen marks s rs)
      → AllOpen marks (suc n) rs
  one_further n [] a h = tt
  one_further n (r ∷ rs) a h = (
    record {
      before = (let b = a.0.before in omega arith);
      until = elim (equal_or_not n (end_of marks r)) [
        | inl e ↦ (let o = h r (rw e (nested.block r (imm_of marks r) (end_of marks r) a.0.rep).ends) in let b = o.0.before in absurd (omega arith))
        | inr d ↦ (let b = a.0.until in omega arith)
      ];
      rep = a.0.rep;
      counted = a.0.counted;
      around = a.0.around;
    },
    one_further n rs a.1 (λ s e. (h s e).1),
  )

  step : (n : ℕ) (k : Option Mark) → slice_get marks n ≡ k → AllOpen marks n (blocks_at marks n) → ((r : ℕ) → r < n → AllOpen marks r (blocks_at marks r))
      → AllOpen marks (suc n) (opened k n (blocks_at marks n))
  unfolding rep_in
  step n None q a more = one_further n (blocks_at marks n) a (λ s e. (let z : None ≡ Some (mark.EndRep s) = sym q ∙ e in cc))
  step n (Some mark.Plain) q a more = one_further n (blocks_at marks n) a (λ s e. (let z : Some mark.Plain ≡ Some (mark.EndRep s) = sym q ∙ e in cc))
  step n (Some (mark.Rep imm f)) q a more = (let b = block_at marks targets nested n imm f q in (
    record {
      before = omega arith;
      until = (let l = b.before in omega (arith, b.end_is));
      rep = q ∙ rw (b.imm_is, b.end_is) refl;
      counted = omega (arith, b.counted, b.imm_is);
      around = refl;
    },
    one_further n (blocks_at marks n) a (λ s e. (let z : Some (mark.Rep imm f) ≡ Some (mark.EndRep s) = sym q ∙ e in cc)),
  ))
  step n (Some (mark.EndRep r)) q a more =
      let b = end_at marks targets nested n r q in
      rw b.last (one_further n (blocks_at marks r) ((rw b.last at a).1) (λ s e. (let z : r ≡ s = ap rep_in (sym q ∙ e) in
      subst (λ (m : ℕ). AllOpen marks m (blocks_at marks r)) z (more r b.before))))

  opens_below : (k n : ℕ) → n < k → AllOpen marks n (blocks_at marks n)
  unfolding blocks_at
  opens_below zero n h = absurd (omega arith)
  opens_below (suc k) zero h = tt
  opens_below (suc k) (suc n) h = step n (slice_get marks n) refl (opens_below k n (omega arith)) (λ r l. opens_below k r (omega arith))

  pub opens : (n : ℕ) → AllOpen marks n (blocks_at marks n)
  opens n = opens_below (suc n) n (omega arith)

  -- ---- each place has counters

  abbrev pub full : List ℕ → List ℕ
  full rs = map (imm_of marks) rs

  full_are : (n : ℕ) (rs : List ℕ) → AllOpen marks n rs → AreCounters marks rs (full rs)
  full_are n [] a = tt
  full_are n (r ∷ rs) a = (a.0.counted, omega arith, full_are n rs a.1)

  pub are_full : (n : ℕ) → AreCounters marks (blocks_at marks n) (full (blocks_at marks n))
  are_full n = full_are n (blocks_at marks n) (opens n)

-- ---- the counters behind an edge are those of its end

-- each of these spots has the counters of its place
abbrev pub AllCounted : List Mark → List Spot → Type 0
AllCounted marks ps = AllByRecursion (λ p. AreCounters marks (blocks_at marks p.0) p.1) ps

module _ (marks : List Mark) (targets : List Targets) where
  pub in_blocks : (n : ℕ) (cs ms : List ℕ) → AreCounters marks (blocks_at marks n) cs → AllByRecursion (λ m. blocks_at marks m ≡ blocks_at marks n) ms
      → AllCounted marks (spots (Some mark.Plain) n cs ms)
  in_blocks n cs [] c a = tt
  in_blocks n cs (m ∷ ms) c a = (rw a.0 c, in_blocks n cs ms c a.1)

  pub past_counted : (e r imm : ℕ) (cs : List ℕ) → Block marks targets r imm e → AreCounters marks (r ∷ blocks_at marks r) cs
      → AllCounted marks (past marks (r ∷ blocks_at marks r) cs ∷ [])
  past_counted e r imm [] b c = absurd c
  past_counted e r imm (zero ∷ cs) b c = absurd (omega (arith, c.0))
  past_counted e r imm (suc zero ∷ cs) b c = (rw (b.end_is, b.behind) c.2, tt)
  past_counted e r imm (suc (suc i) ∷ cs) b c = (rw b.first (omega arith, omega (arith, c.1), c.2), tt)

module _ (marks : List Mark) (targets : List Targets) (nested : IsNested marks targets) where
  counted_from : (n : ℕ) (cs : List ℕ) (k : Option Mark) (t : Option Targets) → slice_get marks n ≡ k → slice_get targets n ≡ t → Suits marks k n t
      → AreCounters marks (blocks_at marks n) cs → AllCounted marks (spots_from marks targets (n, cs))
  counted_from n cs k None q t s c = rw t tt
  counted_from n cs None (Some x) q t s c = rw (q, t) (in_blocks marks targets n cs (places x) c s)
  counted_from n cs (Some mark.Plain) (Some x) q t s c = rw (q, t) (in_blocks marks targets n cs (places x) c s)
  counted_from n cs (Some (mark.Rep imm f)) (Some x) q t s c = elim s.1 [
    | inl h ↦ rw (q, t, s.0, h) tt
    | inr h ↦ (let b = block_at marks targets nested n imm f q in rw (q, t, s.0, h) (rw b.first (b.counted, omega (arith, b.imm_is), c), tt))
  ]
  counted_from n cs (Some (mark.EndRep r)) (Some x) q t s c = elim s [
    | inl h ↦ rw (q, t, h.0, h.1) tt
    | inr h ↦ (let b = end_at marks targets nested n r q in let d : AreCounters marks (r ∷ blocks_at marks r) cs = rw b.last at c in
        rw (end_leads marks targets n r (imm_of marks r) x b t h cs d) (past_counted marks targets n r (imm_of marks r) cs b d))
  ]

  -- ---- numbers that fall, from below most on, bound how many steps can be made

  module _ (steps : ℕ → List ℕ → ℕ) (most : ℕ) (falls : (n : ℕ) (cs : List ℕ) → AreCounters marks (blocks_at marks n) cs → steps n cs < most
      → AllBelow steps (steps n cs) (spots_from marks targets (n, cs))) where
    pub bounded : (j n : ℕ) (cs : List ℕ) → AreCounters marks (blocks_at marks n) cs → steps n cs < most → Goes marks targets j (n, cs) → j ≤ steps n cs
    bounded zero n cs c h f = omega arith
    bounded (suc j) n cs c h f =
        among (λ p a l g. bounded j p.0 p.1 a l g) (spots_from marks targets (n, cs))
        (counted_from n cs (slice_get marks n) (slice_get targets n) refl refl (nested.suits n) c) (falls n cs c h) f
      where
        among : ((p : Spot) → AreCounters marks (blocks_at marks p.0) p.1 → steps p.0 p.1 < most → Goes marks targets j p → j ≤ steps p.0 p.1)
            → (ps : List Spot)
            → AllCounted marks ps → AllBelow steps (steps n cs) ps → OneOf (λ p. Goes marks targets j p) ps → suc j ≤ steps n cs
        among more [] a b g = absurd g
        among more (p ∷ ps) a b g = elim g [
          | inl q ↦ (let l = b.0 in let d = more p a.0 (omega arith) q in omega arith)
          | inr q ↦ among more ps a.1 b.1 q
        ]

-- ---- what is above the ends of more edges is above those of fewer

module _ (steps : ℕ → List ℕ → ℕ) (k : ℕ) (q : Option Mark) (n : ℕ) (cs : List ℕ) where
  abbrev OneBelow : ℕ → Type 0
  OneBelow m = AllBelow steps k (spot_at m (counters_at q n m cs))

  apart : (ms : List ℕ) → AllBelow steps k (spots q n cs ms) → AllByRecursion OneBelow ms
  apart [] b = tt
  apart (m ∷ ms) b = by (λ r. apart ms r) (counters_at q n m cs) b
    where
      by : (AllBelow steps k (spots q n cs ms) → AllByRecursion OneBelow ms) → (o : Option (List ℕ)) → AllBelow steps k (spot_at m o ++ spots q n cs ms)
          → AllBelow steps k (spot_at m o) × AllByRecursion OneBelow ms
      by rest None b = (tt, rest b)
      by rest (Some ds) b = ((b.0, tt), rest b.1)

  together : (ms : List ℕ) → AllByRecursion OneBelow ms → AllBelow steps k (spots q n cs ms)
  together [] a = tt
  together (m ∷ ms) a = by (together ms a.1) (counters_at q n m cs) a.0
    where
      by : AllBelow steps k (spots q n cs ms) → (o : Option (List ℕ)) → AllBelow steps k (spot_at m o) → AllBelow steps k (spot_at m o ++ spots q n cs ms)
      by rest None h = rest
      by rest (Some ds) h = (h.0, rest)

  pub narrower : (ms ns : List ℕ) → ((P : ℕ → Type 0) → AllByRecursion P ns → AllByRecursion P ms) → AllBelow steps k (spots q n cs ns)
      → AllBelow steps k (spots q n cs ms)
  narrower ms ns fewer b = together ms (fewer OneBelow (apart ns b))
