-- Which blocks are open at a place.
use Rattle.zl_code.proofs.Common.{Bool, List, None, Option, Some, [], and_parts, ap, arith, cases_Bool, cases_lt, eqb-true, false, inl, inr, leb-true, length}
use Rattle.zl_code.proofs.Common.{ltb-true, map, nat_le, nat_lt, refl, same_Some, slice_get, subst, suc, sym, true, true≢false, zero, ℕ, ◌&&◌, ◌<◌, ◌∙◌}
use Rattle.zl_code.proofs.Common.{◌∷◌, ◌≡◌, ◌≢◌, ◌≤◌}
use Rattle.std.proofs.lemmas.Bool.{cases_eq}
use Rattle.std.proofs.lemmas.Option.{slice_get_past, slice_get_within}
use Rattle.zl_code.specs.declared.blocks.Mark.{Mark}
use Rattle.zl_code.specs.declared.blocks.Mark.TheVariants as mark
use Rattle.zl_code.specs.Limits.{most_blocks, most_turns}
use Rattle.zl_code.specs.Blocks.{AreCounters, IsBlock, all_nest, blocks_at, end_in, end_of, head_of, imm_in, imm_of, is_end_of, is_it, is_rep_to, nests}
use Rattle.zl_code.specs.Blocks.{nests_at, opened, tail_of}

-- ---- of any marks: around a block are those that were open where it begins

-- the block that begins at r is open at the place n, and these are around it
pub record IsOpen (marks : List Mark) (n r : ℕ) (rs : List ℕ) : Type 0 where
  pub before : r < n
  pub rep : slice_get marks r ≡ Some (mark.Rep (imm_of marks r) (end_of marks r))
  pub around : rs ≡ blocks_at marks r

-- so is each of these, the innermost first
abbrev pub AreOpen : List Mark → ℕ → List ℕ → Type 0
AreOpen marks n [] = Unit {0}
AreOpen marks n (r ∷ rs) = IsOpen marks n r rs × AreOpen marks r rs

-- the block isn't one of these
abbrev Lacks : ℕ → List ℕ → Type 0
Lacks r [] = Unit {0}
Lacks r (x ∷ xs) = (r ≢ x) × Lacks r xs

module _ (marks : List Mark) where
  later : (m n : ℕ) → m ≤ n → (rs : List ℕ) → AreOpen marks m rs → AreOpen marks n rs
  later m n l [] a = tt
  later m n l (r ∷ rs) a = (record { before = (let b = a.0.before in omega arith); rep = a.0.rep; around = a.0.around }, a.1)

  one_on : (n : ℕ) (o : Option Mark) → slice_get marks n ≡ o → AreOpen marks n (blocks_at marks n) → AreOpen marks (suc n) (opened o n (blocks_at marks n))
  one_on n (Some (mark.Rep imm e)) q a =
      let i : imm_of marks n ≡ imm = ap imm_in q in
      let f : end_of marks n ≡ e = ap end_in q in
      (record { before = omega arith; rep = q ∙ sym (rw (i, f) refl); around = refl }, a)
  one_on n (Some (mark.EndRep r)) q a = popped (blocks_at marks n) a
    where
      popped : (rs : List ℕ) → AreOpen marks n rs → AreOpen marks (suc n) (tail_of rs)
      popped [] a = tt
      popped (x ∷ rs) a = later x (suc n) (let b = a.0.before in omega arith) rs a.1
  one_on n (Some mark.Plain) q a = later n (suc n) (omega arith) (blocks_at marks n) a
  one_on n None q a = later n (suc n) (omega arith) (blocks_at marks n) a

  pub opens : (n : ℕ) → AreOpen marks n (blocks_at marks n)
  unfolding blocks_at
  opens zero = tt
  opens (suc n) = one_on n (slice_get marks n) refl (opens n)

  -- the innermost block, and those around it
  pub whole : (n r : ℕ) (rs : List ℕ) → AreOpen marks n rs → head_of rs ≡ Some r → (r < n) × (rs ≡ r ∷ blocks_at marks r)
  whole n r [] a h = cc
  whole n r (x ∷ rs) a h =
      subst (λ (y : ℕ). (y < n) × (x ∷ rs ≡ y ∷ blocks_at marks y)) (same_Some x r h) (a.0.before, ap (λ (xs : List ℕ). x ∷ xs) a.0.around)

  lacks : (m r : ℕ) → m ≤ r → (rs : List ℕ) → AreOpen marks m rs → Lacks r rs
  lacks m r l [] a = tt
  lacks m r l (x ∷ rs) a = ((λ e. (let b = a.0.before in omega arith)), lacks x r (let b = a.0.before in omega arith) rs a.1)

  -- a block that isn't open behind its rep isn't again
  gone : (r m : ℕ) → r < m → Lacks r (blocks_at marks m) → (n : ℕ) → m ≤ n → Lacks r (blocks_at marks n)
  unfolding blocks_at
  gone r m b h zero l = absurd (omega arith)
  gone r m b h (suc n) l = elim (cases_eq m (suc n)) [
    | inl i ↦ subst (λ (k : ℕ). Lacks r (blocks_at marks k)) i h
    | inr d ↦ next (omega arith) (slice_get marks n) (gone r m b h n (omega arith))
  ]
    where
      rest : (rs : List ℕ) → Lacks r rs → Lacks r (tail_of rs)
      rest [] a = tt
      rest (x ∷ rs) a = a.1

      next : r < n → (o : Option Mark) → Lacks r (blocks_at marks n) → Lacks r (opened o n (blocks_at marks n))
      next k (Some (mark.Rep imm e)) a = ((λ i. omega arith), a)
      next k (Some (mark.EndRep e)) a = rest (blocks_at marks n) a
      next k (Some mark.Plain) a = a
      next k None a = a

-- ---- what the rule asks of one place

-- a rep with these numbers can stand at n, in so many blocks
pub record Fits (marks : List Mark) (n imm e depth : ℕ) : Type 0 where
  pub counted : 0 < imm
  pub most : imm ≤ most_turns
  pub few : depth < most_blocks
  pub ends : slice_get marks e ≡ Some (mark.EndRep n)

pub rep_fits : (marks : List Mark) (n depth : ℕ) (home : Option ℕ) (imm e : ℕ) → nests marks n depth home (Some (mark.Rep imm e)) ≡ true
    → Fits marks n imm e depth
rep_fits marks n depth home imm e h =
    let a = and_parts (nat_lt 0 imm) (nat_le imm most_turns && (nat_lt depth most_blocks && is_end_of (slice_get marks e) n)) h in
    let b = and_parts (nat_le imm most_turns) (nat_lt depth most_blocks && is_end_of (slice_get marks e) n) a.1 in
    let c = and_parts (nat_lt depth most_blocks) (is_end_of (slice_get marks e) n) b.1 in
    record { counted = ltb-true 0 imm a.0; most = leb-true imm most_turns b.0; few = ltb-true depth most_blocks c.0; ends = end_is (slice_get marks e) c.1 }
  where
    end_is : (o : Option Mark) → is_end_of o n ≡ true → o ≡ Some (mark.EndRep n)
    end_is (Some (mark.EndRep r)) h = ap (λ (x : ℕ). Some (mark.EndRep x)) (eqb-true r n h)
    end_is (Some (mark.Rep imm e)) h = cc
    end_is (Some mark.Plain) h = cc
    end_is None h = cc

-- an endrep can stand at n, with this innermost block
pub end_fits : (marks : List Mark) (n depth : ℕ) (home : Option ℕ) (r : ℕ) → nests marks n depth home (Some (mark.EndRep r)) ≡ true
    → (home ≡ Some r) × (slice_get marks r ≡ Some (mark.Rep (imm_of marks r) n))
end_fits marks n depth home r h = (let b = and_parts (is_it home r) (is_rep_to (slice_get marks r) n) h in (it_is home b.0, rep_is (slice_get marks r) b.1))
  where
    it_is : (o : Option ℕ) → is_it o r ≡ true → o ≡ Some r
    it_is None h = cc
    it_is (Some k) h = ap Some (eqb-true k r h)

    rep_is : (o : Option Mark) → is_rep_to o n ≡ true → o ≡ Some (mark.Rep (imm_in o) n)
    rep_is (Some (mark.Rep imm e)) h = ap (λ (x : ℕ). Some (mark.Rep imm x)) (eqb-true e n h)
    rep_is (Some (mark.EndRep r)) h = cc
    rep_is (Some mark.Plain) h = cc
    rep_is None h = cc

-- ---- what holds of the first so many holds of each

module _ (all one : ℕ → Bool) (next : (k : ℕ) → all (suc k) ≡ (all k && one k)) where
  pub each : (k n : ℕ) → n < k → all k ≡ true → one n ≡ true
  each zero n l h = absurd (omega arith)
  each (suc k) n l h = (let b = and_parts (all k) (one k) (sym (next k) ∙ h) in elim (cases_eq k n) [
    | inl i ↦ subst (λ (m : ℕ). one m ≡ true) i b.1
    | inr d ↦ each k n (omega arith) b.0
  ])

  pub one_fails : (k n : ℕ) → n < k → one n ≡ false → all k ≡ false
  one_fails k n l h = elim (cases_Bool (all k)) [ inl t ↦ absurd (true≢false (sym (each k n l t) ∙ h)) | inr f ↦ f ]

pub nest_next : (marks : List Mark) (k : ℕ) → all_nest marks (suc k) ≡ (all_nest marks k && nests_at marks k)
unfolding all_nest
nest_next marks k = refl

-- ---- of marks that nest

module _ (marks : List Mark) (nest : all_nest marks (length marks) ≡ true) where
  nested : (n : ℕ) → nests_at marks n ≡ true
  nested n = elim (cases_lt n (length marks)) [
    | inl l ↦ each (all_nest marks) (nests_at marks) (nest_next marks) (length marks) n l nest
    | inr l ↦ rw (slice_get_past marks n l) refl
  ]

  pub fits : (r imm e : ℕ) → slice_get marks r ≡ Some (mark.Rep imm e) → Fits marks r imm e (length (blocks_at marks r))
  fits r imm e q = rep_fits marks r (length (blocks_at marks r)) (head_of (blocks_at marks r)) imm e (rw q at (nested r))

  ends_at : (e r : ℕ) → slice_get marks e ≡ Some (mark.EndRep r)
      → (head_of (blocks_at marks e) ≡ Some r) × (slice_get marks r ≡ Some (mark.Rep (imm_of marks r) e))
  ends_at e r q = end_fits marks e (length (blocks_at marks e)) (head_of (blocks_at marks e)) r (rw q at (nested e))

  pub begins : (e r : ℕ) → slice_get marks e ≡ Some (mark.EndRep r) → slice_get marks r ≡ Some (mark.Rep (imm_of marks r) e)
  begins e r q = (ends_at e r q).1

  pub blocks : (r imm e : ℕ) → slice_get marks r ≡ Some (mark.Rep imm e) → IsBlock marks r imm e
  blocks r imm e q =
      let f = fits r imm e q in
      let w = whole marks e r (blocks_at marks e) (opens marks e) ((ends_at e r f.ends).0) in
      record { counted = f.counted; before = w.0; ends = f.ends; inside = w.1 }

  pub closes : (e r : ℕ) → slice_get marks e ≡ Some (mark.EndRep r) → blocks_at marks e ≡ r ∷ blocks_at marks r
  closes e r q = (blocks r (imm_of marks r) e (begins e r q)).inside

  -- behind its end a block isn't open
  past_end : (r imm e : ℕ) → slice_get marks r ≡ Some (mark.Rep imm e) → (n : ℕ) → e < n → Lacks r (blocks_at marks n)
  unfolding blocks_at
  past_end r imm e q n l =
      let b = blocks r imm e q in
      let h = lacks marks r r (omega arith) (blocks_at marks r) (opens marks r) in
      gone marks r (suc e) (let p = b.before in omega arith) (rw (b.ends, b.inside) h) n (omega arith)

  -- the innermost block ends at the place or behind it
  pub until : (n r : ℕ) (rs : List ℕ) → blocks_at marks n ≡ r ∷ rs → n ≤ end_of marks r
  until n r rs h = elim (cases_lt (end_of marks r) n) [
    | inl l ↦ absurd ((rw h at (past_end r (imm_of marks r) (end_of marks r) ((rw h at (opens marks n)).0.rep) n l)).0 refl)
    | inr l ↦ l
  ]

  pub none_behind : (n : ℕ) → length marks ≤ n → blocks_at marks n ≡ []
  none_behind n l = by (blocks_at marks n) refl
    where
      by : (rs : List ℕ) → blocks_at marks n ≡ rs → rs ≡ []
      by [] h = refl
      by (r ∷ rs) h =
          let b = blocks r (imm_of marks r) (end_of marks r) ((rw h at (opens marks n)).0.rep) in
          let e = slice_get_within marks (end_of marks r) (mark.EndRep r) b.ends in
          let u = until n r rs h in
          absurd (omega arith)

  -- at most so many are open
  pub shallow : (n : ℕ) → length (blocks_at marks n) ≤ most_blocks
  unfolding blocks_at
  shallow zero = omega arith
  shallow (suc n) = by (slice_get marks n) refl (shallow n)
    where
      fewer : (rs : List ℕ) → length rs ≤ most_blocks → length (tail_of rs) ≤ most_blocks
      fewer [] s = s
      fewer (r ∷ rs) s = omega arith

      by : (o : Option Mark) → slice_get marks n ≡ o → length (blocks_at marks n) ≤ most_blocks → length (opened o n (blocks_at marks n)) ≤ most_blocks
      by (Some (mark.Rep imm e)) q s = (let f = (fits n imm e q).few in omega arith)
      by (Some (mark.EndRep r)) q s = fewer (blocks_at marks n) s
      by (Some mark.Plain) q s = s
      by None q s = s

  -- ---- each place has counters

  abbrev pub full : List ℕ → List ℕ
  full rs = map (imm_of marks) rs

  full_are : (n : ℕ) (rs : List ℕ) → AreOpen marks n rs → AreCounters marks rs (full rs)
  full_are n [] a = tt
  full_are n (r ∷ rs) a = ((fits r (imm_of marks r) (end_of marks r) a.0.rep).counted, omega arith, full_are r rs a.1)

  pub are_full : (n : ℕ) → AreCounters marks (blocks_at marks n) (full (blocks_at marks n))
  are_full n = full_are n (blocks_at marks n) (opens marks n)
