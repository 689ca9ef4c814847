-- The block rule: what it gives, and how the code goes through places and jumps.
use Rattle.zl_code.proofs.Common.{Bool, List, None, Option, Some, [], and_parts, ap, arith, cases_lt, eq-eqb, eqb, eqb-true, false, get_or, inl, inr, length}
use Rattle.zl_code.proofs.Common.{map, option_map, refl, replicate, slice_get, slice_get-get_or, slice_set, subst, suc, sym, true, zero, ℕ, ◌&&◌, ◌+◌, ◌-◌, ◌<◌}
use Rattle.zl_code.proofs.Common.{◌∙◌, ◌∷◌, ◌≡◌, ◌≤◌}
use Rattle.std.proofs.lemmas.Bool.{cases_eq}
use Rattle.std.proofs.lemmas.List.{get_or-replicate, length-replicate, length-set, set_past}
use Rattle.std.proofs.lemmas.Option.{slice_get-map, slice_get_past, slice_get_read, slice_get_within}
use Rattle.zl_code.specs.declared.blocks.Mark.{Mark}
use Rattle.zl_code.specs.declared.blocks.Mark.TheVariants as mark
use Rattle.zl_code.specs.Limits.{most_blocks}
use Rattle.zl_code.specs.Lists.{at, within}
use Rattle.zl_code.specs.Blocks.{AreHomes, Walked, all_nest, all_stay, are_blocks, are_same, blocks_at, deeper, head_of, home_behind, is_same_home, nests}
use Rattle.zl_code.specs.Blocks.{nests_at, opened, stays, stays_by, tail_of}
use Rattle.zl_code.proofs.Places.{get_put, get_put_other}
use Rattle.zl_code.proofs.Nesting.{AreOpen, each, end_fits, nest_next, one_fails, rep_fits, whole}
-- for those who ask what the rule gives
pub use Rattle.zl_code.proofs.Nesting.{Fits, IsOpen, are_full, begins, blocks, closes, fits, none_behind, opens, shallow, until}

-- a write outside changes nothing
pub same_past : {X : Type 0} (xs : List X) (n : ℕ) (v : X) → length xs ≤ n → xs ≡ slice_set xs n v
same_past xs n v l = sym (set_past xs n v l)

one_more : (n : ℕ) → n + 1 ≡ suc n
one_more n = omega arith

-- what the code says of the element that it reads
pub read : {A B : Type 0} (f : A → B) (xs : List A) (n : ℕ) (x : A) (y : B) → n < length xs → x ≡ get_or xs n x → y ≡ f x
    → slice_get (map f xs) n ≡ Some y
read f xs n x y l q e = slice_get-map f xs n ∙ (ap (option_map f) (slice_get_read xs (length xs) n x refl l q) ∙ ap Some (sym e))

-- ---- place by place

pub walk_begins : (marks : List Mark) (homes : List (Option ℕ)) → homes ≡ replicate (length marks) None → Walked marks homes 0 0
unfolding blocks_at all_nest
walk_begins marks homes e = record {
  nest = refl;
  long = ap length e ∙ length-replicate (length marks) None;
  home = first;
  deep = refl;
  shallow = omega arith;
}
  where
    first : (n : ℕ) → n ≤ 0 → n < length marks → at homes n ≡ head_of (blocks_at marks n)
    first zero h l =
        let n = length-replicate {A = Option ℕ} (length marks) None in
        rw e (ap within (slice_get-get_or (replicate (length marks) None) 0 None (omega (arith, n)) ∙ ap Some (get_or-replicate (length marks) 0 None None l)))
    first (suc n) h l = absurd (omega arith)

-- what the code asks at a place, by what it has walked
nests_as_walked : (marks : List Mark) (homes : List (Option ℕ)) (depth p : ℕ) (home : Option ℕ) (m : Mark) → Walked marks homes depth p
    → home ≡ at homes p → slice_get marks p ≡ Some m → nests marks p depth home (Some m) ≡ nests_at marks p
nests_as_walked marks homes depth p home m w i q =
    ap (λ (d : ℕ). nests marks p d home (Some m)) w.deep
    ∙ (ap (λ (o : Option ℕ). nests marks p (length (blocks_at marks p)) o (Some m)) (i ∙ w.home p (omega arith) (slice_get_within marks p m q))
    ∙ ap (λ (k : Option Mark). nests marks p (length (blocks_at marks p)) (head_of (blocks_at marks p)) k) (sym q))

pub walk_fails : (marks : List Mark) (homes : List (Option ℕ)) (depth p : ℕ) (home : Option ℕ) (m : Mark) → Walked marks homes depth p
    → home ≡ at homes p → slice_get marks p ≡ Some m → nests marks p depth home (Some m) ≡ false → all_nest marks (length marks) ≡ false
walk_fails marks homes depth p home m w i q t =
    one_fails (all_nest marks) (nests_at marks) (nest_next marks) (length marks) p (slice_get_within marks p m q)
    (sym (nests_as_walked marks homes depth p home m w i q) ∙ t)

pub walk_more : (marks : List Mark) (homes : List (Option ℕ)) (depth p : ℕ) (home : Option ℕ) (m : Mark) → Walked marks homes depth p
    → home ≡ at homes p → slice_get marks p ≡ Some m → nests marks p depth home (Some m) ≡ true
    → (behind : Option ℕ) → behind ≡ home_behind m p (at homes) → Walked marks (slice_set homes (p + 1) behind) (deeper (Some m) depth) (p + 1)
unfolding all_nest blocks_at
walk_more marks homes depth p home m w i q t behind f = record {
  nest = rw (one_more p, w.nest) (sym (nests_as_walked marks homes depth p home m w i q) ∙ t);
  long = length-set homes (p + 1) behind ∙ w.long;
  home = λ n h k. elim (cases_eq (p + 1) n) [
    | inl e ↦
        subst (λ (x : ℕ). at (slice_set homes (p + 1) behind) x ≡ head_of (blocks_at marks x)) e
        (ap within (get_put homes (p + 1) behind (omega (arith, w.long))) ∙ (f ∙ (opened_behind m t ∙ ap head_of next)))
    | inr d ↦ ap within (get_put_other homes (p + 1) n behind d) ∙ w.home n (omega arith) k
  ];
  deep = rw w.deep (deep m (blocks_at marks p)) ∙ ap length next;
  shallow = few m t;
}
  where
    l : p < length marks
    l = slice_get_within marks p m q

    next : opened (Some m) p (blocks_at marks p) ≡ blocks_at marks (p + 1)
    next = sym (rw (one_more p, q) refl)

    opened_behind : (m : Mark) → nests marks p depth home (Some m) ≡ true → home_behind m p (at homes) ≡ head_of (opened (Some m) p (blocks_at marks p))
    opened_behind (mark.Rep imm e) t = refl
    opened_behind (mark.EndRep r) t =
        let b = whole marks p r (blocks_at marks p) (opens marks p) (sym (i ∙ w.home p (omega arith) l) ∙ (end_fits marks p depth home r t).0) in
        let k = b.0 in
        w.home r (omega arith) (omega (arith, l)) ∙ ap head_of (sym (ap tail_of b.1))
    opened_behind mark.Plain t = w.home p (omega arith) l

    deep : (m : Mark) (rs : List ℕ) → deeper (Some m) (length rs) ≡ length (opened (Some m) p rs)
    deep (mark.Rep imm e) rs = one_more (length rs)
    deep (mark.EndRep r) [] = refl
    deep (mark.EndRep r) (x ∷ rs) = (let z : suc (length rs) - 1 ≡ length rs = omega arith in z)
    deep mark.Plain rs = refl

    few : (m : Mark) → nests marks p depth home (Some m) ≡ true → deeper (Some m) depth ≤ most_blocks
    few (mark.Rep imm e) t = (let f = (rep_fits marks p depth home imm e t).few in omega arith)
    few (mark.EndRep r) t = (let s = w.shallow in omega arith)
    few mark.Plain t = w.shallow

-- ---- jump by jump

stay_next : (marks : List Mark) (jumps : List (Option ℕ)) (k : ℕ) → all_stay marks jumps (suc k) ≡ (all_stay marks jumps k && stays marks k (at jumps k))
unfolding all_stay
stay_next marks jumps k = refl

pub jump_begins : (marks : List Mark) (jumps : List (Option ℕ)) → all_stay marks jumps 0 ≡ true
unfolding all_stay
jump_begins marks jumps = refl

pub jump_more : (marks : List Mark) (jumps : List (Option ℕ)) (p : ℕ) → all_stay marks jumps p ≡ true → stays marks p (at jumps p) ≡ true
    → all_stay marks jumps (p + 1) ≡ true
unfolding all_stay
jump_more marks jumps p e h = rw (one_more p, e) h

pub jump_fails : (marks : List Mark) (jumps : List (Option ℕ)) (p : ℕ) → p < length marks → stays marks p (at jumps p) ≡ false
    → all_stay marks jumps (length marks) ≡ false
jump_fails marks jumps p l h = one_fails (all_stay marks jumps) (λ k. stays marks k (at jumps k)) (stay_next marks jumps) (length marks) p l h

-- lists of blocks are the same where their innermost blocks are
by_heads : (marks : List Mark) (n m : ℕ) (xs ys : List ℕ) → AreOpen marks n xs → AreOpen marks m ys → are_same xs ys ≡ is_same_home (head_of xs) (head_of ys)
by_heads marks n m [] [] a b = refl
by_heads marks n m [] (y ∷ ys) a b = refl
by_heads marks n m (x ∷ xs) [] a b = refl
by_heads marks n m (x ∷ xs) (y ∷ ys) a b = by (eqb x y) refl
  where
    same : (xs : List ℕ) → are_same xs xs ≡ true
    same [] = refl
    same (x ∷ xs) = rw (eq-eqb x x refl, same xs) refl

    by : (t : Bool) → eqb x y ≡ t → (t && are_same xs ys) ≡ t
    by false e = refl
    by true e = rw (a.0.around ∙ (ap (blocks_at marks) (eqb-true x y e) ∙ sym b.0.around)) (same ys)

pub stays_so : (marks : List Mark) → all_nest marks (length marks) ≡ true → (homes : List (Option ℕ)) → AreHomes marks homes (length marks)
    → (n : ℕ) (o : Option ℕ) → stays marks n o ≡ stays_by homes n o
stays_so marks nest homes homed n None = refl
stays_so marks nest homes homed n (Some m) = rw (home n, home m) (by_heads marks n m (blocks_at marks n) (blocks_at marks m) (opens marks n) (opens marks m))
  where
    home : (n : ℕ) → at homes n ≡ head_of (blocks_at marks n)
    home n = elim (cases_lt n (length marks)) [
      | inl h ↦ homed.home n h
      | inr h ↦ ap within (slice_get_past homes n (omega (arith, homed.long))) ∙ ap head_of (sym (none_behind marks nest n h))
    ]

-- ---- a code that keeps the rule

pub all_nested : (marks : List Mark) (jumps : List (Option ℕ)) → are_blocks marks jumps ≡ true → all_nest marks (length marks) ≡ true
all_nested marks jumps h = (and_parts (all_nest marks (length marks)) (all_stay marks jumps (length marks)) h).0

same_lists : (xs ys : List ℕ) → are_same xs ys ≡ true → xs ≡ ys
same_lists [] [] h = refl
same_lists [] (y ∷ ys) h = cc
same_lists (x ∷ xs) [] h = cc
same_lists (x ∷ xs) (y ∷ ys) h = (let b = and_parts (eqb x y) (are_same xs ys) h in rw (eqb-true x y b.0, same_lists xs ys b.1) refl)

pub jumps_stay : (marks : List Mark) (jumps : List (Option ℕ)) → are_blocks marks jumps ≡ true
    → (n m : ℕ) → n < length marks → at jumps n ≡ Some m → blocks_at marks n ≡ blocks_at marks m
jumps_stay marks jumps h n m l e =
    let s = (and_parts (all_nest marks (length marks)) (all_stay marks jumps (length marks)) h).1 in
    let f : stays marks n (at jumps n) ≡ true = each (all_stay marks jumps) (λ k. stays marks k (at jumps k)) (stay_next marks jumps) (length marks) n l s in
    same_lists (blocks_at marks n) (blocks_at marks m) (rw e at f)
