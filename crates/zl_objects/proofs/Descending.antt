-- What stands below a task is listed, and a kill and a sweep look at no more.
use Rattle.zl_objects.proofs.Common.{AreKeptBut, Body, Bool, Children, HasBelow, HasTask, IsInRange, IsIndexed, IsKeyRangeOf, IsListedNext, IsNextListed}
use Rattle.zl_objects.proofs.Common.{IsPermutation, IsTrue, LetsGo, List, Map, None, Object, Option, Some, [], all_killed, all_koids, and_from, and_parts, ap}
use Rattle.zl_objects.proofs.Common.{append-nil, arith, below_all, below_parts, budget, cases_Bool, contains, each, eq-eqb, eqb-true, false, false≢true, get}
use Rattle.zl_objects.proofs.Common.{get-each, has_key, has_living_child_here, if◌then◌else◌, inl, inr, is_below_by, is_child, is_kept, is_one_of, is_sorted}
use Rattle.zl_objects.proofs.Common.{is_under, is_within_here, killed, killed_among, killed_body, killed_if, list_any-append, lists, looked_at, nat_cmp, nat_lt}
use Rattle.zl_objects.proofs.Common.{nat_tests, none-some, none_left, not, option_map, or_cases, or_left, or_right, pair_cmp, parent_at, parent_found}
use Rattle.zl_objects.proofs.Common.{parent_held, refl, same_Some, sorted_parts, stays_alone, subst, suc, sym, true, unsigned_tied, update, zero, ℕ, ◌&&◌, ◌++◌}
use Rattle.zl_objects.proofs.Common.{◌-◌, ◌<◌, ◌==◌, ◌^◌, ◌||◌, ◌∙◌, ◌∷◌, ◌≡◌, ◌≤◌, ◌⊎◌}
use Rattle.std.specs.declared.ops.Bound.TheVariants.{Excluded, Included}
use Rattle.std.proofs.lemmas.List.Sorted.{list_any-IsPermutation}
use Rattle.zl_objects.specs.declared.object.Body.TheVariants as body
use Rattle.zl_objects.proofs.Budget.{thin_then}
use Rattle.zl_objects.proofs.Found.{Found, any_found}
use Rattle.zl_objects.proofs.Index.{child_under, sorted_each}
use Rattle.zl_objects.proofs.Released.{cascaded_named}
use Rattle.zl_objects.proofs.Sweeps.{killed_koids}
use Rattle.zl_objects.proofs.Walks.{if_stays, same_within}
use Rattle.zl_rights.proofs.MapTests.{any_at}

-- ---- the next that is listed under a job

module _ (children : Children) (j last : ℕ) (r : List (ℕ × ℕ))
    (part : IsKeyRangeOf pair_cmp (Excluded (j, last)) (Included (j, 2 ^ 64 - 1)) children.pairs r) where
  pair_behind : (k : ℕ) → last < k → k < 2 ^ 64 → IsInRange pair_cmp (Excluded (j, last)) (Included (j, 2 ^ 64 - 1)) (j, k)
  pair_behind k later small = (
    grind (arith, nat_tests, unsigned_tied j j, unsigned_tied last k, later),
    grind (arith, nat_tests, unsigned_tied j j, unsigned_tied k (2 ^ 64 - 1), small),
  )

  pub none_listed : r ≡ [] → IsNextListed children j last None
  none_listed is k later = elim (cases_Bool (nat_lt k (2 ^ 64))) as (λ _. lists children j k ≡ false) [
    | inl small ↦ rw (small, part.5 is (j, k) (pair_behind k later (grind (arith, nat_tests, small)))) refl
    | inr large ↦ rw large refl
  ]

  pub first_listed : (x : ℕ × ℕ) (t : List (ℕ × ℕ)) → r ≡ x ∷ t → IsListedNext children j last x.1
  first_listed x t is = record {
    later = grind (arith, nat_tests, unsigned_tied j x.0, unsigned_tied last x.1, unsigned_tied x.0 j, first.0, first.1);
    least = λ k later there.
        let parts = and_parts (nat_lt k (2 ^ 64)) (contains pair_cmp children.pairs (j, k)) there in
        let before = (rw is at part).2 (j, k) (pair_behind k later (grind (arith, nat_tests, parts.0))) parts.1 in
        grind (arith, nat_tests, unsigned_tied j x.0, unsigned_tied last x.1, unsigned_tied x.0 j, unsigned_tied x.1 k, first.0, first.1, before);
  }
    where
      first : IsInRange pair_cmp (Excluded (j, last)) (Included (j, 2 ^ 64 - 1)) x
      first = ((rw is at part).1).0

-- ---- one level below a job, and what is below that

-- going up one comes through what stands directly below the job
record Through (m : Map Object) (job n k : ℕ) : Type 0 where
  way : ℕ
  up : IsTrue (parent_at m way == job)
  below : (way ≡ k) ⊎ IsTrue (is_below_by m way n k)

through : (m : Map Object) (job n k : ℕ) → IsTrue (is_below_by m job (suc n) k) → Through m job n k
unfolding is_below_by
through m job zero k h = elim (or_cases (parent_at m k == job) false h) as (λ _. Through m job zero k) [
  | inl here ↦ record { way = k; up = here; below = inl refl }
  | inr later ↦ absurd (false≢true later)
]
through m job (suc n) k h =
    elim (or_cases (parent_at m k == job) (is_below_by m job (suc n) (parent_at m k)) h) as (λ _. Through m job (suc n) k) [
      | inl here ↦ record { way = k; up = here; below = inl refl }
      | inr later ↦
          let rest : Through m job n (parent_at m k) = through m job n (parent_at m k) later in
          record { way = rest.way; up = rest.up; below = inr (by_way rest.way rest.below) }
    ]
  where
    by_way : (c : ℕ) → (c ≡ parent_at m k) ⊎ IsTrue (is_below_by m c n (parent_at m k)) → IsTrue (is_below_by m c (suc n) k)
    by_way c (inl is) = or_left (parent_at m k == c) _ (eq-eqb (parent_at m k) c (sym is))
    by_way c (inr h) = or_right (parent_at m k == c) _ h

-- one level more is no less
one_more_level : (m : Map Object) (job n k : ℕ) → IsTrue (is_below_by m job n k) → IsTrue (is_below_by m job (suc n) k)
unfolding is_below_by
one_more_level m job zero k h = absurd (false≢true h)
one_more_level m job (suc n) k h =
    elim (or_cases (parent_at m k == job) (is_below_by m job n (parent_at m k)) h) as (λ _. IsTrue (is_below_by m job (suc (suc n)) k)) [
      | inl here ↦ or_left (parent_at m k == job) _ here
      | inr later ↦ or_right (parent_at m k == job) _ (one_more_level m job n (parent_at m k) later)
    ]

-- ---- what is listed

module _ (children : Children) (m : Map Object) (indexed : IsIndexed children m) (none : has_key m 0 ≡ false) where
  -- what stands directly below a job is listed there
  under : (job c : ℕ) → (job == 0) ≡ false → IsTrue (parent_at m c == job) → (0 < c) × IsTrue (lists children job c)
  under job c some up = by_object (get m c) refl up
    where
      no_parent : IsTrue (0 == job) → false ≡ true
      no_parent h = sym some ∙ eq-eqb job 0 (sym (eqb-true 0 job h))

      by_body : (b : Body) → IsTrue (parent_held b == job) → IsTrue (is_under job b)
      by_body (body.Job own) h = h
      by_body (body.Process above l) h = h
      by_body _ h = absurd (false≢true (no_parent h))

      positive : (n : ℕ) → IsTrue (has_key m n) → 0 < n
      positive zero there = absurd (false≢true (sym none ∙ there))
      positive (suc n) there = omega arith

      by_object : (q : Option Object) → get m c ≡ q → IsTrue (parent_found q == job) → (0 < c) × IsTrue (lists children job c)
      by_object None is h = absurd (false≢true (no_parent h))
      by_object (Some o) is h = (positive c (rw is refl), (indexed.listed c o is).under job (by_body o.body h))

-- what is listed under the job as far as this one is among these, and what stands so many levels below it
abbrev pub HasUntil : Children → ℕ → ℕ → ℕ → List ℕ → Type 0
HasUntil children job n last ks = (c : ℕ) → 0 < c → c ≤ last → IsTrue (lists children job c) → IsTrue (is_one_of c ks) × HasBelow children c n ks

module _ (children : Children) (job n last : ℕ) (ks : List ℕ) where
  -- none is left
  pub until_all : HasUntil children job n last ks → IsNextListed children job last None → HasBelow children job (suc n) ks
  until_all until no_more m indexed none some k h = by_way (through m job n k h)
    where
      by_way : Through m job n k → IsTrue (is_one_of k ks)
      by_way t = elim (cases_Bool (nat_lt last t.way)) [
        | inl behind ↦ absurd (false≢true (sym (no_more t.way (grind (arith, nat_tests, behind))) ∙ stands.1))
        | inr before ↦ by_below t.below (until t.way stands.0 (grind (arith, nat_tests, before)) stands.1)
      ]
        where
          stands : (0 < t.way) × IsTrue (lists children job t.way)
          stands = under children m indexed none job t.way some t.up

          by_below : (t.way ≡ k) ⊎ IsTrue (is_below_by m t.way n k) → IsTrue (is_one_of t.way ks) × HasBelow children t.way n ks → IsTrue (is_one_of k ks)
          by_below (inl is) has = ap (λ j. is_one_of j ks) (sym is) ∙ has.0
          by_below (inr later) has = has.1 m indexed none (let some : 0 < t.way = stands.0 in grind (arith, nat_tests, some)) k later

pub no_levels : (children : Children) (job : ℕ) (ks : List ℕ) → HasBelow children job 0 ks
unfolding is_below_by
no_levels children job ks m indexed none some k h = absurd (false≢true h)

-- ---- a kill of those that were listed

module _ (f : ℕ → Object → Object) (k : ℕ) (h : Object → Object) where
  -- f, and then h at k
  abbrev then_at : ℕ → Object → Object
  then_at j o = if k == j then h (f j o) else f j o

  above_same : (m : Map Object) → IsTrue (below_all nat_cmp k m) → each f m ≡ each then_at m
  unfolding each
  above_same [] above = refl
  above_same (e ∷ m) above =
      let parts = below_parts k e m above in
      let apart : (k == e.0) ≡ false = let less : k < e.0 = parts.0 in grind (arith, nat_tests, less) in
      rw apart (ap (λ (es : Map Object). (e.0, f e.0 e.1) ∷ es) (above_same m parts.1))

  each_then : (m : Map Object) → IsTrue (is_sorted nat_cmp m) → update (each f m) k h ≡ each then_at m
  unfolding each update
  each_then [] sorted = refl
  each_then (e ∷ m) sorted = elim (cases_Bool (e.0 == k)) as (λ _. update (each f (e ∷ m)) k h ≡ each then_at (e ∷ m)) [
    | inl here ↦
        let key : e.0 ≡ k = eqb-true e.0 k here in
        let rest : each f m ≡ each then_at m = above_same m (ap (λ j. below_all nat_cmp j m) (sym key) ∙ (sorted_parts e m sorted).0) in
        rw (here, eq-eqb k e.0 (sym key)) (λ i. (sym key i, h (f e.0 e.1)) ∷ rest i)
    | inr apart ↦
        let other : (k == e.0) ≡ false = grind (arith, nat_tests, apart) in
        rw (apart, other) (ap (λ (es : Map Object). (e.0, f e.0 e.1) ∷ es) (each_then m (sorted_parts e m sorted).1))
  ]

each_same : (f g : ℕ → Object → Object) (m : Map Object) → ((j : ℕ) (o : Object) → f j o ≡ g j o) → each f m ≡ each g m
unfolding each
each_same f g [] same = refl
each_same f g (e ∷ m) same = λ i. (e.0, same e.0 e.1 i) ∷ each_same f g m same i

killed_twice : (o : Object) → killed (killed o) ≡ killed o
killed_twice o = ap (λ (b : Body). record o { body = b }) (twice o.body)
  where
    twice : (b : Body) → killed_body (killed_body b) ≡ killed_body b
    twice (body.Job own) = refl
    twice (body.Process job l) = refl
    twice _ = refl

module _ (m : Map Object) (task : ℕ) (sorted : IsTrue (is_sorted nat_cmp m)) where
  pub none_among : m ≡ killed_among m task []
  unfolding each
  none_among = sym (each_none m)
    where
      none : (b : Bool) (o : Object) → killed_if (b && false) o ≡ o
      none true o = refl
      none false o = refl

      each_none : (n : Map Object) → each (λ j. killed_if (is_within_here m task j && false)) n ≡ n
      each_none [] = refl
      each_none (e ∷ n) = λ i. (e.0, none (is_within_here m task e.0) e.1 i) ∷ each_none n i

  -- one more of them was looked at
  pub one_among : (now new : Map Object) (ks : List ℕ) (k : ℕ) (within : Bool) → now ≡ killed_among m task ks → within ≡ is_within_here now task k
      → new ≡ update now k (killed_if within) → new ≡ killed_among m task (ks ++ k ∷ [])
  one_among now new ks k within is one set =
      set ∙ (ap (λ b. update now k (killed_if b)) (one ∙ (ap (λ n. is_within_here n task k) is ∙ same_within (λ j. killed_if (done j))
      (λ j. if_stays (done j)) m task k)) ∙ (ap (λ n. update n k (killed_if (is_within_here m task k))) is
      ∙ (each_then (λ j. killed_if (done j)) k (killed_if (is_within_here m task k)) m sorted ∙ each_same _ _ m (λ j o. by_key j o (cases_Bool (k == j))))))
    where
      done : ℕ → Bool
      done j = is_within_here m task j && is_one_of j ks

      twice : (w a : Bool) (o : Object) → killed_if w (killed_if (w && a) o) ≡ killed_if (w && (a || (true || false))) o
      twice false a o = refl
      twice true false o = refl
      twice true true o = killed_twice o

      once : (w a : Bool) (o : Object) → killed_if (w && a) o ≡ killed_if (w && (a || (false || false))) o
      once w false o = refl
      once w true o = refl

      by_key : (j : ℕ) (o : Object) → IsTrue (k == j) ⊎ ((k == j) ≡ false)
          → (if k == j then killed_if (is_within_here m task k) (killed_if (done j) o) else killed_if (done j) o)
          ≡ killed_if (is_within_here m task j && is_one_of j (ks ++ k ∷ [])) o
      by_key j o (inl here) = rw (here, list_any-append (λ x. x == j) ks (k ∷ []), here, eqb-true k j here) (twice (is_within_here m task j) (is_one_of j ks) o)
      by_key j o (inr apart) = rw (apart, list_any-append (λ x. x == j) ks (k ∷ []), apart) (once (is_within_here m task j) (is_one_of j ks) o)

  -- all that matter were looked at
  pub all_among : (ks : List ℕ) → HasTask m task ks → killed_among m task ks ≡ all_killed m task
  unfolding all_killed
  all_among ks has = each_same _ _ m (λ j o. by_test j o (is_within_here m task j) refl)
    where
      by_test : (j : ℕ) (o : Object) (b : Bool) → is_within_here m task j ≡ b → killed_if (b && is_one_of j ks) o ≡ killed_if b o
      by_test j o false is = refl
      by_test j o true is = rw (has.within j is) refl

-- what was listed, in another order
pub has_moved : (m : Map Object) (task : ℕ) (ks ls : List ℕ) → IsPermutation ks ls → HasTask m task ks → HasTask m task ls
has_moved m task ks ls moved has = record {
  above = sym (list_any-IsPermutation (λ x. x == parent_at m task) ks ls moved) ∙ has.above;
  within = λ k h. sym (list_any-IsPermutation (λ x. x == k) ks ls moved) ∙ has.within k h;
}

-- ---- a sweep of those that were listed

-- one more of them was looked at
pub one_swept : (m m2 m3 : Map Object) (ks rest : List ℕ) (k : ℕ) → LetsGo [] m ks m2 (k ∷ rest) → LetsGo [] m2 (k ∷ []) m3 [] → LetsGo [] m ks m3 rest
unfolding budget
one_swept m m2 m3 ks rest k before went = record {
  cheap = omega (arith, before.cheap, cascaded_named [] m2 m3 (went.leads [] m3 (none_left m3)));
  notes = λ others old. subst (λ (ls : List ℕ). AreKeptBut ls m3) (append-nil (others ++ rest)) (went.notes (others ++ rest)
      (moved others (before.notes others old)));
  leads = λ rest2 m4 tail. before.leads rest2 m4 (went.leads rest2 m4 tail);
  places = λ have. went.places (before.places have);
  thins = thin_then m m2 m3 before.thins went.thins;
}
  where
    turned : (a b c : Bool) → IsTrue (a || (b || c)) → IsTrue ((a || c) || (b || false))
    turned true b c h = refl
    turned false true true h = refl
    turned false true false h = refl
    turned false false true h = refl
    turned false false false h = h

    moved : (others : List ℕ) → AreKeptBut (others ++ k ∷ rest) m2 → AreKeptBut ((others ++ rest) ++ k ∷ []) m2
    moved others old = record {
      in_order = old.in_order;
      noted = λ j o at unkept. rw (list_any-append (λ x. x == j) (others ++ rest) (k ∷ []), list_any-append (λ x. x == j) others rest)
          (turned (is_one_of j others) (k == j) (is_one_of j rest) (rw (list_any-append (λ x. x == j) others (k ∷ rest)) at (old.noted j o at unkept)));
    }

module _ (m : Map Object) (task : ℕ) (ks : List ℕ) (has : HasTask m task ks) (kept : AreKeptBut [] m) where
  abbrev kills : ℕ → Object → Object
  kills j o = killed_if (is_within_here m task j) o

  -- a job that lost a living child is among them
  lost : (k : ℕ) → IsTrue (has_living_child_here m k) → has_living_child_here (each kills m) k ≡ false → IsTrue (is_one_of k ks)
  unfolding has_living_child_here is_below_by
  lost k some none =
      let found : Found (λ e. is_child k e.1.body) m = any_found (λ e. is_child k e.1.body) m kept.in_order some in
      by_child found.key found.value found.at found.passes (cases_Bool (is_within_here m task found.key))
    where
      parent : (b : Body) → IsTrue (is_under k b) → parent_held b ≡ k
      parent (body.Job own) h = eqb-true own.parent k h
      parent (body.Process job l) h = eqb-true job k h
      parent _ h = absurd (false≢true h)

      by_way : (c : ℕ) → parent_at m c ≡ k → IsTrue (is_within_here m task c) → IsTrue (is_one_of k ks)
      by_way c up within =
          let parts = and_parts (not (task == 0)) _ within in
          elim (or_cases (c == task) _ parts.1) [
            | inl here ↦ ap (λ j. is_one_of j ks) (sym up ∙ ap (parent_at m) (eqb-true c task here)) ∙ has.above
            | inr below ↦ has.within k (and_from (not (task == 0)) _ parts.0 (by_level parts.0
                (or_cases (parent_at m c == task) (is_below_by m task 15 (parent_at m c)) (and_parts (not (task == 0)) _ below).1)))
          ]
        where
          by_level : IsTrue (not (task == 0)) → IsTrue (parent_at m c == task) ⊎ IsTrue (is_below_by m task 15 (parent_at m c))
              → IsTrue ((k == task) || (not (task == 0) && is_below_by m task 16 k))
          by_level away (inl here) = or_left (k == task) _ (ap (λ j. j == task) (sym up) ∙ here)
          by_level away (inr later) = or_right (k == task) _ (and_from (not (task == 0)) _ away
              (one_more_level m task 15 k (ap (is_below_by m task 15) (sym up) ∙ later)))

      by_child : (c : ℕ) (q : Object) → get m c ≡ Some q → IsTrue (is_child k q.body) → IsTrue (is_within_here m task c) ⊎ (is_within_here m task c ≡ false)
          → IsTrue (is_one_of k ks)
      by_child c q at child (inl within) = by_way c (ap parent_found at ∙ parent q.body (child_under k q.body child)) within
      by_child c q at child (inr apart) =
          absurd (false≢true (sym none ∙ any_at (λ e. is_child k e.1.body) (each kills m) c q (get-each m kills c ∙ rw (at, apart) refl) child))

  killed_but : (others : List ℕ) → AreKeptBut (others ++ ks) (all_killed m task)
  unfolding all_killed
  killed_but others = record {
    in_order = sorted_each kills m ∙ kept.in_order;
    noted = λ k o at unkept. rw (list_any-append (λ x. x == k) others ks)
        (or_right (is_one_of k others) _ (by_found k o (get m k) refl (sym (get-each m kills k) ∙ at) unkept));
  }
    where
      by_body : (k : ℕ) (named : Bool) (b : Body) → IsTrue (named || stays_alone m k b)
          → (named || stays_alone (each kills m) k b) ≡ false → IsTrue (is_one_of k ks)
      by_body k true b h loose = absurd (false≢true (sym loose))
      by_body k false (body.Job own) h loose = lost k h loose
      by_body k false (body.Process job l) h loose = absurd (false≢true (sym loose ∙ h))
      by_body k false _ h loose = absurd (false≢true h)

      was_kept : (k : ℕ) (q : Object) → get m k ≡ Some q → (b : Bool) → is_kept m k q ≡ b → IsTrue b
      was_kept k q at true is = refl
      was_kept k q at false is = absurd (false≢true (kept.noted k q at is))

      by_found : (k : ℕ) (o : Object) (q : Option Object) → get m k ≡ q → option_map (kills k) q ≡ Some o → is_kept (each kills m) k o ≡ false
          → IsTrue (is_one_of k ks)
      by_found k o None was at unkept = absurd (none-some o at)
      by_found k o (Some q) was at unkept = elim (cases_Bool (is_within_here m task k)) [
        | inl within ↦ has.within k within
        | inr apart ↦
            let same : q ≡ o = same_Some q o (rw apart at at) in
            by_body k (nat_lt 0 q.handles) q.body (was_kept k q was (is_kept m k q) refl) (ap (is_kept (each kills m) k) same ∙ unkept)
      ]

-- as if all objects had been looked at, where something kept each before
pub all_swept : (m m2 : Map Object) (task : ℕ) (listed : Bool) (ks : List ℕ) → (listed ≡ true → HasTask m task ks) → AreKeptBut [] m
    → LetsGo [] (all_killed m task) (looked_at listed ks (all_killed m task)) m2 [] → LetsGo [] (all_killed m task) (all_koids m) m2 []
unfolding budget
all_swept m m2 task false ks has kept went = subst (λ (ls : List ℕ). LetsGo [] (all_killed m task) ls m2 []) (killed_koids m task) went
all_swept m m2 task true ks has kept went = record {
  cheap = omega (arith, cascaded_named [] (all_killed m task) m2 (went.leads [] m2 (none_left m2)));
  notes = λ others old. went.notes others (killed_but m task ks (has refl) kept others);
  leads = went.leads;
  places = went.places;
  thins = went.thins;
}
