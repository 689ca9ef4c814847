-- Processes that come to a list one after another, where they pass a test.
use Rattle.zl_sched.proofs.Common.{Bool, List, Some, World, ap, append_assoc, arith, filter, is_process, is_ready, itself_ready, joining, length, length-append}
use Rattle.zl_sched.proofs.Common.{one_if, refl, slice_get, sym, take, take-append_seam, ℕ, ◌++◌, ◌+◌, ◌∙◌, ◌≡◌, ◌≤◌}
use Rattle.zl_sched.proofs.Common.{IsTrue, [], if◌then◌else◌, is_sorted, joined_by, joins, nat_cmp, not, others_of, pids_of, times_in, true, false, ◌==◌, ◌∷◌}
use Rattle.std.proofs.lemmas.List.Sorted.{sum_by-IsPermutation}
use Rattle.std.proofs.lemmas.List.Sums.{length-filter}
use Rattle.std.specs.List.Sorted.{IsNonDecreasing, IsPermutation}
use Rattle.zl_calls.proofs.lists.Positions.{times-filter}
use Rattle.zl_sched.proofs.Common.{cases_Bool, eqb-true, false≢true, get_or, inl, inr, is_one_of, take_more, without_ended, ◌&&◌, ◌<◌}
use Rattle.std.specs.Prelude.{◌||◌}
use Rattle.std.proofs.lemmas.List.Folds.{list_any-append}
use Rattle.zl_verify.proofs.OwnTable.{other_way}
use Rattle.zl_sched.proofs.Common.{Bool, eq-eqb, subst}
use Rattle.zl_sched.proofs.Queued.{both_filters, filtered_more, fewer_first}
use Rattle.zl_sched.proofs.Rising.{IsRising, filter_rises, keys_rise, same_rising, sorted_rises}

-- those that were there stay in front
pub stays_front : (a rest items : List ℕ) (n : ℕ) → items ≡ a ++ rest → n ≡ length a → take n items ≡ a
stays_front a rest items n is long = rw (is, long) (take-append_seam a rest)

-- the n-th process comes, or doesn't
module _ (f : ℕ → Bool) (a xs : List ℕ) (n x : ℕ) (items : List ℕ) (so_far : items ≡ a ++ filter f (take n xs)) (at : slice_get xs n ≡ Some x) (passes : Bool)
    (is : passes ≡ f x) where
  pub comes : (items2 : List ℕ) → items2 ≡ items ++ one_if passes x → items2 ≡ a ++ filter f (take (n + 1) xs)
  comes items2 added = added
      ∙ rw (so_far, is) (append_assoc a (filter f (take n xs)) (one_if (f x) x) ∙ ap (λ (ys : List ℕ). a ++ ys) (sym (filtered_more f n x xs at)))

  pub has_place : (places : ℕ) → length (a ++ filter f xs) ≤ places → length items + length (one_if passes x) ≤ places
  has_place places room =
      let long : length items + length (one_if passes x) ≡ length (a ++ filter f (take (n + 1) xs)) = sym (length-append items (one_if passes x))
      ∙ ap length (comes (items ++ one_if passes x) refl) in
      omega (arith, long, room, length-append a (filter f (take (n + 1) xs)), length-append a (filter f xs), fewer_first f (n + 1) xs)

-- ---- the parts of a list that has room as a whole

pub front_fits : (xs ys zs : List ℕ) (places : ℕ) → length (xs ++ (ys ++ zs)) ≤ places → length (xs ++ ys) ≤ places
front_fits xs ys zs places room = omega (arith, room, length-append xs (ys ++ zs), length-append ys zs, length-append xs ys)

-- ---- the list after a step, of which some stayed and others joined them

module _ (w : World) (p : ℕ) (out stayed joined : List ℕ) (is_joined : joined ≡ stayed ++ joining w p out stayed) where
  pub join_fits : (places : ℕ) → length (joined_by w p out stayed) ≤ places → length (stayed ++ joining w p out stayed) ≤ places
  join_fits = front_fits stayed (joining w p out stayed) (itself_ready w p)

  pub joined_all : (b : Bool) → b ≡ is_process w is_ready p → joined ++ one_if b p ≡ joined_by w p out stayed
  joined_all b is = rw (is_joined, is) (append_assoc stayed (joining w p out stayed) (itself_ready w p))

  pub push_fits : (places : ℕ) → length (joined_by w p out stayed) ≤ places → (b : Bool) → b ≡ is_process w is_ready p
      → length joined + length (one_if b p) ≤ places
  push_fits places room b is = omega (arith, room, length-append joined (one_if b p), ap length (joined_all b is))

-- ---- those that are told

-- of one process, which joins unless it is p
pub one_joins : (p q : ℕ) (joining : List ℕ) → ((k : ℕ) → times_in k joining ≡ times_in k (others_of p (q ∷ []))) → IsRising joining
    → joining ≡ one_if (not (q == p)) q
one_joins p q joining same rises = same_rising joining (one_if (not (q == p)) q) rises (by_test (not (q == p))) same
  where
    by_test : (b : Bool) → IsRising (one_if b q)
    by_test true = (λ k some. absurd (omega (arith, some)), tt)
    by_test false = tt

-- of several that were sorted
pub several_join : (p : ℕ) (list sorted joining : List ℕ) → IsPermutation list sorted → IsNonDecreasing sorted
    → ((k : ℕ) → times_in k joining ≡ times_in k (others_of p list)) → IsRising joining → joining ≡ others_of p sorted
several_join p list sorted joining moved in_order same rises =
    same_rising joining (others_of p sorted) rises (filter_rises (λ q. not (q == p)) sorted (sorted_rises sorted in_order)) (λ k. same k ∙ others k)
  where
    as_often : (k : ℕ) → times_in k list ≡ times_in k sorted
    as_often k = length-filter (λ q. q == k) list ∙ (sym (sum_by-IsPermutation _ list sorted moved) ∙ sym (length-filter (λ q. q == k) sorted))

    others : (k : ℕ) → times_in k (others_of p list) ≡ times_in k (others_of p sorted)
    others k = times-filter (λ q. not (q == p)) k list
        ∙ (ap (λ (n : ℕ). if not (k == p) then n else 0) (as_often k) ∙ sym (times-filter (λ q. not (q == p)) k sorted))

-- those that join stand in the order of their koids
pub joining_rises : (w : World) (p : ℕ) (out stayed : List ℕ) → IsTrue (is_sorted nat_cmp w.processes) → IsRising (joining w p out stayed)
joining_rises w p out stayed sorted = filter_rises (λ q. joins w p out stayed q) (pids_of w) (keys_rise w.processes sorted)

-- ---- those that a kill ended leave one after another

same_eqb : (k q : ℕ) → (k == q) ≡ (q == k)
same_eqb k q = elim (cases_Bool (k == q)) as (λ _. (k == q) ≡ (q == k)) [
  | inl here ↦ here ∙ sym (eq-eqb q k (sym (eqb-true k q here)))
  | inr apart ↦ apart ∙ sym (other_way k q apart)
]

module _ (w : World) (ks : List ℕ) (i k : ℕ) (within : i < length ks) (at : get_or ks i 0 ≡ k) (list : List ℕ) where
  one_more_of : (q : ℕ) → is_one_of q (take (i + 1) ks) ≡ (is_one_of q (take i ks) || (k == q))
  one_more_of q = ap (is_one_of q) (take_more ks i 0 within)
      ∙ (list_any-append (λ x. x == q) (take i ks) (get_or ks i 0 ∷ []) ∙ ap (λ (b : Bool). is_one_of q (take i ks) || b) (alone (get_or ks i 0 == q)
      ∙ ap (λ (j : ℕ). j == q) at))
    where
      alone : (b : Bool) → (b || false) ≡ b
      alone true = refl
      alone false = refl

  -- k isn't ready, and leaves
  pub one_leaves : is_process w is_ready k ≡ false → filter (λ q. not (q == k)) (without_ended w (take i ks) list) ≡ without_ended w (take (i + 1) ks) list
  one_leaves over = both_filters _ _ list ∙ (λ j. filter (λ q. sym (agrees q) j) list)
    where
      by_tests : (before same now : Bool) → (same ≡ true → now ≡ false) → not ((before || same) && not now) ≡ (not (before && not now) && not same)
      by_tests before true false now = by before
        where
          by : (b : Bool) → not ((b || true) && true) ≡ (not (b && true) && false)
          by true = refl
          by false = refl
      by_tests before true true now = absurd (false≢true (sym (now refl)))
      by_tests true false now h = by now
        where
          by : (b : Bool) → not (true && not b) ≡ (not (true && not b) && true)
          by true = refl
          by false = refl
      by_tests false false now h = refl

      agrees : (q : ℕ) → not (is_one_of q (take (i + 1) ks) && not (is_process w is_ready q))
          ≡ (not (is_one_of q (take i ks) && not (is_process w is_ready q)) && not (q == k))
      agrees q = rw (one_more_of q, same_eqb k q) (by_tests (is_one_of q (take i ks)) (q == k) (is_process w is_ready q)
          (λ here. ap (λ (j : ℕ). is_process w is_ready j) (eqb-true q k here) ∙ over))

  -- k is ready, and stays
  pub one_stays : is_process w is_ready k ≡ true → without_ended w (take i ks) list ≡ without_ended w (take (i + 1) ks) list
  one_stays now = λ j. filter (λ q. sym (agrees q) j) list
    where
      by_tests : (before same ready : Bool) → (same ≡ true → ready ≡ true) → not ((before || same) && not ready) ≡ not (before && not ready)
      by_tests true same ready h = refl
      by_tests false true true h = refl
      by_tests false true false h = absurd (false≢true (h refl))
      by_tests false false ready h = refl

      agrees : (q : ℕ) → not (is_one_of q (take (i + 1) ks) && not (is_process w is_ready q)) ≡ not (is_one_of q (take i ks) && not (is_process w is_ready q))
      agrees q = rw (one_more_of q) (by_tests (is_one_of q (take i ks)) (k == q) (is_process w is_ready q)
          (λ here. ap (λ (j : ℕ). is_process w is_ready j) (sym (eqb-true k q here)) ∙ now))

-- nobody is listed
pub none_leaves : (w : World) (list : List ℕ) → without_ended w [] list ≡ list
none_leaves w [] = refl
none_leaves w (x ∷ list) = ap (λ (xs : List ℕ). x ∷ xs) (none_leaves w list)

-- what stood once at most does so among those that are left
pub still_once : (w : World) (ks list : List ℕ) → ((k : ℕ) → times_in k list ≤ 1) → (k : ℕ) → times_in k (without_ended w ks list) ≤ 1
still_once w ks list once k = subst (λ (n : ℕ). n ≤ 1) (sym (times-filter (λ q. not (is_one_of q ks && not (is_process w is_ready q))) k list))
    (by_test (not (is_one_of k ks && not (is_process w is_ready k))))
  where
    by_test : (b : Bool) → (if b then times_in k list else 0) ≤ 1
    by_test true = once k
    by_test false = omega arith

-- nor are there more of others
pub others_once : (p : ℕ) (list : List ℕ) → ((k : ℕ) → times_in k list ≤ 1) → (k : ℕ) → times_in k (others_of p list) ≤ 1
others_once p list once k = subst (λ (n : ℕ). n ≤ 1) (sym (times-filter (λ q. not (q == p)) k list)) (by_test (not (k == p)))
  where
    by_test : (b : Bool) → (if b then times_in k list else 0) ≤ 1
    by_test true = once k
    by_test false = omega arith
