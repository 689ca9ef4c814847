-- What is dead isn't listed as living any more, once it was taken off, and all others that were taken off stay so.
use Rattle.zl_objects.proofs.Common.{BTreeSet, Bool, Children, IsBuried, IsTrue, List, Map, NoMoreLive, None, Object, Option, Some, Updates, cases_Bool}
use Rattle.zl_objects.proofs.Common.{contains, eqb-true, false, false≢true, get, has_pair, if◌then◌else◌, inl, inr, is_at, is_one_of, list_any-append}
use Rattle.zl_objects.proofs.Common.{lists_living, or_cases, or_left, or_right, pair_cmp, parent_held, subst, sym, true, ℕ, ◌++◌, ◌==◌, ◌||◌, ◌∙◌, ◌∷◌, ◌≡◌, []}
use Rattle.zl_objects.proofs.Index.{there_if}

-- the pair isn't there any more, and none has come
pub removed_fewer : (old new : BTreeSet (ℕ × ℕ)) (job koid : ℕ) → Updates pair_cmp old new (job, koid) false → (j k : ℕ) → IsTrue (has_pair new j k)
    → IsTrue (has_pair old j k)
removed_fewer old new job koid updates j k =
    there_if new old job koid j k (λ h. by_test (is_at (pair_cmp (job, koid)) (j, k)) (sym (updates.0 (j, k)) ∙ h))
  where
    by_test : (b : Bool) → IsTrue (if b then false else contains pair_cmp old (j, k)) → IsTrue (contains pair_cmp old (j, k))
    by_test true h = absurd (false≢true h)
    by_test false h = h

module _ (children children2 : Children) where
  -- neither as a job nor as a process
  pub fewer_live : ((j k : ℕ) → IsTrue (has_pair children2.jobs j k) → IsTrue (has_pair children.jobs j k))
      → ((j k : ℕ) → IsTrue (has_pair children2.processes j k) → IsTrue (has_pair children.processes j k)) → NoMoreLive children children2
  fewer_live jobs processes j k h =
      elim (or_cases (has_pair children2.jobs j k) (has_pair children2.processes j k) h) as (λ _. IsTrue (lists_living children j k)) [
        | inl job ↦ or_left (has_pair children.jobs j k) _ (jobs j k job)
        | inr process ↦ or_right (has_pair children.jobs j k) _ (processes j k process)
      ]

  module _ (fewer : NoMoreLive children children2) where
    still_buried : (k : ℕ) (q : Option Object) → IsBuried children k q → IsBuried children2 k q
    still_buried k None buried = tt
    still_buried k (Some o) buried = λ dead. elim (cases_Bool (lists_living children2 (parent_held o.body) k))
        as (λ _. lists_living children2 (parent_held o.body) k ≡ false) [
          | inl there ↦ absurd (false≢true (sym (buried dead) ∙ fewer (parent_held o.body) k there))
          | inr out ↦ out
        ]

    -- one more of the list was taken off
    pub one_more_buried : (m : Map Object) (ks : List ℕ) (x : ℕ) → ((k : ℕ) → IsTrue (is_one_of k ks) → IsBuried children k (get m k))
        → IsBuried children2 x (get m x) → (k : ℕ) → IsTrue (is_one_of k (ks ++ x ∷ [])) → IsBuried children2 k (get m k)
    one_more_buried m ks x buried one k h =
        elim (or_cases (is_one_of k ks) ((x == k) || false) (sym (list_any-append (λ y. y == k) ks (x ∷ [])) ∙ h))
        as (λ _. IsBuried children2 k (get m k)) [
          | inl before ↦ still_buried k (get m k) (buried k before)
          | inr last ↦ elim (or_cases (x == k) false last) as (λ _. IsBuried children2 k (get m k)) [
            | inl here ↦ subst (λ (j : ℕ). IsBuried children2 j (get m j)) (eqb-true x k here) one
            | inr no_more ↦ absurd (false≢true no_more)
          ]
        ]
