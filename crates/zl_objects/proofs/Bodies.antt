-- What keeps objects, once one of them was changed or has gone.
use Rattle.zl_objects.proofs.Common.{Body, Bool, IsTrue, Map, None, Object, Option, Some, [], ap, cases_Bool, eqb-true, false, false≢true, get, get-update}
use Rattle.zl_objects.proofs.Common.{get-without, has_key, has_living_child_here, if◌then◌else◌, inl, inr, is_above, is_child, is_in_job, is_job_at}
use Rattle.zl_objects.proofs.Common.{is_job_here, is_job_in, is_some, is_sorted, keeper_of, list_any, nat_cmp, none-some, option_map, or_cases, or_left}
use Rattle.zl_objects.proofs.Common.{or_right, refl, same_Some, sorted_parts, stays_alone, sym, true, update, without, without_lower, ℕ, ◌==◌, ◌||◌, ◌∙◌, ◌∷◌}
use Rattle.zl_objects.proofs.Common.{◌≡◌}
use Rattle.zl_objects.specs.declared.object.Body.TheVariants as body
use Rattle.zl_objects.proofs.Places.{seen_updated}

-- ---- one object was changed

-- an object afterwards is one that was there before, perhaps changed
pub record Changed (f : Object → Object) (m : Map Object) (k j : ℕ) (q : Object) : Type 0 where
  pub before : Object
  pub there : get m j ≡ Some before
  pub is : q ≡ (if k == j then f before else before)

pub changed : (f : Object → Object) (m : Map Object) (k j : ℕ) (q : Object) → get (update m k f) j ≡ Some q → Changed f m k j q
changed f m k j q at = by_object (get m j) refl (sym (get-update m k f j) ∙ at)
  where
    by_object : (o : Option Object) → get m j ≡ o → (if k == j then option_map f (get m j) else get m j) ≡ Some q → Changed f m k j q
    by_object None is h = elim (cases_Bool (k == j)) as (λ _. Changed f m k j q) [
      | inl here ↦ absurd (none-some q (rw (here, is) at h))
      | inr apart ↦ absurd (none-some q (rw (apart, is) at h))
    ]
    by_object (Some o) is h = elim (cases_Bool (k == j)) as (λ _. Changed f m k j q) [
      | inl here ↦ record { before = o; there = is; is = rw here (sym (same_Some (f o) q (rw (here, is) at h))) }
      | inr apart ↦ record { before = o; there = is; is = rw apart (sym (same_Some o q (rw (apart, is) at h))) }
    ]

module _ (f : Object → Object) where
  -- where it stays as much a child, jobs have their living children still
  child_changed : ((j : ℕ) (o : Object) → is_child j (f o).body ≡ is_child j o.body) → (m : Map Object) (k job : ℕ)
      → has_living_child_here (update m k f) job ≡ has_living_child_here m job
  unfolding update has_living_child_here
  child_changed same [] k job = refl
  child_changed same (e ∷ m) k job =
      elim (cases_Bool (e.0 == k)) as (λ _. list_any (λ x. is_child job x.1.body) (update (e ∷ m) k f) ≡ list_any (λ x. is_child job x.1.body) (e ∷ m)) [
        | inl here ↦ rw (here, same job e.1) refl
        | inr apart ↦ rw apart (ap (λ b. is_child job e.1.body || b) (child_changed same m k job))
      ]

  pub alone_changed : ((j : ℕ) (o : Object) → is_child j (f o).body ≡ is_child j o.body) → (m : Map Object) (k j : ℕ) (b : Body)
      → stays_alone (update m k f) j b ≡ stays_alone m j b
  alone_changed same m k j (body.Job own) = child_changed same m k j
  alone_changed same m k j _ = refl

  -- where it stays a job, or none, the jobs are the same
  pub job_changed : ((o : Object) → is_job_here (f o).body ≡ is_job_here o.body) → (m : Map Object) (k j : ℕ) → is_job_at (update m k f) j ≡ is_job_at m j
  job_changed same = seen_updated is_job_in f same

-- its body stays
module _ (f : Object → Object) (same : (o : Object) → (f o).body ≡ o.body) where
  pub alone_updated : (m : Map Object) (k j : ℕ) (b : Body) → stays_alone (update m k f) j b ≡ stays_alone m j b
  alone_updated = alone_changed f (λ j o. ap (is_child j) (same o))

-- ---- one object has gone

-- what is left was there before, and isn't k
pub found_left : (m : Map Object) (k j : ℕ) (q : Object) → get (without m k) j ≡ Some q → ((k == j) ≡ false) × (get m j ≡ Some q)
found_left m k j q at = elim (cases_Bool (k == j)) as (λ _. ((k == j) ≡ false) × (get m j ≡ Some q)) [
  | inl here ↦ absurd (none-some q (rw here at (sym (get-without m k j) ∙ at)))
  | inr apart ↦ (apart, rw apart at (sym (get-without m k j) ∙ at))
]

pub has_left : (m : Map Object) (k j : ℕ) → IsTrue (has_key (without m k) j) → IsTrue (has_key m j)
has_left m k j has = by_object (get (without m k) j) refl has
  where
    by_object : (q : Option Object) → get (without m k) j ≡ q → IsTrue (is_some q) → IsTrue (has_key m j)
    by_object None is h = absurd (false≢true h)
    by_object (Some q) is h = rw ((found_left m k j q is).1) refl

-- a test that the entry fails is passed as often without it
pub any_without_at : {X : Type 0} (test : ℕ × X → Bool) (m : Map X) (k : ℕ) (x : X) → IsTrue (is_sorted nat_cmp m) → get m k ≡ Some x → test (k, x) ≡ false
    → list_any test (without m k) ≡ list_any test m
unfolding get without
any_without_at test [] k x sorted there out = refl
any_without_at {X} test (e ∷ m) k x sorted there out = elim (cases_Bool (e.0 == k)) as (λ _. list_any test (without (e ∷ m) k) ≡ list_any test (e ∷ m)) [
  | inl here ↦
      let key : e.0 ≡ k = eqb-true e.0 k here in
      let same : e.1 ≡ x = same_Some e.1 x (rw here at there) in
      let fails : test e ≡ false = (λ i. test (key i, same i)) ∙ out in
      let rest : without m k ≡ m = ap (λ (j : ℕ). without m j) (sym key) ∙ without_lower e.0 m (sorted_parts e m sorted).0 in
      rw (here, fails) (ap (λ (n : Map X). list_any test n) rest)
  | inr apart ↦ rw apart (ap (λ b. test e || b) (any_without_at test m k x (sorted_parts e m sorted).1 (rw apart at there) out))
]

module _ (m : Map Object) (sorted : IsTrue (is_sorted nat_cmp m)) (k : ℕ) (o : Object) (there : get m k ≡ Some o) (j : ℕ)
    (apart : is_child j o.body ≡ false) where
  -- another job has its living children
  child_left : has_living_child_here (without m k) j ≡ has_living_child_here m j
  unfolding has_living_child_here
  child_left = any_without_at (λ e. is_child j e.1.body) m k o sorted there apart

  pub alone_left : (b : Body) → stays_alone (without m k) j b ≡ stays_alone m j b
  alone_left (body.Job own) = child_left
  alone_left _ = refl

-- ---- jobs and bodies

module _ (m n : Map Object) where
  -- the same jobs
  pub same_in_job : ((j : ℕ) → is_job_at n j ≡ is_job_at m j) → (b : Body) → is_in_job n b ≡ is_in_job m b
  same_in_job same b = above (keeper_of b)
    where
      above : (q : Option ℕ) → is_above n q ≡ is_above m q
      above None = refl
      above (Some job) = ap (λ j. (job == 0) || j) (same job)

  -- more jobs
  pub more_in_job : ((j : ℕ) → IsTrue (is_job_at m j) → IsTrue (is_job_at n j)) → (b : Body) → IsTrue (is_in_job m b) → IsTrue (is_in_job n b)
  more_in_job more b = above (keeper_of b)
    where
      above : (q : Option ℕ) → IsTrue (is_above m q) → IsTrue (is_above n q)
      above None h = refl
      above (Some job) h = elim (or_cases (job == 0) (is_job_at m job) h) as (λ _. IsTrue (is_above n (Some job))) [
        | inl none ↦ or_left (job == 0) _ none
        | inr there ↦ or_right (job == 0) _ (more job there)
      ]

module _ (f : Object → Object) (same : (o : Object) → (f o).body ≡ o.body) where
  pub changed_body : (m : Map Object) (k j : ℕ) (q : Object) → (c : Changed f m k j q) → q.body ≡ c.before.body
  changed_body m k j q c =
      ap (λ (x : Object). x.body) c.is
      ∙ elim (k == j) as (λ b. (if b then f c.before else c.before).body ≡ c.before.body) [ true ↦ same c.before | false ↦ refl ]

  pub in_job_updated : (m : Map Object) (k : ℕ) (b : Body) → is_in_job (update m k f) b ≡ is_in_job m b
  in_job_updated m k b = same_in_job m (update m k f) (job_changed f (λ o. ap is_job_here (same o)) m k) b
