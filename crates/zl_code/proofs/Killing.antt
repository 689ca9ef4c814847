-- What stands below a killed job is killed with it: nothing that lives is left below it.
use Rattle.zl_code.proofs.Common.{Action, Body, Bool, Ended, Gone, IsSound, IsSoundJob, IsTrue, JobBody, KILLED, LivesAt, Map, None, Object, Option, Process}
use Rattle.zl_code.proofs.Common.{ProcessBody, Some, StandsBelow, State, World, [], ap, arith, body_in, body_killed, body_of, cases_Bool, depth_in, eqb-true}
use Rattle.zl_code.proofs.Common.{false, false≢true, get, get-each, get-put, if◌then◌else◌, inl, inr, is_dead, is_deepest, is_job_below, is_process_of, is_some}
use Rattle.zl_code.proofs.Common.{is_under_by, is_within, job_within, lives, nat_tests, ne_eqb, none-some, object_killed, option_map, or_left, or_right}
use Rattle.zl_code.proofs.Common.{parent_in, process_killed, refl, same_Some, subst, suc, sym, true, true≢false, with_killed, with_object, zero, ℕ, ◌+◌, ◌<◌}
use Rattle.zl_code.proofs.Common.{◌==◌, ◌||◌, ◌∙◌, ◌≡◌, ◌≤◌}
use Rattle.std.proofs.lemmas.Bool.{and_right, or_cases}
use Rattle.zl_code.proofs.Changes.{IsChildless}

-- ---- the way up

-- what stands in the tree there, as the tree says
abbrev IsTree : Map Object → Type 0
IsTree m = (k : ℕ) (o : Object) → get m k ≡ Some o → StandsBelow m k o.body

-- the job that lives there is sound
pub job_of : (m : Map Object) → IsTree m → (k depth : ℕ) → (l : LivesAt m k depth) → IsSoundJob m k l.parent depth l.policy false
job_of m tree k depth l = by_object (get m k) refl l.there
  where
    by_object : (o : Option Object) → get m k ≡ o → body_in o ≡ Some (JobBody l.parent depth l.policy false) → IsSoundJob m k l.parent depth l.policy false
    by_object None at is = absurd (none-some _ is)
    by_object (Some o) at is = subst (StandsBelow m k) (same_Some o.body _ is) (tree k o at)

module _ (m : Map Object) (tree : IsTree m) where
  -- the root job is the first level
  pub some_depth : (k depth : ℕ) → LivesAt m k depth → 0 < depth
  some_depth k depth l = elim ((job_of m tree k depth l).above refl) as (λ _. 0 < depth) [
    | inl root ↦ omega (arith, root.1)
    | inr below ↦ omega (arith, below.1)
  ]

  -- no job or process has the koid 0
  none_above_zero : parent_in (body_in (get m 0)) ≡ 0
  none_above_zero = by_object (get m 0) refl
    where
      by_body : (b : Body) → StandsBelow m 0 b → parent_in (Some b) ≡ 0
      by_body (JobBody parent depth policy killed) s = absurd (omega (arith, s.later))
      by_body (ProcessBody job) s = absurd (omega (arith, s))
      by_body _ s = refl

      by_object : (o : Option Object) → get m 0 ≡ o → parent_in (body_in o) ≡ 0
      by_object None at = refl
      by_object (Some o) at = by_body o.body (tree 0 o at)

  module _ (t : ℕ) (some : (0 == t) ≡ false) where
    none_from_zero : (n : ℕ) → is_under_by m t n 0 ≡ false
    unfolding is_under_by
    none_from_zero zero = refl
    none_from_zero (suc n) = rw (none_above_zero, some) (none_from_zero n)

    pub zero_is_outside : is_within m t 0 ≡ false
    unfolding is_within
    zero_is_outside = rw some (none_from_zero 16)

    -- from a living job as many steps suffice as levels are above it
    found_by_depth : (d k n : ℕ) → LivesAt m k (suc d) → is_under_by m t n k ≡ true → is_under_by m t d k ≡ true
    unfolding is_under_by
    found_by_depth d k zero l found = absurd (false≢true found)
    found_by_depth d k (suc n) l found = elim ((job_of m tree k (suc d) l).above refl) as (λ _. is_under_by m t d k ≡ true) [
      | inl root ↦ absurd (false≢true (sym (from_root (l.parent) root.0) ∙ first))
      | inr below ↦ by_level (λ e up further. found_by_depth e l.parent n up further) below.0 d (omega (arith, below.1)) below.2
    ]
      where
        above : parent_in (body_in (get m k)) ≡ l.parent
        above = ap parent_in l.there

        first : ((l.parent == t) || is_under_by m t n l.parent) ≡ true
        first = rw above at found

        from_root : (up : ℕ) → up ≡ 0 → ((up == t) || is_under_by m t n up) ≡ false
        from_root up is = rw (is, some) (none_from_zero n)

        by_level : ((e : ℕ) → LivesAt m l.parent (suc e) → is_under_by m t n l.parent ≡ true → is_under_by m t e l.parent ≡ true) → (level e : ℕ) → level ≡ e
            → LivesAt m l.parent level → is_under_by m t e k ≡ true
        by_level again level zero is up = let deep : 0 < level = some_depth l.parent level up in absurd (omega (arith, is, deep))
        by_level again level (suc e) is up =
            rw above (elim (or_cases (l.parent == t) (is_under_by m t n l.parent) first) as (λ _. ((l.parent == t) || is_under_by m t e l.parent) ≡ true) [
              | inl here ↦ or_left _ _ here
              | inr further ↦ or_right (l.parent == t) _ (again e (subst (LivesAt m l.parent) is up) further)
            ])

    -- more steps find no less
    found_with_more : (n j k : ℕ) → n ≤ j → is_under_by m t n k ≡ true → is_under_by m t j k ≡ true
    unfolding is_under_by
    found_with_more zero j k few found = absurd (false≢true found)
    found_with_more (suc n) zero k few found = absurd (omega arith)
    found_with_more (suc n) (suc j) k few found =
        elim (or_cases (parent_in (body_in (get m k)) == t) (is_under_by m t n (parent_in (body_in (get m k)))) found)
        as (λ _. is_under_by m t (suc j) k ≡ true) [
          | inl here ↦ or_left (parent_in (body_in (get m k)) == t) _ here
          | inr above ↦ or_right (parent_in (body_in (get m k)) == t) _ (found_with_more n j (parent_in (body_in (get m k))) (omega arith) above)
        ]

    -- whoever stands directly below a living job that is t or below it, is below t
    pub below_is_within : (k d c : ℕ) → LivesAt m k d → is_within m t k ≡ true → parent_in (body_in (get m c)) ≡ k → is_within m t c ≡ true
    unfolding is_within is_under_by
    below_is_within k d c l inside up = or_right (c == t) _ (elim (or_cases (k == t) (is_under_by m t 16 k) inside) as (λ _. is_under_by m t 16 c ≡ true) [
      | inl here ↦ reached (or_left (k == t) _ here)
      | inr further ↦ by_depth d l further
    ])
      where
        reached : ((k == t) || is_under_by m t 15 k) ≡ true → is_under_by m t 16 c ≡ true
        reached found = rw up found

        by_depth : (e : ℕ) → LivesAt m k e → is_under_by m t 16 k ≡ true → is_under_by m t 16 c ≡ true
        by_depth zero l2 found = let deep : 0 < 0 = some_depth k 0 l2 in absurd (omega (arith, deep))
        by_depth (suc e) l2 found =
            let shallow : suc e ≤ 16 = (job_of m tree k (suc e) l2).shallow in
            reached (or_right (k == t) _ (found_with_more e 15 k (omega (arith, shallow)) (found_by_depth e k 16 l2 found)))

-- ---- a kill

module _ (w : World) (s : IsSound w) (t : ℕ) (some : (0 == t) ≡ false) where
  -- directly below what is killed nothing lives
  pub childless : (k : ℕ) → is_within w.objects t k ≡ true → IsChildless (with_killed w t) k
  unfolding with_killed
  childless k inside = record {
    jobs = λ c o at. by_job c o (get w.objects c) refl (sym (get-each w.objects (λ j. object_killed (is_within w.objects t j)) c) ∙ at);
    processes = λ p q o there alive at.
        by_process p q o (get w.processes p) refl (sym (get-each w.processes (λ j. process_killed (is_within w.objects t j)) p) ∙ there) alive
        (sym (get-each w.objects (λ j. object_killed (is_within w.objects t j)) p) ∙ at);
  }
    where
      -- a living job below it would be among the killed
      no_job : (c : ℕ) (x : Object) (parent depth : ℕ) (policy : Map Action) → get w.objects c ≡ Some x → x.body ≡ JobBody parent depth policy false
          → is_within w.objects t c ≡ false → (parent == k) ≡ false
      no_job c x parent depth policy at is outside = elim (cases_Bool (parent == k)) as (λ _. (parent == k) ≡ false) [
        | inr apart ↦ apart
        | inl here ↦
            let same : parent ≡ k = eqb-true parent k here in
            let job : IsSoundJob w.objects c parent depth policy false = subst (StandsBelow w.objects c) is (s.tree c x at) in
            elim (job.above refl) as (λ _. (parent == k) ≡ false) [
              | inl root ↦ absurd (true≢false (sym inside ∙ (ap (is_within w.objects t) (sym same ∙ root.0) ∙ zero_is_outside w.objects s.tree t some)))
              | inr below ↦ absurd (true≢false
                  (sym (below_is_within w.objects s.tree t some k below.0 c (subst (λ j. LivesAt w.objects j below.0) same below.2) inside (rw (at, is) same))
                  ∙ outside))
            ]
      ]

      by_body : (c : ℕ) (x : Object) (b : Body) → get w.objects c ≡ Some x → x.body ≡ b → is_within w.objects t c ≡ false → is_job_below k b ≡ false
      by_body c x (JobBody parent depth policy true) at is outside = and_right (parent == k) false refl
      by_body c x (JobBody parent depth policy false) at is outside = rw (no_job c x parent depth policy at is outside) refl
      by_body c x _ at is outside = refl

      dead_body : (b : Body) → is_job_below k (body_killed b) ≡ false
      dead_body (JobBody parent depth policy killed) = and_right (parent == k) false refl
      dead_body _ = refl

      by_reach : (c : ℕ) (x : Object) (b : Bool) → get w.objects c ≡ Some x → is_within w.objects t c ≡ b → is_job_below k (object_killed b x).body ≡ false
      by_reach c x true at is = dead_body x.body
      by_reach c x false at is = by_body c x x.body at refl is

      by_job : (c : ℕ) (o : Object) (old : Option Object) → get w.objects c ≡ old → option_map (object_killed (is_within w.objects t c)) old ≡ Some o
          → is_job_below k o.body ≡ false
      by_job c o None at is = absurd (none-some o is)
      by_job c o (Some x) at is = rw (← same_Some _ o is) (by_reach c x (is_within w.objects t c) at refl)

      over : (x : Process) → IsTrue (lives (process_killed true x).state) → ⊥
      over x alive = by_state x.state refl alive
        where
          by_state : (st : State) → x.state ≡ st
              → IsTrue (lives (if lives st then record x { state = Ended KILLED; handles = []; last = None } else x).state) → ⊥
          by_state (Ended code) is h = false≢true (rw is at h)
          by_state Gone is h = false≢true (rw is at h)
          by_state _ is h = false≢true h

      -- nor is a living process directly below it
      by_spared : (p : ℕ) (x : Process) (y : Object) → get w.processes p ≡ Some x → IsTrue (lives x.state) → get w.objects p ≡ Some y
          → is_within w.objects t p ≡ false → is_process_of k y.body ≡ false
      by_spared p x y there alive at outside =
          let has = s.living p x there alive in
          let body : y.body ≡ ProcessBody has.job = same_Some y.body _ (sym (ap body_in at) ∙ has.there) in
          elim (cases_Bool (has.job == k)) as (λ _. is_process_of k y.body ≡ false) [
            | inr apart ↦ rw body apart
            | inl here ↦
                let same : has.job ≡ k = eqb-true has.job k here in
                absurd (true≢false (sym (below_is_within w.objects s.tree t some k has.depth p (subst (λ j. LivesAt w.objects j has.depth) same has.lives)
                inside (ap parent_in has.there ∙ same)) ∙ outside))
          ]

      by_life : (p : ℕ) (x : Process) (y : Object) (b : Bool) → get w.processes p ≡ Some x → get w.objects p ≡ Some y → is_within w.objects t p ≡ b
          → IsTrue (lives (process_killed b x).state) → is_process_of k (object_killed b y).body ≡ false
      by_life p x y true there at is alive = absurd (over x alive)
      by_life p x y false there at is alive = by_spared p x y there alive at is

      by_process : (p : ℕ) (q : Process) (o : Object) (old : Option Process) → get w.processes p ≡ old
          → option_map (process_killed (is_within w.objects t p)) old ≡ Some q → IsTrue (lives q.state)
          → option_map (object_killed (is_within w.objects t p)) (get w.objects p) ≡ Some o → is_process_of k o.body ≡ false
      by_process p q o None there is alive at = absurd (none-some q is)
      by_process p q o (Some x) there is alive at = by_object (get w.objects p) refl at
        where
          by_object : (old : Option Object) → get w.objects p ≡ old → option_map (object_killed (is_within w.objects t p)) old ≡ Some o
              → is_process_of k o.body ≡ false
          by_object None here e = absurd (none-some o e)
          by_object (Some y) here e = rw (← same_Some _ o e) (by_life p x y (is_within w.objects t p) there here refl (rw (same_Some _ q is) alive))

-- ---- what is made in a job

-- the job in which something is to be made lives
pub living_job : (w : World) (k : ℕ) → is_dead (body_of w k) ≡ false
    → (depth : ℕ) × (parent : ℕ) × (policy : Map Action) × (body_of w k ≡ Some (JobBody parent depth policy false))
living_job w k alive = by_body (body_of w k) refl alive
  where
    by_body : (b : Option Body) → body_of w k ≡ b → is_dead b ≡ false
        → (depth : ℕ) × (parent : ℕ) × (policy : Map Action) × (body_of w k ≡ Some (JobBody parent depth policy false))
    by_body (Some (JobBody parent depth policy false)) is h = (depth, parent, policy, is)
    by_body (Some (JobBody parent depth policy true)) is h = absurd (true≢false h)
    by_body _ is h = absurd (true≢false h)

-- it lives beside a new object too
pub lives_beside : (w : World) (b : Body) (k depth parent : ℕ) (policy : Map Action) → body_of w k ≡ Some (JobBody parent depth policy false) → IsSound w
    → LivesAt (with_object w b).objects k depth
unfolding with_object
lives_beside w b k depth parent policy is s = record {
  parent = parent;
  policy = policy;
  there = ap body_in (get-put w.objects w.next_koid (record { body = b; raised = 0 }) k ∙ rw (ne_eqb w.next_koid k (λ e. omega (arith, e, below))) refl) ∙ is;
}
  where
    some_body : (o : Option Object) → body_in o ≡ Some (JobBody parent depth policy false) → IsTrue (is_some o)
    some_body None e = absurd (none-some _ e)
    some_body (Some o) e = refl

    below : k < w.next_koid
    below = s.objects.below k (some_body (get w.objects k) is)

-- a new job stands below the one in which it is made
pub new_job_stands : (w : World) (k : ℕ) → is_dead (body_of w k) ≡ false → is_deepest (body_of w k) ≡ false → IsSound w
    → StandsBelow (with_object w (job_within k (body_of w k))).objects w.next_koid (job_within k (body_of w k))
new_job_stands w k lives_there shallow_there s = record {
  later = below;
  shallow = rw living.3 deeper;
  policy_known = rw living.3 above.policy_known;
  above = λ e. inr (
    depth_in (body_of w k),
    refl,
    subst (λ d. LivesAt (with_object w (job_within k (body_of w k))).objects k d) (sym (ap depth_in living.3))
        (lives_beside w (job_within k (body_of w k)) k living.0 living.1 living.2 living.3 s),
  );
}
  where
    living : (depth : ℕ) × (parent : ℕ) × (policy : Map Action) × (body_of w k ≡ Some (JobBody parent depth policy false))
    living = living_job w k lives_there

    above : IsSoundJob w.objects k living.1 living.0 living.2 false
    above = job_of w.objects s.tree k living.0 (record { parent = living.1; policy = living.2; there = living.3 })

    shallow : is_deepest (Some (JobBody living.1 living.0 living.2 false)) ≡ false
    shallow = rw (← living.3) shallow_there

    deeper : living.0 + 1 ≤ 16
    deeper = grind (arith, nat_tests, shallow)

    some_body : (o : Option Object) → body_in o ≡ Some (JobBody living.1 living.0 living.2 false) → IsTrue (is_some o)
    some_body None e = absurd (none-some _ e)
    some_body (Some o) e = refl

    below : k < w.next_koid
    below = s.objects.below k (some_body (get w.objects k) living.3)
