-- Jobs and processes keep their places in the tree of jobs: what lives stands below what lives.
use Rattle.zl_code.proofs.Common.{Action, Blocked, Body, Bool, ChannelEnd, Condition, HasGivenKoids, HasItsObject, IsBelow, IsSound, IsTrue, JobBody, LivesAt}
use Rattle.zl_code.proofs.Common.{Map, None, Object, Option, PortBody, Process, ProcessBody, Ready, Setting, Some, StandsBelow, State, World, [], and_from}
use Rattle.zl_code.proofs.Common.{and_parts, ap, arith, body_after_read, body_in, body_killed, body_with_message, body_with_policy, cases_Bool}
use Rattle.zl_code.proofs.Common.{condition_numbered, eq-eqb, false, false≢true, get, has_key, if◌then◌else◌, inl, inr, is_job_below, is_policy, is_process_of}
use Rattle.zl_code.proofs.Common.{is_some, list_all, lives, nat_tests, none-some, policy_after, policy_set, put, refl, runs, same_Some, sym, true, true≢false}
use Rattle.zl_code.proofs.Common.{with_unset, ℕ, ◌<◌, ◌∙◌, ◌∷◌, ◌≡◌}
use Rattle.zl_code.proofs.MapKept.{same, changed, new}
use Rattle.zl_code.proofs.Changes.{IsChildless, ProcessChange, handle_enters, handle_leaves, computes, ends, wakes, starts, blocks, ObjectChange}
use Rattle.zl_code.proofs.Changes.{signals_change, packets_change, message_comes, message_goes, policy_changes, dies, Change}
use Rattle.zl_rights.specs.declared.policy.Condition.TheVariants as condition
use Rattle.zl_rights.proofs.MapEdits.{sorted_put}

-- ---- a living process has its object

pub runs_lives : (s : State) → IsTrue (runs s) → IsTrue (lives s)
runs_lives Ready r = refl
runs_lives (Blocked a b) r = refl
runs_lives _ r = absurd (false≢true r)

pub lives_before : (start after : World) (p : ℕ) (x y : Process) → ProcessChange start after p x y → IsTrue (lives y.state) → IsTrue (lives x.state)
lives_before start after p x y (handle_enters v e is may) h = rw is at h
lives_before start after p x y (handle_leaves v is there) h = rw is at h
lives_before start after p x y (computes c is) h = rw is at h
lives_before start after p x y (ends code is) h = absurd (false≢true (rw is at h))
lives_before start after p x y (wakes c is running) h = runs_lives x.state running
lives_before start after p x y (starts c is created) h = ap lives created
lives_before start after p x y (blocks awaited ds is running) h = runs_lives x.state running

pub has_body : (o : Option Object) (b : Body) → body_in o ≡ Some b → IsTrue (is_some o)
has_body None b e = absurd (none-some b e)
has_body (Some o) b e = refl

-- no change but settling takes away a process, or moves it to another job
pub process_stays : (start u v : World) → HasGivenKoids u → Change start u v → (k job : ℕ) → body_in (get u.objects k) ≡ Some (ProcessBody job)
    → body_in (get v.objects k) ≡ Some (ProcessBody job)
process_stays start u v given c k job there = elim (c.objects k) as (λ _. body_in (get v.objects k) ≡ Some (ProcessBody job)) [
  | same e ↦ ap body_in e ∙ there
  | changed x y was is r ↦ ap body_in is ∙ by_change x y r (same_Some x.body (ProcessBody job) (rw was at there))
  | new y is n ↦ let below : k < u.next_koid = given.below k (has_body (get u.objects k) (ProcessBody job) there) in absurd (omega (arith, n.next))
]
  where
    by_change : (x y : Object) → ObjectChange start v k x y → x.body ≡ ProcessBody job → Some y.body ≡ Some (ProcessBody job)
    by_change x y (signals_change clear set is may) e = rw is (ap Some e)
    by_change x y (packets_change old packets port is) e = absurd (no_port_here (sym port ∙ e))
      where
        no_port_here : PortBody old ≡ ProcessBody job → ⊥
        no_port_here f = cc
    by_change x y (message_comes m is may) e = rw (is, e) refl
    by_change x y (message_goes is) e = rw (is, e) refl
    by_change x y (policy_changes s is may) e = rw (is, e) refl
    by_change x y (dies is may) e = rw (is, e) refl

-- it is a job that lives, at this depth
abbrev pub IsLiving : ℕ → Body → Type 0
IsLiving depth b = (parent : ℕ) × (policy : Map Action) × (b ≡ JobBody parent depth policy false)

-- a job that lives does so still, where something lives directly below it
pub job_stays : (start u v : World) → HasGivenKoids u → Change start u v → (k depth : ℕ) → (IsChildless v k → ⊥) → IsSound start → LivesAt u.objects k depth
    → LivesAt v.objects k depth
job_stays start u v given c k depth busy before l = elim (c.objects k) as (λ _. LivesAt v.objects k depth) [
  | same e ↦ record { parent = l.parent; policy = l.policy; there = ap body_in e ∙ l.there }
  | changed x y was is r ↦
      let (parent, policy, body) = by_change x y r (same_Some x.body _ (rw was at l.there)) in
      record { parent = parent; policy = policy; there = rw is (ap Some body) }
  | new y is n ↦ let below : k < u.next_koid = given.below k (has_body (get u.objects k) _ l.there) in absurd (omega (arith, n.next))
]
  where
    by_change : (x y : Object) → ObjectChange start v k x y → x.body ≡ JobBody l.parent depth l.policy false → IsLiving depth y.body
    by_change x y (signals_change clear set is may) e = (l.parent, l.policy, rw is e)
    by_change x y (packets_change old packets port is) e = absurd (no_port_here (sym port ∙ e))
      where
        no_port_here : PortBody old ≡ JobBody l.parent depth l.policy false → ⊥
        no_port_here f = cc
    by_change x y (message_comes m is may) e = (l.parent, l.policy, rw (is, e) refl)
    by_change x y (message_goes is) e = (l.parent, l.policy, rw (is, e) refl)
    by_change x y (policy_changes s is may) e = (l.parent, policy_after s l.policy, rw (is, e) refl)
    by_change x y (dies is may) e = absurd (busy (may before))

-- a process that lives keeps its object and its job
pub object_stays : (start u v : World) → IsSound start → HasGivenKoids u → Change start u v → (p : ℕ) (q : Process) → get v.processes p ≡ Some q
    → IsTrue (lives q.state) → HasItsObject u.objects p → HasItsObject v.objects p
object_stays start u v before given c p q there alive has = record {
  job = has.job;
  there = stays;
  depth = has.depth;
  lives = job_stays start u v given c has.job has.depth busy before has.lives;
}
  where
    stays : body_in (get v.objects p) ≡ Some (ProcessBody has.job)
    stays = process_stays start u v given c p has.job has.there

    busy : IsChildless v has.job → ⊥
    busy none = by_object (get v.objects p) refl stays
      where
        by_object : (o : Option Object) → get v.objects p ≡ o → body_in o ≡ Some (ProcessBody has.job) → ⊥
        by_object None at is = none-some _ is
        by_object (Some o) at is =
            true≢false (sym (eq-eqb has.job has.job refl) ∙ (ap (is_process_of has.job) (sym (same_Some o.body _ is)) ∙ none.processes p q o there alive at))

-- ---- the tree of jobs

-- a map that has a value at a key more
pub all_put : {X : Type 0} (test : ℕ × X → Bool) (m : Map X) (n : ℕ) (x : X) → test (n, x) ≡ true → list_all test m ≡ true → list_all test (put m n x) ≡ true
unfolding put
all_put test [] n x passes all = rw passes refl
all_put test (e ∷ m) n x passes all = grind (arith, nat_tests, all_put test m n x passes)

-- the number is that of a condition
abbrev pub is_condition : ℕ × Action → Bool
is_condition e = is_some (condition_numbered e.0)

pub set_one : (a : Action) (m : Map Action) (n : ℕ) → is_some (condition_numbered n) ≡ true → IsTrue (is_policy m) → IsTrue (is_policy (with_unset a m n))
unfolding with_unset
set_one a m n known old = elim (cases_Bool (has_key m n)) as (λ _. IsTrue (is_policy (if has_key m n then m else put m n a))) [
  | inl there ↦ rw there old
  | inr free ↦ rw free (and_from _ _ (all_put is_condition m n a known (and_parts (list_all is_condition m) _ old).0)
      (sorted_put m n a (and_parts (list_all is_condition m) _ old).1))
]

-- what is set anew keeps a policy one
pub set_policy : (policy : Map Action) (s : Option Setting) → IsTrue (is_policy policy) → IsTrue (is_policy (policy_after s policy))
unfolding policy_set
set_policy policy None h = h
set_policy policy (Some s) h = by_condition s.condition
  where
    by_condition : (c : Condition) → IsTrue (is_policy (policy_set policy c s.action))
    by_condition condition.NewAny =
        set_one s.action _ 7 refl (set_one s.action _ 6 refl (set_one s.action _ 5 refl (set_one s.action _ 4 refl (set_one s.action policy 3 refl h))))
    by_condition condition.BadHandle = set_one s.action policy 0 refl h
    by_condition condition.WrongObject = set_one s.action policy 1 refl h
    by_condition condition.NewChannel = set_one s.action policy 3 refl h
    by_condition condition.NewEvent = set_one s.action policy 4 refl h
    by_condition condition.NewEventpair = set_one s.action policy 5 refl h
    by_condition condition.NewPort = set_one s.action policy 6 refl h
    by_condition condition.NewProcess = set_one s.action policy 7 refl h

-- a change of an object leaves its place in the tree right
pub changed_stands : (start after : World) (m : Map Object) (k : ℕ) (x y : Object) → ObjectChange start after k x y → StandsBelow m k x.body
    → StandsBelow m k y.body
changed_stands start after m k x y (signals_change clear set is may) t = rw is t
changed_stands start after m k x y (packets_change old packets port is) t = rw is tt
changed_stands start after m k x y (message_comes message is may) t = rw is (sent x.body t)
  where
    sent : (b : Body) → StandsBelow m k b → StandsBelow m k (body_with_message message b)
    sent (ChannelEnd peer queue) h = h
    sent _ h = h
changed_stands start after m k x y (message_goes is) t = rw is (read x.body t)
  where
    read : (b : Body) → StandsBelow m k b → StandsBelow m k (body_after_read b)
    read (ChannelEnd peer queue) h = h
    read _ h = h
changed_stands start after m k x y (policy_changes s is may) t = rw is (set x.body t)
  where
    set : (b : Body) → StandsBelow m k b → StandsBelow m k (body_with_policy s b)
    set (JobBody parent depth policy killed) h =
        record { later = h.later; shallow = h.shallow; policy_known = set_policy policy s h.policy_known; above = h.above }
    set _ h = h
changed_stands start after m k x y (dies is may) t = rw is (died x.body t)
  where
    died : (b : Body) → StandsBelow m k b → StandsBelow m k (body_killed b)
    died (JobBody parent depth policy killed) h =
        record { later = h.later; shallow = h.shallow; policy_known = h.policy_known; above = λ e. absurd (true≢false e) }
    died _ h = h

-- what a job stands below stays, while the job lives
pub stands_on : (start u v : World) → IsSound start → HasGivenKoids u → Change start u v → (k : ℕ) (o : Object) → get v.objects k ≡ Some o → (b : Body)
    → o.body ≡ b → StandsBelow u.objects k b → StandsBelow v.objects k b
stands_on start u v before given c k o at (JobBody parent depth policy killed) is h = record {
  later = h.later;
  shallow = h.shallow;
  policy_known = h.policy_known;
  above = λ alive. elim (h.above alive) as (λ _. IsBelow v.objects parent depth) [
    | inl root ↦ inl root
    | inr below ↦ inr (below.0, below.1, job_stays start u v given c parent below.0 (busy alive) before below.2)
  ];
}
  where
    busy : killed ≡ false → IsChildless v parent → ⊥
    busy alive none = true≢false (sym (below o.body is) ∙ none.jobs k o at)
      where
        below : (b : Body) → b ≡ JobBody parent depth policy killed → is_job_below parent b ≡ true
        below b here = rw (here, alive, eq-eqb parent parent refl) refl
stands_on start u v before given c k o at (ProcessBody job) is h = h
stands_on start u v before given c k o at _ is h = tt
