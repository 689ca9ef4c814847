-- Objects that are the same but for waits and reserved places: what doesn't see these.
use Rattle.zl_objects.proofs.Common.{Agrees, AreKeptBut, AreSameButWaits, Body, Bool, List, Map, None, Object, Option, Some, World, [], ap, arith, bare}
use Rattle.zl_objects.proofs.Common.{below_all, body_value, cond, count_by, each, get, get-each, has_key, has_living_child_here, is_child, is_in_job, is_job_at}
use Rattle.zl_objects.proofs.Common.{is_job_here, is_job_in, is_kept, is_lt, is_named, is_some, is_sorted, length, list_any, map, nat_cmp, nat_lt, none-some}
use Rattle.zl_objects.proofs.Common.{object_entry, option_map, refl, same_Some, stays_alone, subst, suc, sum_by-cons, sym, unreserved, ℕ, ◌&&◌, ◌||◌, ◌∙◌, ◌∷◌}
use Rattle.zl_objects.proofs.Common.{◌≡◌}
use Rattle.zl_rights.proofs.MapTests.{list_any-each}
use Rattle.zl_objects.specs.declared.object.Body.TheVariants as body
use Rattle.zl_objects.proofs.Bodies.{same_in_job}

-- the objects without waits and reserved places
abbrev all_bare : Map Object → Map Object
all_bare m = each (λ k. bare) m

-- what a body without reserved places gives as well
pub of_body : {X : Type 0} (f : Body → X) → ((packets : _) (reserved : ℕ)
    → f (body.Port (record { packets = packets; reserved = 0 })) ≡ f (body.Port (record { packets = packets; reserved = reserved })))
    → (b c : Body) → unreserved b ≡ unreserved c → f b ≡ f c
of_body f port b c same = sym (bare_body b) ∙ (ap f same ∙ bare_body c)
  where
    bare_body : (b : Body) → f (unreserved b) ≡ f b
    bare_body (body.Port p) = port p.packets p.reserved
    bare_body _ = refl

-- a process runs as much
pub agrees_same : (w : World) (k : ℕ) (b c : Body) → unreserved b ≡ unreserved c → Agrees w k c → Agrees w k b
agrees_same w k b c same agrees = back b (subst (Agrees w k) (sym same) (there c agrees))
  where
    there : (b : Body) → Agrees w k b → Agrees w k (unreserved b)
    there (body.Job own) h = h
    there _ h = h

    back : (b : Body) → Agrees w k (unreserved b) → Agrees w k b
    back (body.Job own) h = h
    back _ h = h

-- ---- what the objects without waits and reserved places give as well

seen_bare : (m : Map Object) → map object_entry (all_bare m) ≡ map object_entry m
unfolding each
seen_bare [] = refl
seen_bare (e ∷ m) = λ i. (e.0, record { body = by_body e.1.body i; raised = e.1.signals.raised }) ∷ seen_bare m i
  where
    by_body : (b : Body) → body_value (unreserved b) ≡ body_value b
    by_body (body.Job own) = refl
    by_body _ = refl

below_bare : (k : ℕ) (m : Map Object) → below_all nat_cmp k (all_bare m) ≡ below_all nat_cmp k m
unfolding each
below_bare k [] = refl
below_bare k (e ∷ m) = ap (λ b. is_lt (nat_cmp k e.0) && b) (below_bare k m)

sorted_bare : (m : Map Object) → is_sorted nat_cmp (all_bare m) ≡ is_sorted nat_cmp m
unfolding each
sorted_bare [] = refl
sorted_bare (e ∷ m) = λ i. below_bare e.0 m i && sorted_bare m i

length_bare : (m : Map Object) → length (all_bare m) ≡ length m
unfolding each
length_bare [] = refl
length_bare (e ∷ m) = ap (λ (n : ℕ). suc n) (length_bare m)

named_bare : (m : Map Object) → count_by is_named (all_bare m) ≡ count_by is_named m
unfolding each
named_bare [] = refl
named_bare (e ∷ m) =
    omega (arith, sum_by-cons (λ x. cond (is_named x) 1 0) (e.0, bare e.1) (all_bare m), sum_by-cons (λ x. cond (is_named x) 1 0) e m, named_bare m)

any_bare : (test : Body → Bool) → ((b : Body) → test (unreserved b) ≡ test b) → (m : Map Object)
    → list_any (λ e. test e.1.body) (all_bare m) ≡ list_any (λ e. test e.1.body) m
any_bare test same m = list_any-each (λ e. test e.1.body) (λ j. bare) (λ j o. same o.body) m

child_bare : (m : Map Object) (k : ℕ) → has_living_child_here (all_bare m) k ≡ has_living_child_here m k
unfolding has_living_child_here
child_bare m k = any_bare (is_child k) by_body m
  where
    by_body : (b : Body) → is_child k (unreserved b) ≡ is_child k b
    by_body (body.Job own) = refl
    by_body _ = refl

has_bare : (m : Map Object) (k : ℕ) → has_key (all_bare m) k ≡ has_key m k
has_bare m k = ap (λ (o : Option Object). is_some o) (get-each m (λ j. bare) k) ∙ by_object (get m k)
  where
    by_object : (o : Option Object) → is_some (option_map bare o) ≡ is_some o
    by_object None = refl
    by_object (Some o) = refl

job_bare : (m : Map Object) (k : ℕ) → is_job_at (all_bare m) k ≡ is_job_at m k
job_bare m k = ap is_job_in (get-each m (λ j. bare) k) ∙ by_object (get m k)
  where
    by_body : (b : Body) → is_job_here (unreserved b) ≡ is_job_here b
    by_body (body.Job own) = refl
    by_body _ = refl

    by_object : (o : Option Object) → is_job_in (option_map bare o) ≡ is_job_in o
    by_object None = refl
    by_object (Some o) = by_body o.body

-- ---- objects that are the same but for waits

-- what was there before, and is the same
pub record IsAlike (m : Map Object) (k : ℕ) (o : Object) : Type 0 where
  pub before : Object
  pub there : get m k ≡ Some before
  pub handles : o.handles ≡ before.handles
  pub raised : o.signals.raised ≡ before.signals.raised
  pub body : unreserved o.body ≡ unreserved before.body

module _ (m m2 : Map Object) (same : AreSameButWaits m m2) where
  carried : {X : Type 0} (f : Map Object → X) → ((n : Map Object) → f (all_bare n) ≡ f n) → f m2 ≡ f m
  carried f bare_is = sym (bare_is m2) ∙ (ap f (sym same) ∙ bare_is m)

  pub seen_same : map object_entry m2 ≡ map object_entry m
  seen_same = carried (λ n. map object_entry n) seen_bare

  pub sorted_same : is_sorted nat_cmp m2 ≡ is_sorted nat_cmp m
  sorted_same = carried (λ n. is_sorted nat_cmp n) sorted_bare

  pub length_same : length m2 ≡ length m
  length_same = carried (λ n. length n) length_bare

  pub named_same : count_by is_named m2 ≡ count_by is_named m
  named_same = carried (λ n. count_by is_named n) named_bare

  pub any_same : (test : Body → Bool) → ((b : Body) → test (unreserved b) ≡ test b) → list_any (λ e. test e.1.body) m2 ≡ list_any (λ e. test e.1.body) m
  any_same test same = carried (λ n. list_any (λ e. test e.1.body) n) (any_bare test same)

  pub has_same : (k : ℕ) → has_key m2 k ≡ has_key m k
  has_same k = carried (λ n. has_key n k) (λ n. has_bare n k)

  pub alone_same : (k : ℕ) (b c : Body) → unreserved b ≡ unreserved c → stays_alone m2 k b ≡ stays_alone m k c
  alone_same k b c is = by_body b ∙ of_body (stays_alone m k) (λ packets reserved. refl) b c is
    where
      by_body : (b : Body) → stays_alone m2 k b ≡ stays_alone m k b
      by_body (body.Job own) = carried (λ n. has_living_child_here n k) (λ n. child_bare n k)
      by_body _ = refl

  pub in_job_same : (b c : Body) → unreserved b ≡ unreserved c → is_in_job m2 b ≡ is_in_job m c
  in_job_same b c is =
      same_in_job m m2 (λ job. carried (λ n. is_job_at n job) (λ n. job_bare n job)) b ∙ of_body (is_in_job m) (λ packets reserved. refl) b c is

  pub alike : (k : ℕ) (o : Object) → get m2 k ≡ Some o → IsAlike m k o
  alike k o at = by_object (get m k) refl
    where
      both : option_map bare (get m k) ≡ Some (bare o)
      both = sym (get-each m (λ j. bare) k) ∙ (ap (λ (n : Map Object). get n k) same ∙ (get-each m2 (λ j. bare) k ∙ ap (option_map bare) at))

      by_object : (q : Option Object) → get m k ≡ q → IsAlike m k o
      by_object None is = absurd (none-some (bare o) (rw is at both))
      by_object (Some q) is =
          let one : bare o ≡ bare q = sym (same_Some (bare q) (bare o) (rw is at both)) in
          record {
            before = q;
            there = is;
            handles = ap (λ (x : Object). x.handles) one;
            raised = ap (λ (x : Object). x.signals.raised) one;
            body = ap (λ (x : Object). x.body) one;
          }

  -- what kept an object keeps it
  pub kept_same : (k : ℕ) (o : Object) (was : IsAlike m k o) → is_kept m2 k o ≡ is_kept m k was.before
  kept_same k o was = λ i. nat_lt 0 (was.handles i) || alone_same k o.body was.before.body was.body i

  pub still_kept : (loose : List ℕ) → AreKeptBut loose m → AreKeptBut loose m2
  still_kept loose kept = record {
    in_order = rw sorted_same kept.in_order;
    noted = λ k o at unkept. let was : IsAlike m k o = alike k o at in kept.noted k was.before was.there (sym (kept_same k o was) ∙ unkept);
  }

-- the same but for waits is the same but for waits again
pub same_then : (m m2 m3 : Map Object) → AreSameButWaits m m2 → AreSameButWaits m2 m3 → AreSameButWaits m m3
same_then m m2 m3 first later = first ∙ later
