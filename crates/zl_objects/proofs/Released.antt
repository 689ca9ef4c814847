-- What is left of the objects once handles have gone: each as it was, and the invariant holds.
use Rattle.zl_objects.proofs.Common.{AreKeptBut, Body, Cascades, HasPeerHere, HavePlaces, IsPeerHere, IsTrue, IsWhole, KeepsWaits, Kind, LetsGo, List}
use Rattle.zl_objects.proofs.Common.{Map, None, Object, Objects, Option, Releases, Some, Thins, [], ap, append-nil, append_assoc, arith, body_value}
use Rattle.zl_objects.proofs.Common.{budget, cases_Bool, cond, count_by, count_by-le-length, false, false≢true, get, goes, has_key, has_living_child_here}
use Rattle.zl_objects.proofs.Common.{held_once_less, if◌then◌else◌, inl, inr, is_alive, is_child, is_kept, is_koid, is_named, is_some, is_sorted-update, job_in}
use Rattle.zl_objects.proofs.Common.{job_of, kind_here, kind_in, length, length-update, let_go, list_any, named_in, none_left, or_left, or_right, queue_held}
use Rattle.zl_objects.proofs.Common.{refl, same_Some, stays_alone, stopped, stopped_body, stopping, subst, sym, true, unreserved, update, waits_end, without, ℕ}
use Rattle.zl_objects.proofs.Common.{◌++◌, ◌<◌, ◌==◌, ◌||◌, ◌∙◌, ◌∷◌, ◌≡◌, ◌≤◌, ◌⊎◌}
use Rattle.zl_objects.specs.declared.object.Body.TheVariants as body
use Rattle.zl_objects.proofs.Bare.{IsAlike, alike, length_same, named_same, of_body}
use Rattle.zl_objects.proofs.Ending.{all_ports_there}
use Rattle.zl_objects.proofs.Sums.{length_left, sum_left, sum_no_more}
use Rattle.zl_objects.proofs.Peers.{peer_stays}
use Rattle.zl_objects.proofs.Bodies.{Changed, changed, changed_body, found_left}
use Rattle.zl_objects.proofs.Budget.{less_named, thin_then}

-- ---- what is left was there before

-- but for handles, waits and reserved places it was as it is now
pub record Was (m : Map Object) (k : ℕ) (o : Object) : Type 0 where
  pub before : Object
  pub there : get m k ≡ Some before
  pub body : unreserved o.body ≡ unreserved before.body
  pub raised : o.signals.raised ≡ before.signals.raised

pub was_there : (m m2 : Map Object) → ((k : ℕ) (o : Object) → get m2 k ≡ Some o → Was m k o) → (k : ℕ) → IsTrue (has_key m2 k) → IsTrue (has_key m k)
was_there m m2 was k there = by_object (get m2 k) refl there
  where
    by_object : (o : Option Object) → get m2 k ≡ o → IsTrue (is_some o) → IsTrue (has_key m k)
    by_object None is h = absurd (false≢true h)
    by_object (Some o) is h = rw (was k o is).there refl

-- the world sees the same of it, and the same is to be read at it
module _ (m : Map Object) (k : ℕ) (o : Object) (was : Was m k o) where
  pub was_seen : body_value o.body ≡ body_value was.before.body
  was_seen = of_body body_value (λ packets reserved. refl) o.body was.before.body was.body

  pub was_queue : queue_held o.body ≡ queue_held was.before.body
  was_queue = of_body queue_held (λ packets reserved. refl) o.body was.before.body was.body

less_was : (m : Map Object) (k j : ℕ) (o : Object) → Was (update m k held_once_less) j o → Was m j o
less_was m k j o was =
    let c : Changed held_once_less m k j was.before = changed held_once_less m k j was.before was.there in
    record {
      before = c.before;
      there = c.there;
      body = was.body ∙ ap unreserved (changed_body held_once_less (λ x. refl) m k j was.before c);
      raised = was.raised ∙ raised_same c;
    }
  where
    raised_same : (c : Changed held_once_less m k j was.before) → was.before.signals.raised ≡ c.before.signals.raised
    raised_same c =
        ap (λ (x : Object). x.signals.raised) c.is
        ∙ elim (k == j) as (λ b. (if b then held_once_less c.before else c.before).signals.raised ≡ c.before.signals.raised) [ true ↦ refl | false ↦ refl ]

pub cascaded_was : (ks : List ℕ) (m m2 : Map Object) → Cascades ks m m2 → (j : ℕ) (o : Object) → get m2 j ≡ Some o → Was m j o
cascaded_was _ _ _ (none_left m) j o at = record { before = o; there = at; body = refl; raised = refl }
cascaded_was _ _ _ (let_go k ks m m2 more) j o at = less_was m k j o (cascaded_was ks (update m k held_once_less) m2 more j o at)
cascaded_was _ _ _ (goes k gone ks m m2 there unkept more) j o at =
    let was : Was (without m k) j o = cascaded_was _ (without m k) m2 more j o at in
    record { before = was.before; there = (found_left m k j was.before was.there).1; body = was.body; raised = was.raised }
cascaded_was _ _ _ (waits_end ks m mid m2 same more) j o at =
    let was : Was mid j o = cascaded_was ks mid m2 more j o at in
    let old : IsAlike m j was.before = alike m mid same j was.before was.there in
    record { before = old.before; there = old.there; body = was.body ∙ old.body; raised = was.raised ∙ old.raised }

pub cascaded_shorter : (ks : List ℕ) (m m2 : Map Object) → Cascades ks m m2 → length m2 ≤ length m
cascaded_shorter _ _ _ (none_left m) = omega arith
cascaded_shorter _ _ _ (let_go k ks m m2 more) = omega (arith, cascaded_shorter ks (update m k held_once_less) m2 more, length-update m k held_once_less)
cascaded_shorter _ _ _ (goes k gone ks m m2 there unkept more) = omega (arith, cascaded_shorter _ (without m k) m2 more, length_left m k)
cascaded_shorter _ _ _ (waits_end ks m mid m2 same more) = omega (arith, cascaded_shorter ks mid m2 more, length_same m mid same)

-- no more objects are named than before
pub cascaded_named : (ks : List ℕ) (m m2 : Map Object) → Cascades ks m m2 → count_by is_named m2 ≤ count_by is_named m
cascaded_named _ _ _ (none_left m) = omega arith
cascaded_named _ _ _ (let_go k ks m m2 more) =
    omega (arith, cascaded_named ks (update m k held_once_less) m2 more, sum_no_more (λ e. cond (is_named e) 1 0) m k held_once_less (less_named k))
cascaded_named _ _ _ (goes k gone ks m m2 there unkept more) = omega (arith, cascaded_named _ (without m k) m2 more, sum_left (λ e. cond (is_named e) 1 0) m k)
cascaded_named _ _ _ (waits_end ks m mid m2 same more) = omega (arith, cascaded_named ks mid m2 more, named_same m mid same)

-- ---- the invariant

pub starts : {m : Map Object} {next room : ℕ} {d : List ℕ} → IsWhole None m next room → d ≡ [] → budget m d ≤ room
unfolding budget
starts {m} whole none = rw none (omega (arith, whole.enough, count_by-le-length is_named m))

pub whole_left : (ks : List ℕ) (m m2 : Map Object) (next room room2 : ℕ) → Cascades ks m m2 → HavePlaces m2 → IsWhole None m next room → room2 ≡ room
    → IsWhole None m2 next room2
whole_left ks m m2 next room room2 cascades places whole same = record {
  below = λ k there. by_object k (get m2 k) refl there;
  peers = λ k o at. peers k o at;
  places = places;
  enough = omega (arith, same, whole.enough, cascaded_shorter ks m m2 cascades);
}
  where
    was : (k : ℕ) (o : Object) → get m2 k ≡ Some o → Was m k o
    was = cascaded_was ks m m2 cascades

    by_object : (k : ℕ) (o : Option Object) → get m2 k ≡ o → IsTrue (is_some o) → k < next
    by_object k None is there = absurd (false≢true there)
    by_object k (Some o) is there = whole.below k (rw (was k o is).there refl)

    kind_left : (kind : Kind) (p : ℕ) (o : Option Object) → get m2 p ≡ o → IsPeerHere kind m next p → IsTrue (is_some o) → kind_here m2 p ≡ Some kind
    kind_left kind p None is has there = absurd (false≢true there)
    kind_left kind p (Some o) is has there =
        let old : Was m p o = was p o is in
        let was_kind : kind_here m p ≡ Some kind = has.1 (rw old.there refl) in
        rw is (ap Some (of_body kind_in (λ packets reserved. refl) o.body old.before.body old.body) ∙ (rw old.there at was_kind))

    left : (b : Body) → HasPeerHere m next b → HasPeerHere m2 next b
    left b = peer_stays m m2 next next b (λ p has. (has.0, λ there. kind_left (kind_in b) p (get m2 p) refl has there))

    peers : (k : ℕ) (o : Object) → get m2 k ≡ Some o → HasPeerHere m2 next o.body
    peers k o at =
        let old : Was m k o = was k o at in
        from_bare o.body (subst (HasPeerHere m2 next) (sym old.body) (to_bare old.before.body (left old.before.body (whole.peers k old.before old.there))))
      where
        to_bare : (b : Body) → HasPeerHere m2 next b → HasPeerHere m2 next (unreserved b)
        to_bare (body.Job own) h = h
        to_bare _ h = h

        from_bare : (b : Body) → HasPeerHere m2 next (unreserved b) → HasPeerHere m2 next b
        from_bare (body.Job own) h = h
        from_bare _ h = h

-- ---- all of it

pub cascades_of : (ks : List ℕ) (m m2 : Map Object) (d d2 : List ℕ) → LetsGo ks m d m2 d2 → Cascades ks m m2
cascades_of ks m m2 d d2 went = rw (append-nil ks) at (went.leads [] m2 (none_left m2))

pub released : {ks loose d : List ℕ} {r r2 : Objects} → LetsGo ks r.objects d r2.objects [] → d ≡ loose → r2.next_koid ≡ r.next_koid → Releases ks loose r r2
released {ks} {loose} {d} {r} {r2} went noted same = record {
  cascades = cascades_of ks r.objects r2.objects d [] went;
  keeps = λ others kept. rw (append-nil others) at (went.notes others (rw noted kept));
  koids = same;
}

-- handles went, and waits ended with their ports alone
pub record IsLeft (ks : List ℕ) (m m2 : Map Object) : Type 0 where
  pub cascades : Cascades ks m m2
  pub places : HavePlaces m → HavePlaces m2
  pub thins : (k : ℕ) (o : Object) → get m2 k ≡ Some o → Thins m m2 k o

pub left_by : {ks : List ℕ} {m m2 : Map Object} {d d2 : List ℕ} → LetsGo ks m d m2 d2 → IsLeft ks m m2
left_by {ks} {m} {m2} {d} {d2} went = record { cascades = cascades_of ks m m2 d d2 went; places = went.places; thins = went.thins }

-- each port that is left has places for the waits that are left
pub waits_left : {ks : List ℕ} {m m2 : Map Object} → IsLeft ks m m2 → HavePlaces m → (k : ℕ) (o : Object) → get m2 k ≡ Some o → KeepsWaits m m2 k o
waits_left {ks} {m} {m2} left have k o at =
    let was : Was m k o = cascaded_was ks m m2 left.cascades k o at in
    let thin : Thins m m2 k o = left.thins k o at in
    let one : was.before ≡ thin.before = same_Some was.before thin.before (sym was.there ∙ thin.there) in
    record {
      before = thin.before;
      there = thin.there;
      body = was.body ∙ ap (λ (x : Object). unreserved x.body) one;
      raised = was.raised ∙ ap (λ (x : Object). x.signals.raised) one;
      waits = sym (all_ports_there m2 (left.places have) k o at) ∙ thin.waits (λ x. has_key m2 x.port) (λ x there. there);
    }

-- a process that has ended and then its job are looked at
pub both_released : {pid job : ℕ} {m : Map Object} {r r2 : Objects} → LetsGo [] r.objects (pid ∷ []) m [] → LetsGo [] m (job ∷ []) r2.objects []
    → r2.next_koid ≡ r.next_koid → Releases [] (job ∷ pid ∷ []) r r2
both_released {pid} {job} {m} {r} {r2} first second same = record {
  cascades = first.leads [] r2.objects (second.leads [] r2.objects (none_left r2.objects));
  keeps = λ others kept. rw (append-nil others) at
      (second.notes others
      (rw (append-nil (others ++ job ∷ [])) at (first.notes (others ++ job ∷ []) (rw (append_assoc others (job ∷ []) (pid ∷ [])) kept))));
  koids = same;
}

pub both_left : {pid job : ℕ} {m m1 m2 : Map Object} → LetsGo [] m (pid ∷ []) m1 [] → LetsGo [] m1 (job ∷ []) m2 [] → IsLeft [] m m2
both_left {pid} {job} {m} {m1} {m2} first second = record {
  cascades = first.leads [] m2 (second.leads [] m2 (none_left m2));
  places = λ have. second.places (first.places have);
  thins = thin_then m m1 m2 first.thins second.thins;
}

-- ---- for callers

pub cascades_then : (ks ls : List ℕ) (m m2 m3 : Map Object) → Cascades ks m m2 → Cascades ls m2 m3 → Cascades (ks ++ ls) m m3
cascades_then _ ls _ _ m3 (none_left m) later = later
cascades_then _ ls _ _ m3 (let_go k ks m m2 more) later = let_go k (ks ++ ls) m m3 (cascades_then ks ls (update m k held_once_less) m2 m3 more later)
cascades_then _ ls _ _ m3 (goes k o ks m m2 there unkept more) later =
    goes k o (ks ++ ls) m m3 there unkept (subst (λ (all : List ℕ). Cascades all (without m k) m3) (append_assoc (named_in (queue_held o.body)) ks ls)
    (cascades_then (named_in (queue_held o.body) ++ ks) ls (without m k) m2 m3 more later))
cascades_then _ ls _ _ m3 (waits_end ks m mid m2 same more) later = waits_end (ks ++ ls) m mid m3 same (cascades_then ks ls mid m2 m3 more later)

-- handles go one after another
pub releases_then : (ks ls loose : List ℕ) (r r2 r3 : Objects) → Releases ks loose r r2 → Releases ls [] r2 r3 → Releases (ks ++ ls) loose r r3
releases_then ks ls loose r r2 r3 first later = record {
  cascades = cascades_then ks ls r.objects r2.objects r3.objects first.cascades later.cascades;
  keeps = λ others kept. later.keeps others (rw (append-nil others) (first.keeps others kept));
  koids = later.koids ∙ first.koids;
}

-- the end of a process may leave it and its job without what kept them
module _ (r : Objects) (pid job : ℕ) (of : job_in (get r.objects pid) ≡ Some job) where
  -- another job has no living child less
  other_child : (k : ℕ) → (job == k) ≡ false → (m : Map Object) → job_in (get m pid) ≡ Some job
      → has_living_child_here (update m pid stopped) k ≡ has_living_child_here m k
  unfolding get update has_living_child_here
  other_child k apart [] is = refl
  other_child k apart (e ∷ m) is =
      elim (cases_Bool (e.0 == pid)) as (λ _. list_any (λ x. is_child k x.1.body) (update (e ∷ m) pid stopped) ≡ list_any (λ x. is_child k x.1.body) (e ∷ m)) [
        | inl here ↦ rw (here, by_body e.1.body (rw here at is)) refl
        | inr there ↦ rw there (ap (λ b. is_child k e.1.body || b) (other_child k apart m (rw there at is)))
      ]
    where
      by_body : (b : Body) → job_of b ≡ Some job → is_child k (stopped_body b) ≡ is_child k b
      by_body (body.Job own) h = refl
      by_body (body.Process j life) h =
          elim (is_alive life) as (λ b. false ≡ is_koid k (if b then Some j else None)) [ true ↦ rw (same_Some j job h, apart) refl | false ↦ refl ]
      by_body _ h = refl

  pub stopped_loose : AreKeptBut [] r.objects → AreKeptBut (job ∷ pid ∷ []) (stopping r pid).objects
  stopped_loose kept = record {
    in_order = rw (is_sorted-update r.objects pid stopped) kept.in_order;
    noted = λ k o at unkept. by_key k o (changed stopped r.objects pid k o at) unkept (cases_Bool (job == k)) (cases_Bool (pid == k));
  }
    where
      alone : (k : ℕ) (b : Body) → (job == k) ≡ false → stays_alone (update r.objects pid stopped) k b ≡ stays_alone r.objects k b
      alone k (body.Job own) apart = other_child k apart r.objects of
      alone k _ apart = refl

      by_key : (k : ℕ) (o : Object) → Changed stopped r.objects pid k o → is_kept (update r.objects pid stopped) k o ≡ false
          → IsTrue (job == k) ⊎ ((job == k) ≡ false) → IsTrue (pid == k) ⊎ ((pid == k) ≡ false) → IsTrue (list_any (λ x. x == k) (job ∷ pid ∷ []))
      by_key k o c unkept (inl parent) process = or_left (job == k) _ parent
      by_key k o c unkept (inr other) (inl here) = or_right (job == k) _ (or_left (pid == k) _ here)
      by_key k o c unkept (inr other) (inr apart) =
          let same : o ≡ c.before = c.is ∙ rw apart refl in
          absurd (false≢true (kept.noted k c.before c.there (rw (← same, ← alone k o.body other) unkept)))
