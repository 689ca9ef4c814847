-- Nothing is due at an object that isn't marked, once objects were made, or taken back, or processes are blocked.
use Rattle.zl_objects.proofs.Common.{All, All-nil, All-weaker, Body, Bool, HasPeerHere, IsAtRest, IsCalm, IsTrue, List, Map, NO_JOBS, NO_PROCESSES, None}
use Rattle.zl_objects.proofs.Common.{NoneHolds, Object, Option, Pair, Sleeper, Some, TERMINATED, [], ap, arith, cases_Bool, eq-eqb, eqb-true, false, false≢true}
use Rattle.zl_objects.proofs.Common.{filter, get, get-put, has_job_below, has_key, has_process_below, holds_now, if◌then◌else◌, implied_here, inl, inr}
use Rattle.zl_objects.proofs.Common.{insert_entry, is_due, is_job_below_here, is_process_below, is_watched, list_any, map, nat_cmp, nat_tests, none-some, not}
use Rattle.zl_objects.proofs.Common.{or_left, or_right, peer_of, put, refl, same_Some, signal_if, signals_at, signals_in, slept, sym, true, update, wait_at}
use Rattle.zl_objects.proofs.Common.{waits_in, ℕ, ◌++◌, ◌+◌, ◌<◌, ◌==◌, ◌||◌, ◌∙◌, ◌∷◌, ◌≡◌, ◌≤◌, ◌⊎◌}
use Rattle.zl_rights.specs.World.{Wait}
use Rattle.zl_objects.specs.declared.object.Body.TheVariants as body
use Rattle.zl_objects.proofs.Listed.{AreSeen}
use Rattle.zl_objects.proofs.ByKoid.{inserted, put_last}
use Rattle.zl_objects.proofs.Calm.{Follows, IsFewer, IsNew, Keeps, calm_followed, fewer_both, fewer_if, none_given, stays_fewer, stays_unwatched}
use Rattle.zl_objects.proofs.CalmChanges.{keeps_body, quiet_body, quiet_calm}
use Rattle.zl_objects.proofs.Ending.{none_filtered}
use Rattle.zl_objects.proofs.Whole.{below_first, end_of}

-- ---- one object more

any_left : {X : Type 0} (test : X → Bool) (xs ys : List X) → IsTrue (list_any test xs) → IsTrue (list_any test (xs ++ ys))
any_left test [] ys h = absurd (false≢true h)
any_left test (x ∷ xs) ys h = by_test (test x) h (λ rest. any_left test xs ys rest)
  where
    by_test : (b : Bool) → IsTrue (b || list_any test xs) → (IsTrue (list_any test xs) → IsTrue (list_any test (xs ++ ys)))
        → IsTrue (b || list_any test (xs ++ ys))
    by_test true h later = refl
    by_test false h later = later h

less_often : (a b : Bool) → (IsTrue a → IsTrue b) → IsTrue (not b) → IsTrue (not a)
less_often false b more h = refl
less_often true true more h = h
less_often true false more h = absurd (false≢true (more refl))

module _ (m : Map Object) (next : ℕ) (o : Object) (below : (k : ℕ) → IsTrue (has_key m k) → k < next) where
  -- no signal comes on where another peer is had, if any
  implied_fewer : (j : ℕ) (b : Body) → ((p : ℕ) → peer_of b ≡ Some p → (next == p) ≡ false) → IsFewer (implied_here (put m next o) j b) (implied_here m j b)
  unfolding has_job_below has_process_below
  implied_fewer j (body.Job own) apart =
      let more : (test : Body → Bool) → IsTrue (list_any (λ e. test e.1.body) m) → IsTrue (list_any (λ e. test e.1.body) (put m next o)) =
      λ test h. rw (put_last m next o below) (any_left (λ e. test e.1.body) m ((next, o) ∷ []) h) in
      fewer_both (signal_if TERMINATED own.killed) (signal_if TERMINATED own.killed) _ _ (λ mask h. h)
      (fewer_both _ _ _ _ (fewer_if NO_JOBS _ _ (less_often _ _ (more (is_job_below_here j))))
      (fewer_if NO_PROCESSES _ _ (less_often _ _ (more (is_process_below j)))))
  implied_fewer j (body.ChannelEnd peer queue) apart = rw (get-put m next o peer, apart peer refl) (λ mask h. h)
  implied_fewer j (body.PairEnd peer) apart = rw (get-put m next o peer, apart peer refl) (λ mask h. h)
  implied_fewer j _ apart = λ mask h. h

  -- nothing waits at an object whose peer may come
  pub inserted_calm : {marked : ℕ → Bool} {sleepers : List Sleeper} → o.signals.waits ≡ []
      → ((k : ℕ) (q : Object) → get m k ≡ Some q → (is_watched q ≡ false) ⊎ ((p : ℕ) → peer_of q.body ≡ Some p → (next == p) ≡ false))
      → (n : Map Object) → n ≡ insert_entry nat_cmp m next o → IsCalm marked m next sleepers → IsCalm marked n (next + 1) sleepers
  inserted_calm {marked} {sleepers} fresh peers n into = rw (into, inserted m next o)
      (calm_followed marked marked m (put m next o) next (next + 1) sleepers (omega arith) (λ k unmarked. unmarked)
      (λ k q at. by_key k q (cases_Bool (next == k)) (sym (get-put m next o k) ∙ at) at))
    where
      still : (k : ℕ) (q : Object) → get m k ≡ Some q → get (put m next o) k ≡ Some q
          → (is_watched q ≡ false) ⊎ ((p : ℕ) → peer_of q.body ≡ Some p → (next == p) ≡ false) → Follows marked marked m (put m next o) k q
      still k q was at (inl unwatched) = record {
        before = q;
        there = was;
        asleep = λ h. h;
        unmarked = λ unmarked. unmarked;
        still = λ unmarked. stays_unwatched _ _ _ _ q q (λ h. h) unwatched;
      }
      still k q was at (inr apart) = record {
        before = q;
        there = was;
        asleep = λ h. h;
        unmarked = λ unmarked. unmarked;
        still = λ unmarked. rw (was, at)
            (stays_fewer (signals_in m k (Some q)) (signals_in (put m next o) k (Some q)) _ _ q q
            (fewer_both q.signals.raised q.signals.raised (implied_here (put m next o) k q.body) (implied_here m k q.body) (λ mask h. h)
            (implied_fewer k q.body apart)) (λ h. h) (λ test h. h));
      }

      by_key : (k : ℕ) (q : Object) → IsTrue (next == k) ⊎ ((next == k) ≡ false) → (if next == k then Some o else get m k) ≡ Some q
          → get (put m next o) k ≡ Some q → Follows marked marked m (put m next o) k q ⊎ IsNew marked marked m (put m next o) next k q
      by_key k q (inl here) is at =
          let key : next ≡ k = eqb-true next k here in
          let same : o ≡ q = same_Some o q (rw here at is) in
          inr (record { later = omega (arith, key); fresh = ap (λ (x : Object). x.signals.waits) (sym same) ∙ fresh })
      by_key k q (inr apart) is at = let was : get m k ≡ Some q = rw apart at is in inl (still k q was at (peers k q was))

-- ---- who may be blocked

pub keeps_slept : Keeps slept
keeps_slept = keeps_body slept (λ o h. refl) (λ o. refl)

-- a process may be blocked at the object
pub slept_calm : {marked : ℕ → Bool} {next : ℕ} {sleepers : List Sleeper} (m n : Map Object) (k : ℕ) → n ≡ update m k slept
    → IsCalm marked m next sleepers → IsCalm marked n next sleepers
slept_calm = quiet_calm slept keeps_slept (quiet_body slept (λ o. refl) (λ o. refl) (λ o test h. h))

-- ---- the waits in the list and at the objects

any_map : {X Y : Type 0} (test : Y → Bool) (g : X → Y) (xs : List X) → list_any test (map g xs) ≡ list_any (λ x. test (g x)) xs
any_map test g [] = refl
any_map test g (x ∷ xs) = ap (λ b. test (g x) || b) (any_map test g xs)

-- a wait that passes is among those at its object
any_there : (test : Wait → Bool) (ws : List Wait) → IsTrue (list_any test ws) → (k : ℕ) × IsTrue (list_any test (filter (λ x. x.object == k) ws))
any_there test [] h = absurd (false≢true h)
any_there test (x ∷ ws) h = by_test (test x) refl h (λ rest. any_there test ws rest)
  where
    by_test : (b : Bool) → test x ≡ b → IsTrue (b || list_any test ws)
        → (IsTrue (list_any test ws) → (k : ℕ) × IsTrue (list_any test (filter (λ y. y.object == k) ws)))
        → (k : ℕ) × IsTrue (list_any test (filter (λ y. y.object == k) (x ∷ ws)))
    by_test true is h later = (x.object, rw (eq-eqb x.object x.object refl) (or_left (test x) _ is))
    by_test false is h later =
        let found : (k : ℕ) × IsTrue (list_any test (filter (λ y. y.object == k) ws)) = later h in (
          found.0,
          elim (cases_Bool (x.object == found.0)) as (λ _. IsTrue (list_any test (filter (λ y. y.object == found.0) (x ∷ ws)))) [
            | inl here ↦ rw here (or_right (test x) _ found.1)
            | inr apart ↦ rw apart found.1
          ],
        )

module _ (m : Map Object) (waits : List Wait) (listed : AreSeen waits m) where
  -- none in the list holds, where none at an object does
  pub none_listed_holds : ((k : ℕ) (o : Object) → get m k ≡ Some o → NoneHolds (signals_at m k) o) → list_any (holds_now m) waits ≡ false
  none_listed_holds none = by_test (list_any (holds_now m) waits) refl
    where
      at_object : (k : ℕ) (q : Option Object) → get m k ≡ q → list_any (holds_now m) (map (wait_at k) (waits_in q)) ≡ false
      at_object k None is = refl
      at_object k (Some o) is = any_map (holds_now m) (wait_at k) o.signals.waits ∙ none k o is

      by_test : (b : Bool) → list_any (holds_now m) waits ≡ b → list_any (holds_now m) waits ≡ false
      by_test false is = is
      by_test true is =
          let found : (k : ℕ) × IsTrue (list_any (holds_now m) (filter (λ x. x.object == k) waits)) = any_there (holds_now m) waits is in
          absurd (false≢true (sym (rw (listed found.0) (at_object found.0 (get m found.0) refl)) ∙ found.1))

  -- and none at an object, where none in the list does
  pub none_holds_listed : list_any (holds_now m) waits ≡ false → (k : ℕ) (o : Object) → get m k ≡ Some o → NoneHolds (signals_at m k) o
  none_holds_listed none k o at =
      let here : list_any (holds_now m) (map (wait_at k) (waits_in (get m k))) ≡ false =
      rw (sym (listed k)) (none_filtered (holds_now m) (λ x. x.object == k) waits none) in
      sym (any_map (holds_now m) (wait_at k) o.signals.waits) ∙ (rw at at here)

-- ---- all was looked at

-- no wait holds, and nobody is listed for whom what it waits for is there
pub calmed : {marked marked2 : ℕ → Bool} {next : ℕ} (m : Map Object) (waits : List Wait) (list : List Sleeper) → AreSeen waits m
    → list_any (holds_now m) waits ≡ false → All (λ s. is_due m s.awaited ≡ false) list → IsCalm marked m next list → IsCalm marked2 m next list
calmed {marked} {marked2} {next} m waits list listed none quiet calm = record {
  waits = λ k o at unmarked. none_holds_listed m waits listed none k o at;
  resting = All-weaker (λ s. IsAtRest marked m next s × (is_due m s.awaited ≡ false)) (IsAtRest marked2 m next)
      (λ s both. record { given = both.0.given; known = both.0.known; calm = λ unmarked. both.1 }) list
      (λ i d inside. (calm.resting i d inside, quiet i d inside));
}

-- ---- new objects

-- the peer of an end was given, so it isn't the next koid
pub given_apart : (m : Map Object) (next later : ℕ) (b : Body) → next ≤ later → HasPeerHere m next b → (p : ℕ) → peer_of b ≡ Some p → (later == p) ≡ false
given_apart m next later b most has p is = let given : p < next = (rw is at has).0 in grind (arith, nat_tests, given, most)

pub none_calm : {marked : ℕ → Bool} {next : ℕ} {sleepers : List Sleeper} (m : Map Object) → m ≡ [] → sleepers ≡ [] → IsCalm marked m next sleepers
unfolding get
none_calm {marked} {next} m none nobody =
    record { waits = λ k o at unmarked. absurd (none-some o (rw none at at)); resting = rw nobody (All-nil (IsAtRest marked m next)) }

-- all objects are gone
pub cleared_calm : {marked : ℕ → Bool} {next : ℕ} {sleepers : List Sleeper} (m n : Map Object) → n ≡ [] → IsCalm marked m next sleepers
    → IsCalm marked n next sleepers
unfolding get
cleared_calm {marked} {next} {sleepers} m n none calm = rw none (record {
  waits = λ k o at unmarked. absurd (none-some o at);
  resting = All-weaker (IsAtRest marked m next) (IsAtRest marked [] next) (λ s rest. record {
    given = rest.given;
    known = λ o at. absurd (none-some o at);
    calm = λ unmarked. none_given s.awaited;
  }) sleepers calm.resting;
})

module _ {marked : ℕ → Bool} {sleepers : List Sleeper} (m : Map Object) (next : ℕ) (o : Object) (below : (k : ℕ) → IsTrue (has_key m k) → k < next)
    (peers : (k : ℕ) (q : Object) → get m k ≡ Some q → HasPeerHere m next q.body) where
  pub created_calm : o.signals.waits ≡ [] → (n : Map Object) → n ≡ insert_entry nat_cmp m next o → IsCalm marked m next sleepers
      → IsCalm marked n (next + 1) sleepers
  created_calm fresh = inserted_calm m next o below fresh (λ k q at. inr (given_apart m next next q.body (omega arith) (peers k q at)))

  -- an end and its peer
  pub pair_calm : (pair : Pair) (handles : ℕ) (o2 : Object) (n n2 : Map Object) → o ≡ end_of pair (next + 1) handles → o2 ≡ end_of pair next handles
      → n ≡ insert_entry nat_cmp m next o → n2 ≡ insert_entry nat_cmp n (next + 1) o2 → IsCalm marked m next sleepers → IsCalm marked n2 (next + 1 + 1) sleepers
  pair_calm pair handles o2 n n2 first second into into2 calm =
      inserted_calm n (next + 1) o2 (below_first m n next o below into) (rw second refl)
      (λ k q at. by_key k q (cases_Bool (next == k)) (sym (get-put m next o k) ∙ (rw (into, inserted m next o) at at))) n2 into2
      (created_calm (rw first refl) n into calm)
    where
      by_key : (k : ℕ) (q : Object) → IsTrue (next == k) ⊎ ((next == k) ≡ false) → (if next == k then Some o else get m k) ≡ Some q
          → (is_watched q ≡ false) ⊎ ((p : ℕ) → peer_of q.body ≡ Some p → (next + 1 == p) ≡ false)
      by_key k q (inl here) is = inl (rw (← same_Some o q (rw here at is), first) refl)
      by_key k q (inr apart) is = inr (given_apart m next (next + 1) q.body (omega arith) (peers k q (rw apart at is)))
