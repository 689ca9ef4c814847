-- What comes on at the objects when one of them is written, and that nothing is due at an object that isn't marked.
use Rattle.zl_objects.proofs.Common.{All-weaker, Awaited, Body, Bool, IsAtRest, IsCalm, IsTrue, List, Map, NO_JOBS, NO_PROCESSES, None, NoneHolds, Object}
use Rattle.zl_objects.proofs.Common.{Option, Sleeper, Some, TERMINATED, Watch, [], above_of, ap, arith, bit_and, bit_or, cases_Bool, eqb-true, false}
use Rattle.zl_objects.proofs.Common.{false≢true, get, has_job_below, has_key-update, has_packet, has_process_below, implied_here, inl, inr, is_due, is_empty}
use Rattle.zl_objects.proofs.Common.{is_given, is_job_below_here, is_process_below, is_watched, koid_of, list_any, max, meets, min, not, peer_of, refl}
use Rattle.zl_objects.proofs.Common.{signal_if, signals_at, signals_in, sym, true, update, watch_holds, ℕ, ◌==◌, ◌||◌, ◌∙◌, ◌∷◌, ◌≡◌, ◌≤◌, ◌⊎◌}
use Rattle.std.specs.Int.{bit_at}
use Rattle.std.proofs.lemmas.Nat.{and_le_l, le_or_l, le_or_r}
use Rattle.std.proofs.lemmas.Nat.Bits.{same_from_bits, bit_at_and, bit_at_or}
use Rattle.zl_objects.specs.declared.awaited.Awaited.TheVariants as awaits
use Rattle.zl_objects.specs.declared.object.Body.TheVariants as body
use Rattle.zl_objects.proofs.Bodies.{Changed, changed}

-- where a process may be blocked, one still may
abbrev pub StayAsleep : Bool → Bool → Type 0
StayAsleep a a2 = IsTrue a → IsTrue a2

pub as_asleep : {a a2 : Bool} → a2 ≡ a → StayAsleep a a2
as_asleep same h = same ∙ h

-- ---- signals

spread : (x y z : ℕ) → min (max x y) z ≡ max (min x z) (min y z)
spread x y z = omega arith

both_and : (a b mask : ℕ) → bit_and (bit_or a b) mask ≡ bit_or (bit_and a mask) (bit_and b mask)
both_and a b mask = same_from_bits _ _ by_bit
  where
    by_bit : (i : ℕ) → bit_at (bit_and (bit_or a b) mask) i ≡ bit_at (bit_or (bit_and a mask) (bit_and b mask)) i
    by_bit i =
        rw (bit_at_and (bit_or a b) mask i, bit_at_or a b i, bit_at_or (bit_and a mask) (bit_and b mask) i, bit_at_and a mask i, bit_at_and b mask i)
        (spread (bit_at a i) (bit_at b i) (bit_at mask i))

apart_is : (s mask : ℕ) → meets s mask ≡ false → bit_and s mask ≡ 0
apart_is s mask h = by_test (bit_and s mask == 0) refl h
  where
    by_test : (b : Bool) → (bit_and s mask == 0) ≡ b → not b ≡ false → bit_and s mask ≡ 0
    by_test true is h = eqb-true (bit_and s mask) 0 is
    by_test false is h = absurd (false≢true (sym h))

is_apart : (s mask : ℕ) → bit_and s mask ≡ 0 → meets s mask ≡ false
is_apart s mask h = rw h refl

none_apart : (mask : ℕ) → meets 0 mask ≡ false
none_apart mask = is_apart 0 mask (let few : bit_and 0 mask ≤ 0 = and_le_l 0 mask in omega (arith, few))

-- no signal is among the one set that isn't among the other
abbrev pub IsFewer : ℕ → ℕ → Type 0
IsFewer s2 s = (mask : ℕ) → meets s mask ≡ false → meets s2 mask ≡ false

pub fewer_same : (s2 s : ℕ) → s2 ≡ s → IsFewer s2 s
fewer_same s2 s same mask h = rw same h

pub fewer_both : (a2 a b2 b : ℕ) → IsFewer a2 a → IsFewer b2 b → IsFewer (bit_or a2 b2) (bit_or a b)
fewer_both a2 a b2 b first second mask h =
    let none : bit_or (bit_and a mask) (bit_and b mask) ≡ 0 = sym (both_and a b mask) ∙ apart_is (bit_or a b) mask h in
    let one : bit_and a mask ≡ 0 = omega (arith, none, le_or_l (bit_and a mask) (bit_and b mask)) in
    let other : bit_and b mask ≡ 0 = omega (arith, none, le_or_r (bit_and a mask) (bit_and b mask)) in
    is_apart (bit_or a2 b2) mask (both_and a2 b2 mask
    ∙ rw (apart_is a2 mask (first mask (is_apart a mask one)), apart_is b2 mask (second mask (is_apart b mask other))) refl)

pub fewer_if : (signal : ℕ) (b2 b : Bool) → (IsTrue b2 → IsTrue b) → IsFewer (signal_if signal b2) (signal_if signal b)
fewer_if signal false b more mask h = none_apart mask
fewer_if signal true true more mask h = h
fewer_if signal true false more mask h = absurd (false≢true (more refl))

-- what is waited for isn't there where no signal is active and no packet is there
pub none_given : (a : Awaited) → is_given 0 false a ≡ false
none_given (awaits.SignalOf k mask) = none_apart mask
none_given (awaits.PacketAt k) = refl

-- ---- waits

-- where no signal comes on, no wait does
pub none_hold : (s s2 : ℕ) → IsFewer s2 s → (ws : List Watch) → list_any (watch_holds s) ws ≡ false → list_any (watch_holds s2) ws ≡ false
none_hold s s2 fewer [] h = refl
none_hold s s2 fewer (x ∷ ws) h = by_test (watch_holds s x) refl h (λ rest. none_hold s s2 fewer ws rest)
  where
    by_test : (b : Bool) → watch_holds s x ≡ b → (b || list_any (watch_holds s) ws) ≡ false
        → (list_any (watch_holds s) ws ≡ false → list_any (watch_holds s2) ws ≡ false) → (watch_holds s2 x || list_any (watch_holds s2) ws) ≡ false
    by_test true is h later = absurd (false≢true (sym h))
    by_test false is h later = rw (fewer x.mask.0 is) (later h)

-- ---- an object before and afterwards

-- nothing of what waits at it comes to be due, where these signals are active and these packets are there
pub record Stays (s s2 : ℕ) (packets packets2 : Bool) (o o2 : Object) : Type 0 where
  pub holds : NoneHolds s o → NoneHolds s2 o2
  pub gives : (a : Awaited) → IsTrue o.asleep → is_given s packets a ≡ false → is_given s2 packets2 a ≡ false

-- no signal comes on and no packet comes, and no wait
pub stays_fewer : (s s2 : ℕ) (packets packets2 : Bool) (o o2 : Object) → IsFewer s2 s → (packets ≡ false → packets2 ≡ false)
    → ((test : Watch → Bool) → list_any test o.signals.waits ≡ false → list_any test o2.signals.waits ≡ false) → Stays s s2 packets packets2 o o2
stays_fewer s s2 packets packets2 o o2 fewer quiet shorter =
    record { holds = λ h. shorter (watch_holds s2) (none_hold s s2 fewer o.signals.waits h); gives = gives }
  where
    gives : (a : Awaited) → IsTrue o.asleep → is_given s packets a ≡ false → is_given s2 packets2 a ≡ false
    gives (awaits.SignalOf k mask) slept h = fewer mask h
    gives (awaits.PacketAt k) slept h = quiet h

-- nothing waits at it
pub stays_unwatched : (s s2 : ℕ) (packets packets2 : Bool) (o o2 : Object) → StayAsleep o.asleep o2.asleep → is_watched o2 ≡ false → Stays s s2 packets
    packets2 o o2
stays_unwatched s s2 packets packets2 o o2 same none =
    record {
      holds = λ h. no_waits o2.signals.waits o2.asleep none;
      gives = λ a h given. absurd (false≢true (sym (or_first o2.asleep (not (is_empty o2.signals.waits)) none) ∙ same h));
    }
  where
    no_waits : (ws : List Watch) (b : Bool) → (b || not (is_empty ws)) ≡ false → list_any (watch_holds s2) ws ≡ false
    no_waits [] b h = refl
    no_waits (x ∷ ws) true h = absurd (false≢true (sym h))
    no_waits (x ∷ ws) false h = absurd (false≢true (sym h))

    or_first : (a b : Bool) → (a || b) ≡ false → a ≡ false
    or_first false b h = refl
    or_first true b h = h

-- ---- all objects

module _ (marked marked2 : ℕ → Bool) (m m2 : Map Object) where
  -- it was there before, and unless it is marked nothing comes to be due at it
  pub record Follows (k : ℕ) (o2 : Object) : Type 0 where
    pub before : Object
    pub there : get m k ≡ Some before
    pub asleep : StayAsleep before.asleep o2.asleep
    pub unmarked : marked2 k ≡ false → marked k ≡ false
    pub still : marked2 k ≡ false → Stays (signals_at m k) (signals_at m2 k) (has_packet (get m k)) (has_packet (get m2 k)) before o2

  -- or it is new, and no wait is there
  pub record IsNew (next k : ℕ) (o2 : Object) : Type 0 where
    pub later : next ≤ k
    pub fresh : o2.signals.waits ≡ []

  pub calm_followed : (next next2 : ℕ) (sleepers : List Sleeper) → next ≤ next2 → ((k : ℕ) → marked2 k ≡ false → marked k ≡ false)
      → ((k : ℕ) (o2 : Object) → get m2 k ≡ Some o2 → Follows k o2 ⊎ IsNew next k o2) → IsCalm marked m next sleepers → IsCalm marked2 m2 next2 sleepers
  calm_followed next next2 sleepers later less follows calm = record {
    waits = λ k o2 at unmarked. waits k o2 unmarked (follows k o2 at);
    resting = All-weaker (IsAtRest marked m next) (IsAtRest marked2 m2 next2) one sleepers calm.resting;
  }
    where
      waits : (k : ℕ) (o2 : Object) → marked2 k ≡ false → Follows k o2 ⊎ IsNew next k o2 → NoneHolds (signals_at m2 k) o2
      waits k o2 unmarked (inl f) = (f.still unmarked).holds (calm.waits k f.before f.there (f.unmarked unmarked))
      waits k o2 unmarked (inr new) = rw new.fresh refl

      one : (s : Sleeper) → IsAtRest marked m next s → IsAtRest marked2 m2 next2 s
      one s rest = record { given = omega (arith, rest.given, later); known = known; calm = λ unmarked. by_object (get m2 (koid_of s.awaited)) refl unmarked }
        where
          known_by : (o2 : Object) → Follows (koid_of s.awaited) o2 ⊎ IsNew next (koid_of s.awaited) o2 → IsTrue o2.asleep
          known_by o2 (inl f) = f.asleep (rest.known f.before f.there)
          known_by o2 (inr new) = absurd (omega (arith, rest.given, new.later))

          known : (o2 : Object) → get m2 (koid_of s.awaited) ≡ Some o2 → IsTrue o2.asleep
          known o2 at = known_by o2 (follows (koid_of s.awaited) o2 at)

          calm_by : (o2 : Object) → marked2 (koid_of s.awaited) ≡ false → Follows (koid_of s.awaited) o2 ⊎ IsNew next (koid_of s.awaited) o2
              → is_due m2 s.awaited ≡ false
          calm_by o2 unmarked (inl f) = (f.still unmarked).gives s.awaited (rest.known f.before f.there) (rest.calm (less (koid_of s.awaited) unmarked))
          calm_by o2 unmarked (inr new) = absurd (omega (arith, rest.given, new.later))

          by_object : (q : Option Object) → get m2 (koid_of s.awaited) ≡ q → marked2 (koid_of s.awaited) ≡ false → is_due m2 s.awaited ≡ false
          by_object None is unmarked = rw is (none_given s.awaited)
          by_object (Some o2) is unmarked = calm_by o2 unmarked (follows (koid_of s.awaited) o2 is)

-- where more are marked, fewer aren't
pub fewer_unmarked : (marked marked2 : ℕ → Bool) → ((j : ℕ) → IsTrue (marked j) → IsTrue (marked2 j)) → (k : ℕ) → marked2 k ≡ false → marked k ≡ false
fewer_unmarked marked marked2 more k unmarked = by_test (marked k) refl
  where
    by_test : (b : Bool) → marked k ≡ b → b ≡ false
    by_test false is = refl
    by_test true is = absurd (false≢true (sym unmarked ∙ more k is))

-- ---- one object is written

-- it stays as much a child, below the same job, the end of the same peer, and who may be blocked at it stays
pub record Keeps (f : Object → Object) : Type 0 where
  pub asleep : (o : Object) → StayAsleep o.asleep (f o).asleep
  pub jobs : (j : ℕ) (o : Object) → is_job_below_here j (f o).body ≡ is_job_below_here j o.body
  pub processes : (j : ℕ) (o : Object) → is_process_below j (f o).body ≡ is_process_below j o.body
  pub peer : (o : Object) → peer_of (f o).body ≡ peer_of o.body
  pub above : (o : Object) → above_of (f o).body ≡ above_of o.body

module _ (f : Object → Object) where
  below_updated : (test : Body → Bool) (m : Map Object) (k : ℕ) → ((o : Object) → get m k ≡ Some o → test (f o).body ≡ test o.body)
      → list_any (λ e. test e.1.body) (update m k f) ≡ list_any (λ e. test e.1.body) m
  unfolding get update
  below_updated test [] k same = refl
  below_updated test (e ∷ m) k same =
      elim (cases_Bool (e.0 == k)) as (λ _. list_any (λ x. test x.1.body) (update (e ∷ m) k f) ≡ list_any (λ x. test x.1.body) (e ∷ m)) [
        | inl here ↦ rw (here, same e.1 (rw here refl)) refl
        | inr apart ↦ rw apart (ap (λ b. test e.1.body || b) (below_updated test m k (λ o at. same o (rw apart at))))
      ]

  -- the signals of an object stay, of which the one at k is as much a child
  pub implied_updated : (m : Map Object) (k j : ℕ) (b : Body) → ((o : Object) → get m k ≡ Some o → is_job_below_here j (f o).body ≡ is_job_below_here j o.body)
      → ((o : Object) → get m k ≡ Some o → is_process_below j (f o).body ≡ is_process_below j o.body) → implied_here (update m k f) j b ≡ implied_here m j b
  unfolding has_job_below has_process_below
  implied_updated m k j (body.Job own) jobs processes =
      λ i. bit_or (signal_if TERMINATED own.killed) (bit_or (signal_if NO_JOBS (not (below_updated (is_job_below_here j) m k jobs i)))
      (signal_if NO_PROCESSES (not (below_updated (is_process_below j) m k processes i))))
  implied_updated m k j (body.ChannelEnd peer queue) jobs processes = rw (has_key-update m k f peer) refl
  implied_updated m k j (body.PairEnd peer) jobs processes = rw (has_key-update m k f peer) refl
  implied_updated m k j _ jobs processes = refl

  module _ (keeps : Keeps f) where
    signals_updated : (m : Map Object) (k j : ℕ) (q : Option Object) → get (update m k f) j ≡ q → signals_at (update m k f) j ≡ signals_in m j q
    signals_updated m k j None is = rw is refl
    signals_updated m k j (Some o) is = rw is (ap (bit_or o.signals.raised)
        (implied_updated m k j o.body (λ x there. keeps.jobs j x) (λ x there. keeps.processes j x)))

    -- at other objects nothing comes to be due, and at this one by what f does
    pub updated_calm : (marked marked2 : ℕ → Bool) → ((j : ℕ) → IsTrue (marked j) → IsTrue (marked2 j)) → (m n : Map Object) (next k : ℕ)
        (sleepers : List Sleeper) → ((o : Object) → get m k ≡ Some o → marked2 k ≡ false
        → Stays (signals_in m k (Some o)) (signals_in m k (Some (f o))) (has_packet (Some o)) (has_packet (Some (f o))) o (f o))
        → n ≡ update m k f → IsCalm marked m next sleepers → IsCalm marked2 n next sleepers
    updated_calm marked marked2 more m n next k sleepers stays is calm = rw is
        (calm_followed marked marked2 m (update m k f) next next sleepers (omega arith) (fewer_unmarked marked marked2 more)
        (λ j o2 at. inl (follows j o2 at (changed f m k j o2 at) (cases_Bool (k == j)))) calm)
      where
        follows : (j : ℕ) (o2 : Object) → get (update m k f) j ≡ Some o2 → Changed f m k j o2 → IsTrue (k == j) ⊎ ((k == j) ≡ false)
            → Follows marked marked2 m (update m k f) j o2
        follows j o2 at c (inl here) =
            let written : o2 ≡ f c.before = c.is ∙ rw here refl in
            let key : k ≡ j = eqb-true k j here in
            record {
              before = c.before;
              there = c.there;
              asleep = λ h. ap (λ (x : Object). x.asleep) written ∙ keeps.asleep c.before h;
              unmarked = fewer_unmarked marked marked2 more j;
              still = λ unmarked. rw (signals_updated m k j (Some o2) at, at, c.there, written, sym key)
                  (stays c.before (rw key c.there) (rw key unmarked));
            }
        follows j o2 at c (inr apart) =
            let same : o2 ≡ c.before = c.is ∙ rw apart refl in
            record {
              before = c.before;
              there = c.there;
              asleep = as_asleep (ap (λ (x : Object). x.asleep) same);
              unmarked = fewer_unmarked marked marked2 more j;
              still = λ unmarked. rw (signals_updated m k j (Some o2) at, at, c.there, same)
                  (stays_fewer _ _ _ _ c.before c.before (λ mask h. h) (λ h. h) (λ test h. h));
            }
