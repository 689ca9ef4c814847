-- Who is blocked once a process has acted was so before, on the same, but for that process; so what each waits for stays known.
use Rattle.zl_calls.proofs.Common.{AreBlocked, AreLeft, AreOrdered, AreSameButSleepers, AreSought, Blocked, Bool, DoesNext, FallsAsleep, IsSound, IsTrue}
use Rattle.zl_calls.proofs.Common.{IsUnlisted, KeepSleepers, Library, List, ListsLast, None, Objects, Option, Process, ProcessValue, Seeks, Sleeper, Some}
use Rattle.zl_calls.proofs.Common.{StateValue, TraceItem, [], ap, arith, awaited_found, awaited_in, awaited_of, bare, cases_Bool, each, eqb-true, false}
use Rattle.zl_calls.proofs.Common.{false≢true, filter, filter-append, get, if◌then◌else◌, inl, inr, is_blocked, is_for, is_local, knowing, koid_of, listed_for}
use Rattle.zl_calls.proofs.Common.{lives, map, other_way, process_entry, refl, same_Some, slept, state_passes, state_value, subst, sym, takes_at, fell_asleep}
use Rattle.zl_calls.proofs.Common.{Effect, IsEffect, if_asleep, is_asleep}
use Rattle.zl_calls.proofs.Common.{then_blocked, times, times-behind, times-last, true, world_blocked, world_left, ℕ, ◌++◌, ◌==◌, ◌∙◌, ◌∷◌, ◌≡◌, ◌≤◌, ◌⊎◌}
use Rattle.std.proofs.lemmas.List.{append-nil}
use Rattle.zl_rights.specs.World.{Awaited as AwaitedValue}
use Rattle.zl_code.proofs.Frame.{act_leaves_others}
use Rattle.zl_code.specs.Frame.{OthersMake, left_alone, woken as was_woken, was_started, was_killed, dropped}
use Rattle.zl_code.specs.declared.history.Outcome.TheVariants as outcome
use Rattle.zl_code.specs.declared.history.TraceItem.TheVariants as item
use Rattle.zl_objects.specs.declared.awaited.Awaited.{Awaited}
use Rattle.zl_calls.specs.Blocking.{ComesLast}
use Rattle.zl_calls.proofs.calls.Answered.{IsWrite}
use Rattle.zl_calls.proofs.objects.SameButWaits.{beside_same, beside_world, one_bare}
use Rattle.zl_calls.proofs.processes.Written.{found_after}
use Rattle.zl_calls.proofs.waking.Ordered.{ends_in_order, left_fewer, none_among, same_ordered, stays_in_order, takes_awaited, takes_passes}

-- ---- what is known stays known

-- where who may be blocked is as before
pub same_seeks : (r r2 : Objects) → KeepSleepers r r2 → (k : ℕ) (a : Awaited) → Seeks r k a → Seeks r2 k a
same_seeks r r2 same k a (inl crowded) = inl (same.1 ∙ crowded)
same_seeks r r2 same k a (inr listed) = inr (rw same.0 listed)

-- where nobody is blocked
pub none_sought : (ps : List Process) (r : Objects) (blocked : List ℕ) → blocked ≡ [] → AreBlocked ps blocked → AreSought ps r
none_sought ps r blocked none are k p a ds at is = absurd (omega (arith, once))
  where
    once : ◌≡◌ {A = ℕ} 0 1
    once = sym (ap (times k) none) ∙ (are.once k ∙ rw (at, is) refl)

-- where a process was written that isn't blocked
pub written_sought : {before after : List Process} {p p2 : Process} (write : IsWrite before after p p2) (r : Objects)
    → is_blocked (state_value p2.state) ≡ false → AreSought before r → AreSought after r
written_sought write r still sought k q a ds at is =
    found_after write (Seeks r k (awaited_of a)) k q at
    (λ here. absurd (false≢true (sym still ∙ (ap (λ (x : ProcessValue). is_blocked x.state) here ∙ ap is_blocked is)))) (λ old. sought k q a ds old is)

-- who is blocked stands in the list
module _ (ps : List Process) (blocked : List ℕ) (are : AreBlocked ps blocked) (k : ℕ) where
  stands_once : (p : ProcessValue) (a : AwaitedValue) (ds : List ℕ) → get (map process_entry ps) k ≡ Some p → p.state ≡ Blocked a ds
      → ◌≡◌ {A = ℕ} (times k blocked) 1
  stands_once p a ds at is = are.once k ∙ rw (at, is) refl

  is_there : 1 ≤ times k blocked → IsTrue (state_passes is_blocked (get (map process_entry ps) k))
  is_there once = by_test (state_passes is_blocked (get (map process_entry ps) k)) (are.once k)
    where
      by_test : (b : Bool) → times k blocked ≡ (if b then 1 else 0) → IsTrue b
      by_test true is = refl
      by_test false is = absurd (omega (arith, is, once))

-- ---- the objects come to know

module _ (ps : List Process) (pid : ℕ) (asleep : Bool) where
  pub not_asleep : (r : Objects) → (asleep ≡ true → (a : Awaited) → awaited_found (get (map process_entry ps) pid) ≡ Some a → ⊥)
      → FallsAsleep ps pid asleep r r
  not_asleep r none = record {
    beside = beside_same r;
    waits = refl;
    made = refl;
    others = λ q a there. there;
    itself = λ told a is. absurd (none told a is);
    same = λ silent. (refl, refl);
    last = λ told a is. absurd (none told a is);
  }

  pub known_asleep : (r r2 : Objects) (a : Awaited) → awaited_found (get (map process_entry ps) pid) ≡ Some a → Seeks r2 pid a
      → ((q : ℕ) (b : Awaited) → Seeks r q b → Seeks r2 q b)
      → ComesLast pid r r2 a → AreSameButSleepers (knowing r (koid_of a)) r2 → asleep ≡ true → FallsAsleep ps pid asleep r r2
  known_asleep r r2 a awaited there others order same told = record {
    beside = record {
      objects = one_bare r.objects (koid_of a) slept (λ o. refl) ∙ ap (λ (y : Objects). each (λ j. bare) y.objects) (sym same);
      koids = ap (λ (y : Objects). y.next_koid) same;
    };
    waits = ap (λ (y : Objects). y.waits) same;
    made = ap (λ (y : Objects). y.waits_made) same;
    others = others;
    itself = λ told b is. subst (Seeks r2 pid) (same_Some a b (sym awaited ∙ is)) there;
    same = λ silent. absurd (false≢true (sym silent ∙ told));
    last = λ told b is. subst (ComesLast pid r r2) (same_Some a b (sym awaited ∙ is)) order;
  }

  -- the world is the same
  pub asleep_world : (r r2 : Objects) → FallsAsleep ps pid asleep r r2 → (b : List ℕ) → world_blocked ps r2 b ≡ world_blocked ps r b
  asleep_world r r2 falls b = λ i. record (beside_world ps r r2 falls.beside i) { waits = falls.waits i; waits_made = falls.made i; blocked = b }

-- ---- one that acts

-- the same behind a change that leaves who is listed
pub moved_last : (pid : ℕ) (r left asleep : Objects) (a : Awaited) → KeepSleepers r left → ComesLast pid left asleep a → ComesLast pid r asleep a
moved_last pid r left asleep a kept (inl crowded) = inl crowded
moved_last pid r left asleep a kept (inr order) = inr (
  order.0 ∙ kept.1,
  subst (IsUnlisted pid a) kept.0 order.1,
  subst (λ (xs : List Sleeper). ListsLast pid a xs asleep.sleepers) kept.0 order.2,
)

-- what becomes of another process that lives: if it is blocked, it was
made_blocked : (x y : ProcessValue) (a : AwaitedValue) (ds : List ℕ) → OthersMake x y → y.state ≡ Blocked a ds → x.state ≡ Blocked a ds
made_blocked x y a ds (left_alone is) h = ap (λ (p : ProcessValue). p.state) (sym is) ∙ h
made_blocked x y a ds (was_woken a2 ds2 values was is) h = cc
made_blocked x y a ds (was_started e v word was is) h = cc
made_blocked x y a ds (was_killed is) h = cc
made_blocked x y a ds (dropped was is) h = cc

blocked_lives : (s : StateValue) → is_blocked s ≡ true → lives s ≡ true
blocked_lives (Blocked a ds) h = refl
blocked_lives _ h = absurd (false≢true h)

-- a process doesn't stand behind others where the item tells of none
then_same : (pid : ℕ) (x : TraceItem) (blocked : List ℕ) → fell_asleep x ≡ false → then_blocked pid x blocked ≡ blocked
then_same pid (item.Call at call outcome.Blocked) blocked none = absurd (false≢true (sym none))
then_same pid _ blocked none = refl

-- it does where the item tells of one
then_last : (pid : ℕ) (x : TraceItem) (blocked : List ℕ) → fell_asleep x ≡ true → then_blocked pid x blocked ≡ blocked ++ pid ∷ []
then_last pid (item.Call at call outcome.Blocked) blocked told = refl
then_last pid _ blocked told = absurd (false≢true told)

-- an item that tells of a local instruction tells of none that blocked
pub silent : (x : TraceItem) → is_local x ≡ true → fell_asleep x ≡ false
silent (item.Run at count) local = refl
silent (item.Call at call o) local = absurd (false≢true local)
silent (item.Stuck at) local = absurd (false≢true local)

-- so the list is behind its effect
pub then_asleep : (pid : ℕ) (x : TraceItem) (e : Effect) → IsEffect x e → (blocked : List ℕ) → if_asleep (is_asleep e) pid blocked ≡ then_blocked pid x blocked
then_asleep pid x e is blocked = ap (λ (b : Bool). if_asleep b pid blocked) is.asleep ∙ by_test (fell_asleep x) refl
  where
    by_test : (b : Bool) → fell_asleep x ≡ b → if_asleep (fell_asleep x) pid blocked ≡ then_blocked pid x blocked
    by_test true told = rw told (sym (then_last pid x blocked told))
    by_test false silent = rw silent (sym (then_same pid x blocked silent))

then_other : (pid k : ℕ) (apart : (pid == k) ≡ false) (x : TraceItem) (blocked : List ℕ) → ◌≡◌ {A = ℕ} (times k (then_blocked pid x blocked)) (times k blocked)
then_other pid k apart (item.Call at call outcome.Blocked) blocked = times-behind pid k apart blocked
then_other pid k apart _ blocked = refl

module _ (lib : Library) (ps ps2 : List Process) (r r1 r2 : Objects) (b b2 : List ℕ) (pid : ℕ) (x : TraceItem) (sound : IsSound (world_blocked ps r b))
    (does : DoesNext lib (world_blocked ps r b) pid x (world_left ps2 r1 (then_blocked pid x b2))) (before : AreBlocked ps b)
    (after : AreBlocked ps2 (then_blocked pid x b2))
    (left : AreLeft b b2) (sought : AreSought ps r) (others : (k : ℕ) (a : Awaited) → Seeks r k a → Seeks r2 k a)
    (itself : fell_asleep x ≡ true → (a : Awaited) → awaited_found (get (map process_entry ps2) pid) ≡ Some a → Seeks r2 pid a) where
  -- it is ready before, and so not among the blocked
  not_listed : ◌≡◌ {A = ℕ} (times pid b) 0
  not_listed = before.once pid ∙ rw (does.acted.is_there, does.acted.is_ready) refl

  -- where the item tells that it blocked it waits for something
  told_awaits : fell_asleep x ≡ true → (a : Awaited) × (awaited_found (get (map process_entry ps2) pid) ≡ Some a)
  told_awaits told = by_process (get (map process_entry ps2) pid) (is_there ps2 (then_blocked pid x b2) after pid
      (let last : ◌≡◌ {A = ℕ} (times pid (then_blocked pid x b2)) 1 =
      ap (times pid) (then_last pid x b2 told) ∙ times-last pid b2 (none_left) in omega (arith, last)))
    where
      none_left : ◌≡◌ {A = ℕ} (times pid b2) 0
      none_left = omega (arith, left_fewer b b2 left pid, not_listed)

      by_state : (s : StateValue) → is_blocked s ≡ true → (a : Awaited) × (awaited_in s ≡ Some a)
      by_state (Blocked a ds) h = (awaited_of a, refl)
      by_state _ h = absurd (false≢true h)

      by_process : (o : Option ProcessValue) → IsTrue (state_passes is_blocked o) → (a : Awaited) × (awaited_found o ≡ Some a)
      by_process None h = absurd (false≢true h)
      by_process (Some p) h = by_state p.state h

  own : (p : ProcessValue) (a : AwaitedValue) (ds : List ℕ) → get (map process_entry ps2) pid ≡ Some p → p.state ≡ Blocked a ds → Seeks r2 pid (awaited_of a)
  own p a ds at is = by_test (cases_Bool (fell_asleep x))
    where
      by_test : IsTrue (fell_asleep x) ⊎ (fell_asleep x ≡ false) → Seeks r2 pid (awaited_of a)
      by_test (inl told) = itself told (awaited_of a) (rw at (ap awaited_in is))
      by_test (inr silent) =
          let once : ◌≡◌ {A = ℕ} (times pid (then_blocked pid x b2)) 1 = stands_once ps2 (then_blocked pid x b2) after pid p a ds at is in
          let same : ◌≡◌ {A = ℕ} (times pid (then_blocked pid x b2)) (times pid b2) = ap (times pid) (then_same pid x b2 silent) in
          absurd (omega (arith, once, same, left_fewer b b2 left pid, not_listed))

  -- another that is blocked was so before
  was_blocked : (k : ℕ) → (pid == k) ≡ false → (p : ProcessValue) (a : AwaitedValue) (ds : List ℕ) → get (map process_entry ps2) k ≡ Some p
      → p.state ≡ Blocked a ds → (q : ProcessValue) × (get (map process_entry ps) k ≡ Some q) × (q.state ≡ Blocked a ds)
  was_blocked k apart p a ds at is =
      let once : ◌≡◌ {A = ℕ} (times k (then_blocked pid x b2)) 1 = stands_once ps2 (then_blocked pid x b2) after k p a ds at is in
      let was : IsTrue (state_passes is_blocked (get (map process_entry ps) k)) =
      is_there ps b before k (omega (arith, once, then_other pid k apart x b2, left_fewer b b2 left k)) in
      by_process (get (map process_entry ps) k) refl was
    where
      by_process : (o : Option ProcessValue) → get (map process_entry ps) k ≡ o → IsTrue (state_passes is_blocked o)
          → (q : ProcessValue) × (get (map process_entry ps) k ≡ Some q) × (q.state ≡ Blocked a ds)
      by_process None there h = absurd (false≢true h)
      by_process (Some q) there h =
          let made : (y : ProcessValue) × (get (map process_entry ps2) k ≡ Some y) × OthersMake q y =
          act_leaves_others lib (world_blocked ps r b) pid x does.acted.process does.acted.acted (world_left ps2 r1 (then_blocked pid x b2)) sound
          does.acted.is_there does.acted.is_ready does.acted.acts does.acted.settles k q apart there (blocked_lives q.state h) in
          let same : made.0 ≡ p = same_Some made.0 p (sym made.1 ∙ at) in
          (q, there, made_blocked q p a ds (subst (OthersMake q) same made.2) is)

  pub acted_sought : AreSought ps2 r2
  acted_sought k p a ds at is = by_key (cases_Bool (pid == k))
    where
      by_key : IsTrue (pid == k) ⊎ ((pid == k) ≡ false) → Seeks r2 k (awaited_of a)
      by_key (inl here) =
          let same : pid ≡ k = eqb-true pid k here in
          subst (λ (j : ℕ). Seeks r2 j (awaited_of a)) same (own p a ds (ap (get (map process_entry ps2)) same ∙ at) is)
      by_key (inr apart) = let was = was_blocked k apart p a ds at is in others k (awaited_of a) (sought k was.0 a ds was.1 was.2)

  -- ---- and the order in which they blocked

  silent_list : fell_asleep x ≡ false → then_blocked pid x b2 ≡ b2
  silent_list none = then_same pid x b2 none

  module _ (port : ℕ) where
    takes_state : (k : ℕ) → takes_at ps2 port k ≡ true → (p : ProcessValue) × (a : AwaitedValue) × (ds : List ℕ) × (get (map process_entry ps2) k ≡ Some p)
        × (p.state ≡ Blocked a ds)
    takes_state k takes = by_process (get (map process_entry ps2) k) refl (takes_passes ps2 port k takes)
      where
        by_state : (p : ProcessValue) → get (map process_entry ps2) k ≡ Some p → (s : StateValue) → p.state ≡ s → is_blocked s ≡ true
            → (q : ProcessValue) × (a : AwaitedValue) × (ds : List ℕ) × (get (map process_entry ps2) k ≡ Some q) × (q.state ≡ Blocked a ds)
        by_state p at (Blocked a ds) is h = (p, a, ds, at, is)
        by_state p at _ is h = absurd (false≢true h)

        by_process : (o : Option ProcessValue) → get (map process_entry ps2) k ≡ o → state_passes is_blocked o ≡ true
            → (q : ProcessValue) × (a : AwaitedValue) × (ds : List ℕ) × (get (map process_entry ps2) k ≡ Some q) × (q.state ≡ Blocked a ds)
        by_process None at h = absurd (false≢true h)
        by_process (Some p) at h = by_state p at p.state refl h

    other_was : (k : ℕ) → (k == pid) ≡ false → takes_at ps2 port k ≡ true → takes_at ps port k ≡ true
    other_was k apart takes =
        let is = takes_state k takes in
        let was = was_blocked k (other_way k pid apart) is.0 is.1 is.2 is.3 is.4 in
        rw (was.1, was.2) (rw (is.3, is.4) at takes)

    other_stands : (k : ℕ) → (k == pid) ≡ false → takes_at ps2 port k ≡ true → 1 ≤ times k b2
    other_stands k apart takes =
        let is = takes_state k takes in
        let once : ◌≡◌ {A = ℕ} (times k (then_blocked pid x b2)) 1 = stands_once ps2 (then_blocked pid x b2) after k is.0 is.1 is.2 is.3 is.4 in
        omega (arith, once, then_other pid k (other_way k pid apart) x b2)

    module _ (stand : filter (takes_at ps port) (listed_for r.sleepers port) ≡ filter (takes_at ps port) b) where
      pub silent_order : fell_asleep x ≡ false → filter (takes_at ps2 port) (listed_for r.sleepers port) ≡ filter (takes_at ps2 port) (then_blocked pid x b2)
      silent_order none =
          stays_in_order ps ps2 pid port b b2 other_was left other_stands (listed_for r.sleepers port) stand out
          ∙ ap (λ (ks : List ℕ). filter (takes_at ps2 port) ks) (sym (silent_list none))
        where
          out : takes_at ps2 port pid ≡ false
          out = elim (cases_Bool (takes_at ps2 port pid)) as (λ _. takes_at ps2 port pid ≡ false) [
            | inl takes ↦ absurd (
                let is = takes_state pid takes in
                let once : ◌≡◌ {A = ℕ} (times pid (then_blocked pid x b2)) 1 = stands_once ps2 (then_blocked pid x b2) after pid is.0 is.1 is.2 is.3 is.4 in
                omega (arith, once, ap (times pid) (silent_list none), left_fewer b b2 left pid, not_listed)
                )
            | inr nowhere ↦ nowhere
          ]

      pub told_order : fell_asleep x ≡ true → (a : Awaited) → awaited_found (get (map process_entry ps2) pid) ≡ Some a → IsUnlisted pid a r.sleepers
          → (sleepers2 : List Sleeper) → ListsLast pid a r.sleepers sleepers2
          → filter (takes_at ps2 port) (listed_for sleepers2 port) ≡ filter (takes_at ps2 port) (then_blocked pid x b2)
      told_order told a is unlisted sleepers2 last = elim (cases_Bool (is_for port a)) as
          (λ _. filter (takes_at ps2 port) (listed_for sleepers2 port) ≡ filter (takes_at ps2 port) (then_blocked pid x b2)) [
            | inl its ↦ rw (last port, its, told_list)
                (ends_in_order ps ps2 pid port b b2 other_was left other_stands (listed_for r.sleepers port) stand (unlisted port its)
                (none_among pid b2 (omega (arith, left_fewer b b2 left pid, not_listed))))
            | inr other ↦ rw (last port, other, told_list)
                (stays_in_order ps ps2 pid port b b2 other_was left other_stands (listed_for r.sleepers port) stand (own_takes ∙ other)
                ∙ sym (filter-append (takes_at ps2 port) b2 (pid ∷ []) ∙ rw (own_takes, other) (append-nil (filter (takes_at ps2 port) b2))))
          ]
        where
          own_takes : takes_at ps2 port pid ≡ is_for port a
          own_takes = takes_awaited port (get (map process_entry ps2) pid) a is

          told_list : then_blocked pid x b2 ≡ b2 ++ pid ∷ []
          told_list = then_last pid x b2 told

  -- of those that are listed for packets of a port those that are blocked there stand in this order
  pub acted_ordered : AreOrdered ps r b → (fell_asleep x ≡ false → KeepSleepers r r2)
      → (fell_asleep x ≡ true → (a : Awaited) → awaited_found (get (map process_entry ps2) pid) ≡ Some a → ComesLast pid r r2 a)
      → AreOrdered ps2 r2 (then_blocked pid x b2)
  acted_ordered ordered same last = by_test (cases_Bool (fell_asleep x))
    where
      by_order : fell_asleep x ≡ true → (a : Awaited) → awaited_found (get (map process_entry ps2) pid) ≡ Some a → ComesLast pid r r2 a → AreOrdered ps r b
          → AreOrdered ps2 r2 (then_blocked pid x b2)
      by_order told a is (inl crowded) o = inl crowded
      by_order told a is (inr order) (inl crowded) = inl (order.0 ∙ crowded)
      by_order told a is (inr order) (inr stand) = inr (λ port. told_order port (stand port) told a is order.1 r2.sleepers order.2)

      by_test : IsTrue (fell_asleep x) ⊎ (fell_asleep x ≡ false) → AreOrdered ps2 r2 (then_blocked pid x b2)
      by_test (inr silent) = same_ordered ps2 r r2 (then_blocked pid x b2) (same silent) (by_silent ordered)
        where
          by_silent : AreOrdered ps r b → AreOrdered ps2 r (then_blocked pid x b2)
          by_silent (inl crowded) = inl crowded
          by_silent (inr stand) = inr (λ port. silent_order port (stand port) silent)
      by_test (inl told) = let awaits = told_awaits told in by_order told awaits.0 awaits.1 (last told awaits.0 awaits.1) ordered
