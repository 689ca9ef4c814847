-- What a process does beside registered waits and blocked processes: those waits are left whose handle, object and port are.
use Rattle.zl_calls.proofs.Common.{ActsAndSettles, All, AreBlocked, AtCall, Bool, CallName, Calls, Entry, IsActed, IsSound, IsSoundWait, IsTrue, KeepSleepers}
use Rattle.zl_calls.proofs.Common.{Library, List, ListsWithout, None, Objects, Option, Outcome, Process, ProcessValue, Ready, Settles, Site, Some, TraceItem}
use Rattle.zl_calls.proofs.Common.{Wait, World, [], and_from, and_parts, ap, arith, cases_Bool, entry_at, false, false≢true, filter, filter_passes, get}
use Rattle.zl_calls.proofs.Common.{has_handle, has_key, has_seen, inl, inr, is_blocked, is_left, is_left_at_port, is_made_by_handle, is_there, map}
use Rattle.zl_calls.proofs.Common.{names_its_object, next_for, next_looks, none-some, not, object_entry, pid_of, process_entry, refl, settled_sound}
use Rattle.zl_calls.proofs.Common.{settles_waiting, slice_index_or, state_passes, stays_but, subst, suc, sym, tells_blocking, true, waits_by, with_waiters}
use Rattle.zl_calls.proofs.Common.{world_blocked, world_left, world_value, ℕ, ◌&&◌, ◌∙◌, ◌∷◌, ◌≡◌}
use Rattle.zl_code.specs.declared.history.TraceItem.TheVariants as item
use Rattle.zl_code.proofs.StepsWaiting.{step_waiting}
use Rattle.zl_calls.proofs.waking.BlockedLists.{same_blocked}
use Rattle.zl_calls.proofs.processes.Departed.{left_all, settled_world}

-- what passes the stricter test are those that pass the other, where each of these passes it
agreeing : {X : Type 0} (p q : X → Bool) (xs : List X) → ((x : X) → IsTrue (p x) → IsTrue (q x)) → All (λ x. p x ≡ true) (filter q xs)
    → filter p xs ≡ filter q xs
agreeing p q [] within all = refl
agreeing {X} p q (x ∷ xs) within all = elim (cases_Bool (q x)) as (λ _. filter p (x ∷ xs) ≡ filter q (x ∷ xs)) [
  | inl there ↦
      let both : All (λ y. p y ≡ true) (x ∷ filter q xs) = rw there at all in
      rw (there, both 0 x (omega arith)) (ap (λ (ys : List X). x ∷ ys) (agreeing p q xs within (λ i d inside. both (suc i) d (omega (arith, inside)))))
  | inr gone ↦ elim (cases_Bool (p x)) as (λ _. filter p (x ∷ xs) ≡ filter q (x ∷ xs)) [
    | inl passes ↦ absurd (false≢true (sym gone ∙ within x passes))
    | inr fails ↦ rw (gone, fails) (agreeing p q xs within (rw gone at all))
  ]
]

-- in a sound world each wait's object is there
pub watched_there : (w : World) → IsSound w → All (λ (x : Wait). IsTrue (has_key w.objects x.object)) w.waits
unfolding get
watched_there w sound i d inside = one (slice_index_or w.waits i d) (sound.waits i d inside)
  where
    some_object : (e : Entry) → names_its_object w.objects e → IsTrue (has_key w.objects e.koid)
    some_object e named = rw named.1 refl

    at_process : (o : Option ProcessValue) (x : Wait) (e : Entry) → get w.processes x.pid ≡ o → entry_at w x.pid x.value ≡ Some e
        → IsTrue (has_key w.objects e.koid)
    at_process None x e is at = absurd (none_at is at)
      where
        none_at : get w.processes x.pid ≡ None → entry_at w x.pid x.value ≡ Some e → ⊥
        none_at none found = none-some e (rw none at found)
    at_process (Some q) x e is at = some_object e (sound.named.tables x.pid x.value q e is (rw is at at))

    one : (x : Wait) → IsSoundWait w x → IsTrue (has_key w.objects x.object)
    one x t = subst (λ (k : ℕ). IsTrue (has_key w.objects k)) t.handle.2 (at_process (get w.processes x.pid) x t.handle.0 refl t.handle.1)

-- the test of handle, object and port asks for more than that of handle and port
pub at_port : (w : World) (x : Wait) → IsTrue (is_left w x) → IsTrue (is_left_at_port w x)
at_port w x left =
    let parts = and_parts (is_made_by_handle w x) (has_key w.objects x.object && has_key w.objects x.port) left in
    and_from (is_made_by_handle w x) (has_key w.objects x.port) parts.0 (and_parts (has_key w.objects x.object) (has_key w.objects x.port) parts.1).1

-- of the waits of a sound world all are left by the one test that are by the other
pub left_alike : (w : World) (ws : List Wait) (n : ℕ) (b : List ℕ) → IsSound (with_waiters w (filter (is_left_at_port w) ws) n b)
    → filter (is_left w) ws ≡ filter (is_left_at_port w) ws
unfolding is_made_by_handle
left_alike w ws n b sound = agreeing (is_left w) (is_left_at_port w) ws (at_port w) (λ i d inside.
    passes (slice_index_or (filter (is_left_at_port w) ws) i d) (watched_there (with_waiters w (filter (is_left_at_port w) ws) n b) sound i d inside)
    (filter_passes (is_left_at_port w) ws i d inside))
  where
    passes : (x : Wait) → IsTrue (has_key w.objects x.object) → is_left_at_port w x ≡ true → is_left w x ≡ true
    passes x there left =
        let parts = and_parts (is_made_by_handle w x) (has_key w.objects x.port) left in
        and_from (is_made_by_handle w x) (has_key w.objects x.object && has_key w.objects x.port) parts.0
        (and_from (has_key w.objects x.object) (has_key w.objects x.port) there parts.1)

-- the list is these waits, but for some that aren't left: a test that none of those passes leaves the same of both; and who may be
-- blocked is as before
pub record ListsLeft (after : List Process) (ws : List Wait) (count : ℕ) (old r2 : Objects) : Type 0 where
  pub waits : (test : Wait → Bool) → ((x : Wait) → IsTrue (test x) → IsTrue (is_left (world_value after r2) x)) → filter test r2.waits ≡ filter test ws
  pub made : r2.waits_made ≡ count
  pub asleep : KeepSleepers old r2

-- so is the list that a call leaves, where those that end have no handle
pub lists_left : {over : ℕ → Bool} (after : List Process) (r r2 : Objects) (ws : List Wait) (made : ℕ)
    → ((k v : ℕ) → IsTrue (over k) → has_handle (get (map process_entry after) k) v ≡ false) → ListsWithout over ws made r r2 → ListsLeft after ws made r r2
unfolding is_made_by_handle
lists_left {over} after r r2 ws made none lists =
    record { waits = λ test left. lists.waits test (λ x passes. there x (left x passes)); made = lists.made; asleep = lists.asleep }
  where
    there : (x : Wait) → IsTrue (is_left (world_value after r2) x) → IsTrue (stays_but over r2 x)
    there x left =
        let both =
        and_parts (is_made_by_handle (world_value after r2) x)
        (has_key (map object_entry r2.objects) x.object && has_key (map object_entry r2.objects) x.port) left in
        let parts = and_parts (has_key (map object_entry r2.objects) x.object) (has_key (map object_entry r2.objects) x.port) both.1 in
        and_from (not (over x.pid)) (is_there r2.objects x) (goes_on both.0)
        (and_from (has_key r2.objects x.object) (has_key r2.objects x.port) (sym (has_seen r2.objects x.object) ∙ parts.0)
        (sym (has_seen r2.objects x.port) ∙ parts.1))
      where
        goes_on : IsTrue (has_handle (get (map process_entry after) x.pid) x.value) → IsTrue (not (over x.pid))
        goes_on has = elim (cases_Bool (over x.pid)) as (λ _. IsTrue (not (over x.pid))) [
          | inl ends ↦ absurd (false≢true (sym (none x.pid x.value ends) ∙ has))
          | inr stays ↦ rw stays refl
        ]

-- the same where none ends
pub lists_kept : (after : List Process) (r r2 : Objects) (ws : List Wait) (made : ℕ) → ListsWithout (λ k. false) ws made r r2 → ListsLeft after ws made r r2
lists_kept after r r2 ws made = lists_left after r r2 ws made (λ k v ends. absurd (false≢true ends))

module _ (lib : Library) (before after : List Process) (r r2 : Objects) (pid : ℕ) (x : TraceItem) (blocked : List ℕ)
    (sound : IsSound (world_blocked before r blocked)) where
  abbrev w2 : World
  w2 = world_value after r2

  -- the waits that settling leaves are those that are left
  pub left_same : (ws : List Wait) (made : ℕ) (b : List ℕ)
      → ActsAndSettles lib (world_blocked before r blocked) pid x (with_waiters w2 (filter (is_left_at_port w2) ws) made b) → ListsLeft after ws made r r2
      → ◌≡◌ {A = World} (with_waiters w2 (filter (is_left_at_port w2) ws) made b) (world_left after r2 b)
  left_same ws made b steps lists =
      let alike : filter (is_left_at_port w2) ws ≡ filter (is_left w2) r2.waits =
      sym (left_alike w2 ws made b (settled_sound lib (world_blocked before r blocked) pid x _ sound steps))
      ∙ sym (lists.waits (is_left w2) (λ x left. left)) in
      λ i. with_waiters w2 (alike i) (sym lists.made i) b

  -- a step up to where waits fire, by the waits that settling leaves
  pub left_by : (ws : List Wait) (made : ℕ) (b : List ℕ)
      → ActsAndSettles lib (world_blocked before r blocked) pid x (with_waiters w2 (filter (is_left_at_port w2) ws) made b) → ListsLeft after ws made r r2
      → IsActed lib (world_blocked before r blocked) pid x (world_left after r2 b)
  left_by ws made b steps lists =
      let moved : ActsAndSettles lib (world_blocked before r blocked) pid x (world_left after r2 b) =
      subst (ActsAndSettles lib (world_blocked before r blocked) pid x) (left_same ws made b steps lists) steps in
      record { process = moved.process; is_there = moved.is_there; is_ready = moved.is_ready; acted = moved.acted; acts = moved.acts; settles = moved.settles }

  -- a process that isn't blocked, doesn't look at waits and doesn't block does the same beside them as where nothing waits
  pub left_beside : (q : ProcessValue) → get (map process_entry before) pid ≡ Some q → state_passes is_blocked (get (map process_entry before) pid) ≡ false
      → AreBlocked before blocked → pid_of x ≡ pid → tells_blocking x ≡ false
      → next_looks (next_for lib q) ≡ false → IsActed lib (world_value before r) pid x w2
      → ListsLeft after (waits_by (next_for lib q) x r.waits) r.waits_made r r2
      → IsActed lib (world_blocked before r blocked) pid x (world_left after r2 blocked)
  left_beside q there unblocked are same goes looks acted lists =
      left_by (waits_by (next_for lib q) x r.waits) r.waits_made blocked
      (subst (λ (b : List ℕ). ActsAndSettles lib
      (world_blocked before r blocked) pid x (with_waiters w2 (filter (is_left_at_port w2) (waits_by (next_for lib q) x r.waits)) r.waits_made b))
      (same_blocked pid x blocked same (are.once pid ∙ rw unblocked refl))
      (step_waiting lib (world_value before r) pid q there looks x goes w2
      (record {
        process = acted.process;
        is_there = acted.is_there;
        is_ready = acted.is_ready;
        acted = acted.acted;
        acts = acted.acts;
        settles = acted.settles;
      }) r.waits r.waits_made blocked)) lists

-- a call that looks at waits is done beside them, and nothing goes with it
pub left_looking : (lib : Library) (before after : List Process) (r r2 : Objects) (pid : ℕ) (q : ProcessValue) (call : CallName) (s : Site) (o : Outcome)
    (blocked : List ℕ) → IsSound (world_blocked before r blocked) → KeepSleepers r r2
    → get (map process_entry before) pid ≡ Some q → q.state ≡ Ready → next_for lib q ≡ AtCall call s
    → Calls lib (world_blocked before r blocked) pid s o (world_blocked after r2 blocked) → Settles (world_value after r2) (settled_world after r2)
    → IsActed lib (world_blocked before r blocked) pid (item.Call pid call o) (world_left (left_all after r2) r2 blocked)
left_looking lib before after r r2 pid q call s o blocked sound asleep there ready next calls settles =
    left_by lib before (left_all after r2) r r2 pid (item.Call pid call o) blocked sound r2.waits r2.waits_made blocked
    (record {
      process = q;
      is_there = there;
      is_ready = ready;
      acted = world_blocked after r2 blocked;
      acts = rw next (o, refl, calls);
      settles = settles_waiting (world_value after r2) (settled_world after r2) settles r2.waits r2.waits_made blocked;
    })
    (record { waits = λ test there. refl; made = refl; asleep = asleep })
