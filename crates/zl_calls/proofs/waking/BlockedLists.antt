-- The list of the blocked processes, as one process changes.
use Rattle.zl_calls.proofs.Common.{AreBlocked, Bool, IsTrue, List, Map, Process, ProcessValue, Some, StayBlocked, TraceItem, [], ap, arith, blocked_by}
use Rattle.zl_calls.proofs.Common.{cases_Bool, eq-eqb, eqb-true, false, false≢true, filter, get, if◌then◌else◌, inl, inr, is_blocked, length, length-map, map}
use Rattle.zl_calls.proofs.Common.{not, pid_of, process_entry, process_value, refl, state_passes, state_value, subst, sym, tells_blocking, then_blocked, times}
use Rattle.zl_calls.proofs.Common.{times-behind, times-last, times-other, times-same, true, ℕ, ◌++◌, ◌+◌, ◌<◌, ◌==◌, ◌^◌, ◌∙◌, ◌∷◌, ◌≡◌, ◌≤◌}
use Rattle.std.proofs.lemmas.List.Filters.{length-filter_both}
use Rattle.zl_code.specs.declared.history.Outcome.TheVariants as outcome
use Rattle.zl_code.specs.declared.history.TraceItem.TheVariants as item
use Rattle.zl_calls.proofs.calls.Answered.{IsWrite}
use Rattle.zl_calls.proofs.processes.Written.{found_after, get_after}

module _ {before after : List Process} {p p2 : Process} (write : IsWrite before after p p2) where
  -- a process that is blocked just if it was
  same_there : is_blocked (state_value p2.state) ≡ is_blocked (state_value p.state) → (k : ℕ)
      → state_passes is_blocked (get (map process_entry after) k) ≡ state_passes is_blocked (get (map process_entry before) k)
  same_there same k =
      elim (cases_Bool (p.pid == k))
      as (λ _. state_passes is_blocked (get (map process_entry after) k) ≡ state_passes is_blocked (get (map process_entry before) k)) [
        | inl here ↦ rw (get_after write k, here, ← eqb-true p.pid k here, write.there, same) refl
        | inr apart ↦ rw (get_after write k, apart) refl
      ]

  -- a process that isn't blocked before it changes, nor afterwards
  pub still_blocked : is_blocked (state_value p.state) ≡ false → is_blocked (state_value p2.state) ≡ false → (blocked : List ℕ) → AreBlocked before blocked
      → AreBlocked after blocked
  still_blocked was is blocked are = record {
    once = λ k. are.once k ∙ ap (λ (b : Bool). if b then 1 else 0) (sym (same_there (is ∙ sym was) k));
    counters = λ k q at h. found_after write (q.cpu.counter < 2 ^ 32) k q at
        (λ here. absurd (false≢true (sym is ∙ (ap (λ (x : ProcessValue). is_blocked x.state) here ∙ h))))
        (λ old. are.counters k q old h);
  }

  -- a process that was blocked, and isn't any more
  pub one_awake : is_blocked (state_value p2.state) ≡ false → (blocked : List ℕ) → AreBlocked before blocked
      → AreBlocked after (filter (λ q. not (q == p.pid)) blocked)
  one_awake is blocked are = record {
    once =
        λ k. elim (cases_Bool (p.pid == k))
        as (λ _. times k (filter (λ q. not (q == p.pid)) blocked) ≡ (if state_passes is_blocked (get (map process_entry after) k) then 1 else 0)) [
          | inl here ↦ rw (get_after write k, here, ← eqb-true p.pid k here, is) (times-same p.pid blocked)
          | inr apart ↦ rw (get_after write k, apart) (times-other p.pid k apart blocked ∙ are.once k)
        ];
    counters = λ k q at h. found_after write (q.cpu.counter < 2 ^ 32) k q at
        (λ here. absurd (false≢true (sym is ∙ (ap (λ (x : ProcessValue). is_blocked x.state) here ∙ h))))
        (λ old. are.counters k q old h);
  }

  -- a process that wasn't blocked, and is, the last of all
  pub one_asleep : is_blocked (state_value p.state) ≡ false → is_blocked (state_value p2.state) ≡ true → p2.cpu.counter < 2 ^ 32 → (blocked : List ℕ)
      → AreBlocked before blocked → AreBlocked after (blocked ++ (p.pid ∷ []))
  one_asleep was is within blocked are = record {
    once =
        λ k. elim (cases_Bool (p.pid == k))
        as (λ _. times k (blocked ++ (p.pid ∷ [])) ≡ (if state_passes is_blocked (get (map process_entry after) k) then 1 else 0)) [
          | inl here ↦ rw (get_after write k, here, ← eqb-true p.pid k here, is) (times-last p.pid blocked (are.once p.pid ∙ rw (write.there, was) refl))
          | inr apart ↦ rw (get_after write k, apart) (times-behind p.pid k apart blocked ∙ are.once k)
        ];
    counters = λ k q at h. found_after write (q.cpu.counter < 2 ^ 32) k q at (λ here. subst (λ (x : ProcessValue). x.cpu.counter < 2 ^ 32) here within)
        (λ old. are.counters k q old h);
  }

  -- a process that is blocked just if it was, with the same Cpu
  pub stay_blocked : is_blocked (state_value p2.state) ≡ is_blocked (state_value p.state) → p2.cpu ≡ p.cpu → StayBlocked before after
  stay_blocked same cpu blocked are = record {
    once = λ k. are.once k ∙ ap (λ (b : Bool). if b then 1 else 0) (sym (same_there same k));
    counters = λ k q at h. found_after write (q.cpu.counter < 2 ^ 32) k q at
        (λ here.
        let was : IsTrue (is_blocked (state_value p.state)) = sym same ∙ (ap (λ (x : ProcessValue). is_blocked x.state) here ∙ h) in
        subst (λ (x : ProcessValue). x.cpu.counter < 2 ^ 32) here
        (let within : p.cpu.counter < 2 ^ 32 = are.counters p.pid (process_value p) write.there was in rw cpu within))
        (λ old. are.counters k q old h);
  }

-- ---- who is in it

-- whoever is in the list is blocked
pub blocked_there : (ps : List Process) (blocked : List ℕ) → AreBlocked ps blocked → (k : ℕ) → 0 < times k blocked
    → state_passes is_blocked (get (map process_entry ps) k) ≡ true
blocked_there ps blocked are k some = by_test (state_passes is_blocked (get (map process_entry ps) k)) refl
  where
    by_test : (b : Bool) → state_passes is_blocked (get (map process_entry ps) k) ≡ b → state_passes is_blocked (get (map process_entry ps) k) ≡ true
    by_test true at = at
    by_test false at = let none : times k blocked ≡ 0 = are.once k ∙ rw at refl in absurd (omega (arith, some, none))

-- so those that are blocked are all of it
pub all_blocked : (ps : List Process) (blocked : List ℕ) → AreBlocked ps blocked
    → blocked ≡ filter (λ k. state_passes is_blocked (get (map process_entry ps) k)) blocked
all_blocked ps blocked are = kept blocked (blocked_there ps blocked are)
  where
    kept : (xs : List ℕ) → ((k : ℕ) → 0 < times k xs → state_passes is_blocked (get (map process_entry ps) k) ≡ true)
        → xs ≡ filter (λ k. state_passes is_blocked (get (map process_entry ps) k)) xs
    kept [] all = refl
    kept (x ∷ xs) all =
        rw (all x (rw (eq-eqb x x refl) (omega arith))) (ap (λ (ks : List ℕ). x ∷ ks) (kept xs (λ k some. all k (more (x == k) k some))))
      where
        more : (b : Bool) (k : ℕ) → 0 < times k xs → 0 < length (if b then x ∷ filter (λ q. q == k) xs else filter (λ q. q == k) xs)
        more true k some = omega arith
        more false k some = some

-- ---- how many they are

pub one_at_most : (test : Bool) → (if test then 1 else 0) ≤ 1
one_at_most true = omega arith
one_at_most false = omega arith

-- a list in which each blocked process stands once at most, and nothing else, is no longer than the map
few : (m : Map ProcessValue) (blocked : List ℕ) → ((k : ℕ) → times k blocked ≤ (if state_passes is_blocked (get m k) then 1 else 0)) → length blocked ≤ length m
unfolding get
few [] [] once = omega arith
few [] (x ∷ blocked) once =
    let there : times x (x ∷ blocked) ≡ times x blocked + 1 = rw (eq-eqb x x refl) (omega arith) in
    absurd (omega (arith, there, once x))
few (e ∷ m) blocked once =
    let rest : List ℕ = filter (λ q. not (q == e.0)) blocked in
    let fewer : length rest ≤ length m =
    few m rest (λ k. elim (cases_Bool (e.0 == k)) as (λ _. times k rest ≤ (if state_passes is_blocked (get m k) then 1 else 0)) [
      | inl here ↦ let none : times k rest ≡ 0 = subst (λ (j : ℕ). times j rest ≡ 0) (eqb-true e.0 k here) (times-same e.0 blocked) in omega (arith, none)
      | inr apart ↦ let same : times k rest ≡ times k blocked = times-other e.0 k apart blocked in omega (arith, same, once_there k apart)
    ]) in
    let both : times e.0 blocked + length rest ≡ length blocked = length-filter_both (λ q. q == e.0) (λ q. not (q == e.0)) (λ q. refl) blocked in
    omega (arith, fewer, both, once e.0, one_at_most (state_passes is_blocked (get (e ∷ m) e.0)))
  where
    once_there : (k : ℕ) → (e.0 == k) ≡ false → times k blocked ≤ (if state_passes is_blocked (get m k) then 1 else 0)
    once_there k apart =
        subst (λ (test : Bool). times k blocked ≤ (if state_passes is_blocked (if test then Some e.1 else get m k) then 1 else 0)) apart (once k)

-- no more processes are blocked than there are
pub no_more : (ps : List Process) (blocked : List ℕ) → AreBlocked ps blocked → length blocked ≤ length ps
no_more ps blocked are =
    let fewer : length blocked ≤ length (map process_entry ps) = few (map process_entry ps) blocked (λ k. omega (arith, are.once k)) in
    omega (arith, fewer, length-map ps process_entry)

-- ---- what a process leaves of it

-- the list stays, where no call blocked
pub same_list : (pid : ℕ) (x : TraceItem) (blocked : List ℕ) → tells_blocking x ≡ false → then_blocked pid x blocked ≡ blocked
same_list pid (item.Call at call outcome.Blocked) blocked goes = absurd (false≢true (sym goes))
same_list pid _ blocked goes = refl

pub none_filtered : (p : ℕ) (ps : List ℕ) → ◌≡◌ {A = ℕ} (times p ps) 0 → filter (λ q. not (q == p)) ps ≡ ps
none_filtered p [] none = refl
none_filtered p (q ∷ ps) none = by_test (q == p) none (λ h. none_filtered p ps h)
  where
    by_test : (b : Bool) → ◌≡◌ {A = ℕ} (length (if b then q ∷ filter (λ x. x == p) ps else filter (λ x. x == p) ps)) 0
        → (◌≡◌ {A = ℕ} (times p ps) 0 → filter (λ x. not (x == p)) ps ≡ ps)
        → (if not b then q ∷ filter (λ x. not (x == p)) ps else filter (λ x. not (x == p)) ps) ≡ q ∷ ps
    by_test true none rest = absurd (omega (arith, none))
    by_test false none rest = ap (λ (xs : List ℕ). q ∷ xs) (rest none)

-- a step of a process that isn't among the blocked leaves them
pub same_blocked : (pid : ℕ) (x : TraceItem) (blocked : List ℕ) → pid_of x ≡ pid → ◌≡◌ {A = ℕ} (times pid blocked) 0 → blocked_by x blocked ≡ blocked
same_blocked pid (item.Call at call (outcome.Ended code)) blocked same none = rw same (none_filtered pid blocked none)
same_blocked pid (item.Stuck at) blocked same none = rw same (none_filtered pid blocked none)
same_blocked pid _ blocked same none = refl
