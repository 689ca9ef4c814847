-- Blocked processes wake one after another, in the order of the list.
use Rattle.zl_calls.proofs.Common.{AreBlocked, Bool, HaveLeft, IsConsistent, IsTrue, KeepSleepers, List, None, Objects, Process, ProcessValue, Some, WakesOne}
use Rattle.zl_calls.proofs.Common.{Woke, World, [], ap, arith, cases_Bool, drop, eq-eqb, eqb-true, false, filter, fold, get, get_or, held, Option}
use Rattle.zl_calls.proofs.Common.{if◌then◌else◌, inl, inr, is_blocked, length, map, nat_lt, nat_tests, none-some, not, position, position-Some}
use Rattle.zl_calls.proofs.Common.{position_or_len, process_entry, refl, state_passes, subst, suc, sym, take, times, true, woken, world_blocked, zero, ℕ, ◌++◌}
use Rattle.zl_calls.proofs.Common.{◌+◌, ◌<◌, ◌==◌, ◌^◌, ◌∙◌, ◌∷◌, ◌≡◌, ◌≤◌}
use Rattle.std.proofs.lemmas.List.Sums.{fails_before_first}
use Rattle.zl_code.proofs.Common.{drop_all}
use Rattle.zl_calls.proofs.waking.BlockedLists.{none_filtered}
use Rattle.zl_calls.proofs.lists.FilterInPlace.{drop_here, drop_out}
use Rattle.zl_calls.proofs.Common.{AreParted, eq-eqb, option_to_list, pids_told, tells_all, times-other, times-same}
use Rattle.zl_calls.proofs.lists.Positions.{times-append, times_cons}

-- if all are told, these became ready so far; the list was first at the start
abbrev pub IsToldSoFar : List ℕ → Option ℕ → List ℕ → Bool → List ℕ → Type 0
IsToldSoFar first started told whole blocked = whole ≡ true → AreParted first started told blocked

-- those before the place in the list have had their turn; the list was first at the start
pub record IsWaking (ps0 : List Process) (r0 : Objects) (first : List ℕ) (started : Option ℕ) (capacity0 place : ℕ) (ps : List Process) (r : Objects)
    (blocked : List ℕ) (capacity : ℕ) (list_told : List ℕ) (whole : Bool) : Type 0 where
  pub so_far : fold woken (world_blocked ps r blocked) (drop place blocked) ≡ fold woken (world_blocked ps0 r0 first) first
  pub consistent : IsConsistent ps r
  pub list : AreBlocked ps blocked
  pub held : map held ps ≡ map held ps0
  pub same_room : capacity ≡ capacity0
  pub asleep : KeepSleepers r0 r
  pub told : IsToldSoFar first started list_told whole blocked

-- what stands at a place stands in the list
once_there : (xs : List ℕ) (i d p : ℕ) → i < length xs → get_or xs i d ≡ p → 1 ≤ times p xs
once_there [] i d p within at = absurd (omega (arith, within))
once_there (x ∷ xs) zero d p within at =
    let here : (x == p) ≡ true = eq-eqb x p at in
    rw (times_cons p x xs, here) (omega arith)
once_there (x ∷ xs) (suc i) d p within at =
    let later : 1 ≤ times p xs = once_there xs i d p (omega (arith, within)) at in
    rw (times_cons p x xs) (omega (arith, later))

-- the one at the place is the only one that is filtered out
pub removed_one : (xs : List ℕ) (i d p : ℕ) → i < length xs → get_or xs i d ≡ p → times p xs ≤ 1 → filter (λ q. not (q == p)) xs ≡ take i xs ++ drop (suc i) xs
removed_one [] i d p within at once = absurd (omega (arith, within))
removed_one (x ∷ xs) zero d p within at once =
    let here : (x == p) ≡ true = eq-eqb x p at in
    let counted : 1 + times p xs ≤ 1 = subst (λ (b : Bool). (if b then 1 else 0) + times p xs ≤ 1) here (subst (λ (n : ℕ). n ≤ 1) (times_cons p x xs) once) in
    let none : ◌≡◌ {A = ℕ} (times p xs) 0 = omega (arith, counted) in
    rw here (none_filtered p xs none)
removed_one (x ∷ xs) (suc i) d p within at once =
    elim (cases_Bool (x == p)) as (λ _. filter (λ q. not (q == p)) (x ∷ xs) ≡ take (suc i) (x ∷ xs) ++ drop (suc (suc i)) (x ∷ xs)) [
      | inl here ↦
          let counted : 1 + times p xs ≤ 1 =
          subst (λ (b : Bool). (if b then 1 else 0) + times p xs ≤ 1) here (subst (λ (n : ℕ). n ≤ 1) (times_cons p x xs) once) in
          absurd (omega (arith, counted, once_there xs i d p (omega (arith, within)) at))
      | inr apart ↦
          let counted : 0 + times p xs ≤ 1 =
          subst (λ (b : Bool). (if b then 1 else 0) + times p xs ≤ 1) apart (subst (λ (n : ℕ). n ≤ 1) (times_cons p x xs) once) in
          rw apart (ap (λ (ys : List ℕ). x ∷ ys) (removed_one xs i d p (omega (arith, within)) at (omega (arith, counted))))
    ]

-- the process stands at its first place, or nowhere
module _ (pid : ℕ) (xs : List ℕ) where
  pub removed_first : (i : ℕ) → position (λ k. k == pid) xs ≡ Some i → times pid xs ≤ 1 → take i xs ++ drop (suc i) xs ≡ filter (λ k. not (k == pid)) xs
  removed_first i found once =
      let at = position-Some (λ k. k == pid) xs i pid found in
      sym (removed_one xs i pid pid at.0 (eqb-true (get_or xs i pid) pid at.1) once)

  pub removed_none : position (λ k. k == pid) xs ≡ None → xs ≡ filter (λ k. not (k == pid)) xs
  removed_none none = all_pass xs (λ i d within. fails_before_first (λ k. k == pid) xs i d (omega (arith, within, past)))
    where
      past : length xs ≤ position_or_len (λ k. k == pid) xs
      past = by_test (nat_lt (position_or_len (λ k. k == pid) xs) (length xs)) refl
        where
          by_test : (b : Bool) → nat_lt (position_or_len (λ k. k == pid) xs) (length xs) ≡ b → length xs ≤ position_or_len (λ k. k == pid) xs
          by_test true inside =
              let found : position (λ k. k == pid) xs ≡ Some (position_or_len (λ k. k == pid) xs) = rw inside refl in
              absurd (none-some (position_or_len (λ k. k == pid) xs) (sym none ∙ found))
          by_test false outside = grind (arith, nat_tests)

      all_pass : (ys : List ℕ) → ((i d : ℕ) → i < length ys → (get_or ys i d == pid) ≡ false) → ys ≡ filter (λ k. not (k == pid)) ys
      all_pass [] h = refl
      all_pass (y ∷ ys) h = rw (h 0 y (omega arith)) (ap (λ (zs : List ℕ). y ∷ zs) (all_pass ys (λ i d within. h (suc i) d (omega (arith, within)))))

-- ---- who stands in the list

module _ (ps : List Process) (blocked : List ℕ) (are : AreBlocked ps blocked) (i d pid : ℕ) (within : i < length blocked) (at : get_or blocked i d ≡ pid) where
  is_blocked_there : IsTrue (state_passes is_blocked (get (map process_entry ps) pid))
  is_blocked_there = by_test (state_passes is_blocked (get (map process_entry ps) pid)) (are.once pid)
    where
      by_test : (b : Bool) → times pid blocked ≡ (if b then 1 else 0) → IsTrue b
      by_test true once = refl
      by_test false once = absurd (omega (arith, once, once_there blocked i d pid within at))

  pub counter_there : (p : ProcessValue) → get (map process_entry ps) pid ≡ Some p → p.cpu.counter < 2 ^ 32
  counter_there p found = are.counters pid p found (rw found at is_blocked_there)

  at_most_once : times pid blocked ≤ 1
  at_most_once = by_test (state_passes is_blocked (get (map process_entry ps) pid)) (are.once pid)
    where
      by_test : (b : Bool) → times pid blocked ≡ (if b then 1 else 0) → times pid blocked ≤ 1
      by_test true once = omega (arith, once)
      by_test false once = omega (arith, once)

  pub one_there : times pid blocked ≡ 1
  one_there = omega (arith, at_most_once, once_there blocked i d pid within at)

  pub removed_is : filter (λ q. not (q == pid)) blocked ≡ take i blocked ++ drop (suc i) blocked
  removed_is = removed_one blocked i d pid within at at_most_once

-- at the start it is the one that was started
pub begins_told : (first : List ℕ) (started : Option ℕ) (told : List ℕ) (whole : Bool) → (whole ≡ true → told ≡ option_to_list started)
    → IsToldSoFar first started told whole first
begins_told first started told whole begins all k = omega (arith, ap (times k) (begins all))

-- at the end they are told
pub ends_told : (first : List ℕ) (started : Option ℕ) (told : List ℕ) (whole : Bool) (blocked : List ℕ) → IsToldSoFar first started told whole blocked
    → (who : Woke) → pids_told who ≡ told → (tells_all who ≡ true → whole ≡ true) → HaveLeft first started who blocked
ends_told first started told whole blocked so_far who same all tells k = ap (λ (ks : List ℕ). times k ks + times k blocked) same ∙ so_far (all tells) k

-- this one is noted too, if there is room
abbrev pub IsNotedToo : ℕ → (told : List ℕ) (whole : Bool) → (told2 : List ℕ) (whole2 : Bool) → Type 0
IsNotedToo pid told whole told2 whole2 = whole2 ≡ true → (whole ≡ true) × (told2 ≡ told ++ pid ∷ [])

-- one more left the list, in which it stood once
module _ (first : List ℕ) (started : Option ℕ) (blocked told : List ℕ) (whole : Bool) (so_far : IsToldSoFar first started told whole blocked) where
  pub one_left : (pid : ℕ) → times pid blocked ≡ 1 → (blocked2 : List ℕ) → blocked2 ≡ filter (λ q. not (q == pid)) blocked
      → (told2 : List ℕ) (whole2 : Bool) → IsNotedToo pid told whole told2 whole2 → IsToldSoFar first started told2 whole2 blocked2
  one_left pid once blocked2 is told2 whole2 noted all k =
      let more = noted all in
      let longer : times k told2 ≡ times k told + times k (pid ∷ []) = ap (times k) more.1 ∙ times-append k told (pid ∷ []) in
      omega (arith, so_far more.0 k, longer, ap (times k) is, by_test (pid == k) refl)
    where
      by_test : (b : Bool) → (pid == k) ≡ b → times k (pid ∷ []) + times k (filter (λ q. not (q == pid)) blocked) ≡ times k blocked
      by_test true here = subst (λ (j : ℕ). times j (pid ∷ []) + times j (filter (λ q. not (q == pid)) blocked) ≡ times j blocked) (eqb-true pid k here)
          (rw (eq-eqb pid pid refl) (omega (arith, once, times-same pid blocked)))
      by_test false apart = rw apart (omega (arith, times-other pid k apart blocked))

-- ---- the loop

module _ (ps0 : List Process) (r0 : Objects) (first : List ℕ) (started : Option ℕ) (capacity0 : ℕ) where
  module _ (i : ℕ) (ps : List Process) (r : Objects) (blocked : List ℕ) (capacity : ℕ) (told : List ℕ) (whole : Bool)
      (so_far : IsWaking ps0 r0 first started capacity0 i ps r blocked capacity told whole) where
    module _ (d pid : ℕ) (within : i < length blocked) (at : get_or blocked i d ≡ pid) (ps2 : List Process) (r2 : Objects) where
      turn_is : fold woken (world_blocked ps r blocked) (drop i blocked) ≡ fold woken (woken (world_blocked ps r blocked) pid) (drop (suc i) blocked)
      turn_is = ap (fold woken (world_blocked ps r blocked)) (drop_here blocked i d within ∙ ap (λ (x : ℕ). x ∷ drop (suc i) blocked) at)

      -- it woke, and left the list
      pub turn_awake : WakesOne pid true ps r ps2 r2 → KeepSleepers r r2 → (told2 : List ℕ) (whole2 : Bool) → IsNotedToo pid told whole told2 whole2
          → IsWaking ps0 r0 first started capacity0 i ps2 r2 (take i blocked ++ drop (suc i) blocked) capacity told2 whole2
      turn_awake wakes_it same told2 whole2 noted =
          let gone = removed_is ps blocked so_far.list i d pid within at in
          record {
            so_far = ap (fold woken (world_blocked ps2 r2 (take i blocked ++ drop (suc i) blocked))) (drop_out blocked i within)
                ∙ (ap (λ (w : World). fold woken w (drop (suc i) blocked)) (ap (world_blocked ps2 r2) (sym gone) ∙ wakes_it.world blocked)
                ∙ (sym turn_is ∙ so_far.so_far));
            consistent = wakes_it.consistent;
            list = subst (AreBlocked ps2) gone (wakes_it.list blocked so_far.list);
            held = wakes_it.held ∙ so_far.held;
            same_room = so_far.same_room;
            asleep = (same.0 ∙ so_far.asleep.0, same.1 ∙ so_far.asleep.1);
            told = one_left first started blocked told whole so_far.told pid (one_there ps blocked so_far.list i d pid within at) _ (sym gone) told2
                whole2 noted;
          }

      -- it stays blocked
      pub turn_asleep : WakesOne pid false ps r ps2 r2 → KeepSleepers r r2
          → IsWaking ps0 r0 first started capacity0 (i + 1) ps2 r2 blocked capacity told whole
      turn_asleep wakes_it same = record {
        so_far = ap (fold woken (world_blocked ps2 r2 blocked)) (ap (λ (n : ℕ). drop n blocked) add_one)
            ∙ (ap (λ (w : World). fold woken w (drop (suc i) blocked)) (wakes_it.world blocked)
            ∙ (sym turn_is ∙ so_far.so_far));
        consistent = wakes_it.consistent;
        list = wakes_it.list blocked so_far.list;
        held = wakes_it.held ∙ so_far.held;
        same_room = so_far.same_room;
        asleep = (same.0 ∙ so_far.asleep.0, same.1 ∙ so_far.asleep.1);
        told = so_far.told;
      }
        where
          add_one : i + 1 ≡ suc i
          add_one = omega arith

    pub all_had_turns : length blocked ≤ i → world_blocked ps r blocked ≡ fold woken (world_blocked ps0 r0 first) first
    all_had_turns past = ap (fold woken (world_blocked ps r blocked)) (sym (drop_all i blocked past)) ∙ so_far.so_far
