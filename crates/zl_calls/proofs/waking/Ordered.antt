-- Of the processes listed for packets of a port those that are blocked there stand in the order in which they blocked.
use Rattle.zl_calls.proofs.Common.{AreBlocked, AreLeft, AreOrdered, Blocked, Bool, Created, Ended, Gone, IsTrue, KeepSleepers, List, None, Objects, Option}
use Rattle.zl_calls.proofs.Common.{PacketAt, Process, ProcessValue, Ready, SignalOf, Some, StateValue, [], and_parts, ap, arith, awaited_found, awaited_in}
use Rattle.zl_calls.proofs.Common.{awaited_of, cases_Bool, eqb-true, false, false≢true, filter, filter-append, get, if◌then◌else◌, inl, inr, is_blocked, is_for}
use Rattle.zl_calls.proofs.Common.{length, list_any, listed_for, map, none-some, not, process_entry, refl, same_Some, state_passes, state_value, subst, sym}
use Rattle.zl_calls.proofs.Common.{takes_at, takes_from, times, true, ℕ, ◌&&◌, ◌++◌, ◌+◌, ◌==◌, ◌||◌, ◌∙◌, ◌∷◌, ◌≡◌, ◌≤◌}
use Rattle.std.proofs.Math.Dec.{ltb}
use Rattle.zl_code.proofs.Common.{ltb-false, ltb-true}
use Rattle.zl_objects.specs.declared.awaited.Awaited.{Awaited}
use Rattle.zl_calls.proofs.calls.Answered.{IsWrite}
use Rattle.zl_calls.proofs.processes.Written.{get_after}
use Rattle.zl_calls.proofs.lists.Positions.{times_cons}

-- ---- lists

-- what passes a test that implies another is left by that
pub both_filters : (test keep : ℕ → Bool) → ((x : ℕ) → IsTrue (test x) → IsTrue (keep x)) → (xs : List ℕ) → filter test (filter keep xs) ≡ filter test xs
both_filters test keep implies [] = refl
both_filters test keep implies (x ∷ xs) = elim (cases_Bool (keep x)) as (λ _. filter test (filter keep (x ∷ xs)) ≡ filter test (x ∷ xs)) [
  | inl kept ↦ rw kept (λ i. if test x then x ∷ both_filters test keep implies xs i else both_filters test keep implies xs i)
  | inr gone ↦ elim (cases_Bool (test x)) as (λ _. filter test (filter keep (x ∷ xs)) ≡ filter test (x ∷ xs)) [
    | inl passes ↦ absurd (false≢true (sym gone ∙ implies x passes))
    | inr fails ↦ rw (gone, fails) (both_filters test keep implies xs)
  ]
]

none_kept : (keep : ℕ → Bool) (k : ℕ) → keep k ≡ false → (xs : List ℕ) → ◌≡◌ {A = ℕ} (times k (filter keep xs)) 0
none_kept keep k out [] = refl
none_kept keep k out (x ∷ xs) = elim (cases_Bool (keep x)) as (λ _. ◌≡◌ {A = ℕ} (times k (filter keep (x ∷ xs))) 0) [
  | inl kept ↦ elim (cases_Bool (x == k)) as (λ _. ◌≡◌ {A = ℕ} (times k (filter keep (x ∷ xs))) 0) [
    | inl here ↦ absurd (false≢true (sym out ∙ subst (λ (y : ℕ). IsTrue (keep y)) (eqb-true x k here) kept))
    | inr apart ↦ rw (kept, apart) (none_kept keep k out xs)
  ]
  | inr gone ↦ rw gone (none_kept keep k out xs)
]

-- where just some are left
pub left_filtered : (keep : ℕ → Bool) (xs : List ℕ) → AreLeft xs (filter keep xs)
left_filtered keep xs test there = both_filters test keep (λ k passes. elim (cases_Bool (keep k)) as (λ _. IsTrue (keep k)) [
  | inl kept ↦ kept
  | inr gone ↦ absurd (let none = none_kept keep k gone xs in omega (arith, none, there k passes))
]) xs

-- no process stands more often among those that are left
pub left_fewer : (xs ys : List ℕ) → AreLeft xs ys → (k : ℕ) → times k ys ≤ times k xs
left_fewer xs ys left k = elim (cases_Bool (ltb 0 (times k ys))) as (λ _. times k ys ≤ times k xs) [
  | inl some ↦
      let same : filter (λ q. q == k) ys ≡ filter (λ q. q == k) xs =
      left (λ q. q == k) (λ q here. subst (λ (j : ℕ). 1 ≤ times j ys) (sym (eqb-true q k here))
      (let more = ltb-true 0 (times k ys) some in omega (arith, more))) in
      omega (arith, ap (λ (zs : List ℕ). length zs) same)
  | inr none ↦ let few = ltb-false 0 (times k ys) none in omega (arith, few)
]

pub none_among : (k : ℕ) (xs : List ℕ) → ◌≡◌ {A = ℕ} (times k xs) 0 → list_any (λ q. q == k) xs ≡ false
none_among k [] none = refl
none_among k (x ∷ xs) none = elim (cases_Bool (x == k)) as (λ _. list_any (λ q. q == k) (x ∷ xs) ≡ false) [
  | inl here ↦ absurd (let counted : times k (x ∷ xs) ≡ 1 + times k xs = times_cons k x xs ∙ rw here refl in omega (arith, none, counted))
  | inr apart ↦ rw apart (none_among k xs (let counted : times k (x ∷ xs) ≡ 0 + times k xs = times_cons k x xs ∙ rw apart refl in omega (arith, none, counted)))
]

-- the test leaves the process out, which stands nowhere in the list
left_out : (test : ℕ → Bool) (k : ℕ) (xs : List ℕ) → list_any (λ q. q == k) xs ≡ false → filter (λ q. test q && not (q == k)) xs ≡ filter test xs
left_out test k [] none = refl
left_out test k (x ∷ xs) none = by_test (x == k) refl none (left_out test k xs)
  where
    kept : (b : Bool) → (b && not false) ≡ b
    kept true = refl
    kept false = refl

    by_test : (b : Bool) → (x == k) ≡ b → (b || list_any (λ q. q == k) xs) ≡ false
        → (list_any (λ q. q == k) xs ≡ false → filter (λ q. test q && not (q == k)) xs ≡ filter test xs)
        → filter (λ q. test q && not (q == k)) (x ∷ xs) ≡ filter test (x ∷ xs)
    by_test true is h later = absurd (false≢true (sym h))
    by_test false is h later = rw (is, kept (test x)) (λ i. if test x then x ∷ later h i else later h i)

-- tests that agree
pub agree : (test test2 : ℕ → Bool) → ((x : ℕ) → test x ≡ test2 x) → (xs : List ℕ) → filter test xs ≡ filter test2 xs
agree test test2 same xs = λ i. filter (λ x. same x i) xs

-- nobody passes
none_pass : (test : ℕ → Bool) → ((x : ℕ) → test x ≡ false) → (xs : List ℕ) → filter test xs ≡ []
none_pass test none [] = refl
none_pass test none (x ∷ xs) = rw (none x) (none_pass test none xs)

-- ---- who is blocked where

takes_blocked : (port : ℕ) (s : StateValue) → takes_from port s ≡ true → is_blocked s ≡ true
takes_blocked port (Blocked (PacketAt k) ds) h = refl
takes_blocked port _ h = absurd (false≢true h)

pub takes_passes : (ps : List Process) (port k : ℕ) → takes_at ps port k ≡ true → state_passes is_blocked (get (map process_entry ps) k) ≡ true
takes_passes ps port k h = by_process (get (map process_entry ps) k) h
  where
    by_process : (o : Option ProcessValue) → state_passes (takes_from port) o ≡ true → state_passes is_blocked o ≡ true
    by_process None h = absurd (false≢true h)
    by_process (Some p) h = takes_blocked port p.state h

pub takes_none : (ps : List Process) (port k : ℕ) → state_passes is_blocked (get (map process_entry ps) k) ≡ false → takes_at ps port k ≡ false
takes_none ps port k none = elim (cases_Bool (takes_at ps port k)) as (λ _. takes_at ps port k ≡ false) [
  | inl takes ↦ absurd (false≢true (sym none ∙ takes_passes ps port k takes))
  | inr out ↦ out
]

-- what a process that waits for this takes
pub takes_awaited : (port : ℕ) (o : Option ProcessValue) (a : Awaited) → awaited_found o ≡ Some a → state_passes (takes_from port) o ≡ is_for port a
takes_awaited port None a is = absurd (none-some a is)
takes_awaited port (Some p) a is = by_state p.state is
  where
    by_state : (s : StateValue) → awaited_in s ≡ Some a → takes_from port s ≡ is_for port a
    by_state (Blocked (PacketAt k) ds) is = ap (is_for port) (same_Some (awaited_of (PacketAt k)) a is)
    by_state (Blocked (SignalOf k mask) ds) is = ap (is_for port) (same_Some (awaited_of (SignalOf k mask)) a is)
    by_state Created is = absurd (none-some a is)
    by_state Ready is = absurd (none-some a is)
    by_state (Ended code) is = absurd (none-some a is)
    by_state Gone is = absurd (none-some a is)

-- ---- it stays so

-- where nobody is blocked
pub none_ordered : (ps : List Process) (r : Objects) (blocked : List ℕ) → blocked ≡ [] → AreBlocked ps blocked → AreOrdered ps r blocked
none_ordered ps r blocked none are = inr (λ port. none_pass (takes_at ps port) (nobody port) (listed_for r.sleepers port)
    ∙ sym (none_pass (takes_at ps port) (nobody port) blocked))
  where
    nobody : (port k : ℕ) → takes_at ps port k ≡ false
    nobody port k = takes_none ps port k (elim (cases_Bool (state_passes is_blocked (get (map process_entry ps) k))) as
        (λ _. state_passes is_blocked (get (map process_entry ps) k) ≡ false) [
          | inl is ↦ absurd (let once : ◌≡◌ {A = ℕ} 0 1 = sym (ap (times k) none) ∙ (are.once k ∙ rw is refl) in omega (arith, once))
          | inr isnt ↦ isnt
        ])

-- where a process was written that isn't blocked, and wasn't
pub written_ordered : {before after : List Process} {p p2 : Process} (write : IsWrite before after p p2) (r : Objects) (blocked : List ℕ)
    → is_blocked (state_value p.state) ≡ false → is_blocked (state_value p2.state) ≡ false → AreOrdered before r blocked → AreOrdered after r blocked
written_ordered {before} {after} {p} {p2} write r blocked was still (inl crowded) = inl crowded
written_ordered {before} {after} {p} {p2} write r blocked was still (inr stand) = inr (λ port.
    agree (takes_at after port) (takes_at before port) (same port) (listed_for r.sleepers port)
    ∙ (stand port ∙ sym (agree (takes_at after port) (takes_at before port) (same port) blocked)))
  where
    none : (port : ℕ) (s : StateValue) → is_blocked s ≡ false → takes_from port s ≡ false
    none port s out = elim (cases_Bool (takes_from port s)) as (λ _. takes_from port s ≡ false) [
      | inl takes ↦ absurd (false≢true (sym out ∙ takes_blocked port s takes))
      | inr no_port ↦ no_port
    ]

    same : (port k : ℕ) → takes_at after port k ≡ takes_at before port k
    same port k = elim (cases_Bool (p.pid == k)) as (λ _. takes_at after port k ≡ takes_at before port k) [
      | inl here ↦ rw (get_after write k, here, ← eqb-true p.pid k here, write.there)
          (none port (state_value p2.state) still ∙ sym (none port (state_value p.state) was))
      | inr apart ↦ rw (get_after write k, apart) refl
    ]

-- where who is listed is as before
pub same_ordered : (ps : List Process) (r r2 : Objects) (blocked : List ℕ) → KeepSleepers r r2 → AreOrdered ps r blocked → AreOrdered ps r2 blocked
same_ordered ps r r2 blocked same (inl crowded) = inl (same.1 ∙ crowded)
same_ordered ps r r2 blocked same (inr stand) = inr (λ port. rw same.0 (stand port))

-- ---- one that acts

-- beside the process that acted none comes to wait for packets of the port, and those that still do are left in the list
module _ (ps ps2 : List Process) (pid port : ℕ) (b b2 : List ℕ)
    (others : (k : ℕ) → (k == pid) ≡ false → takes_at ps2 port k ≡ true → takes_at ps port k ≡ true)
    (left : AreLeft b b2) (standing : (k : ℕ) → (k == pid) ≡ false → takes_at ps2 port k ≡ true → 1 ≤ times k b2)
    (xs : List ℕ) (stand : filter (takes_at ps port) xs ≡ filter (takes_at ps port) b) where
  abbrev other_takes : ℕ → Bool
  other_takes k = takes_at ps2 port k && not (k == pid)

  takes_parts : (k : ℕ) → IsTrue (other_takes k) → (takes_at ps2 port k ≡ true) × ((k == pid) ≡ false)
  takes_parts k h = let both = and_parts (takes_at ps2 port k) (not (k == pid)) h in (
    both.0,
    elim (cases_Bool (k == pid)) as (λ _. (k == pid) ≡ false) [ inl here ↦ absurd (false≢true (rw here at both.1)) | inr apart ↦ apart ],
  )

  was_so : (k : ℕ) → IsTrue (other_takes k) → IsTrue (takes_at ps port k)
  was_so k h = let both = takes_parts k h in others k both.1 both.0

  but_one : filter other_takes xs ≡ filter other_takes b2
  but_one =
      sym (both_filters other_takes (takes_at ps port) was_so xs)
      ∙ (ap (λ (ys : List ℕ). filter other_takes ys) stand
      ∙ (both_filters other_takes (takes_at ps port) was_so b
      ∙ sym (left other_takes (λ k h. let both = takes_parts k h in standing k both.1 both.0))))

  -- it doesn't wait there
  pub stays_in_order : takes_at ps2 port pid ≡ false → filter (takes_at ps2 port) xs ≡ filter (takes_at ps2 port) b2
  stays_in_order out = agree (takes_at ps2 port) other_takes same xs ∙ (but_one ∙ sym (agree (takes_at ps2 port) other_takes same b2))
    where
      same : (k : ℕ) → takes_at ps2 port k ≡ other_takes k
      same k = elim (cases_Bool (k == pid)) as (λ _. takes_at ps2 port k ≡ other_takes k) [
        | inl here ↦ rw (eqb-true k pid here, out) refl
        | inr apart ↦ rw apart (kept (takes_at ps2 port k))
      ]
        where
          kept : (t : Bool) → t ≡ (t && true)
          kept true = refl
          kept false = refl

  -- it does, and is the last of all
  pub ends_in_order : list_any (λ q. q == pid) xs ≡ false → list_any (λ q. q == pid) b2 ≡ false
      → filter (takes_at ps2 port) (xs ++ pid ∷ []) ≡ filter (takes_at ps2 port) (b2 ++ pid ∷ [])
  ends_in_order out out2 =
      filter-append (takes_at ps2 port) xs (pid ∷ [])
      ∙ ((λ i. (sym (left_out (takes_at ps2 port) pid xs out) ∙ (but_one ∙ left_out (takes_at ps2 port) pid b2 out2)) i ++ filter (takes_at ps2 port)
      (pid ∷ [])) ∙ sym (filter-append (takes_at ps2 port) b2 (pid ∷ [])))
