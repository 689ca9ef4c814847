-- What a kill leaves of registered waits: none of a process that it ended, and those of the others as they were.
use Rattle.zl_calls.proofs.Common.{All, All-head, All-tail, Bool, ClosesAllEnded, ClosesEnded, Contains, Entry, IsTrue, KeepsWithout, KillsTask, List, Map}
use Rattle.zl_calls.proofs.Common.{Objects, Option, Reach, Process, ProcessValue, Some, Wait, [], ap, cases_Bool, ended_if, ended_within, eqb-true, false}
use Rattle.zl_calls.proofs.Common.{false≢true, get, get_or, has_handle, if◌then◌else◌, inl, inr, is_over, is_sorted, is_within_here, lives, lives_on, map}
use Rattle.zl_calls.proofs.Common.{nat_cmp, none-some, not, one_more, parts, process_entry, process_value, refl, same_Some, slice_get-get_or, state_passes}
use Rattle.zl_calls.proofs.Common.{state_value, subst, sym, true, ℕ, ◌&&◌, ◌==◌, ◌∙◌, ◌∷◌, ◌≡◌}
use Rattle.zl_code.proofs.Common.{not-true}
use Rattle.zl_calls.specs.calls.Task.{none_left}
use Rattle.zl_calls.proofs.processes.InOrder.{all_in_order}
use Rattle.zl_calls.proofs.parts.KillParts.{ended_pid}
use Rattle.zl_calls.proofs.parts.StartCalls.{writes_at}
use Rattle.zl_calls.proofs.waits.WaitsLost.{listed_same, listed_then, listed_wide}

-- the process with this koid is there, and doesn't live
abbrev pub is_dead : List Process → ℕ → Bool
is_dead ps k = state_passes (λ s. not (lives s)) (get (map process_entry ps) k)

-- who is dead keeps its koid, and has no handle then
one_over : (p p2 : Process) (r r2 : Objects) → ClosesEnded p r p2 r2 → (p2.pid ≡ p.pid) × (lives (state_value p.state) ≡ false → p2.table.entries ≡ [])
one_over p _ r _ (lives_on _ _ alive) = (refl, λ dead. absurd (false≢true (sym dead ∙ alive)))
one_over p p2 r r2 (is_over _ _ _ _ dead same entries last drained waits) = (ap (λ (x : Process). x.pid) same, λ d. entries)

-- who lives is as before
one_alive : (p p2 : Process) (r r2 : Objects) → ClosesEnded p r p2 r2 → lives (state_value p.state) ≡ true → p2 ≡ p
one_alive p _ r _ (lives_on _ _ alive) living = refl
one_alive p p2 r r2 (is_over _ _ _ _ dead same entries last drained waits) living = absurd (false≢true (sym dead ∙ living))

module _ (over : ℕ → Bool) where
  one_keeps : (p p2 : Process) (r r2 : Objects) → (lives (state_value p.state) ≡ false → IsTrue (over p.pid)) → ClosesEnded p r p2 r2 → KeepsWithout over r r2
  one_keeps p _ r _ ends (lives_on _ _ alive) = listed_same r
  one_keeps p p2 r r2 ends (is_over _ _ _ _ dead same entries last drained waits) =
      listed_wide (λ k own. subst (λ j. IsTrue (over j)) (sym (eqb-true k p.pid own)) (ends dead)) r r2 waits.keeps

  -- waits end with objects, with ports and with those that are dead
  pub closes_keeps : (ps ps2 : List Process) (r r2 : Objects) → All (λ p. lives (state_value p.state) ≡ false → IsTrue (over p.pid)) ps
      → ClosesAllEnded ps r ps2 r2 → KeepsWithout over r r2
  closes_keeps _ _ r _ all (none_left _) = listed_same r
  closes_keeps _ _ r r2 all (one_more p p2 ps ps2 _ mid _ one rest) =
      listed_then r mid r2 (one_keeps p p2 r mid (All-head (λ q. lives (state_value q.state) ≡ false → IsTrue (over q.pid)) p ps all) one)
      (closes_keeps ps ps2 mid r2 (All-tail (λ q. lives (state_value q.state) ≡ false → IsTrue (over q.pid)) p ps all) rest)

-- what is found at a koid, in the first place or behind it
found : (A : Type 0) (p : Process) (o : Option ProcessValue) (k : ℕ) (q : ProcessValue) → (if p.pid == k then Some (process_value p) else o) ≡ Some q
    → (IsTrue (p.pid == k) → process_value p ≡ q → A) → ((p.pid == k) ≡ false → o ≡ Some q → A) → A
found A p o k q at here behind = elim (cases_Bool (p.pid == k)) as (λ _. A) [
  | inl is ↦ here is (same_Some (process_value p) q (rw is at at))
  | inr apart ↦ behind apart (rw apart at at)
]

-- who lives is there afterwards
pub closes_stays : (ps ps2 : List Process) (r r2 : Objects) → ClosesAllEnded ps r ps2 r2 → (k : ℕ) (q : ProcessValue)
    → get (map process_entry ps) k ≡ Some q → lives q.state ≡ true → get (map process_entry ps2) k ≡ Some q
unfolding get
closes_stays _ _ r _ (none_left _) k q at alive = absurd (none-some q at)
closes_stays _ _ r r2 (one_more p p2 ps ps2 _ mid _ one rest) k q at alive =
    found (get (map process_entry (p2 ∷ ps2)) k ≡ Some q) p (get (map process_entry ps) k) k q at
    (λ here is. rw (one_alive p p2 r mid one (ap (λ (x : ProcessValue). lives x.state) is ∙ alive), here) (ap (λ (x : ProcessValue). Some x) is))
    (λ apart behind. rw ((one_over p p2 r mid one).0, apart) (closes_stays ps ps2 mid r2 rest k q behind alive))

-- no wait is left that a dead one made by a handle
pub closes_gone : (ps ps2 : List Process) (r r2 : Objects) → ClosesAllEnded ps r ps2 r2 → (x : Wait) (q : ProcessValue) (e : Entry)
    → get (map process_entry ps) x.pid ≡ Some q → lives q.state ≡ false → get q.handles x.value ≡ Some e → e.koid ≡ x.object → Contains r2.waits x → ⊥
unfolding get
closes_gone _ _ r _ (none_left _) x q e at dead live names there = none-some q at
closes_gone _ _ r r2 (one_more p p2 ps ps2 _ mid _ one rest) x q e at dead live names there =
    found ⊥ p (get (map process_entry ps) x.pid) x.pid q at
    (λ here is. by_end p p2 r mid one (eqb-true p.pid x.pid here) (ap (λ (y : ProcessValue). lives y.state) is ∙ dead)
    (ap (λ (y : ProcessValue). get y.handles x.value) is ∙ live)
    ((closes_keeps (λ k. true) ps ps2 mid r2 (λ i d inside gone. refl) rest).older x there))
    (λ apart behind. closes_gone ps ps2 mid r2 rest x q e behind dead live names there)
  where
    by_end : (p p2 : Process) (r mid : Objects) → ClosesEnded p r p2 mid → p.pid ≡ x.pid → lives (state_value p.state) ≡ false
        → get p.table.entries x.value ≡ Some e → Contains mid.waits x → ⊥
    by_end p _ r _ (lives_on _ _ alive) own over at still = false≢true (sym over ∙ alive)
    by_end p p2 r mid (is_over _ _ _ _ d same entries last drained waits) own over at still = waits.gone x e (sym own) at names still

-- nor is a handle of a dead one
pub closes_none : (ps ps2 : List Process) (r r2 : Objects) → ClosesAllEnded ps r ps2 r2 → (k v : ℕ) → IsTrue (is_dead ps k)
    → has_handle (get (map process_entry ps2) k) v ≡ false
unfolding get
closes_none _ _ r _ (none_left _) k v dead = absurd (false≢true dead)
closes_none _ _ r r2 (one_more p p2 ps ps2 _ mid _ one rest) k v dead = elim (cases_Bool (p.pid == k))
    as (λ _. has_handle (get (map process_entry (p2 ∷ ps2)) k) v ≡ false) [
      | inl here ↦
          let over : not (lives (state_value p.state)) ≡ true = rw here at dead in
          let is = one_over p p2 r mid one in
          rw (is.0, here, is.1 (not-true (lives (state_value p.state)) over)) refl
      | inr apart ↦ rw ((one_over p p2 r mid one).0, apart) (closes_none ps ps2 mid r2 rest k v (rw apart at dead))
    ]

-- ---- the whole kill

module _ (ps : List Process) (r : Objects) (sorted : IsTrue (is_sorted nat_cmp (map process_entry ps))) (blocked : List ℕ) (t : ℕ) (all2 : Reach)
    (kills : KillsTask (parts ps r blocked) t all2) where
  abbrev ended : List Process
  ended = map (ended_within r t) ps

  dead_at : All (λ p. lives (state_value p.state) ≡ false → IsTrue (is_dead ended p.pid)) ended
  dead_at i d inside over =
      let rising : IsTrue (is_sorted nat_cmp (map process_entry ended)) = all_in_order (ended_within r t) (λ p. ended_pid r t p _ refl) ps sorted in
      rw ((writes_at ended i (get_or ended i d) (get_or ended i d) rising (slice_get-get_or ended i d inside) refl).there, over) refl

  pub killed_keeps : KeepsWithout (is_dead ended) r all2.objects
  killed_keeps =
      listed_then r kills.between all2.objects (listed_wide (λ k ends. absurd (false≢true ends)) r kills.between kills.listed)
      (closes_keeps (is_dead ended) ended all2.processes kills.between all2.objects dead_at kills.closes)

-- who ends keeps its handles at first
ended_at : (r : Objects) (t : ℕ) (ps : List Process) (k : ℕ) (q : ProcessValue) → get (map process_entry ps) k ≡ Some q
    → (q1 : ProcessValue) × (get (map process_entry (map (ended_within r t) ps)) k ≡ Some q1) × (q1.handles ≡ q.handles)
unfolding get
ended_at r t [] k q at = absurd (none-some q at)
ended_at r t (p ∷ ps) k q at =
    let same = still (lives (state_value p.state) && is_within_here r.objects t p.pid) in
    by_first (ended_within r t p) same.0 same.1 (ended_at r t ps k q)
  where
    by_first : (p1 : Process) → p1.pid ≡ p.pid → p1.table.entries ≡ p.table.entries → (get (map process_entry ps) k ≡ Some q
        → (q1 : ProcessValue) × (get (map process_entry (map (ended_within r t) ps)) k ≡ Some q1) × (q1.handles ≡ q.handles))
        → (q1 : ProcessValue) × (get (map process_entry (p1 ∷ map (ended_within r t) ps)) k ≡ Some q1) × (q1.handles ≡ q.handles)
    by_first p1 pid handles rest =
        found ((q1 : ProcessValue) × (get (map process_entry (p1 ∷ map (ended_within r t) ps)) k ≡ Some q1) × (q1.handles ≡ q.handles)) p
        (get (map process_entry ps) k) k q at
        (λ here is. (process_value p1, rw (pid, here) refl, handles ∙ ap (λ (x : ProcessValue). x.handles) is))
        (λ apart behind. let later = rest behind in (later.0, rw (pid, apart) (later.1), later.2))

    still : (b : Bool) → ((ended_if b p).pid ≡ p.pid) × ((ended_if b p).table.entries ≡ p.table.entries)
    still true = (refl, refl)
    still false = (refl, refl)

module _ (ps : List Process) (r : Objects) (blocked : List ℕ) (t : ℕ) (all2 : Reach) (kills : KillsTask (parts ps r blocked) t all2) where
  -- each wait that is left was there before
  pub killed_older : (x : Wait) → Contains all2.objects.waits x → Contains r.waits x
  killed_older x there = kills.listed.older x
      ((closes_keeps (λ k. true) (map (ended_within r t) ps) all2.processes kills.between all2.objects (λ i d inside gone. refl) kills.closes).older x there)

  -- its handle is there still, if one was by which it was made
  pub killed_has : (x : Wait) → Contains all2.objects.waits x → (q : ProcessValue) → get (map process_entry ps) x.pid ≡ Some q → (e : Entry)
      → get q.handles x.value ≡ Some e → e.koid ≡ x.object → IsTrue (has_handle (get (map process_entry all2.processes) x.pid) x.value)
  killed_has x there q at e live names =
      let now = ended_at r t ps x.pid q at in
      let has : get now.0.handles x.value ≡ Some e = ap (λ (m : Map Entry). get m x.value) now.2 ∙ live in
      elim (cases_Bool (lives now.0.state)) as (λ _. IsTrue (has_handle (get (map process_entry all2.processes) x.pid) x.value)) [
        | inl alive ↦
            rw (closes_stays (map (ended_within r t) ps) all2.processes kills.between all2.objects kills.closes x.pid now.0 now.1 alive, has) refl
        | inr dead ↦ absurd (closes_gone (map (ended_within r t) ps) all2.processes kills.between all2.objects kills.closes x now.0 e now.1 dead has names
            there)
      ]
