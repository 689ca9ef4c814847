-- A ready process gets another Cpu: what is held stays held, no wait ends, and nothing becomes due.
use Rattle.zl_calls.proofs.Common.{AreBlocked, IsConsistent, IsTrue, List, Map, Objects, Process, ProcessValue, Settles, Some, StaysAwake, Wait, World, [], ap}
use Rattle.zl_calls.proofs.Common.{arith, cases_Bool, false, filter, get, has_key, inl, inr, is_blocked, is_left, is_left_at_port, is_process, length, list_any}
use Rattle.zl_calls.proofs.Common.{lives, map, nat_tests, on_process, process_entry, process_value, refl, set, settles_waiting, slice_index_or, state_value}
use Rattle.zl_calls.proofs.Common.{subst, suc, sym, wakes, world_blocked, world_left, world_value, ℕ, ◌==◌, ◌∙◌, ◌∷◌, ◌≡◌}
use Rattle.zl_code.proofs.AwakeMoves.{moves_awake}
use Rattle.zl_calls.proofs.calls.Answered.{IsWrite}
use Rattle.zl_calls.proofs.waking.BlockedLists.{still_blocked}
use Rattle.zl_calls.proofs.processes.Departed.{all_live}
use Rattle.zl_calls.proofs.waits.LeftWaits.{at_port}
use Rattle.zl_calls.proofs.waits.Staying.{AreLeft, all_pass, sound_left, stays_left, written_keeps}
use Rattle.zl_calls.proofs.step.Performing.{AtTurn, here, key, object_there, there, unblocked, write_of}
use Rattle.zl_calls.proofs.objects.Settled.{still_settles}
use Rattle.zl_calls.proofs.processes.Written.{alike_states, refusal_keeps}

-- ---- lists

-- whom no place of the list has isn't among it
not_among : (p : ℕ) (ps : List ℕ) → length (filter (λ q. q == p) ps) ≡ 0 → list_any (λ q. p == q) ps ≡ false
not_among p [] none = refl
not_among p (q ∷ ps) none = elim (cases_Bool (q == p)) as (λ _. list_any (λ x. p == x) (q ∷ ps) ≡ false) [
  | inl here ↦ let some : suc (length (filter (λ x. x == p) ps)) ≡ 0 = rw here at none in absurd (omega (arith, some))
  | inr apart ↦ let other : (p == q) ≡ false = grind (arith, nat_tests, apart) in rw other (not_among p ps (rw apart at none))
]

-- ---- the process p stands at the place, under the pid, and is ready

module _ {ps : List Process} {r : Objects} {blocked : List ℕ} {pid place : ℕ} {p : Process} (turn : AtTurn ps r blocked pid place p) where
  abbrev before : World
  before = world_blocked ps r blocked

  pub stands : get (map process_entry ps) pid ≡ Some (process_value p)
  stands = there turn

  none_blocked : list_any (λ q. pid == q) blocked ≡ false
  none_blocked = not_among pid blocked (turn.are.once pid ∙ rw (stands, unblocked turn) refl)

  -- it gets another Cpu, and nothing else changes
  module _ (p2 : Process) (cpu : p2 ≡ record p { cpu = p2.cpu }) where
    abbrev pub after : List Process
    after = set ps place p2

    write : IsWrite ps after p p2
    write = write_of turn p2 (ap (λ (q : Process). q.pid) cpu)

    pub moved_keeps : IsConsistent after r
    moved_keeps = refusal_keeps write r turn.consistent (ap (λ (q : Process). q.table) cpu) (ap (λ (q : Process). q.state) cpu)

    pub moved_list : AreBlocked after blocked
    moved_list =
        let was : is_blocked (state_value p.state) ≡ false = unblocked turn in
        still_blocked write was (ap (λ (q : Process). is_blocked (state_value q.state)) cpu ∙ was) blocked turn.are

    pub moved_world : world_blocked after r blocked ≡ on_process before pid (λ q. record q { cpu = p2.cpu })
    unfolding on_process
    moved_world =
        ap (λ (m : Map ProcessValue). record before { processes = m }) (rw (← key turn) (write.writes (λ q. record q { cpu = p2.cpu }) (ap process_value cpu)))

    pub moved_awake : wakes before ≡ before → wakes (world_blocked after r blocked) ≡ world_blocked after r blocked
    moved_awake awake = subst (λ (w : World). wakes w ≡ w) (sym moved_world) (moves_awake before pid p2.cpu none_blocked awake)

    -- ---- no wait ends

    left : AreLeft after r r.waits
    left = stays_left ps after r r
        (written_keeps ps place p p2 (here ps pid place p turn.found turn.read) (ap (λ (q : Process). q.pid) cpu)
        (λ v at. ap (λ (q : Process). has_key q.table.entries v) cpu ∙ at)) (λ k at. at) r.waits (sound_left ps r blocked turn.sound)

    all_left_at_port : filter (is_left_at_port (world_value after r)) r.waits ≡ r.waits
    all_left_at_port = all_pass (is_left_at_port (world_value after r)) r.waits (λ i d inside. at_port (world_value after r) (slice_index_or r.waits i d)
        (left i d inside))

    pub moved_left : world_left after r blocked ≡ world_blocked after r blocked
    moved_left = λ i. record (world_blocked after r blocked) { waits = all_pass (is_left (world_value after r)) r.waits left i }

    pub moved_stays : StaysAwake before (world_left after r blocked) (world_blocked after r blocked)
    moved_stays awake = ap wakes moved_left ∙ moved_awake awake

    -- ---- all is held

    live : (k : ℕ) (q : ProcessValue) → get (map process_entry after) k ≡ Some q → IsTrue (lives q.state) → IsTrue (has_key r.objects k)
    unfolding is_process
    live k q at h = object_there ps r blocked turn.sound k (sym (alike_states write lives (ap (λ (x : Process). lives (state_value x.state)) cpu) r
        r k) ∙ rw at h)

    pub moved_rests : Settles (world_blocked after r blocked) (world_blocked after r blocked)
    moved_rests =
        let bare : Settles (world_value after r) (world_value after r) =
        subst (Settles (world_value after r)) (all_live after r moved_keeps.processes_in_order live) (still_settles after r moved_keeps) in
        subst (λ (ws : List Wait). Settles (world_blocked after r blocked) (record (world_blocked after r blocked) { waits = ws })) all_left_at_port
        (settles_waiting (world_value after r) (world_value after r) bare r.waits r.waits_made blocked)
