-- Worlds that no run comes to, by computation: what a sound world excludes.
use Rattle.zl_code.proofs.Common.{Blocked, Ended, Entry, EventBody, IsSound, Map, None, Option, PacketAt, PortBody, SIGNALED, Some, USER_SIGNALS, World, []}
use Rattle.zl_code.proofs.Common.{arith, false≢true, get, is_process, none-some, pos, raisable, refl, true≢false, ℕ, ◌+◌, ◌∷◌, ◌≡◌}
use Rattle.zl_code.proofs.RowsWords.{world_of, process_of, event_with}

-- process 2 has this table, and removed this value last
abbrev removed_last : Map Entry → Option ℕ → World
removed_last m last = world_of [] (process_of [] m last)

-- with a live value removed last, the next handle would take its place
live_last : IsSound (removed_last ((7, event_with 0) ∷ []) (Some 7)) → ⊥
unfolding get
live_last s = true≢false ((s.tables 2 _ refl).free 7 refl).1

last_beyond : IsSound (removed_last [] (Some 65536)) → ⊥
unfolding get
last_beyond s = false≢true ((s.tables 2 _ refl).free 65536 refl).0

handle_at_0 : IsSound (removed_last ((0, event_with 0) ∷ []) None) → ⊥
unfolding get
handle_at_0 s = false≢true ((s.tables 2 _ refl).values 0 refl)

-- process 2 is over, and has a handle
ended_with_handle : IsSound (world_of [] (record (process_of [] ((7, event_with 0) ∷ []) None) { state = Ended (pos 0) })) → ⊥
unfolding get
ended_with_handle s = let none = ((s.tables 2 _ refl).idle refl).0 in cc

-- process 2 runs, and its object is gone
no_object : IsSound (record (removed_last [] None) { objects = [] }) → ⊥
unfolding get
no_object s = none-some _ (s.living 2 _ refl refl).there

-- koid 2 would be given again
koid_again : IsSound (record (removed_last [] None) { next_koid = 2 }) → ⊥
unfolding get
koid_again s = let below = s.processes 2 refl in omega arith

-- process 2 waits for a packet at the port 3, and stands twice among the blocked
blocked_twice : IsSound (record (world_of [] (record (process_of [] [] None) { state = Blocked (PacketAt 3) [] })) { blocked = 2 ∷ 2 ∷ [] }) → ⊥
unfolding get is_process
blocked_twice s = let once = s.blocked 2 in cc

-- the signals that may be raised at an event and at a port
at_an_event : raisable EventBody ≡ SIGNALED + USER_SIGNALS
at_an_event = refl

at_a_port : raisable (PortBody []) ≡ 0
at_a_port = refl
