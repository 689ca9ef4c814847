-- Each cause of the calls that wait for signals, by computation in small worlds.
use Rattle.zl_code.proofs.Common.{Blocked, ChannelEnd, Entry, EventBody, JobBody, List, Map, None, Object, PEER_CLOSED, Packet, PortBody, ProcessBody, READ}
use Rattle.zl_code.proofs.Common.{Ready, Refused, SIGNAL, SIGNALED, SignalOf, Site, Some, Values, WAIT, WRITE, Wants, World, [], body_of, close, false, map}
use Rattle.zl_code.proofs.Common.{packets_in, port_wait, refl, signal, site, wait_async, wait_one, wait_poll, ℕ, ◌+◌, ◌-◌, ◌^◌, ◌∷◌, ◌≡◌}
use Rattle.zl_rights.specs.declared.kind.Kind.TheVariants as kind
use Rattle.zl_rights.specs.declared.status.Status.TheVariants as status
use Rattle.zl_code.specs.declared.history.CallName.TheVariants as name
use Rattle.zl_code.specs.declared.history.Outcome.TheVariants as outcome
use Rattle.zl_code.specs.declared.history.TraceItem.TheVariants as item
use Rattle.zl_code.proofs.Running.{computing}
use Rattle.zl_code.proofs.RowsWords.{Refuses, Passes, world_of, process_of, entry_of, event_with, FIRST_RIGHTS, told, item_of, after, state_of, registers_of}
use Rattle.zl_code.proofs.RowsWords.{beside_event, turn_of, waits_there}

-- ---- the words of the rows

-- event 3 at which these signals are raised, one end of a channel whose peer is gone, and port 6 with these packets, beside a job and process 2
abbrev objects_with : ℕ → List Packet → Map Object
objects_with raised packets =
    (1, record { body = JobBody 0 1 [] false; raised = 0 }) ∷ (2, record { body = ProcessBody 1; raised = 0 })
    ∷ (3, record { body = EventBody; raised = raised }) ∷ (4, record { body = ChannelEnd 5 []; raised = 0 })
    ∷ (6, record { body = PortBody packets; raised = 0 }) ∷ []

-- the event at the values 7 and 10, the end at the value 8, and the port at the value 9
abbrev four : Map Entry
four = (7, event_with FIRST_RIGHTS) ∷ (8, entry_of kind.Channel 4 WAIT) ∷ (9, entry_of kind.Port 6 (READ + WRITE)) ∷ (10, event_with WAIT) ∷ []

-- process 2 has these handles, and these signals are raised at event 3
abbrev with_raised : Map Entry → ℕ → World
with_raised = λ handles raised. record (world_of [] (process_of (1 ∷ 2 ∷ 3 ∷ 4 ∷ 5 ∷ 6 ∷ []) handles None)) { objects = objects_with raised []; next_koid = 7 }

-- process 7 beside process 2, both of them with the same handles
abbrev two_processes : World
two_processes = record (with_raised four 0) {
  processes = (2, process_of (1 ∷ 2 ∷ 3 ∷ 4 ∷ 5 ∷ 6 ∷ []) four None) ∷ (7, process_of (1 ∷ 2 ∷ 3 ∷ 4 ∷ 5 ∷ 6 ∷ []) four None) ∷ [];
  objects = beside_event ((4, record { body = ChannelEnd 5 []; raised = 0 }) ∷ (6, record { body = PortBody []; raised = 0 })
      ∷ (7, record { body = ProcessBody 1; raised = 0 }) ∷ []);
  next_koid = 8;
}

-- what the packets at port 6 say: the key, the mask, and what was active
abbrev packets_there : World → List (ℕ × ℕ × ℕ × ℕ)
packets_there w = map (λ (x : Packet). (x.kind, x.key, x.trigger, x.observed)) (packets_in (body_of w 6))

-- ---- wait_one

-- by the handle at the value 7; the status goes to register 0, what is active to register 1
abbrev waiting_for : ℕ → Site
waiting_for = λ mask. site (wait_one 7 mask) [] (0 ∷ 1 ∷ [])

-- process 2 waits for SIGNALED
abbrev blocked : World
blocked = after (with_raised four 0) (turn_of 2 name.WaitOne (waiting_for SIGNALED) two_processes (Values []))

-- process 7 waits for it too
abbrev both_blocked : World
both_blocked = after blocked (turn_of 7 name.WaitOne (waiting_for 0x100_0008) blocked (Values []))

rows_of_wait_one :
    -- The value 5 isn't live.
    (Refuses (with_raised four 0) (wait_one 5 8) (outcome.Answered status.BadHandle))
    -- A port has no right to wait at it.
    × (Refuses (with_raised four 0) (wait_one 9 8) (outcome.Answered status.AccessDenied))
    -- The handle has no right to wait.
    × (Refuses (with_raised ((7, event_with SIGNAL) ∷ []) 8) (wait_one 7 8) (outcome.Answered status.AccessDenied))
    -- A mask has 32 bits.
    × (Refuses (with_raised four 8) (wait_one 7 (2 ^ 32)) (outcome.Answered status.InvalidArgs))
    -- All of them may be asked for.
    × (Passes (with_raised four 8) (wait_one 7 (2 ^ 32 - 1)))
    -- A signal of the mask is active: the call is answered at once, with all that is active.
    × (told (turn_of 2 name.WaitOne (waiting_for SIGNALED) (with_raised four 0x100_0008) (Values []))
    ≡ Some (item.Call 2 name.WaitOne (outcome.Answered status.Ok), 0 ∷ 0x100_0008 ∷ 3 ∷ 4 ∷ 5 ∷ 6 ∷ []))
    -- At an end whose peer is gone PEER_CLOSED is active.
    × (told (turn_of 2 name.WaitOne (site (wait_one 8 PEER_CLOSED) [] (0 ∷ 1 ∷ [])) (with_raised four 0) (Values []))
    ≡ Some (item.Call 2 name.WaitOne (outcome.Answered status.Ok), 0 ∷ PEER_CLOSED ∷ 3 ∷ 4 ∷ 5 ∷ 6 ∷ []))
    -- None is active: the call blocks, and its registers stay as they were.
    × (told (turn_of 2 name.WaitOne (waiting_for SIGNALED) (with_raised four 0) (Values []))
    ≡ Some (item.Call 2 name.WaitOne outcome.Blocked, 1 ∷ 2 ∷ 3 ∷ 4 ∷ 5 ∷ 6 ∷ []))
    -- Another signal that is active doesn't help.
    × (item_of (turn_of 2 name.WaitOne (waiting_for SIGNALED) (with_raised four 0x100_0000) (Values [])) ≡ Some (item.Call 2 name.WaitOne outcome.Blocked))
    -- With an empty mask it blocks whatever is active.
    × (item_of (turn_of 2 name.WaitOne (waiting_for 0) (with_raised four 0x100_0008) (Values [])) ≡ Some (item.Call 2 name.WaitOne outcome.Blocked))
    -- What it waits for and where its answer goes is kept.
    × (state_of blocked 2 ≡ Some (Blocked (SignalOf 3 SIGNALED) (0 ∷ 1 ∷ [])))
    -- It stands among the blocked.
    × (blocked.blocked ≡ 2 ∷ [])
    -- Who blocks later stands behind it.
    × (both_blocked.blocked ≡ 2 ∷ 7 ∷ [])
    -- It never wants memory.
    × (turn_of 2 name.WaitOne (waiting_for SIGNALED) (with_raised four 8) (Wants status.NoMemory) ≡ None)
unfolding computing
rows_of_wait_one = (refl, refl, refl, refl, refl, refl, refl, refl, refl, refl, refl, refl, refl, refl)

-- ---- waking

-- process 7 raises SIGNALED at the event for which process 2 waits
abbrev woken : World
woken = after blocked (turn_of 7 name.Signal (site (signal 7 0 0x100_0008) [] (0 ∷ [])) blocked (Values []))

rows_of_waking :
    -- Process 2 is ready again.
    (state_of woken 2 ≡ Some Ready)
    -- Its call has answered OK, with all that is active.
    × (registers_of woken 2 ≡ 0 ∷ 0x100_0008 ∷ 3 ∷ 4 ∷ 5 ∷ 6 ∷ [])
    -- Nobody is blocked.
    × (woken.blocked ≡ [])
unfolding computing
rows_of_waking = (refl, refl, refl)

-- ---- wait_poll

-- by the handle at the value 7; the status goes to register 0, what is active to register 1
abbrev polling : ℕ → Site
polling = λ mask. site (wait_poll 7 mask) [] (0 ∷ 1 ∷ [])

rows_of_wait_poll :
    -- The value 5 isn't live.
    (Refuses (with_raised four 0) (wait_poll 5 8) (outcome.Answered status.BadHandle))
    -- The handle has no right to wait.
    × (Refuses (with_raised ((7, event_with SIGNAL) ∷ []) 8) (wait_poll 7 8) (outcome.Answered status.AccessDenied))
    -- A mask has 32 bits, whatever is active.
    × (Refuses (with_raised four 0) (wait_poll 7 (2 ^ 32)) (outcome.Answered status.InvalidArgs))
    × (Refuses (with_raised four 8) (wait_poll 7 (2 ^ 32 + 8)) (outcome.Answered status.InvalidArgs))
    -- No signal of the mask is active.
    × (Refuses (with_raised four 0x100_0000) (wait_poll 7 8) (outcome.Answered status.TimedOut))
    -- None of an empty mask ever is.
    × (Refuses (with_raised four 8) (wait_poll 7 0) (outcome.Answered status.TimedOut))
    -- All that is active is told then too.
    × (told (turn_of 2 name.WaitPoll (polling SIGNALED) (with_raised four 0x100_0000) Refused)
    ≡ Some (item.Call 2 name.WaitPoll (outcome.Answered status.TimedOut), 21 ∷ 0x100_0000 ∷ 3 ∷ 4 ∷ 5 ∷ 6 ∷ []))
    -- With another refusal nothing is told.
    × (told (turn_of 2 name.WaitPoll (polling (2 ^ 32)) (with_raised four 8) Refused)
    ≡ Some (item.Call 2 name.WaitPoll (outcome.Answered status.InvalidArgs), 10 ∷ 0 ∷ 3 ∷ 4 ∷ 5 ∷ 6 ∷ []))
    -- A signal of the mask is active.
    × (told (turn_of 2 name.WaitPoll (polling SIGNALED) (with_raised four 0x100_0008) (Values []))
    ≡ Some (item.Call 2 name.WaitPoll (outcome.Answered status.Ok), 0 ∷ 0x100_0008 ∷ 3 ∷ 4 ∷ 5 ∷ 6 ∷ []))
unfolding computing
rows_of_wait_poll = (refl, refl, refl, refl, refl, refl, refl, refl, refl)

-- ---- wait_async

-- for SIGNALED at the event by the handle at this value, with a packet of the key to port 6; the status goes to register 0
abbrev watching : ℕ → ℕ → Site
watching = λ h key. site (wait_async h 9 key SIGNALED) [] (0 ∷ [])

-- a wait with the key 5 by the value 7, and then one with the key 6 by the value 10
abbrev watched : World
watched = after (with_raised four 0) (turn_of 2 name.WaitAsync (watching 7 5) two_processes (Values []))

abbrev twice_watched : World
twice_watched = after watched (turn_of 2 name.WaitAsync (watching 10 6) watched (Values []))

-- SIGNALED is raised then
abbrev fired : World
fired = after twice_watched (turn_of 7 name.Signal (site (signal 7 0 0x100_0008) [] (0 ∷ [])) twice_watched (Values []))

-- the handle at the value 7 is closed before
abbrev closed : World
closed = after twice_watched (turn_of 2 name.Close (site (close 7) (1 ∷ []) (0 ∷ [])) twice_watched (Values []))

-- process 7 waits for a packet, and then process 2 watches what is active
abbrev received : World
received =
    let quiet = after (with_raised four 0) (turn_of 7 name.PortWait (site (port_wait 9) [] (0 ∷ 1 ∷ 2 ∷ 3 ∷ 4 ∷ [])) two_processes (Values [])) in
    let loud = after quiet (turn_of 2 name.Signal (site (signal 7 0 SIGNALED) [] (0 ∷ [])) quiet (Values [])) in
    after loud (turn_of 2 name.WaitAsync (watching 7 5) loud (Values []))

rows_of_wait_async :
    -- The value 5 isn't live.
    (Refuses (with_raised four 0) (wait_async 5 9 1 8) (outcome.Answered status.BadHandle))
    -- The handle has no right to wait; that comes before the missing port.
    × (Refuses (with_raised ((7, event_with SIGNAL) ∷ []) 0) (wait_async 7 5 1 8) (outcome.Answered status.AccessDenied))
    -- There is no handle to a port.
    × (Refuses (with_raised four 0) (wait_async 7 5 1 8) (outcome.Answered status.BadHandle))
    -- An event is no port.
    × (Refuses (with_raised four 0) (wait_async 7 10 1 8) (outcome.Answered status.WrongType))
    -- The port has no right to write.
    × (Refuses (with_raised ((7, event_with WAIT) ∷ (9, entry_of kind.Port 6 READ) ∷ []) 0) (wait_async 7 9 1 8) (outcome.Answered status.AccessDenied))
    -- A mask has 32 bits.
    × (Refuses (with_raised four 0) (wait_async 7 9 1 (2 ^ 32)) (outcome.Answered status.InvalidArgs))
    -- All waits that there can be were registered.
    × (Refuses (record (with_raised four 0) { waits_made = 2 ^ 62 }) (wait_async 7 9 1 8) (outcome.Answered status.NoResources))
    -- A mask of too many bits comes before it.
    × (Refuses (record (with_raised four 0) { waits_made = 2 ^ 62 }) (wait_async 7 9 1 (2 ^ 32)) (outcome.Answered status.InvalidArgs))
    -- One is left.
    × (Passes (record (with_raised four 0) { waits_made = 2 ^ 62 - 1 }) (wait_async 7 9 (2 ^ 64 - 1) (2 ^ 32 - 1)))
    -- Where memory is wanted nothing is registered.
    × (told (turn_of 2 name.WaitAsync (watching 7 5) (with_raised four 0) (Wants status.NoMemory))
    ≡ Some (item.Call 2 name.WaitAsync (outcome.Answered status.NoMemory), 4 ∷ 2 ∷ 3 ∷ 4 ∷ 5 ∷ 6 ∷ []))
    × (waits_there (after watched (turn_of 2 name.WaitAsync (watching 7 5) (with_raised four 0) (Wants status.NoMemory))) ≡ [])
    -- Nothing is active yet: the wait is registered, and counted.
    × (told (turn_of 2 name.WaitAsync (watching 7 5) (with_raised four 0) (Values []))
    ≡ Some (item.Call 2 name.WaitAsync (outcome.Answered status.Ok), 0 ∷ 2 ∷ 3 ∷ 4 ∷ 5 ∷ 6 ∷ []))
    × (waits_there watched ≡ 5 ∷ [])
    × (watched.waits_made ≡ 1)
    -- The next one stands behind it.
    × (waits_there twice_watched ≡ 5 ∷ 6 ∷ [])
    -- SIGNALED comes: both give their packets, in the order in which they were registered, and are gone.
    × (packets_there fired ≡ (1, 5, 8, 0x100_0008) ∷ (1, 6, 8, 0x100_0008) ∷ [])
    × (waits_there fired ≡ [])
    × (fired.waits_made ≡ 2)
    -- The wait of a handle that is closed ends, and no other.
    × (waits_there closed ≡ 6 ∷ [])
    -- What is active already gives its packet in the same step.
    × (packets_there (after watched (turn_of 2 name.WaitAsync (watching 7 5) (with_raised four 8) (Values []))) ≡ (1, 5, 8, 8) ∷ [])
    -- Who is blocked at the port gets it in that step.
    × (registers_of received 7 ≡ 0 ∷ 5 ∷ 1 ∷ 8 ∷ 8 ∷ 6 ∷ [])
    × (packets_there received ≡ [])
unfolding computing
rows_of_wait_async = (refl, refl, refl, refl, refl, refl, refl, refl, refl, refl, refl, refl, refl, refl, refl, refl, refl, refl, refl, refl, refl, refl)
