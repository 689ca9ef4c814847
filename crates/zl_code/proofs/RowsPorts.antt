-- Each cause of the calls on ports, by computation in small worlds.
use Rattle.zl_code.proofs.Common.{Blocked, Entry, JobBody, List, Map, None, Packet, PacketAt, PortBody, ProcessBody, READ, Ready, Refused, Site}
use Rattle.zl_code.proofs.Common.{Some, Values, WRITE, Wait, Wants, World, [], body_of, condition_number, default_rights_of, false, map, negsuc, packets_in}
use Rattle.zl_code.proofs.Common.{port_cancel, port_create, port_poll, port_queue, port_wait, refl, replicate, site, table_of, user_packet, ℕ, ◌++◌, ◌+◌, ◌-◌}
use Rattle.zl_code.proofs.Common.{◌^◌, ◌∷◌, ◌≡◌}
use Rattle.zl_rights.specs.declared.kind.Kind.TheVariants as kind
use Rattle.zl_rights.specs.declared.status.Status.TheVariants as status
use Rattle.zl_rights.specs.declared.policy.Action.TheVariants as action
use Rattle.zl_rights.specs.declared.policy.Condition.TheVariants as condition
use Rattle.zl_code.specs.declared.history.CallName.TheVariants as name
use Rattle.zl_code.specs.declared.history.Outcome.TheVariants as outcome
use Rattle.zl_code.specs.declared.history.TraceItem.TheVariants as item
use Rattle.zl_code.proofs.Running.{computing}
use Rattle.zl_code.proofs.RowsWords.{Refuses, Passes, world_of, process_of, entry_of, event_with, FIRST_RIGHTS, times, told, item_of, after, state_of}
use Rattle.zl_code.proofs.RowsWords.{beside_event, registers_of, turn_of, waits_there}

-- ---- the words of the rows

-- a packet that the wait of process 2 by this value gave for this object
abbrev signal_packet : ℕ → ℕ → ℕ → Packet
signal_packet value object key = record { kind = 1; key = key; trigger = 8; observed = 8; source = Some (record { pid = 2; value = value; object = object }) }

-- process 2 has these handles, and beside event 3 there is port 4 with these packets
abbrev with_port : Map Entry → List Packet → World
with_port = λ handles packets. record (world_of [] (process_of (1 ∷ 2 ∷ 3 ∷ 4 ∷ 5 ∷ 6 ∷ []) handles None)) {
  objects = beside_event ((4, record { body = PortBody packets; raised = 0 }) ∷ []);
  next_koid = 5;
}

-- port 4 at the value 7, and event 3 at the value 8
abbrev port_and_event : Map Entry
port_and_event = (7, entry_of kind.Port 4 (READ + WRITE)) ∷ (8, event_with FIRST_RIGHTS) ∷ []

-- the packets at port 4: whether of a wait, the key, the value or the mask, and what was active
abbrev packets_there : World → List (ℕ × ℕ × ℕ × ℕ)
packets_there w = map (λ (x : Packet). (x.kind, x.key, x.trigger, x.observed)) (packets_in (body_of w 4))

-- ---- port_create

-- process 2 has no handle
abbrev bare : World
bare = world_of [] (process_of (1 ∷ 2 ∷ 3 ∷ []) [] None)

-- the status goes to register 0, the port to register 1
abbrev creating : Site
creating = site port_create [] (0 ∷ 1 ∷ [])

abbrev created : World
created = after bare (turn_of 2 name.PortCreate creating bare (Values (8 ∷ [])))

rows_of_port_create :
    -- Nothing stands against it.
    (Passes bare port_create)
    -- The policy denies new ports.
    × (Refuses (world_of ((condition_number condition.NewPort, action.Deny) ∷ []) (process_of [] [] None)) port_create (outcome.Answered status.AccessDenied))
    -- The policy kills for new ports.
    × (Refuses (world_of ((condition_number condition.NewPort, action.Kill) ∷ []) (process_of [] [] None)) port_create (outcome.Ended (negsuc 1025)))
    -- The table is full.
    × (Refuses (world_of [] (process_of [] (times 1024 (event_with FIRST_RIGHTS)) None)) port_create (outcome.Answered status.NoResources))
    -- No koid is left.
    × (Refuses (record bare { next_koid = 2 ^ 62 }) port_create (outcome.Answered status.NoResources))
    -- One is left.
    × (Passes (record bare { next_koid = 2 ^ 62 - 1 }) port_create)
    -- The new handle gets a value that isn't used.
    × (told (turn_of 2 name.PortCreate creating bare (Values (8 ∷ [])))
    ≡ Some (item.Call 2 name.PortCreate (outcome.Answered status.Ok), 0 ∷ 8 ∷ 3 ∷ 0 ∷ 0 ∷ 0 ∷ []))
    -- It has the rights of a first handle to a port.
    × (table_of created 2 ≡ (8, entry_of kind.Port 4 (default_rights_of kind.Port)) ∷ [])
    -- No packet is there.
    × (body_of created 4 ≡ Some (PortBody []))
    -- Where memory is wanted, nothing is made.
    × (told (turn_of 2 name.PortCreate creating bare (Wants status.NoMemory))
    ≡ Some (item.Call 2 name.PortCreate (outcome.Answered status.NoMemory), 4 ∷ 0 ∷ 3 ∷ 0 ∷ 0 ∷ 0 ∷ []))
    × (body_of (after bare (turn_of 2 name.PortCreate creating bare (Wants status.NoMemory))) 4 ≡ None)
unfolding computing
rows_of_port_create = (refl, refl, refl, refl, refl, refl, refl, refl, refl, refl, refl)

-- ---- port_queue

-- this value with this key, to the port at the value 7; the status goes to register 0
abbrev queueing : ℕ → ℕ → Site
queueing = λ key value. site (port_queue 7 key value) [] (0 ∷ [])

-- so many packets of calls
abbrev queued : ℕ → List Packet
queued n = replicate n (user_packet 1 1)

rows_of_port_queue :
    -- The value 5 isn't live.
    (Refuses (with_port port_and_event []) (port_queue 5 0 0) (outcome.Answered status.BadHandle))
    -- An event is no port.
    × (Refuses (with_port port_and_event []) (port_queue 8 0 0) (outcome.Answered status.WrongType))
    -- The handle has no right to write.
    × (Refuses (with_port ((7, entry_of kind.Port 4 READ) ∷ []) []) (port_queue 7 0 0) (outcome.Answered status.AccessDenied))
    -- Calls have queued 2,048 packets there.
    × (Refuses (with_port port_and_event (queued 2048)) (port_queue 7 0 0) (outcome.Answered status.ShouldWait))
    -- They have queued one less.
    × (Passes (with_port port_and_event (queued 2047)) (port_queue 7 0 0))
    -- Packets of waits don't count.
    × (Passes (with_port port_and_event (queued 2047 ++ replicate 9 (signal_packet 8 3 5))) (port_queue 7 0 0))
    -- The packet goes last; its key and its value have 64 bits.
    × (told (turn_of 2 name.PortQueue (queueing (2 ^ 64 - 1) (2 ^ 64 - 1)) (with_port port_and_event (signal_packet 8 3 5 ∷ [])) (Values []))
    ≡ Some (item.Call 2 name.PortQueue (outcome.Answered status.Ok), 0 ∷ 2 ∷ 3 ∷ 4 ∷ 5 ∷ 6 ∷ []))
    × (packets_there
    (after bare (turn_of 2 name.PortQueue (queueing (2 ^ 64 - 1) (2 ^ 64 - 1)) (with_port port_and_event (signal_packet 8 3 5 ∷ [])) (Values [])))
    ≡ (1, 5, 8, 8) ∷ (0, 2 ^ 64 - 1, 2 ^ 64 - 1, 0) ∷ [])
    -- Where memory is wanted, none comes.
    × (told (turn_of 2 name.PortQueue (queueing 1 1) (with_port port_and_event []) (Wants status.NoMemory))
    ≡ Some (item.Call 2 name.PortQueue (outcome.Answered status.NoMemory), 4 ∷ 2 ∷ 3 ∷ 4 ∷ 5 ∷ 6 ∷ []))
    × (packets_there (after bare (turn_of 2 name.PortQueue (queueing 1 1) (with_port port_and_event []) (Wants status.NoMemory))) ≡ [])
unfolding computing
rows_of_port_queue = (refl, refl, refl, refl, refl, refl, refl, refl, refl, refl)

-- ---- port_wait

-- at the port at the value 7; the status goes to register 0, the key, the kind, the value and what was active to 1 to 4
abbrev receiving : Site
receiving = site (port_wait 7) [] (0 ∷ 1 ∷ 2 ∷ 3 ∷ 4 ∷ [])

-- two packets
abbrev two_packets : List Packet
two_packets = user_packet 11 12 ∷ signal_packet 8 3 5 ∷ []

-- process 2 waits at the empty port
abbrev waiting : World
waiting = after bare (turn_of 2 name.PortWait receiving (with_port port_and_event []) (Values []))

rows_of_port_wait :
    -- The value 5 isn't live.
    (Refuses (with_port port_and_event []) (port_wait 5) (outcome.Answered status.BadHandle))
    -- An event is no port.
    × (Refuses (with_port port_and_event []) (port_wait 8) (outcome.Answered status.WrongType))
    -- The handle has no right to read.
    × (Refuses (with_port ((7, entry_of kind.Port 4 WRITE) ∷ []) two_packets) (port_wait 7) (outcome.Answered status.AccessDenied))
    -- The first packet is given, and leaves the port.
    × (told (turn_of 2 name.PortWait receiving (with_port port_and_event two_packets) (Values []))
    ≡ Some (item.Call 2 name.PortWait (outcome.Answered status.Ok), 0 ∷ 11 ∷ 0 ∷ 12 ∷ 0 ∷ 6 ∷ []))
    × (packets_there (after bare (turn_of 2 name.PortWait receiving (with_port port_and_event two_packets) (Values []))) ≡ (1, 5, 8, 8) ∷ [])
    -- No packet is there: the call blocks, and its registers stay as they were.
    × (told (turn_of 2 name.PortWait receiving (with_port port_and_event []) (Values []))
    ≡ Some (item.Call 2 name.PortWait outcome.Blocked, 1 ∷ 2 ∷ 3 ∷ 4 ∷ 5 ∷ 6 ∷ []))
    -- What it waits for and where its answer goes is kept.
    × (state_of waiting 2 ≡ Some (Blocked (PacketAt 4) (0 ∷ 1 ∷ 2 ∷ 3 ∷ 4 ∷ [])))
    × (waiting.blocked ≡ 2 ∷ [])
unfolding computing
rows_of_port_wait = (refl, refl, refl, refl, refl, refl, refl, refl)

-- ---- two that wait at one port

-- processes 3, 4 and 5 with a handle to port 2 each
abbrev three_processes : World
three_processes = record (world_of [] (process_of [] [] None)) {
  processes =
      (3, process_of [] ((1, entry_of kind.Port 2 READ) ∷ []) None)
      ∷ (4, process_of [] ((1, entry_of kind.Port 2 READ) ∷ []) None)
      ∷ (5, process_of (1 ∷ 0 ∷ 7 ∷ []) ((1, entry_of kind.Port 2 WRITE) ∷ []) None)
      ∷ [];
  objects =
      (1, record { body = JobBody 0 1 [] false; raised = 0 })
      ∷ (2, record { body = PortBody []; raised = 0 })
      ∷ (3, record { body = ProcessBody 1; raised = 0 })
      ∷ (4, record { body = ProcessBody 1; raised = 0 })
      ∷ (5, record { body = ProcessBody 1; raised = 0 })
      ∷ [];
  next_koid = 6;
}

-- process 4 waits first, then process 3
abbrev one_waits : World
one_waits = after bare (turn_of 4 name.PortWait (site (port_wait 1) [] (2 ∷ 3 ∷ 4 ∷ 5 ∷ 1 ∷ [])) three_processes (Values []))

abbrev two_wait : World
two_wait = after bare (turn_of 3 name.PortWait (site (port_wait 1) [] (2 ∷ 3 ∷ 4 ∷ 5 ∷ 1 ∷ [])) one_waits (Values []))

-- process 5 queues 7, and then 9
abbrev one_came : World
one_came = after bare (turn_of 5 name.PortQueue (site (port_queue 1 0 7) [] (3 ∷ [])) two_wait (Values []))

abbrev two_came : World
two_came = after bare (turn_of 5 name.PortQueue (site (port_queue 1 0 9) [] (3 ∷ [])) one_came (Values []))

rows_of_two_waiters :
    -- Both are blocked, in the order in which they blocked.
    (two_wait.blocked ≡ 4 ∷ 3 ∷ [])
    -- The first packet goes to the one who blocked first, and to nobody else.
    × (state_of one_came 4 ≡ Some Ready)
    × (registers_of one_came 4 ≡ 0 ∷ 0 ∷ 0 ∷ 0 ∷ 0 ∷ 7 ∷ [])
    × (one_came.blocked ≡ 3 ∷ [])
    × (packets_in (body_of one_came 2) ≡ [])
    -- The second goes to the other.
    × (state_of two_came 3 ≡ Some Ready)
    × (registers_of two_came 3 ≡ 0 ∷ 0 ∷ 0 ∷ 0 ∷ 0 ∷ 9 ∷ [])
    × (two_came.blocked ≡ [])
unfolding computing
rows_of_two_waiters = (refl, refl, refl, refl, refl, refl, refl, refl)

-- ---- port_poll

-- at the port at the value 7; the status goes to register 0, the key, the kind, the value and what was active to 1 to 4
abbrev polling : Site
polling = site (port_poll 7) [] (0 ∷ 1 ∷ 2 ∷ 3 ∷ 4 ∷ [])

rows_of_port_poll :
    -- The value 5 isn't live.
    (Refuses (with_port port_and_event []) (port_poll 5) (outcome.Answered status.BadHandle))
    -- An event is no port.
    × (Refuses (with_port port_and_event []) (port_poll 8) (outcome.Answered status.WrongType))
    -- The handle has no right to read.
    × (Refuses (with_port ((7, entry_of kind.Port 4 WRITE) ∷ []) two_packets) (port_poll 7) (outcome.Answered status.AccessDenied))
    -- No packet is there.
    × (Refuses (with_port port_and_event []) (port_poll 7) (outcome.Answered status.TimedOut))
    -- Nothing is told then.
    × (told (turn_of 2 name.PortPoll polling (with_port port_and_event []) Refused)
    ≡ Some (item.Call 2 name.PortPoll (outcome.Answered status.TimedOut), 21 ∷ 0 ∷ 0 ∷ 0 ∷ 0 ∷ 6 ∷ []))
    -- The first packet is given, and leaves the port.
    × (told (turn_of 2 name.PortPoll polling (with_port port_and_event (signal_packet 8 3 5 ∷ user_packet 11 12 ∷ [])) (Values []))
    ≡ Some (item.Call 2 name.PortPoll (outcome.Answered status.Ok), 0 ∷ 5 ∷ 1 ∷ 8 ∷ 8 ∷ 6 ∷ []))
    × (packets_there (after bare (turn_of 2 name.PortPoll polling (with_port port_and_event two_packets) (Values []))) ≡ (1, 5, 8, 8) ∷ [])
unfolding computing
rows_of_port_poll = (refl, refl, refl, refl, refl, refl, refl)

-- ---- port_cancel

-- a wait of the process by this value at event 3 with this key, for port 4
abbrev wait_by : ℕ → ℕ → ℕ → Wait
wait_by pid value key = record { pid = pid; value = value; object = 3; port = 4; key = key; mask = 8 }

-- the port at the value 7, and event 3 at the values 8 and 9, without a right
abbrev port_and_two : Map Entry
port_and_two = (7, entry_of kind.Port 4 WRITE) ∷ (8, event_with 0) ∷ (9, event_with 0) ∷ []

-- the waits and packets of which the call takes some
abbrev many : World
many =
    record (with_port port_and_two
    (signal_packet 8 3 5 ∷ user_packet 5 5 ∷ signal_packet 9 3 5 ∷ signal_packet 8 3 6 ∷ signal_packet 8 1 5 ∷ signal_packet 8 3 5 ∷ [])) {
      waits = wait_by 2 8 5 ∷ wait_by 2 8 6 ∷ wait_by 2 9 5 ∷ wait_by 2 8 5 ∷ [];
    }

-- of the packets at port 4, whether of a wait, and the key
abbrev kinds_and_keys : World → List (ℕ × ℕ)
kinds_and_keys w = map (λ (x : Packet). (x.kind, x.key)) (packets_in (body_of w 4))

-- of the key 5 by the handle at the value 8; the status goes to register 0
abbrev cancelling : Site
cancelling = site (port_cancel 7 8 5) [] (0 ∷ [])

abbrev cancelled : World
cancelled = after bare (turn_of 2 name.PortCancel cancelling many (Values []))

rows_of_port_cancel :
    -- The value 5 isn't live.
    (Refuses many (port_cancel 5 8 5) (outcome.Answered status.BadHandle))
    -- An event is no port.
    × (Refuses many (port_cancel 8 8 5) (outcome.Answered status.WrongType))
    -- The handle has no right to write.
    × (Refuses (with_port ((7, entry_of kind.Port 4 READ) ∷ (8, event_with 0) ∷ []) []) (port_cancel 7 8 5) (outcome.Answered status.AccessDenied))
    -- The source isn't live.
    × (Refuses many (port_cancel 7 5 5) (outcome.Answered status.BadHandle))
    -- No wait and no packet has this key.
    × (Refuses many (port_cancel 7 8 7) (outcome.Answered status.NotFound))
    -- A packet of a call doesn't count.
    × (Refuses (with_port port_and_two (user_packet 5 5 ∷ [])) (port_cancel 7 8 5) (outcome.Answered status.NotFound))
    -- Nor does one of the same value for an object that it names no more.
    × (Refuses (with_port port_and_two (signal_packet 8 1 5 ∷ [])) (port_cancel 7 8 5) (outcome.Answered status.NotFound))
    -- Nor the wait of another process.
    × (Refuses (record (with_port port_and_two []) { waits = wait_by 3 8 5 ∷ [] }) (port_cancel 7 8 5) (outcome.Answered status.NotFound))
    -- Nor one for another port.
    × (Refuses (record (with_port port_and_two []) { waits = record (wait_by 2 8 5) { port = 9 } ∷ [] }) (port_cancel 7 8 5) (outcome.Answered status.NotFound))
    -- A wait is enough.
    × (Passes (record (with_port port_and_two []) { waits = wait_by 2 8 5 ∷ [] }) (port_cancel 7 8 5))
    -- So is a packet.
    × (Passes (with_port port_and_two (signal_packet 8 3 5 ∷ [])) (port_cancel 7 8 5))
    -- The waits by the source with the key are gone, and no others.
    × (item_of (turn_of 2 name.PortCancel cancelling many (Values [])) ≡ Some (item.Call 2 name.PortCancel (outcome.Answered status.Ok)))
    × (map (λ (x : Wait). x.value) cancelled.waits ≡ 8 ∷ 9 ∷ [])
    × (waits_there cancelled ≡ 6 ∷ 5 ∷ [])
    -- So are its packets with the key: one of a call, those of another handle, key or object stay.
    × (kinds_and_keys cancelled ≡ (0, 5) ∷ (1, 5) ∷ (1, 6) ∷ (1, 5) ∷ [])
unfolding computing
rows_of_port_cancel = (refl, refl, refl, refl, refl, refl, refl, refl, refl, refl, refl, refl, refl, refl, refl)
