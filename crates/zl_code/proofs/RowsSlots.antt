-- The calls over slots, and what is told of a handle, by computation.
use Rattle.zl_code.proofs.Common.{CallInstr, ChannelEnd, Choice, Cpu, Entry, List, Map, Message, None, Object, Option, Process, Refused, Site, Some}
use Rattle.zl_code.proofs.Common.{Values, Wants, World, [], chan_read_slots, chan_write_slots, condition_number, false, get, map, negsuc, refl, replicate}
use Rattle.zl_code.proofs.Common.{site, site_of, table_of, true, ℕ, ◌++◌, ◌∷◌, ◌≡◌}
use Rattle.zl_code.specs.Common.{handle_info}
use Rattle.zl_code.specs.Instructions.{is_known}
use Rattle.zl_rights.specs.declared.status.Status.TheVariants as status
use Rattle.zl_rights.specs.declared.policy.Action.TheVariants as action
use Rattle.zl_rights.specs.declared.policy.Condition.TheVariants as condition
use Rattle.zl_code.specs.declared.history.CallName.TheVariants as name
use Rattle.zl_code.specs.declared.history.Outcome.TheVariants as outcome
use Rattle.zl_code.specs.declared.history.TraceItem.TheVariants as item
use Rattle.zl_code.specs.declared.image.Version.TheVariants as version
use Rattle.zl_code.specs.declared.instr.Instr.TheVariants as instr
use Rattle.zl_code.proofs.Running.{Acted, step_by, computing}
use Rattle.zl_code.proofs.RowsWords.{Refuses, Passes, world_of, process_of, event_with, FIRST_RIGHTS, times, program_of, told, after, beside_event}
use Rattle.zl_code.proofs.RowsChannels.{END_RIGHTS, end_with, message, ends_with, queue_of_object, memory_in}
use Rattle.zl_code.proofs.Called.{called}

-- ---- which version knows them

rows_of_versions :
    (is_known version.One 87 ≡ true)
    × (is_known version.One 88 ≡ false)
    × (is_known version.One 89 ≡ false)
    × (is_known version.One 90 ≡ false)
    × (is_known version.Two 88 ≡ true)
    × (is_known version.Two 89 ≡ true)
    × (is_known version.Two 90 ≡ true)
rows_of_versions = (refl, refl, refl, refl, refl, refl, refl)

-- ---- what they ask for

-- the end 7 in register 3, so many in register 6, two bytes of memory, and these slot arrays
abbrev with_count : ℕ → List (List ℕ) → Cpu
with_count = λ count slots. record {
  counter = 0;
  registers = 0 ∷ 2 ∷ 9 ∷ 7 ∷ 9 ∷ 9 ∷ count ∷ [];
  memory = 11 ∷ 12 ∷ [];
  slots = slots;
  counters = [];
}

-- chan_write_slots r2, r3, r0, r0, r6 with this array, and no bytes
abbrev writing : ℕ → CallInstr
writing array = called name.ChanWriteSlots (2 ∷ 3 ∷ 0 ∷ 0 ∷ 6 ∷ []) array

-- it empties so many places of the array
abbrev emptying : ℕ → ℕ → List ℕ → Option Site
emptying array count hs = Some (record { request = chan_write_slots 7 [] hs; consumed = []; emptied = Some (array, count); destinations = 2 ∷ [] })

rows_of_writing :
    -- Of the first three places, those that are 0 send nothing.
    (site_of (writing 0) (with_count 3 ((20 ∷ 0 ∷ 21 ∷ 22 ∷ []) ∷ [])) ≡ emptying 0 3 (20 ∷ 21 ∷ []))
    -- Of no place, nothing.
    × (site_of (writing 0) (with_count 0 ((20 ∷ 0 ∷ 21 ∷ 22 ∷ []) ∷ [])) ≡ emptying 0 0 [])
    -- Of all places.
    × (site_of (writing 1) (with_count 2 ((20 ∷ []) ∷ (21 ∷ 22 ∷ []) ∷ [])) ≡ emptying 1 2 (21 ∷ 22 ∷ []))
    -- It is stuck with more places than the array has,
    × (site_of (writing 0) (with_count 5 ((20 ∷ 0 ∷ 21 ∷ 22 ∷ []) ∷ [])) ≡ None)
    -- where the array isn't there,
    × (site_of (writing 1) (with_count 0 ((20 ∷ 0 ∷ 21 ∷ 22 ∷ []) ∷ [])) ≡ None)
    -- and where the bytes aren't.
    × (site_of (called name.ChanWriteSlots (2 ∷ 3 ∷ 1 ∷ 1 ∷ 6 ∷ []) 0) (with_count 0 ((20 ∷ []) ∷ [])) ≡ None)
    -- Two bytes from 0 on are there.
    × (site_of (called name.ChanWriteSlots (2 ∷ 3 ∷ 0 ∷ 1 ∷ 6 ∷ []) 0) (with_count 1 ((20 ∷ []) ∷ []))
    ≡ Some (record { request = chan_write_slots 7 (11 ∷ 12 ∷ []) (20 ∷ []); consumed = []; emptied = Some (0, 1); destinations = 2 ∷ [] }))
unfolding site_of
rows_of_writing = (refl, refl, refl, refl, refl, refl, refl)

-- chan_read_slots r2, r3, r0, r1, r4, r5 with this array
abbrev reading : ℕ → CallInstr
reading array = called name.ChanReadSlots (2 ∷ 3 ∷ 0 ∷ 1 ∷ 4 ∷ 5 ∷ []) array

-- it has room for two bytes at 0, and for so many handles
abbrev roomy : ℕ → ℕ → Option Site
roomy array places = Some (site (chan_read_slots 7 0 2 array places) [] (2 ∷ 4 ∷ 5 ∷ []))

rows_of_reading :
    -- The places in front that are 0 are room.
    (site_of (reading 0) (with_count 0 ((0 ∷ 0 ∷ 20 ∷ 0 ∷ []) ∷ [])) ≡ roomy 0 2)
    -- There is none behind a value.
    × (site_of (reading 1) (with_count 0 ((0 ∷ []) ∷ (20 ∷ 0 ∷ []) ∷ [])) ≡ roomy 1 0)
    -- The room is at most 64.
    × (site_of (reading 0) (with_count 0 (replicate 65 0 ∷ [])) ≡ roomy 0 64)
    -- It is stuck where the array isn't there,
    × (site_of (reading 1) (with_count 0 ((0 ∷ []) ∷ [])) ≡ None)
    -- and where the room for bytes isn't.
    × (site_of (called name.ChanReadSlots (2 ∷ 3 ∷ 1 ∷ 1 ∷ 4 ∷ 5 ∷ []) 0) (with_count 0 ((0 ∷ []) ∷ [])) ≡ None)
unfolding site_of
rows_of_reading = (refl, refl, refl, refl, refl)

handle_info_asks : site_of (called name.HandleInfo (2 ∷ 3 ∷ 4 ∷ 5 ∷ []) 0) (with_count 0 []) ≡ Some (site (handle_info 7) [] (2 ∷ 4 ∷ 5 ∷ []))
unfolding site_of
handle_info_asks = refl

-- ---- turns

-- process 2 does the call, with this choice
abbrev turn : CallInstr → World → Choice → Acted
turn i w choice = step_by (program_of (instr.Call i ∷ [])) w 2 choice

abbrev slots_in : Option Process → List (List ℕ)
slots_in None = []
slots_in (Some q) = q.cpu.slots

-- the slot arrays of process 2
abbrev slots_of : World → List (List ℕ)
slots_of w = slots_in (get w.processes 2)

-- process 2 has 7 in register 1, 2 in register 3, three bytes of memory, this slot array and these handles, in a world with these objects
abbrev with_slots : List ℕ → Map Entry → Map Object → World
with_slots = λ places handles objects. record (world_of [] (process_of [] handles None)) {
  processes = (
    2,
    record (process_of [] handles None) {
      cpu = record { counter = 0; registers = 9 ∷ 7 ∷ 0 ∷ 2 ∷ 9 ∷ 9 ∷ []; memory = 1 ∷ 2 ∷ 3 ∷ []; slots = places ∷ []; counters = [] };
    },
  )
      ∷ [];
  objects = objects;
  next_koid = 6;
}

-- ---- chan_write_slots

-- to the end in register 1, without bytes, the first two places; the status goes to register 0
abbrev write : CallInstr
write = called name.ChanWriteSlots (0 ∷ 1 ∷ 2 ∷ 2 ∷ 3 ∷ []) 0

-- the end 4 at the value 7, and event 3 at the values 20, 21 and 22
abbrev end_and_events : Map Entry
end_and_events = (7, end_with 4 END_RIGHTS) ∷ (20, event_with FIRST_RIGHTS) ∷ (21, event_with 0) ∷ (22, event_with FIRST_RIGHTS) ∷ []

-- the same where the peer of 4 is there, with the other end at the value 23, and where it is gone
abbrev paired : List ℕ → World
paired = λ places. with_slots places (end_and_events ++ (23, end_with 5 END_RIGHTS) ∷ []) (ends_with [] [])

abbrev alone : List ℕ → World
alone = λ places. with_slots places end_and_events (beside_event ((4, record { body = ChannelEnd 5 []; raised = 0 }) ∷ []))

-- the end 4 at the value 66, and event 3 at the values from 1 to 65
abbrev many : World
many = with_slots [] (times 65 (event_with FIRST_RIGHTS) ++ (66, end_with 4 END_RIGHTS) ∷ []) (ends_with [] [])

rows_of_chan_write_slots :
    -- The handles in the places are sent, in their order.
    (told (turn write (paired (22 ∷ 20 ∷ 21 ∷ [])) (Values []))
    ≡ Some (item.Call 2 name.ChanWriteSlots (outcome.Answered status.Ok), 0 ∷ 7 ∷ 0 ∷ 2 ∷ 9 ∷ 9 ∷ []))
    × (queue_of_object (after many (turn write (paired (22 ∷ 20 ∷ 21 ∷ [])) (Values []))) 5
    ≡ message [] (event_with FIRST_RIGHTS ∷ event_with FIRST_RIGHTS ∷ []) ∷ [])
    × (table_of (after many (turn write (paired (22 ∷ 20 ∷ 21 ∷ [])) (Values []))) 2
    ≡ (7, end_with 4 END_RIGHTS) ∷ (21, event_with 0) ∷ (23, end_with 5 END_RIGHTS) ∷ [])
    -- Their places become 0, and those behind them stay.
    × (slots_of (after many (turn write (paired (22 ∷ 20 ∷ 21 ∷ [])) (Values []))) ≡ (0 ∷ 0 ∷ 21 ∷ []) ∷ [])
    -- So it is where the peer is gone: the handles are gone too.
    × (told (turn write (alone (20 ∷ 0 ∷ 21 ∷ [])) Refused)
    ≡ Some (item.Call 2 name.ChanWriteSlots (outcome.Answered status.PeerClosed), 24 ∷ 7 ∷ 0 ∷ 2 ∷ 9 ∷ 9 ∷ []))
    × (slots_of (after many (turn write (alone (20 ∷ 0 ∷ 21 ∷ [])) Refused)) ≡ (0 ∷ 0 ∷ 21 ∷ []) ∷ [])
    × (table_of (after many (turn write (alone (20 ∷ 0 ∷ 21 ∷ [])) Refused)) 2
    ≡ (7, end_with 4 END_RIGHTS) ∷ (21, event_with 0) ∷ (22, event_with FIRST_RIGHTS) ∷ [])
    -- So it is where memory is wanted.
    × (slots_of (after many (turn write (paired (20 ∷ 22 ∷ 21 ∷ [])) (Wants status.NoMemory))) ≡ (0 ∷ 0 ∷ 21 ∷ []) ∷ [])
    -- A place holds a value that isn't live.
    × (Refuses (paired []) (chan_write_slots 7 [] (20 ∷ 5 ∷ [])) (outcome.Answered status.BadHandle))
    -- Two places hold one value.
    × (Refuses (paired []) (chan_write_slots 7 [] (20 ∷ 20 ∷ [])) (outcome.Answered status.BadHandle))
    -- A place holds a handle that can't be transferred.
    × (Refuses (paired []) (chan_write_slots 7 [] (20 ∷ 21 ∷ [])) (outcome.Answered status.AccessDenied))
    -- A place holds the end's own value.
    × (Refuses (paired []) (chan_write_slots 7 [] (20 ∷ 7 ∷ [])) (outcome.Answered status.NotSupported))
    -- There are 65 handles, one above the most of a message.
    × (Refuses many (chan_write_slots 66 [] (map (λ x. x.0) (times 65 (event_with 0)))) (outcome.Answered status.OutOfRange))
    × (Passes many (chan_write_slots 66 [] (map (λ x. x.0) (times 64 (event_with 0)))))
unfolding computing
rows_of_chan_write_slots = (refl, refl, refl, refl, refl, refl, refl, refl, refl, refl, refl, refl, refl, refl)

-- ---- chan_read_slots

-- of the end in register 1, to address 0, two bytes at most; the status goes to register 0, the counts to 4 and 5
abbrev read : CallInstr
read = called name.ChanReadSlots (0 ∷ 1 ∷ 2 ∷ 3 ∷ 4 ∷ 5 ∷ []) 0

-- two bytes with two handles to event 3, and then an empty message
abbrev queue : List Message
queue = message (11 ∷ 12 ∷ []) (event_with FIRST_RIGHTS ∷ event_with 0 ∷ []) ∷ message [] [] ∷ []

-- at the end 4, which is at the value 7, they are to be read
abbrev readable : List ℕ → World
readable = λ places. with_slots places ((7, end_with 4 END_RIGHTS) ∷ (8, end_with 5 END_RIGHTS) ∷ []) (ends_with queue [])

-- the world after the first was read
abbrev received : World
received = after many (turn read (readable (0 ∷ 0 ∷ 0 ∷ 6 ∷ [])) (Values (21 ∷ 20 ∷ [])))

rows_of_chan_read_slots :
    -- Both counts are told.
    (told (turn read (readable (0 ∷ 0 ∷ 0 ∷ 6 ∷ [])) (Values (21 ∷ 20 ∷ [])))
    ≡ Some (item.Call 2 name.ChanReadSlots (outcome.Answered status.Ok), 0 ∷ 7 ∷ 0 ∷ 2 ∷ 2 ∷ 2 ∷ []))
    -- The values stand in the first places, and those behind them are as they were.
    × (slots_of received ≡ (21 ∷ 20 ∷ 0 ∷ 6 ∷ []) ∷ [])
    × (table_of received 2
    ≡ (7, end_with 4 END_RIGHTS) ∷ (8, end_with 5 END_RIGHTS) ∷ (20, event_with 0) ∷ (21, event_with FIRST_RIGHTS) ∷ [])
    × (memory_in (get received.processes 2) ≡ 11 ∷ 12 ∷ 3 ∷ [])
    × (queue_of_object received 4 ≡ message [] [] ∷ [])
    -- There are fewer places in front than the message has handles: both counts are told, and nothing else changes.
    × (told (turn read (readable (0 ∷ 6 ∷ 0 ∷ [])) Refused)
    ≡ Some (item.Call 2 name.ChanReadSlots (outcome.Answered status.BufferTooSmall), 15 ∷ 7 ∷ 0 ∷ 2 ∷ 2 ∷ 2 ∷ []))
    × (slots_of (after many (turn read (readable (0 ∷ 6 ∷ 0 ∷ [])) Refused)) ≡ (0 ∷ 6 ∷ 0 ∷ []) ∷ [])
    × (queue_of_object (after many (turn read (readable (0 ∷ 6 ∷ 0 ∷ [])) Refused)) 4 ≡ queue)
    -- Where memory is wanted no count is told, and no value is kept.
    × (told (turn read (readable (0 ∷ 0 ∷ [])) (Wants status.NoMemory))
    ≡ Some (item.Call 2 name.ChanReadSlots (outcome.Answered status.NoMemory), 4 ∷ 7 ∷ 0 ∷ 2 ∷ 0 ∷ 0 ∷ []))
    × (slots_of (after many (turn read (readable (0 ∷ 0 ∷ [])) (Wants status.NoMemory))) ≡ (0 ∷ 0 ∷ []) ∷ [])
    -- There is room for fewer bytes than it has.
    × (Refuses (readable []) (chan_read_slots 7 0 1 0 2) (outcome.Answered status.BufferTooSmall))
    × (Passes (readable []) (chan_read_slots 7 0 2 0 2))
    -- The end is at the value 8 without a message.
    × (Refuses (readable []) (chan_read_slots 8 0 2 0 2) (outcome.Answered status.ShouldWait))
unfolding computing
rows_of_chan_read_slots = (refl, refl, refl, refl, refl, refl, refl, refl, refl, refl, refl, refl, refl)

-- ---- handle_info

-- of the handle in register 1; the status goes to register 0, kind and rights to 4 and 5
abbrev info : CallInstr
info = called name.HandleInfo (0 ∷ 1 ∷ 4 ∷ 5 ∷ []) 0

-- process 2 has this handle at the value 7
abbrev having : Entry → World
having = λ e. with_slots [] ((7, e) ∷ []) (ends_with [] [])

rows_of_handle_info :
    -- The number of its kind and its rights are told.
    (told (turn info (having (event_with FIRST_RIGHTS)) (Values []))
    ≡ Some (item.Call 2 name.HandleInfo (outcome.Answered status.Ok), 0 ∷ 7 ∷ 0 ∷ 2 ∷ 5 ∷ FIRST_RIGHTS ∷ []))
    -- No right is needed.
    × (told (turn info (having (end_with 4 0)) (Values []))
    ≡ Some (item.Call 2 name.HandleInfo (outcome.Answered status.Ok), 0 ∷ 7 ∷ 0 ∷ 2 ∷ 4 ∷ 0 ∷ []))
    -- The handle stays.
    × (table_of (after many (turn info (having (end_with 4 0)) (Values []))) 2 ≡ (7, end_with 4 0) ∷ [])
    -- Nothing is told of a value that isn't live.
    × (told (turn info (with_slots [] [] (beside_event [])) Refused)
    ≡ Some (item.Call 2 name.HandleInfo (outcome.Answered status.BadHandle), 11 ∷ 7 ∷ 0 ∷ 2 ∷ 0 ∷ 0 ∷ []))
    -- 0 is no handle.
    × (Refuses (having (end_with 4 0)) (handle_info 0) (outcome.Answered status.BadHandle))
    -- A policy may kill for a bad handle.
    × (Refuses (world_of ((condition_number condition.BadHandle, action.Kill) ∷ []) (process_of [] [] None)) (handle_info 5) (outcome.Ended (negsuc 1025)))
    -- It never wants memory.
    × (told (turn info (having (end_with 4 0)) (Wants status.NoMemory)) ≡ None)
unfolding computing
rows_of_handle_info = (refl, refl, refl, refl, refl, refl, refl)
