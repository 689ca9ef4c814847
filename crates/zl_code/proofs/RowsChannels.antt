-- Each cause of replace and of the calls on channels, by computation in small worlds.
use Rattle.zl_code.proofs.Common.{CallName, ChannelEnd, Choice, DUPLICATE, Entry, List, Map, Message, None, Object, Option, PEER_CLOSED}
use Rattle.zl_code.proofs.Common.{Process, READ, READABLE, Refused, SAME_RIGHTS, Site, Some, TRANSFER, Values, WRITABLE, WRITE, Wait, Wants, World}
use Rattle.zl_code.proofs.Common.{[], active, bit_or, body_of, chan_create, chan_read_etc, chan_write, condition_number, effect, false, get, has_key, map}
use Rattle.zl_code.proofs.Common.{may_choose, negsuc, queue_in, refl, refusal, replace, replicate, rights_of, site, table_of, true, ℕ, ◌-◌, ◌^◌, ◌∷◌, ◌≡◌}
use Rattle.zl_rights.specs.declared.kind.Kind.TheVariants as kind
use Rattle.zl_rights.specs.declared.status.Status.TheVariants as status
use Rattle.zl_rights.specs.declared.policy.Action.TheVariants as action
use Rattle.zl_rights.specs.declared.policy.Condition.TheVariants as condition
use Rattle.zl_code.specs.declared.history.CallName.TheVariants as name
use Rattle.zl_code.specs.declared.history.Outcome.TheVariants as outcome
use Rattle.zl_code.specs.declared.history.TraceItem.TheVariants as item
use Rattle.zl_code.proofs.Running.{Acted, call_by, settle_by, computing}
use Rattle.zl_code.proofs.RowsWords.{Refuses, Passes, world_of, process_of, event_with, FIRST_RIGHTS, times, told, after, last_of, beside_event}

-- ---- the words of the rows

-- process 2 does the call at these registers, with this choice
abbrev turn : CallName → Site → World → Choice → Acted
turn call s w choice = settle_by 4 (call_by [] w 2 call s choice (refusal [] w 2 s.request))

-- the rights of the first handle to an end: to transfer, read, write, signal, signal its peer, wait and inspect
abbrev pub END_RIGHTS : ℕ
END_RIGHTS = 0xf00e

-- a handle to the end k
abbrev pub end_with : ℕ → ℕ → Entry
end_with k rights = record { koid = k; kind = kind.Channel; rights = rights_of rights }

-- a message with these bytes and handles
abbrev pub message : List ℕ → List Entry → Message
message bytes handles = record { bytes = bytes; handles = handles }

-- what a job and event 3 are beside the ends 4 and 5 of a channel, at which these messages are to be read
abbrev pub ends_with : List Message → List Message → Map Object
ends_with at_4 at_5 = beside_event ((4, record { body = ChannelEnd 5 at_4; raised = 0 }) ∷ (5, record { body = ChannelEnd 4 at_5; raised = 0 }) ∷ [])

-- process 2 has these handles, and beside event 3 there are the ends 4 and 5 of a channel
abbrev with_ends : Map Entry → List Message → List Message → World
with_ends = λ handles at_4 at_5. record (world_of [] (process_of (1 ∷ 2 ∷ 3 ∷ 4 ∷ 5 ∷ 6 ∷ []) handles None)) { objects = ends_with at_4 at_5; next_koid = 6 }

-- the same where nobody has a handle to 4, which is gone
abbrev with_one_end : Map Entry → List Message → World
with_one_end = λ handles at_5. record (with_ends handles [] []) {
  objects = beside_event ((5, record { body = ChannelEnd 4 at_5; raised = 0 }) ∷ []);
}

-- the messages that are to be read at the object k
abbrev pub queue_of_object : World → ℕ → List Message
queue_of_object w k = queue_in (body_of w k)

-- process 2 has a handle with these rights to event 3 at the value 7
abbrev with_event : ℕ → World
with_event = λ rights. world_of [] (process_of (1 ∷ 7 ∷ 3 ∷ []) ((7, event_with rights) ∷ []) None)

-- ---- replace

-- the handle in register 1, with these rights; the status goes to register 0, the new handle to register 2
abbrev replacing : ℕ → ℕ → Site
replacing = λ h rights. site (replace h rights) (1 ∷ []) (0 ∷ 2 ∷ [])

-- a wait that process 2 made by the value 7, and one by the value 8
abbrev two_waits : List Wait
two_waits = record { pid = 2; value = 7; object = 3; port = 9; key = 1; mask = 8 } ∷ record { pid = 2; value = 8; object = 3; port = 9; key = 2; mask = 8 } ∷ []

rows_of_replace :
    -- The value 5 isn't live.
    (Refuses (with_event FIRST_RIGHTS) (replace 5 0) (outcome.Answered status.BadHandle))
    -- 0 is no handle.
    × (Refuses (with_event FIRST_RIGHTS) (replace 0 0) (outcome.Answered status.BadHandle))
    -- A handle without any right may be replaced.
    × (Passes (with_event 0) (replace 7 SAME_RIGHTS))
    -- The new handle can't have a right that the old one hasn't.
    × (Refuses (with_event DUPLICATE) (replace 7 TRANSFER) (outcome.Answered status.InvalidArgs))
    -- The mark for the same rights stands alone.
    × (Refuses (with_event FIRST_RIGHTS) (replace 7 0x8000_0001) (outcome.Answered status.InvalidArgs))
    -- Where it is refused the old handle is gone all the same, and its register becomes 0.
    × (told (turn name.Replace (replacing 7 TRANSFER) (with_event DUPLICATE) Refused)
    ≡ Some (item.Call 2 name.Replace (outcome.Answered status.InvalidArgs), 10 ∷ 0 ∷ 0 ∷ 0 ∷ 0 ∷ 0 ∷ []))
    × (table_of (after (with_event 0) (turn name.Replace (replacing 7 TRANSFER) (with_event DUPLICATE) Refused)) 2 ≡ [])
    -- It is the value removed last then.
    × (last_of (after (with_event 0) (turn name.Replace (replacing 7 TRANSFER) (with_event DUPLICATE) Refused)) 2 ≡ Some 7)
    -- The value stays, in the register of the new handle.
    × (told (turn name.Replace (replacing 7 DUPLICATE) (with_event FIRST_RIGHTS) (Values []))
    ≡ Some (item.Call 2 name.Replace (outcome.Answered status.Ok), 0 ∷ 0 ∷ 7 ∷ 0 ∷ 0 ∷ 0 ∷ []))
    -- The new handle has the rights that were asked for.
    × (table_of (after (with_event 0) (turn name.Replace (replacing 7 DUPLICATE) (with_event FIRST_RIGHTS) (Values []))) 2
    ≡ (7, event_with DUPLICATE) ∷ [])
    -- No value is the one removed last then.
    × (last_of (after (with_event 0) (turn name.Replace (replacing 7 DUPLICATE) (with_event FIRST_RIGHTS) (Values []))) 2 ≡ None)
    -- The value isn't chosen.
    × (may_choose (with_event FIRST_RIGHTS) (with_event FIRST_RIGHTS) 2 (replace 7 DUPLICATE) (8 ∷ []) ≡ false)
    -- The waits of the old handle end, and no others.
    × (map (λ x. x.value) (effect [] (record (with_event 0) { waits = two_waits }) (record (with_event 0) { waits = two_waits }) 2 (replace 7 0) []).waits
    ≡ 8 ∷ [])
    -- In a full table there is place, as the old handle's is free.
    × (Passes (world_of [] (process_of [] (times 1024 (event_with FIRST_RIGHTS)) None)) (replace 7 SAME_RIGHTS))
unfolding computing
rows_of_replace = (refl, refl, refl, refl, refl, refl, refl, refl, refl, refl, refl, refl, refl, refl)

-- ---- chan_create

-- process 2 has no handle
abbrev bare : World
bare = world_of [] (process_of (1 ∷ 2 ∷ 3 ∷ []) [] None)

-- the status goes to register 0, the ends to registers 1 and 2
abbrev creating : Site
creating = site chan_create [] (0 ∷ 1 ∷ 2 ∷ [])

-- the world after a channel was made
abbrev created : World
created = after bare (turn name.ChanCreate creating bare (Values (8 ∷ 3 ∷ [])))

rows_of_chan_create :
    -- Nothing stands against it.
    (Passes bare chan_create)
    -- The policy denies new channels.
    × (Refuses (world_of ((condition_number condition.NewChannel, action.Deny) ∷ []) (process_of [] [] None)) chan_create
    (outcome.Answered status.AccessDenied))
    -- The policy kills for new channels.
    × (Refuses (world_of ((condition_number condition.NewChannel, action.Kill) ∷ []) (process_of [] [] None)) chan_create (outcome.Ended (negsuc 1025)))
    -- The table has place for one handle alone.
    × (Refuses (world_of [] (process_of [] (times 1023 (event_with FIRST_RIGHTS)) None)) chan_create (outcome.Answered status.NoResources))
    -- It has place for both.
    × (Passes (world_of [] (process_of [] (times 1022 (event_with FIRST_RIGHTS)) None)) chan_create)
    -- One koid alone is left.
    × (Refuses (record bare { next_koid = 2 ^ 62 - 1 }) chan_create (outcome.Answered status.NoResources))
    -- Two are left.
    × (Passes (record bare { next_koid = 2 ^ 62 - 2 }) chan_create)
    -- The handles get values that aren't used, the second another than the first.
    × (told (turn name.ChanCreate creating bare (Values (8 ∷ 3 ∷ [])))
    ≡ Some (item.Call 2 name.ChanCreate (outcome.Answered status.Ok), 0 ∷ 8 ∷ 3 ∷ 0 ∷ 0 ∷ 0 ∷ []))
    × (may_choose bare bare 2 chan_create (8 ∷ 8 ∷ []) ≡ false)
    -- The first names the end with the lower koid.
    × (table_of created 2 ≡ (3, end_with 5 END_RIGHTS) ∷ (8, end_with 4 END_RIGHTS) ∷ [])
    -- The ends are peers of each other, and nothing is to be read at them.
    × (body_of created 4 ≡ Some (ChannelEnd 5 []))
    × (body_of created 5 ≡ Some (ChannelEnd 4 []))
    -- They may be written to.
    × (active created 4 ≡ WRITABLE)
    -- Where memory is wanted, nothing is made.
    × (told (turn name.ChanCreate creating bare (Wants status.NoMemory))
    ≡ Some (item.Call 2 name.ChanCreate (outcome.Answered status.NoMemory), 4 ∷ 0 ∷ 0 ∷ 0 ∷ 0 ∷ 0 ∷ []))
    -- No place is ever wanted: the listed test tells whether there is one.
    × (told (turn name.ChanCreate creating bare (Wants status.NoResources)) ≡ None)
unfolding computing
rows_of_chan_create = (refl, refl, refl, refl, refl, refl, refl, refl, refl, refl, refl, refl, refl, refl, refl)

-- ---- chan_write

-- the end at the value 7, and event 3 at the values 8 and 9
abbrev end_and_events : Map Entry
end_and_events = (7, end_with 4 END_RIGHTS) ∷ (8, event_with FIRST_RIGHTS) ∷ (9, event_with DUPLICATE) ∷ []

-- both ends of the channel, at the values 7 and 8
abbrev both_ends : Map Entry
both_ends = (7, end_with 4 END_RIGHTS) ∷ (8, end_with 5 END_RIGHTS) ∷ []

-- these bytes, and the handle in register 4 where there is one; the status goes to register 0
abbrev writing : List ℕ → List ℕ → Site
writing = λ bytes hs. site (chan_write 7 bytes hs) (4 ∷ []) (0 ∷ [])

-- the world after event 3 was sent to the end 5, which register 4 names no more
abbrev sent : World
sent =
    after (with_ends end_and_events [] []) (turn name.ChanWrite (writing (1 ∷ 2 ∷ []) (8 ∷ []))
    (with_ends ((7, end_with 4 END_RIGHTS) ∷ (8, event_with FIRST_RIGHTS) ∷ (10, end_with 5 END_RIGHTS) ∷ []) [] []) (Values []))

rows_of_chan_write :
    -- The value 5 isn't live.
    (Refuses (with_ends end_and_events [] []) (chan_write 5 [] []) (outcome.Answered status.BadHandle))
    -- An event is no channel.
    × (Refuses (with_ends end_and_events [] []) (chan_write 8 [] []) (outcome.Answered status.WrongType))
    -- The end has no right to write.
    × (Refuses (with_ends ((7, end_with 4 READ) ∷ []) [] []) (chan_write 7 [] []) (outcome.Answered status.AccessDenied))
    -- A handle of the list isn't live.
    × (Refuses (with_ends end_and_events [] []) (chan_write 7 [] (8 ∷ 5 ∷ [])) (outcome.Answered status.BadHandle))
    -- 0 is no handle.
    × (Refuses (with_ends end_and_events [] []) (chan_write 7 [] (0 ∷ [])) (outcome.Answered status.BadHandle))
    -- A handle of the list can't be transferred.
    × (Refuses (with_ends end_and_events [] []) (chan_write 7 [] (8 ∷ 9 ∷ [])) (outcome.Answered status.AccessDenied))
    -- A handle is listed twice.
    × (Refuses (with_ends end_and_events [] []) (chan_write 7 [] (8 ∷ 8 ∷ [])) (outcome.Answered status.BadHandle))
    -- The end's own value is listed.
    × (Refuses (with_ends end_and_events [] []) (chan_write 7 [] (7 ∷ [])) (outcome.Answered status.NotSupported))
    -- That comes before too many bytes.
    × (Refuses (with_ends end_and_events [] []) (chan_write 7 (replicate 65537 0) (7 ∷ [])) (outcome.Answered status.NotSupported))
    -- There are too many bytes.
    × (Refuses (with_ends end_and_events [] []) (chan_write 7 (replicate 65537 0) []) (outcome.Answered status.OutOfRange))
    -- There are as many bytes as a message may have.
    × (Passes (with_ends end_and_events [] []) (chan_write 7 (replicate 65536 0) []))
    -- The peer is gone.
    × (Refuses (with_one_end ((7, end_with 5 END_RIGHTS) ∷ []) []) (chan_write 7 [] []) (outcome.Answered status.PeerClosed))
    -- Too many bytes come before it.
    × (Refuses (with_one_end ((7, end_with 5 END_RIGHTS) ∷ []) []) (chan_write 7 (replicate 65537 0) []) (outcome.Answered status.OutOfRange))
    -- The peer may be sent through its own channel.
    × (Passes (with_ends both_ends [] []) (chan_write 7 [] (8 ∷ [])))
    -- The handles of the list are gone where the call is refused too, and their registers become 0.
    × (told (turn name.ChanWrite (writing [] (8 ∷ [])) (with_one_end ((7, end_with 5 END_RIGHTS) ∷ (8, event_with FIRST_RIGHTS) ∷ []) []) Refused)
    ≡ Some (item.Call 2 name.ChanWrite (outcome.Answered status.PeerClosed), 24 ∷ 2 ∷ 3 ∷ 4 ∷ 0 ∷ 6 ∷ []))
    × (table_of
    (after sent (turn name.ChanWrite (writing [] (8 ∷ [])) (with_one_end ((7, end_with 5 END_RIGHTS) ∷ (8, event_with FIRST_RIGHTS) ∷ []) []) Refused)) 2
    ≡ (7, end_with 5 END_RIGHTS) ∷ [])
    -- What they named is gone with the last of them.
    × (has_key (after sent
    (turn name.ChanWrite (writing [] (8 ∷ [])) (with_one_end ((7, end_with 5 END_RIGHTS) ∷ (8, event_with FIRST_RIGHTS) ∷ []) []) Refused)).objects 3 ≡ false)
    -- The message goes last into the queue of the peer, with its bytes and its handles.
    × (queue_of_object
    (effect [] (with_ends end_and_events [] (message [] [] ∷ [])) (with_ends end_and_events [] (message [] [] ∷ [])) 2 (chan_write 7 (1 ∷ 2 ∷ []) (8 ∷ [])) [])
    5
    ≡ message [] [] ∷ message (1 ∷ 2 ∷ []) (event_with FIRST_RIGHTS ∷ []) ∷ [])
    -- The handle that was sent has left the table.
    × (table_of sent 2 ≡ (7, end_with 4 END_RIGHTS) ∷ (10, end_with 5 END_RIGHTS) ∷ [])
    -- The event that it names stays, as the message holds it.
    × (has_key sent.objects 3 ≡ true)
    -- The peer can be read then.
    × (active sent 5 ≡ bit_or READABLE WRITABLE)
    -- An end that lies in its own queue stays, as the largest held set has it: so the other end has its peer still.
    × (active (after sent (turn name.ChanWrite (writing [] (8 ∷ [])) (with_ends both_ends [] []) (Values []))) 4 ≡ WRITABLE)
    -- With a peer that is gone it would be told so.
    × (active (with_one_end [] []) 5 ≡ PEER_CLOSED)
unfolding computing
rows_of_chan_write = (refl, refl, refl, refl, refl, refl, refl, refl, refl, refl, refl, refl, refl, refl, refl, refl, refl, refl, refl, refl, refl, refl, refl)

-- ---- chan_read_etc

-- to address 1, with room for so many bytes and one handle; the status goes to register 0, the counts to 1 and 2, the triple to 3 to 5
abbrev reading : ℕ → Site
reading = λ room. site (chan_read_etc 7 1 room 1) [] (0 ∷ 1 ∷ 2 ∷ 3 ∷ 4 ∷ 5 ∷ [])

-- the end 4 at the value 7, at which two bytes with event 3 and then an empty message are to be read
abbrev readable : World
readable = with_ends both_ends (message (11 ∷ 12 ∷ []) (event_with FIRST_RIGHTS ∷ []) ∷ message [] [] ∷ []) []

-- the same world where process 2 has four bytes of memory
abbrev with_memory : World
with_memory = record readable {
  processes = (
    2,
    record (process_of [] both_ends None) {
      cpu = record {
        counter = 0;
        registers = replicate 32 9;
        memory = 1 ∷ 2 ∷ 3 ∷ 4 ∷ [];
        slots = [];
        counters = [];
      };
    },
  ) ∷ [];
}

-- the world after the first message was read
abbrev read : World
read = after readable (turn name.ChanReadEtc (reading 2) with_memory (Values (20 ∷ [])))

abbrev pub memory_in : Option Process → List ℕ
memory_in None = []
memory_in (Some q) = q.cpu.memory

rows_of_chan_read_etc :
    -- The value 5 isn't live.
    (Refuses readable (chan_read_etc 5 0 0 0) (outcome.Answered status.BadHandle))
    -- An event is no channel.
    × (Refuses (with_ends end_and_events [] []) (chan_read_etc 8 0 0 0) (outcome.Answered status.WrongType))
    -- The end has no right to read.
    × (Refuses (with_ends ((7, end_with 4 WRITE) ∷ []) [] []) (chan_read_etc 7 0 0 0) (outcome.Answered status.AccessDenied))
    -- No message is there.
    × (Refuses (with_ends both_ends [] []) (chan_read_etc 7 0 9 9) (outcome.Answered status.ShouldWait))
    -- No message is there, and none can come.
    × (Refuses (with_one_end ((7, end_with 5 END_RIGHTS) ∷ []) []) (chan_read_etc 7 0 9 9) (outcome.Answered status.PeerClosed))
    -- A message that came before the peer went can be read.
    × (Passes (with_one_end ((7, end_with 5 END_RIGHTS) ∷ []) (message (1 ∷ []) [] ∷ [])) (chan_read_etc 7 0 9 9))
    -- There is room for fewer bytes than it has.
    × (Refuses readable (chan_read_etc 7 1 1 1) (outcome.Answered status.BufferTooSmall))
    -- There is room for fewer handles than it has.
    × (Refuses readable (chan_read_etc 7 1 2 0) (outcome.Answered status.BufferTooSmall))
    -- There is just room.
    × (Passes readable (chan_read_etc 7 1 2 1))
    -- The table is full.
    × (Refuses (with_ends (times 1024 (end_with 4 END_RIGHTS)) (message [] (event_with 0 ∷ []) ∷ []) []) (chan_read_etc 7 0 9 9)
    (outcome.Answered status.NoResources))
    -- A message without handles needs no place.
    × (Passes (with_ends (times 1024 (end_with 4 END_RIGHTS)) (message [] [] ∷ []) []) (chan_read_etc 7 0 9 9))
    -- The want of room comes before the full table.
    × (Refuses (with_ends (times 1024 (end_with 4 END_RIGHTS)) (message [] (event_with 0 ∷ []) ∷ []) []) (chan_read_etc 7 0 9 0)
    (outcome.Answered status.BufferTooSmall))
    -- Where there is too little room both counts are told, and no triple.
    × (told (turn name.ChanReadEtc (reading 1) readable Refused)
    ≡ Some (item.Call 2 name.ChanReadEtc (outcome.Answered status.BufferTooSmall), 15 ∷ 2 ∷ 1 ∷ 0 ∷ 0 ∷ 0 ∷ []))
    -- The message stays then.
    × (queue_of_object (after sent (turn name.ChanReadEtc (reading 1) readable Refused)) 4 ≡ queue_of_object readable 4)
    -- Where memory is wanted no count is told, and the message stays.
    × (told (turn name.ChanReadEtc (reading 2) readable (Wants status.NoMemory))
    ≡ Some (item.Call 2 name.ChanReadEtc (outcome.Answered status.NoMemory), 4 ∷ 0 ∷ 0 ∷ 0 ∷ 0 ∷ 0 ∷ []))
    × (queue_of_object (after sent (turn name.ChanReadEtc (reading 2) readable (Wants status.NoMemory))) 4 ≡ queue_of_object readable 4)
    -- No place is ever wanted: the listed test tells whether there is one.
    × (told (turn name.ChanReadEtc (reading 2) readable (Wants status.NoResources)) ≡ None)
    -- Both counts are told, and of the handle its value, the number of its kind and its rights.
    × (told (turn name.ChanReadEtc (reading 2) with_memory (Values (20 ∷ [])))
    ≡ Some (item.Call 2 name.ChanReadEtc (outcome.Answered status.Ok), 0 ∷ 2 ∷ 1 ∷ 20 ∷ 5 ∷ FIRST_RIGHTS ∷ []))
    -- The handle is in the table.
    × (table_of read 2 ≡ (7, end_with 4 END_RIGHTS) ∷ (8, end_with 5 END_RIGHTS) ∷ (20, event_with FIRST_RIGHTS) ∷ [])
    -- The bytes stand from the address on, and those behind them are as they were.
    × (memory_in (get read.processes 2) ≡ 1 ∷ 11 ∷ 12 ∷ 4 ∷ [])
    -- The next message is the first now.
    × (queue_of_object read 4 ≡ message [] [] ∷ [])
unfolding computing
rows_of_chan_read_etc = (refl, refl, refl, refl, refl, refl, refl, refl, refl, refl, refl, refl, refl, refl, refl, refl, refl, refl, refl, refl, refl)
