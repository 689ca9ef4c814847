-- Event pairs, by computation in small worlds: each cause of their calls, what is active at their ends, and the statement.
use Rattle.zl_code.proofs.Common.{Entry, JobBody, Library, Map, None, Object, PEER_CLOSED, PairEnd, ProcessBody, READABLE, SIGNAL, SIGNALED}
use Rattle.zl_code.proofs.Common.{SIGNAL_PEER, Site, Some, USER_SIGNALS, Values, WRITABLE, WRITE, Wants, World, [], active, boot_effect, boot_fault, chan_write}
use Rattle.zl_code.proofs.Common.{condition_number, eventpair_create, false, may_choose, negsuc, origin, refl, signal, signal_peer, site, table_of, ℕ, ◌+◌, ◌-◌}
use Rattle.zl_code.proofs.Common.{◌^◌, ◌∷◌, ◌≡◌}
use Rattle.zl_rights.specs.declared.kind.Kind.TheVariants as kind
use Rattle.zl_rights.specs.declared.status.Status.TheVariants as status
use Rattle.zl_rights.specs.declared.policy.Action.TheVariants as action
use Rattle.zl_rights.specs.declared.policy.Condition.TheVariants as condition
use Rattle.zl_code.specs.declared.boot.BootCause.TheVariants as cause
use Rattle.zl_code.specs.declared.boot.Statement.TheVariants as statement
use Rattle.zl_code.specs.declared.history.CallName.TheVariants as name
use Rattle.zl_code.specs.declared.history.Outcome.TheVariants as outcome
use Rattle.zl_code.specs.declared.history.TraceItem.TheVariants as item
use Rattle.zl_code.proofs.Running.{computing}
use Rattle.zl_code.proofs.RowsWords.{Refuses, Passes, world_of, process_of, entry_of, event_with, FIRST_RIGHTS, times, told, after, turn_of, beside_event}

-- ---- eventpair_create

-- process 2 has no handle
abbrev bare : World
bare = world_of [] (process_of (1 ∷ 2 ∷ 3 ∷ []) [] None)

-- the status goes to register 0, the ends to registers 1 and 2
abbrev creating : Site
creating = site eventpair_create [] (0 ∷ 1 ∷ 2 ∷ [])

-- the world after an event pair was made
abbrev created : World
created = after bare (turn_of 2 name.EventpairCreate creating bare (Values (8 ∷ 3 ∷ [])))

-- an end, with no signal raised
abbrev end_to : ℕ → Object
end_to peer = record { body = PairEnd peer; raised = 0 }

rows_of_eventpair_create :
    -- Nothing stands against it.
    (Passes bare eventpair_create)
    -- The policy denies new event pairs.
    × (Refuses (world_of ((condition_number condition.NewEventpair, action.Deny) ∷ []) (process_of [] [] None)) eventpair_create
    (outcome.Answered status.AccessDenied))
    -- The policy kills for new event pairs.
    × (Refuses (world_of ((condition_number condition.NewEventpair, action.Kill) ∷ []) (process_of [] [] None)) eventpair_create (outcome.Ended (negsuc 1025)))
    -- A policy for new events says nothing of event pairs.
    × (Passes (world_of ((condition_number condition.NewEvent, action.Deny) ∷ []) (process_of [] [] None)) eventpair_create)
    -- Beside 1,023 handles there is no room for two more.
    × (Refuses (world_of [] (process_of [] (times 1023 (event_with FIRST_RIGHTS)) None)) eventpair_create (outcome.Answered status.NoResources))
    -- Beside 1,022 there is.
    × (Passes (world_of [] (process_of [] (times 1022 (event_with FIRST_RIGHTS)) None)) eventpair_create)
    -- One koid below 2^62 is left.
    × (Refuses (record bare { next_koid = 2 ^ 62 - 1 }) eventpair_create (outcome.Answered status.NoResources))
    -- Two are left.
    × (Passes (record bare { next_koid = 2 ^ 62 - 2 }) eventpair_create)
    -- The policy comes before the koids.
    × (Refuses (record (world_of ((condition_number condition.NewEventpair, action.Deny) ∷ []) (process_of [] [] None)) { next_koid = 2 ^ 62 })
    eventpair_create (outcome.Answered status.AccessDenied))
    -- The two handles get values of their own.
    × (told (turn_of 2 name.EventpairCreate creating bare (Values (8 ∷ 3 ∷ [])))
    ≡ Some (item.Call 2 name.EventpairCreate (outcome.Answered status.Ok), 0 ∷ 8 ∷ 3 ∷ 0 ∷ 0 ∷ 0 ∷ []))
    × (may_choose bare bare 2 eventpair_create (8 ∷ 8 ∷ []) ≡ false)
    -- The first names the end with the lower koid; both have the default rights.
    × (table_of created 2 ≡ (3, entry_of kind.Eventpair 5 61443) ∷ (8, entry_of kind.Eventpair 4 61443) ∷ [])
    -- Each end is the peer of the other, and nothing is active at either.
    × (created.objects ≡ (1, record { body = JobBody 0 1 [] false; raised = 0 }) ∷ (2, record { body = ProcessBody 1; raised = 0 })
    ∷ (4, end_to 5) ∷ (5, end_to 4) ∷ [])
    × (active created 4 ≡ 0)
    × (created.next_koid ≡ 6)
    -- Where memory is wanted, no handle is made.
    × (told (turn_of 2 name.EventpairCreate creating bare (Wants status.NoMemory))
    ≡ Some (item.Call 2 name.EventpairCreate (outcome.Answered status.NoMemory), 4 ∷ 0 ∷ 0 ∷ 0 ∷ 0 ∷ 0 ∷ []))
    -- No place is ever wanted: the listed test tells whether there is one.
    × (told (turn_of 2 name.EventpairCreate creating bare (Wants status.NoResources)) ≡ None)
unfolding computing
rows_of_eventpair_create = (refl, refl, refl, refl, refl, refl, refl, refl, refl, refl, refl, refl, refl, refl, refl, refl, refl)

-- ---- signal and signal_peer

-- process 2 has these handles, and beside event 3 there are the ends 4 and 5 of an event pair, at which these signals are raised
abbrev with_ends : Map Entry → ℕ → ℕ → World
with_ends = λ handles at_4 at_5. record (world_of [] (process_of (1 ∷ 2 ∷ 3 ∷ 4 ∷ 5 ∷ 6 ∷ []) handles None)) {
  objects = beside_event ((4, record { body = PairEnd 5; raised = at_4 }) ∷ (5, record { body = PairEnd 4; raised = at_5 }) ∷ []);
  next_koid = 6;
}

-- the same where nobody has a handle to 5, which is gone
abbrev with_one_end : Map Entry → World
with_one_end = λ handles. record (with_ends handles 0 0) {
  objects = beside_event ((4, record { body = PairEnd 5; raised = 0 }) ∷ []);
}

-- both ends at the values 7 and 8, and event 3 at the value 9
abbrev three : Map Entry
three = (7, entry_of kind.Eventpair 4 SIGNAL_PEER) ∷ (8, entry_of kind.Eventpair 5 SIGNAL) ∷ (9, event_with FIRST_RIGHTS) ∷ []

-- the end 4 alone
abbrev one_end : Map Entry
one_end = (7, entry_of kind.Eventpair 4 SIGNAL_PEER) ∷ []

-- at the peer of the end at the value 7, user signal 0 goes and SIGNALED comes; the status goes to register 0
abbrev signaling : Site
signaling = site (signal_peer 7 0x100_0000 SIGNALED) [] (0 ∷ [])

-- the world after it, where user signals 0 and 1 were raised at both ends
abbrev signaled : World
signaled = after (with_ends three 0 0) (turn_of 2 name.SignalPeer signaling (with_ends three 0x300_0000 0x300_0000) (Values []))

rows_of_signals_at_ends :
    -- The right to signal the end itself isn't enough to signal its peer.
    (Refuses (with_ends three 0 0) (signal_peer 8 0 0) (outcome.Answered status.AccessDenied))
    -- Nor is the right to signal the peer enough to signal the end.
    × (Refuses (with_ends three 0 0) (signal 7 0 0) (outcome.Answered status.AccessDenied))
    -- An event has no peer.
    × (Refuses (with_ends three 0 0) (signal_peer 9 0 0) (outcome.Answered status.WrongType))
    -- READABLE, WRITABLE and PEER_CLOSED can't be set at a peer.
    × (Refuses (with_ends three 0 0) (signal_peer 7 0 READABLE) (outcome.Answered status.InvalidArgs))
    × (Refuses (with_ends three 0 0) (signal_peer 7 0 WRITABLE) (outcome.Answered status.InvalidArgs))
    × (Refuses (with_ends three 0 0) (signal_peer 7 0 PEER_CLOSED) (outcome.Answered status.InvalidArgs))
    -- Nor can PEER_CLOSED be cleared at the end itself.
    × (Refuses (with_ends three 0 0) (signal 8 PEER_CLOSED 0) (outcome.Answered status.InvalidArgs))
    -- The peer is gone.
    × (Refuses (with_one_end one_end) (signal_peer 7 0 0) (outcome.Answered status.PeerClosed))
    -- A signal that may not be set comes before it.
    × (Refuses (with_one_end one_end) (signal_peer 7 0 READABLE) (outcome.Answered status.InvalidArgs))
    -- SIGNALED and all user signals may be set at either.
    × (Passes (with_ends three 0 0) (signal_peer 7 0 (SIGNALED + USER_SIGNALS)))
    × (Passes (with_ends three 0 0) (signal 8 0 (SIGNALED + USER_SIGNALS)))
    -- The peer's signals change, the first mask before the second, and those of the end itself don't.
    × (active signaled 5 ≡ 0x200_0000 + SIGNALED)
    × (active signaled 4 ≡ 0x300_0000)
    -- Where the peer is gone, just that is active.
    × (active (with_one_end one_end) 4 ≡ PEER_CLOSED)
    -- Nothing is written at an end of an event pair.
    × (Refuses (with_ends ((7, entry_of kind.Eventpair 4 WRITE) ∷ []) 0 0) (chan_write 7 [] []) (outcome.Answered status.WrongType))
unfolding computing
rows_of_signals_at_ends = (refl, refl, refl, refl, refl, refl, refl, refl, refl, refl, refl, refl, refl, refl, refl)

-- ---- the statement

abbrev no_program : Library
no_program = []

rows_of_statement :
    -- Two ends with the next two koids, each the peer of the other.
    ((boot_effect no_program origin statement.Eventpair []).objects
    ≡ (1, record { body = JobBody 0 1 [] false; raised = 0 }) ∷ (2, end_to 3) ∷ (3, end_to 2) ∷ [])
    × ((boot_effect no_program origin statement.Eventpair []).next_koid ≡ 4)
    -- Two koids are left.
    × (boot_fault no_program (record origin { next_koid = 1023 }) statement.Eventpair ≡ None)
    -- One is left.
    × (boot_fault no_program (record origin { next_koid = 1024 }) statement.Eventpair ≡ Some cause.Limit)
unfolding computing boot_fault boot_effect
rows_of_statement = (refl, refl, refl, refl)
