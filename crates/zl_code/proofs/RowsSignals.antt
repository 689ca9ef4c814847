-- Each cause of signal_peer, by computation in small worlds.
use Rattle.zl_code.proofs.Common.{ChannelEnd, Entry, Map, None, PEER_CLOSED, Refused, SIGNAL, SIGNALED, SIGNAL_PEER, Site}
use Rattle.zl_code.proofs.Common.{Some, USER_SIGNALS, Values, WRITABLE, World, [], active, refl, signal_peer, site, ℕ, ◌+◌, ◌∷◌, ◌≡◌}
use Rattle.zl_rights.specs.declared.kind.Kind.TheVariants as kind
use Rattle.zl_rights.specs.declared.status.Status.TheVariants as status
use Rattle.zl_code.specs.declared.history.CallName.TheVariants as name
use Rattle.zl_code.specs.declared.history.Outcome.TheVariants as outcome
use Rattle.zl_code.specs.declared.history.TraceItem.TheVariants as item
use Rattle.zl_code.proofs.Running.{computing}
use Rattle.zl_code.proofs.RowsWords.{Refuses, Passes, world_of, process_of, entry_of, event_with, FIRST_RIGHTS, told, after, turn_of, beside_event}

-- process 2 has these handles, and beside event 3 there are the ends 4 and 5 of a channel, at which these signals are raised
abbrev with_ends : Map Entry → ℕ → ℕ → World
with_ends = λ handles at_4 at_5. record (world_of [] (process_of (1 ∷ 2 ∷ 3 ∷ 4 ∷ 5 ∷ 6 ∷ []) handles None)) {
  objects = beside_event ((4, record { body = ChannelEnd 5 []; raised = at_4 }) ∷ (5, record { body = ChannelEnd 4 []; raised = at_5 }) ∷ []);
  next_koid = 6;
}

-- the same where nobody has a handle to 5, which is gone
abbrev with_one_end : Map Entry → World
with_one_end = λ handles. record (with_ends handles 0 0) {
  objects = beside_event ((4, record { body = ChannelEnd 5 []; raised = 0 }) ∷ []);
}

-- both ends at the values 7 and 8, and event 3 at the value 9
abbrev three : Map Entry
three = (7, entry_of kind.Channel 4 SIGNAL_PEER) ∷ (8, entry_of kind.Channel 5 SIGNAL) ∷ (9, event_with FIRST_RIGHTS) ∷ []

-- the end 4 alone
abbrev one_end : Map Entry
one_end = (7, entry_of kind.Channel 4 SIGNAL_PEER) ∷ []

-- at the peer of the end at the value 7, user signal 0 goes and user signal 7 comes; the status goes to register 0
abbrev signaling : Site
signaling = site (signal_peer 7 0x100_0000 0x8000_0000) [] (0 ∷ [])

-- the world after it, where user signals 0 and 1 were raised at both ends
abbrev signaled : World
signaled = after (with_ends three 0 0) (turn_of 2 name.SignalPeer signaling (with_ends three 0x300_0000 0x300_0000) (Values []))

rows_of_signal_peer :
    -- The value 5 isn't live.
    (Refuses (with_ends three 0 0) (signal_peer 5 0 0) (outcome.Answered status.BadHandle))
    -- An event has no peer.
    × (Refuses (with_ends three 0 0) (signal_peer 9 0 0) (outcome.Answered status.WrongType))
    -- The right to signal the end itself isn't enough.
    × (Refuses (with_ends three 0 0) (signal_peer 8 0 0) (outcome.Answered status.AccessDenied))
    -- SIGNALED can't be set at a channel end.
    × (Refuses (with_ends three 0 0) (signal_peer 7 0 SIGNALED) (outcome.Answered status.InvalidArgs))
    -- Nor can it be cleared.
    × (Refuses (with_ends three 0 0) (signal_peer 7 SIGNALED 0) (outcome.Answered status.InvalidArgs))
    -- Nor may any bit above 32 be set.
    × (Refuses (with_ends three 0 0) (signal_peer 7 0 0x1_0000_0000) (outcome.Answered status.InvalidArgs))
    -- The peer is gone.
    × (Refuses (with_one_end one_end) (signal_peer 7 0 0) (outcome.Answered status.PeerClosed))
    -- A signal that may not be set comes before it.
    × (Refuses (with_one_end one_end) (signal_peer 7 0 SIGNALED) (outcome.Answered status.InvalidArgs))
    -- All user signals may be set.
    × (Passes (with_ends three 0 0) (signal_peer 7 0 USER_SIGNALS))
    -- The call is answered with its status alone.
    × (told (turn_of 2 name.SignalPeer signaling (with_ends three 0 0) (Values []))
    ≡ Some (item.Call 2 name.SignalPeer (outcome.Answered status.Ok), 0 ∷ 2 ∷ 3 ∷ 4 ∷ 5 ∷ 6 ∷ []))
    -- The peer's signals change, the first mask before the second.
    × (active signaled 5 ≡ 0x8200_0000 + WRITABLE)
    -- Those of the end itself don't.
    × (active signaled 4 ≡ 0x300_0000 + WRITABLE)
    -- A refusal changes nothing.
    × (active (after (with_one_end one_end) (turn_of 2 name.SignalPeer signaling (with_one_end one_end) Refused)) 4 ≡ PEER_CLOSED)
unfolding computing
rows_of_signal_peer = (refl, refl, refl, refl, refl, refl, refl, refl, refl, refl, refl, refl, refl)
