-- Worked programs, accepted and refused, by computation: one at least for each cause.
use Rattle.zl_code.specs.Image.{blank_image}
use Rattle.zl_abs.proofs.Common.{Image, Instr, List, LocalInstr, None, SlotArray, Some, Start, [], refl, rights_of, ℕ, ◌∷◌, ◌≡◌}
use Rattle.zl_rights.specs.declared.kind.Kind.TheVariants as kind
use Rattle.zl_rights.specs.declared.policy.Condition.{Condition}
use Rattle.zl_rights.specs.declared.policy.Condition.TheVariants as condition
use Rattle.zl_code.specs.declared.image.Version.TheVariants as version
use Rattle.zl_code.specs.declared.instr.Instr.TheVariants as instr
use Rattle.zl_code.specs.declared.instr.LocalInstr.TheVariants as local
use Rattle.zl_code.specs.declared.history.CallName.{CallName}
use Rattle.zl_code.specs.declared.history.CallName.TheVariants as name
use Rattle.zl_code.proofs.Called.{called, sending}
use Rattle.zl_abs.specs.declared.cause.Cause.TheVariants as cause
use Rattle.zl_abs.proofs.Infer.{Typed, Refused, Conflicts, verdict, searching}

abbrev image : ℕ → List Condition → List Start → List SlotArray → List Instr → Image
image memory needs starts slots code = record blank_image { memory = memory; budget = 100; needs = needs; starts = starts; slots = slots; code = code }

-- a program that declares nothing
abbrev plain : List Instr → Image
plain code = image 0 [] [] [] code

-- a program that may make events
abbrev with_events : List Instr → Image
with_events code = image 0 (condition.NewEvent ∷ []) [] [] code

-- a program that starts with an event that it may signal
abbrev with_event : List Instr → Image
with_event code = image 0 [] (record { kind = Some kind.Event; rights = rights_of 4096 } ∷ []) [] code

-- a program with a memory of eight bytes
abbrev with_memory : List Instr → Image
with_memory code = image 8 [] [] [] code

abbrev own : LocalInstr → Instr
own i = instr.Local i

-- a call with these registers
abbrev ask : CallName → List ℕ → Instr
ask n registers = instr.Call (called n registers 0)

-- chan_read_etc with these registers, and room for so many handles
abbrev receive : List ℕ → ℕ → Instr
receive registers places = instr.Call (called name.ChanReadEtc registers places)

abbrev exit : ℕ → Instr
exit r = ask name.ProcessExit (r ∷ [])

-- ---- the least programs

exits : verdict (plain (exit 0 ∷ [])) ≡ Typed
unfolding searching
exits = refl

no_code : verdict (plain []) ≡ Refused 0 cause.FallsOff
unfolding searching
no_code = refl

-- ---- a loop that hands out channels

abbrev dispatcher : List Instr → Image
dispatcher code =
    image 16 (condition.NewPort ∷ []) (record { kind = Some kind.Channel; rights = rights_of 16388 } ∷ [])
    (record { kind = Some kind.Channel; length = 4; rights = rights_of 12 } ∷ []) code

dispatches : verdict (dispatcher (
    ask name.PortCreate (2 ∷ 3 ∷ []) ∷ own (local.JumpZero 3 13) ∷ own (local.Const 4 7) ∷ own (local.Const 5 5)
    ∷ ask name.WaitAsync (2 ∷ 0 ∷ 3 ∷ 4 ∷ 5 ∷ []) ∷ ask name.PortWait (2 ∷ 3 ∷ 6 ∷ 7 ∷ 8 ∷ 9 ∷ []) ∷ receive (2 ∷ 0 ∷ 10 ∷ 10 ∷ 11 ∷ 12 ∷ 13 ∷ []) 1
    ∷ own (local.JumpNotZero 2 13) ∷ own (local.JumpNotEqual 14 4 11) ∷ own (local.JumpHasNot 15 12 11)
    ∷ own (local.Swap 13 10 0) ∷ ask name.Close (2 ∷ 13 ∷ []) ∷ own (local.Jump 4) ∷ exit 2 ∷ [])) ≡ Typed
unfolding searching
dispatches = refl

-- Without the test of the kind.
no_kind_test : verdict (dispatcher (
    ask name.PortCreate (2 ∷ 3 ∷ []) ∷ own (local.JumpZero 3 12) ∷ own (local.Const 4 7) ∷ own (local.Const 5 5)
    ∷ ask name.WaitAsync (2 ∷ 0 ∷ 3 ∷ 4 ∷ 5 ∷ []) ∷ ask name.PortWait (2 ∷ 3 ∷ 6 ∷ 7 ∷ 8 ∷ 9 ∷ []) ∷ receive (2 ∷ 0 ∷ 10 ∷ 10 ∷ 11 ∷ 12 ∷ 13 ∷ []) 1
    ∷ own (local.JumpNotZero 2 12) ∷ own (local.JumpHasNot 15 12 10)
    ∷ own (local.Swap 13 10 0) ∷ ask name.Close (2 ∷ 13 ∷ []) ∷ own (local.Jump 4) ∷ exit 2 ∷ [])) ≡ Refused 9 cause.WrongKind
unfolding searching
no_kind_test = refl

-- Without the test of the rights.
no_rights_test : verdict (dispatcher (
    ask name.PortCreate (2 ∷ 3 ∷ []) ∷ own (local.JumpZero 3 12) ∷ own (local.Const 4 7) ∷ own (local.Const 5 5)
    ∷ ask name.WaitAsync (2 ∷ 0 ∷ 3 ∷ 4 ∷ 5 ∷ []) ∷ ask name.PortWait (2 ∷ 3 ∷ 6 ∷ 7 ∷ 8 ∷ 9 ∷ []) ∷ receive (2 ∷ 0 ∷ 10 ∷ 10 ∷ 11 ∷ 12 ∷ 13 ∷ []) 1
    ∷ own (local.JumpNotZero 2 12) ∷ own (local.JumpNotEqual 14 4 10)
    ∷ own (local.Swap 13 10 0) ∷ ask name.Close (2 ∷ 13 ∷ []) ∷ own (local.Jump 4) ∷ exit 2 ∷ [])) ≡ Refused 9 cause.LacksRight
unfolding searching
no_rights_test = refl

-- The handle is taken into another register first, and its tags follow.
taken_first : verdict (dispatcher (
    ask name.PortCreate (2 ∷ 3 ∷ []) ∷ own (local.JumpZero 3 14) ∷ own (local.Const 4 7) ∷ own (local.Const 5 5)
    ∷ ask name.WaitAsync (2 ∷ 0 ∷ 3 ∷ 4 ∷ 5 ∷ []) ∷ ask name.PortWait (2 ∷ 3 ∷ 6 ∷ 7 ∷ 8 ∷ 9 ∷ []) ∷ receive (2 ∷ 0 ∷ 10 ∷ 10 ∷ 11 ∷ 12 ∷ 13 ∷ []) 1
    ∷ own (local.JumpNotZero 2 14) ∷ own (local.Take 20 13) ∷ own (local.JumpNotEqual 14 4 12) ∷ own (local.JumpHasNot 15 12 12)
    ∷ own (local.Swap 20 10 0) ∷ ask name.Close (2 ∷ 20 ∷ []) ∷ own (local.Jump 4) ∷ exit 2 ∷ [])) ≡ Typed
unfolding searching
taken_first = refl

-- ---- a handle that may be closed

maybe_closed : verdict (with_events (
    ask name.EventCreate (2 ∷ 3 ∷ []) ∷ own (local.JumpZero 3 5) ∷ own (local.JumpZero 1 4) ∷ ask name.Close (2 ∷ 3 ∷ [])
    ∷ ask name.Signal (2 ∷ 3 ∷ 4 ∷ 4 ∷ []) ∷ exit 4 ∷ [])) ≡ Refused 4 cause.NotLive
unfolding searching
maybe_closed = refl

tested_again : verdict (with_events (
    ask name.EventCreate (2 ∷ 3 ∷ []) ∷ own (local.JumpZero 3 6) ∷ own (local.JumpZero 1 4) ∷ ask name.Close (2 ∷ 3 ∷ [])
    ∷ own (local.JumpZero 3 6) ∷ ask name.Signal (2 ∷ 3 ∷ 4 ∷ 4 ∷ []) ∷ exit 4 ∷ [])) ≡ Typed
unfolding searching
tested_again = refl

-- ---- waiting and polling

polls : verdict (image 0 (condition.NewPort ∷ []) [] [] (
    ask name.PortCreate (2 ∷ 3 ∷ []) ∷ own (local.JumpZero 3 4) ∷ ask name.PortPoll (2 ∷ 3 ∷ 4 ∷ 5 ∷ 6 ∷ 7 ∷ []) ∷ own (local.Jump 2) ∷ exit 0 ∷ [])) ≡ Typed
unfolding searching
polls = refl

waits : verdict (image 0 [] (record { kind = Some kind.Event; rights = rights_of 16384 } ∷ []) [] (
    own (local.Const 2 8) ∷ own (local.Const 2 8) ∷ own (local.Const 2 8) ∷ ask name.WaitOne (3 ∷ 0 ∷ 2 ∷ 4 ∷ []) ∷ exit 4 ∷ [])) ≡ Typed
unfolding searching
waits = refl

-- ---- counted blocks

-- a program that signals its event and then does this, in a block that is gone round so many times
abbrev block : ℕ → Instr → Image
block count behind =
    record (with_event (own (local.Rep count 3) ∷ ask name.Signal (2 ∷ 0 ∷ 4 ∷ 4 ∷ []) ∷ behind ∷ own (local.EndRep 0) ∷ exit 2 ∷ [])) { version = version.Two }

signalled_twice : verdict (block 2 (own (local.Const 5 1))) ≡ Typed
unfolding searching
signalled_twice = refl

closed_behind : verdict (block 1 (ask name.Close (2 ∷ 0 ∷ []))) ≡ Typed
unfolding searching
closed_behind = refl

-- The block is gone round again, where the event may be closed.
closed_between : verdict (block 2 (ask name.Close (2 ∷ 0 ∷ []))) ≡ Refused 1 cause.NotLive
unfolding searching
closed_between = refl

-- ---- the other causes

lacks_right : verdict (with_event (ask name.WaitOne (2 ∷ 0 ∷ 3 ∷ 4 ∷ []) ∷ exit 4 ∷ [])) ≡ Refused 0 cause.LacksRight
unfolding searching
lacks_right = refl

leaks : verdict (with_events (ask name.EventCreate (2 ∷ 3 ∷ []) ∷ own (local.Const 3 1) ∷ exit 2 ∷ [])) ≡ Refused 1 cause.Leak
unfolding searching
leaks = refl

not_word : verdict (with_event (exit 0 ∷ [])) ≡ Refused 0 cause.NotWord
unfolding searching
not_word = refl

outside_memory : verdict (with_memory (own (local.LoadWord 2 3 1) ∷ exit 2 ∷ [])) ≡ Refused 0 cause.MemoryRange
unfolding searching
outside_memory = refl

inside_memory : verdict (with_memory (own (local.LoadWord 2 3 0) ∷ exit 2 ∷ [])) ≡ Typed
unfolding searching
inside_memory = refl

jumps_out : verdict (plain (own (local.Jump 2) ∷ exit 2 ∷ [])) ≡ Refused 0 cause.BadJump
unfolding searching
jumps_out = refl

falls_off : verdict (plain (own (local.Const 2 1) ∷ [])) ≡ Refused 0 cause.FallsOff
unfolding searching
falls_off = refl

-- One way brings a number, the other a handle.
conflicts : verdict (with_events (
    own (local.Const 3 5) ∷ own (local.JumpZero 1 4) ∷ own (local.Const 3 0) ∷ ask name.EventCreate (2 ∷ 3 ∷ []) ∷ exit 2 ∷ [])) ≡ Conflicts 4
unfolding searching
conflicts = refl

undeclared : verdict (plain (ask name.EventCreate (2 ∷ 3 ∷ []) ∷ exit 2 ∷ [])) ≡ Refused 0 cause.UndeclaredNeed
unfolding searching
undeclared = refl

taken_into_itself : verdict (plain (own (local.Take 2 2) ∷ exit 2 ∷ [])) ≡ Refused 0 cause.IllegalOp
unfolding searching
taken_into_itself = refl

no_slot_array : verdict (plain (own (local.Swap 2 3 0) ∷ exit 2 ∷ [])) ≡ Refused 0 cause.IllegalOp
unfolding searching
no_slot_array = refl

two_results : verdict (with_events (ask name.EventCreate (2 ∷ 2 ∷ []) ∷ exit 2 ∷ [])) ≡ Refused 0 cause.IllegalOp
unfolding searching
two_results = refl

unknown : verdict (plain (instr.Unknown [] ∷ exit 2 ∷ [])) ≡ Refused 0 cause.IllegalOp
unfolding searching
unknown = refl

-- ---- what may not pass

abbrev send : List ℕ → Instr
send handles = instr.Call (sending (2 ∷ 0 ∷ 8 ∷ 8 ∷ []) handles)

abbrev with_channel_and_event : List Instr → Image
with_channel_and_event code =
    image 0 (condition.NewEvent ∷ [])
    (record { kind = Some kind.Channel; rights = rights_of 12 } ∷ record { kind = Some kind.Event; rights = rights_of 2 } ∷ []) [] code

sent_once : verdict (with_channel_and_event (
    send (2 ∷ []) ∷ exit 2 ∷ [])) ≡ Typed
unfolding searching
sent_once = refl

-- A register listed twice.
sent_twice : verdict (with_channel_and_event (
    send (2 ∷ 2 ∷ []) ∷ exit 2 ∷ [])) ≡ Refused 0 cause.NotLive
unfolding searching
sent_twice = refl

-- A kind that was asked of a handle says nothing once it was sent and its register has another.
tested_late : verdict (image 0 (condition.NewEvent ∷ []) (record { kind = Some kind.Channel; rights = rights_of 12 } ∷ []) [] (
    receive (2 ∷ 0 ∷ 10 ∷ 10 ∷ 11 ∷ 12 ∷ 13 ∷ []) 1 ∷ own (local.JumpZero 13 8) ∷ own (local.JumpHasNot 15 2 8)
    ∷ own (local.Move 16 14) ∷ send (13 ∷ [])
    ∷ ask name.EventCreate (2 ∷ 13 ∷ []) ∷ own (local.JumpZero 13 8) ∷ own (local.JumpEqual 16 4 9) ∷ exit 2
    ∷ receive (2 ∷ 13 ∷ 10 ∷ 10 ∷ 11 ∷ 12 ∷ 20 ∷ []) 0 ∷ exit 2 ∷ [])) ≡ Refused 9 cause.WrongKind
unfolding searching
tested_late = refl

-- ---- calls over slot arrays

-- four places for handles of any kind with these rights
abbrev places : ℕ → SlotArray
places rights = record { kind = None; length = 4; rights = rights_of rights }

-- a program that starts with an end of a channel, and has a memory of eight bytes and this slot array
abbrev with_slots : SlotArray → List Instr → Image
with_slots slots code = record (image 8 [] (record { kind = Some kind.Channel; rights = rights_of 12 } ∷ []) (slots ∷ []) code) { version = version.Two }

-- chan_write_slots with the address and the count in these registers, from the slot array of this number
abbrev send_slots : ℕ → ℕ → ℕ → Instr
send_slots address count array = instr.Call (called name.ChanWriteSlots (2 ∷ 0 ∷ address ∷ 5 ∷ count ∷ []) array)

slots_sent :
    (verdict (with_slots (places 2) (own (local.Const 6 4) ∷ send_slots 5 6 0 ∷ exit 2 ∷ [])) ≡ Typed)
    × (verdict (with_slots (places 2) (own (local.Const 6 5) ∷ send_slots 5 6 0 ∷ exit 2 ∷ [])) ≡ Refused 1 cause.MemoryRange)
    × (verdict (with_slots (places 2) (own (local.Const 6 9) ∷ send_slots 6 5 0 ∷ exit 2 ∷ [])) ≡ Refused 1 cause.MemoryRange)
    × (verdict (with_slots (places 2) (send_slots 5 0 0 ∷ exit 2 ∷ [])) ≡ Refused 0 cause.NotWord)
    × (verdict (with_slots (places 2) (send_slots 5 0 1 ∷ exit 2 ∷ [])) ≡ Refused 0 cause.IllegalOp)
    × (verdict (with_slots (places 12) (send_slots 5 0 0 ∷ exit 2 ∷ [])) ≡ Refused 0 cause.LacksRight)
unfolding searching
slots_sent = (refl, refl, refl, refl, refl, refl)

-- chan_read_slots with the room in this register, into the slot array of this number
abbrev receive_slots : ℕ → ℕ → Instr
receive_slots room array = instr.Call (called name.ChanReadSlots (2 ∷ 0 ∷ 5 ∷ room ∷ 7 ∷ 8 ∷ []) array)

slots_received :
    (verdict (with_slots (places 0) (own (local.Const 6 8) ∷ receive_slots 6 0 ∷ exit 7 ∷ [])) ≡ Typed)
    × (verdict (with_slots (places 0) (own (local.Const 6 9) ∷ receive_slots 6 0 ∷ exit 7 ∷ [])) ≡ Refused 1 cause.MemoryRange)
    × (verdict (with_slots (places 0) (receive_slots 0 1 ∷ exit 7 ∷ [])) ≡ Refused 0 cause.IllegalOp)
    × (verdict (with_slots (places 2) (receive_slots 0 0 ∷ exit 7 ∷ [])) ≡ Refused 0 cause.LacksRight)
    × (verdict (with_slots (record (places 0) { kind = Some kind.Event }) (receive_slots 0 0 ∷ exit 7 ∷ [])) ≡ Refused 0 cause.WrongKind)
unfolding searching
slots_received = (refl, refl, refl, refl, refl)

-- ---- what is told of a handle

-- a program that starts with a handle of which it declares nothing, is told of one, and does this behind
abbrev told : List ℕ → List Instr → Image
told registers behind =
    record (image 8 [] (record { kind = None; rights = rights_of 0 } ∷ []) [] (ask name.HandleInfo registers ∷ behind)) { version = version.Two }

handle_told :
    (verdict (told (2 ∷ 0 ∷ 3 ∷ 4 ∷ [])
    (own (local.JumpNotEqual 3 4 4) ∷ own (local.JumpHasNot 4 4 4) ∷ receive (2 ∷ 0 ∷ 5 ∷ 5 ∷ 6 ∷ 7 ∷ 20 ∷ []) 0 ∷ exit 2 ∷ [])) ≡ Typed)
    × (verdict (told (2 ∷ 0 ∷ 3 ∷ 4 ∷ []) (own (local.JumpHasNot 4 4 3) ∷ receive (2 ∷ 0 ∷ 5 ∷ 5 ∷ 6 ∷ 7 ∷ 20 ∷ []) 0 ∷ exit 2 ∷ []))
    ≡ Refused 2 cause.WrongKind)
    × (verdict (told (2 ∷ 0 ∷ 3 ∷ 4 ∷ []) (own (local.JumpNotEqual 3 4 3) ∷ receive (2 ∷ 0 ∷ 5 ∷ 5 ∷ 6 ∷ 7 ∷ 20 ∷ []) 0 ∷ exit 2 ∷ []))
    ≡ Refused 2 cause.LacksRight)
    × (verdict (told (2 ∷ 5 ∷ 3 ∷ 4 ∷ []) (exit 2 ∷ [])) ≡ Refused 0 cause.NotLive)
    × (verdict (told (2 ∷ 0 ∷ 3 ∷ 3 ∷ []) (exit 2 ∷ [])) ≡ Refused 0 cause.IllegalOp)
    × (verdict (told (2 ∷ 0 ∷ 0 ∷ 4 ∷ []) (exit 2 ∷ [])) ≡ Refused 0 cause.Leak)
unfolding searching
handle_told = (refl, refl, refl, refl, refl, refl)
