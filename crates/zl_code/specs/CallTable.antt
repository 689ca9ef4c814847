-- The table of calls, column by column: all that the definitions say of one call alone, beside its row of the table of instructions.
use Rattle.std.specs.Prelude.{ℕ, ℤ, ◌+◌, ◌^◌, ◌&&◌, ◌||◌, not, nat_le, List, [], ◌∷◌, ◌++◌, length, Option, Some, None, is_some, slice_get}
use Rattle.std.specs.Bool.{then_some}
use Rattle.std.specs.Option.{option_to_list}
use Rattle.zl_rights.specs.Common.{World, ChannelEnd, EventBody, PairEnd, PortBody, ProcessBody, has_key, is_empty, is_process}
use Rattle.zl_rights.specs.declared.kind.Kind.TheVariants as kind
use Rattle.zl_rights.specs.declared.status.Status.{Status}
use Rattle.zl_rights.specs.declared.status.Status.TheVariants as status
use Rattle.zl_rights.specs.declared.entry.Entry.{Entry}
use Rattle.zl_rights.specs.Counts.{handles_to}
use Rattle.zl_rights.specs.Numbers.{KILLED}
use Rattle.zl_rights.specs.Policies.{setting_of}
use Rattle.zl_rights.specs.World.{Awaited}
use Rattle.zl_code.specs.declared.history.CallName.{CallName}
use Rattle.zl_code.specs.declared.history.CallName.TheVariants as name
use Rattle.zl_code.specs.declared.history.Outcome.{Outcome}
use Rattle.zl_code.specs.declared.history.Outcome.TheVariants as outcome
use Rattle.zl_code.specs.Image.{Library}
use Rattle.zl_code.specs.Instructions.{call_row}
use Rattle.zl_code.specs.Asked.{Operands, Given, operand_fields}
use Rattle.zl_code.specs.Tests.{answer_if, entry_at, object_at, body_of, may_change, has_room, has_koids, copy_of, is_too_large, has_place_for, peer_at, policy_in, queue_at, first_bytes, first_handles, sizes_of, info_of, entries_at}
use Rattle.zl_code.specs.Operands.{contains}
use Rattle.zl_code.specs.Effects.{on_object, on_process, with_object, with_process, new_entry, object_changed, message_sent, message_read, told_of, without_waits, signed_word}
use Rattle.zl_code.specs.Starting.{created_process, is_created, program_of, started_with}
use Rattle.zl_code.specs.Jobs.{is_dead, is_deepest, job_within, lacks_need, misfits, has_child, is_conflict, policy_changed, is_within, with_killed}
use Rattle.zl_code.specs.Waiting.{is_mask, active_at, is_active_at, signal_awaited, may_register, wait_of, registered, without_keyed, packets_at, is_full, packet_awaited, first_values, source_at, is_cancelled, packet_queued, packet_taken, packets_cancelled}

-- ---- what it asks for

-- a call by its name, with the values of its operands and what its last eight bytes give
pub data Request : Type 0 where
  ask : (n : CallName) → Operands (operand_fields (call_row n)) → Given (call_row n).ending → Request

-- its name
abbrev pub name_of : Request → CallName
name_of (ask n operands given) = n

-- Each call by the values of its operands; h is the value of a handle. A message has bytes of the memory and the handles hs of a list;
-- what is read goes to the address, and has room for so many bytes and handles. A packet that is cancelled came by the handle source.
-- Where a message is read into a slot array, that has room for so many handles.
-- A new process is to run the program with this number in the job; it starts with h and the word. A task is a process or a job.
-- Modes, conditions and actions are numbers.
pattern abbrev pub close : (h : ℕ) → Request
close h = ask name.Close (h, tt) tt

pattern abbrev pub dup : (h rights : ℕ) → Request
dup h rights = ask name.Dup (h, tt) rights

pattern abbrev pub replace : (h rights : ℕ) → Request
replace h rights = ask name.Replace (h, tt) rights

pattern abbrev pub chan_create : Request
chan_create = ask name.ChanCreate tt tt

pattern abbrev pub chan_write : (c : ℕ) (bytes hs : List ℕ) → Request
chan_write c bytes hs = ask name.ChanWrite (c, tt) (bytes, hs)

pattern abbrev pub chan_read_etc : (c address room places : ℕ) → Request
chan_read_etc c address room places = ask name.ChanReadEtc (c, (address, (room, tt))) places

pattern abbrev pub event_create : Request
event_create = ask name.EventCreate tt tt

pattern abbrev pub signal : (h clear set : ℕ) → Request
signal h clear set = ask name.Signal (h, (clear, (set, tt))) tt

pattern abbrev pub signal_peer : (h clear set : ℕ) → Request
signal_peer h clear set = ask name.SignalPeer (h, (clear, (set, tt))) tt

pattern abbrev pub wait_one : (h mask : ℕ) → Request
wait_one h mask = ask name.WaitOne (h, (mask, tt)) tt

pattern abbrev pub wait_poll : (h mask : ℕ) → Request
wait_poll h mask = ask name.WaitPoll (h, (mask, tt)) tt

pattern abbrev pub wait_async : (h port key mask : ℕ) → Request
wait_async h port key mask = ask name.WaitAsync (h, (port, (key, (mask, tt)))) tt

pattern abbrev pub port_create : Request
port_create = ask name.PortCreate tt tt

pattern abbrev pub port_queue : (port key value : ℕ) → Request
port_queue port key value = ask name.PortQueue (port, (key, (value, tt))) tt

pattern abbrev pub port_wait : (port : ℕ) → Request
port_wait port = ask name.PortWait (port, tt) tt

pattern abbrev pub port_poll : (port : ℕ) → Request
port_poll port = ask name.PortPoll (port, tt) tt

pattern abbrev pub port_cancel : (port source key : ℕ) → Request
port_cancel port source key = ask name.PortCancel (port, (source, (key, tt))) tt

pattern abbrev pub process_create : (job program : ℕ) → Request
process_create job program = ask name.ProcessCreate (job, (program, tt)) tt

pattern abbrev pub process_start : (process h word : ℕ) → Request
process_start process h word = ask name.ProcessStart (process, (h, (word, tt))) tt

pattern abbrev pub process_exit : (code : ℕ) → Request
process_exit code = ask name.ProcessExit (code, tt) tt

pattern abbrev pub task_kill : (task : ℕ) → Request
task_kill task = ask name.TaskKill (task, tt) tt

pattern abbrev pub job_create : (j : ℕ) → Request
job_create j = ask name.JobCreate (j, tt) tt

pattern abbrev pub job_set_policy : (j mode condition action : ℕ) → Request
job_set_policy j mode condition action = ask name.JobSetPolicy (j, (mode, (condition, (action, tt)))) tt

pattern abbrev pub eventpair_create : Request
eventpair_create = ask name.EventpairCreate tt tt

pattern abbrev pub chan_write_slots : (c : ℕ) (bytes hs : List ℕ) → Request
chan_write_slots c bytes hs = ask name.ChanWriteSlots (c, tt) (bytes, hs)

pattern abbrev pub chan_read_slots : (c address room array places : ℕ) → Request
chan_read_slots c address room array places = ask name.ChanReadSlots (c, (address, (room, tt))) (array, places)

pattern abbrev pub handle_info : (h : ℕ) → Request
handle_info h = ask name.HandleInfo (h, tt) tt

-- ---- how it is refused

-- how the message is refused at the channel end
abbrev pub send_refused : World → ℕ → ℕ → List ℕ → List ℕ → List (Option Outcome)
send_refused w p c bytes hs =
    answer_if (contains hs c) status.NotSupported
    ∷ answer_if (is_too_large bytes hs) status.OutOfRange
    ∷ answer_if (not (has_key w.objects (peer_at w p c))) status.PeerClosed
    ∷ []

-- how reading is refused at the channel end, with room for so many bytes and handles
abbrev pub read_refused : World → ℕ → ℕ → ℕ → ℕ → List (Option Outcome)
read_refused w p c room places =
    answer_if (is_empty (queue_at w p c) && not (has_key w.objects (peer_at w p c))) status.PeerClosed
    ∷ answer_if (is_empty (queue_at w p c)) status.ShouldWait
    ∷ answer_if (not (has_place_for room places (queue_at w p c))) status.BufferTooSmall
    ∷ answer_if (not (has_room w p (length (first_handles (queue_at w p c))))) status.NoResources
    ∷ []

-- the listed answers in their order; here each handle operand is live, of its kind and with its rights
unfoldable pub listed : Library → World → ℕ → Request → List (Option Outcome)
listed lib w p (close h) = []
listed lib w p (dup h rights) =
    answer_if (is_empty (copy_of (entry_at w p h) rights)) status.InvalidArgs
    ∷ answer_if (not (has_room w p 1) || nat_le (2 ^ 62) (handles_to w (object_at w p h))) status.NoResources
    ∷ []
listed lib w p (replace h rights) =
    answer_if (is_empty (copy_of (entry_at w p h) rights)) status.InvalidArgs
    ∷ []
listed lib w p chan_create =
    answer_if (not (has_room w p 2 && has_koids w 2)) status.NoResources
    ∷ []
listed lib w p (chan_write c bytes hs) = send_refused w p c bytes hs
listed lib w p (chan_read_etc c address room places) = read_refused w p c room places
listed lib w p event_create =
    answer_if (not (has_room w p 1 && has_koids w 1)) status.NoResources
    ∷ []
listed lib w p (signal h clear set) =
    answer_if (not (may_change (body_of w (object_at w p h)) clear set)) status.InvalidArgs
    ∷ []
listed lib w p (signal_peer h clear set) =
    answer_if (not (may_change (body_of w (object_at w p h)) clear set)) status.InvalidArgs
    ∷ answer_if (not (has_key w.objects (peer_at w p h))) status.PeerClosed
    ∷ []
listed lib w p (wait_one h mask) =
    answer_if (not (is_mask mask)) status.InvalidArgs
    ∷ []
listed lib w p (wait_poll h mask) =
    answer_if (not (is_mask mask)) status.InvalidArgs
    ∷ answer_if (not (is_active_at w p h mask)) status.TimedOut
    ∷ []
listed lib w p (wait_async h port key mask) =
    answer_if (not (is_mask mask)) status.InvalidArgs
    ∷ answer_if (not (may_register w)) status.NoResources
    ∷ []
listed lib w p port_create =
    answer_if (not (has_room w p 1 && has_koids w 1)) status.NoResources
    ∷ []
listed lib w p (port_queue port key value) =
    answer_if (is_full (packets_at w p port)) status.ShouldWait
    ∷ []
listed lib w p (port_wait port) = []
listed lib w p (port_poll port) =
    answer_if (is_empty (packets_at w p port)) status.TimedOut
    ∷ []
listed lib w p (port_cancel port source key) =
    answer_if (not (is_cancelled w p port source key)) status.NotFound
    ∷ []
listed lib w p (process_create job program) =
    answer_if (not (is_some (slice_get lib program))) status.InvalidArgs
    ∷ answer_if (is_dead (body_of w (object_at w p job))) status.BadState
    ∷ answer_if (lacks_need w (object_at w p job) (slice_get lib program)) status.NotSupported
    ∷ answer_if (not (has_room w p 1 && has_koids w 1)) status.NoResources
    ∷ []
listed lib w p (process_start process h word) =
    answer_if (not (is_process w is_created (object_at w p process))) status.BadState
    ∷ answer_if (misfits (program_of lib w (object_at w p process)) (entry_at w p h)) status.InvalidArgs
    ∷ []
listed lib w p (process_exit code) = []
listed lib w p (task_kill task) = []
listed lib w p (job_create j) =
    answer_if (is_deepest (body_of w (object_at w p j))) status.OutOfRange
    ∷ answer_if (is_dead (body_of w (object_at w p j))) status.BadState
    ∷ answer_if (not (has_room w p 1 && has_koids w 1)) status.NoResources
    ∷ []
listed lib w p (job_set_policy j mode condition action) =
    answer_if (not (is_some (setting_of mode condition action))) status.InvalidArgs
    ∷ answer_if (is_dead (body_of w (object_at w p j)) || has_child w (object_at w p j)) status.BadState
    ∷ answer_if (is_conflict (policy_in (body_of w (object_at w p j))) (setting_of mode condition action)) status.AlreadyExists
    ∷ []
listed lib w p eventpair_create =
    answer_if (not (has_room w p 2 && has_koids w 2)) status.NoResources
    ∷ []
listed lib w p (chan_write_slots c bytes hs) = send_refused w p c bytes hs
listed lib w p (chan_read_slots c address room array places) = read_refused w p c room places
listed lib w p (handle_info h) = []

-- ---- the handles that it makes

-- the handles that enter a table: the caller's, or that of the process that it starts
unfoldable pub new_handles : World → ℕ → Request → List Entry
new_handles w p (dup h rights) = copy_of (entry_at w p h) rights
new_handles w p (replace h rights) = copy_of (entry_at w p h) rights
new_handles w p chan_create = new_entry w.next_koid kind.Channel ∷ new_entry (w.next_koid + 1) kind.Channel ∷ []
new_handles w p (chan_read_etc c address room places) = first_handles (queue_at w p c)
new_handles w p event_create = new_entry w.next_koid kind.Event ∷ []
new_handles w p port_create = new_entry w.next_koid kind.Port ∷ []
new_handles w p (process_create job program) = new_entry w.next_koid kind.Process ∷ []
new_handles w p (process_start process h word) = option_to_list (entry_at w p h)
new_handles w p (job_create j) = new_entry w.next_koid kind.Job ∷ []
new_handles w p eventpair_create = new_entry w.next_koid kind.Eventpair ∷ new_entry (w.next_koid + 1) kind.Eventpair ∷ []
new_handles w p (chan_read_slots c address room array places) = first_handles (queue_at w p c)
new_handles w p _ = []

-- the process whose table new handles enter
abbrev pub receiver_of : World → ℕ → Request → ℕ
receiver_of w p (process_start process h word) = object_at w p process
receiver_of w p request = p

-- the new handles whose values may be chosen: all but that of replace, which keeps the value
abbrev pub choosing : World → ℕ → Request → List Entry
choosing w p (replace h rights) = []
choosing w p request = new_handles w p request

-- the values at which new handles enter, where the chosen ones are vs
abbrev pub entering_at : Request → List ℕ → List ℕ
entering_at (replace h rights) vs = h ∷ []
entering_at request vs = vs

-- ---- what it does

-- What the call does beside taking handles away, giving handles and writing registers, where it is answered OK.
-- w is the world before it; taken is that world without the operands that are always consumed; vs are the values of the new handles.
unfoldable pub effect : Library → World → World → ℕ → Request → (vs : List ℕ) → World
effect lib w taken p (close h) vs = taken
effect lib w taken p (dup h rights) vs = taken
effect lib w taken p (replace h rights) vs = without_waits taken p h
effect lib w taken p chan_create vs =
    with_object (with_object taken (ChannelEnd (w.next_koid + 1) [])) (ChannelEnd w.next_koid [])
effect lib w taken p (chan_write c bytes hs) vs =
    on_object taken (peer_at w p c) (message_sent (record { bytes = bytes; handles = entries_at w p hs }))
effect lib w taken p (chan_read_etc c address room places) vs = on_object taken (object_at w p c) message_read
effect lib w taken p event_create vs = with_object taken EventBody
effect lib w taken p (signal h clear set) vs = on_object taken (object_at w p h) (object_changed clear set)
effect lib w taken p (signal_peer h clear set) vs = on_object taken (peer_at w p h) (object_changed clear set)
effect lib w taken p (wait_one h mask) vs = taken
effect lib w taken p (wait_poll h mask) vs = taken
effect lib w taken p (wait_async h port key mask) vs = registered taken (wait_of w p h port key mask)
effect lib w taken p port_create vs = with_object taken (PortBody [])
effect lib w taken p (port_queue port key value) vs = on_object taken (object_at w p port) (packet_queued key value)
effect lib w taken p (port_wait port) vs = on_object taken (object_at w p port) packet_taken
effect lib w taken p (port_poll port) vs = on_object taken (object_at w p port) packet_taken
effect lib w taken p (port_cancel port source key) vs =
    on_object (without_keyed taken p source (object_at w p port) key) (object_at w p port) (packets_cancelled (source_at w p source) key)
effect lib w taken p (process_create job program) vs =
    with_process (with_object taken (ProcessBody (object_at w p job))) w.next_koid (created_process lib program)
effect lib w taken p (process_start process h word) vs = on_process taken (object_at w p process) (started_with vs word)
effect lib w taken p (process_exit code) vs = taken
effect lib w taken p (task_kill task) vs = with_killed taken (object_at w p task)
effect lib w taken p (job_create j) vs = with_object taken (job_within (object_at w p j) (body_of w (object_at w p j)))
effect lib w taken p (job_set_policy j mode condition action) vs =
    on_object taken (object_at w p j) (policy_changed (setting_of mode condition action))
effect lib w taken p eventpair_create vs = with_object (with_object taken (PairEnd (w.next_koid + 1))) (PairEnd w.next_koid)
effect lib w taken p (chan_write_slots c bytes hs) vs =
    on_object taken (peer_at w p c) (message_sent (record { bytes = bytes; handles = entries_at w p hs }))
effect lib w taken p (chan_read_slots c address room array places) vs = on_object taken (object_at w p c) message_read
effect lib w taken p (handle_info h) vs = taken

-- the bytes that the call stores in its caller's memory, and the address of the first
abbrev pub stored_by : World → ℕ → Request → ℕ × List ℕ
stored_by w p (chan_read_etc c address room places) = (address, first_bytes (queue_at w p c))
stored_by w p (chan_read_slots c address room array places) = (address, first_bytes (queue_at w p c))
stored_by w p request = (0, [])

-- the values that the call keeps in a slot array of its caller from the first place on, behind the array's number
abbrev pub kept_by : Request → List ℕ → Option (ℕ × List ℕ)
kept_by (chan_read_slots c address room array places) vs = Some (array, vs)
kept_by request vs = None

-- ---- what its answer gives, and how it ends

-- the values of the destinations behind the status, where the call is answered OK and vs were chosen
unfoldable pub gives_ok : World → ℕ → Request → List ℕ → List ℕ
gives_ok w p (replace h rights) vs = h ∷ []
gives_ok w p (chan_read_etc c address room places) vs = sizes_of (queue_at w p c) ++ told_of (first_handles (queue_at w p c)) vs
gives_ok w p (wait_one h mask) vs = active_at w p h ∷ []
gives_ok w p (wait_poll h mask) vs = active_at w p h ∷ []
gives_ok w p (port_wait port) vs = first_values (packets_at w p port)
gives_ok w p (port_poll port) vs = first_values (packets_at w p port)
gives_ok w p (process_start process h word) vs = []
gives_ok w p (chan_read_slots c address room array places) vs = sizes_of (queue_at w p c)
gives_ok w p (handle_info h) vs = info_of (entry_at w p h)
gives_ok w p request vs = vs

-- the same where it is refused with the status
unfoldable pub gives_refused : World → ℕ → Request → Status → List ℕ
gives_refused w p (chan_read_etc c address room places) status.BufferTooSmall = sizes_of (queue_at w p c)
gives_refused w p (chan_read_slots c address room array places) status.BufferTooSmall = sizes_of (queue_at w p c)
gives_refused w p (wait_poll h mask) status.TimedOut = active_at w p h ∷ []
gives_refused w p request answer = []

-- what the caller waits for, if the call blocks
abbrev pub awaited_by : World → ℕ → Request → Option Awaited
awaited_by w p (wait_one h mask) = signal_awaited w p h mask
awaited_by w p (port_wait port) = packet_awaited (object_at w p port) (packets_at w p port)
awaited_by w p request = None

-- the code with which the call ends its caller, if it does: that of its exit, or that of the killed
abbrev pub ends_caller : World → ℕ → Request → Option ℤ
ends_caller w p (process_exit code) = Some (signed_word code)
ends_caller w p (task_kill task) = then_some (is_within w.objects (object_at w p task) p) KILLED
ends_caller w p request = None

-- how a call ends that isn't refused: it blocks if there is something to wait for, or ends its caller, and else is answered OK
abbrev pub outcome_of : Option Awaited → Option ℤ → Outcome
outcome_of (Some awaited) ends = outcome.Blocked
outcome_of None (Some code) = outcome.Ended code
outcome_of None None = outcome.Answered status.Ok
