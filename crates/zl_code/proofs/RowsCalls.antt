-- Each cause of each call, by computation in small worlds.
use Rattle.zl_code.proofs.Common.{Action, CallInstr, Choice, Condition, DUPLICATE, Ended, IsTrue, Kind, None, Option, READABLE, Refused, SAME_RIGHTS, SIGNAL}
use Rattle.zl_code.proofs.Common.{SIGNALED, Some, TERMINATED, Values, Wants, World, [], active, and_parts, body_of, close, condition_number, dup, effect}
use Rattle.zl_code.proofs.Common.{eqb-true, event_create, false, has_key, kind_of, may_choose, negsuc, ok_outcome, option_map, pos, process_exit, refl, signal}
use Rattle.zl_code.proofs.Common.{table_of, true, ℕ, ◌+◌, ◌-◌, ◌==◌, ◌^◌, ◌∷◌, ◌≡◌}
use Rattle.zl_rights.specs.declared.kind.Kind.TheVariants as kind
use Rattle.zl_rights.specs.declared.status.Status.TheVariants as status
use Rattle.zl_rights.specs.declared.policy.Action.TheVariants as action
use Rattle.zl_rights.specs.declared.policy.Condition.TheVariants as condition
use Rattle.zl_code.specs.declared.instr.Instr.TheVariants as instr
use Rattle.zl_code.specs.declared.history.CallName.TheVariants as name
use Rattle.zl_code.specs.declared.history.Outcome.TheVariants as outcome
use Rattle.zl_code.specs.declared.history.TraceItem.TheVariants as item
use Rattle.zl_code.proofs.Running.{Acted, step_by, computing}
use Rattle.zl_code.proofs.RowsWords.{Refuses, Passes, world_of, process_of, event_with, job_with, FIRST_RIGHTS, times, program_of, told, after, state_of}
use Rattle.zl_code.proofs.RowsWords.{last_of}
use Rattle.zl_code.proofs.Called.{called}

-- ---- the words of the rows

-- the kind of object 1
abbrev kind_at_1 : World → Option Kind
kind_at_1 w = option_map kind_of (body_of w 1)

-- process 2 does the call, with this choice
abbrev turn : CallInstr → World → Choice → Acted
turn i w choice = step_by (program_of (instr.Call i ∷ [])) w 2 choice

-- process 2 has no handle; register 1 is 5, and 9 stands where answers go
abbrev bare : World
bare = world_of [] (process_of (9 ∷ 5 ∷ 9 ∷ []) [] None)

-- the same under a policy
abbrev bare_under : Condition → Action → World
bare_under = λ c a. world_of ((condition_number c, a) ∷ []) (process_of (9 ∷ 5 ∷ 9 ∷ []) [] None)

-- process 2 has a handle with these rights to event 3 at the value 7, which stands in register 1; 9 stands where answers go
abbrev with_rights : ℕ → World
with_rights = λ rights. world_of [] (process_of (9 ∷ 7 ∷ 9 ∷ []) ((7, event_with rights) ∷ []) None)

-- process 2 has so many handles to event 3, with all rights of an event
abbrev with_many : ℕ → World
with_many = λ n. world_of [] (process_of (9 ∷ 7 ∷ 9 ∷ []) (times n (event_with FIRST_RIGHTS)) None)

-- ---- close

rows_of_close :
    -- The value 5 isn't live.
    (Refuses bare (close 5) (outcome.Answered status.BadHandle))
    -- The status goes to its register, and the closed register becomes 0 all the same.
    × (told (turn (called name.Close (0 ∷ 1 ∷ []) 0) bare Refused)
    ≡ Some (item.Call 2 name.Close (outcome.Answered status.BadHandle), 11 ∷ 0 ∷ 9 ∷ 0 ∷ 0 ∷ 0 ∷ []))
    -- A value that isn't live isn't the value removed last.
    × (last_of (after bare (turn (called name.Close (0 ∷ 1 ∷ []) 0) bare Refused)) 2 ≡ None)
    -- 0 is no handle, and closing it is no fault.
    × (Passes bare (close 0))
    -- Closing 0 is answered OK.
    × (told (turn (called name.Close (0 ∷ 3 ∷ []) 0) bare (Values []))
    ≡ Some (item.Call 2 name.Close (outcome.Answered status.Ok), 0 ∷ 5 ∷ 9 ∷ 0 ∷ 0 ∷ 0 ∷ []))
    -- Where the policy kills for a bad handle, the process ends with -1026.
    × (Refuses (bare_under condition.BadHandle action.Kill) (close 5) (outcome.Ended (negsuc 1025)))
    -- It has ended then.
    × (state_of (after bare (turn (called name.Close (0 ∷ 1 ∷ []) 0) (bare_under condition.BadHandle action.Kill) Refused)) 2 ≡ Some (Ended (negsuc 1025)))
    -- A policy that denies changes nothing at a bad handle.
    × (Refuses (bare_under condition.BadHandle action.Deny) (close 5) (outcome.Answered status.BadHandle))
    -- Closing 0 is no bad handle under such a policy either.
    × (Passes (bare_under condition.BadHandle action.Kill) (close 0))
    -- A handle without any right may be closed.
    × (Passes (with_rights 0) (close 7))
    -- Closing a live handle is answered OK, and its register becomes 0.
    × (told (turn (called name.Close (0 ∷ 1 ∷ []) 0) (with_rights 0) (Values []))
    ≡ Some (item.Call 2 name.Close (outcome.Answered status.Ok), 0 ∷ 0 ∷ 9 ∷ 0 ∷ 0 ∷ 0 ∷ []))
    -- Where the status goes to the closed register, the status stands.
    × (told (turn (called name.Close (1 ∷ 1 ∷ []) 0) bare Refused)
    ≡ Some (item.Call 2 name.Close (outcome.Answered status.BadHandle), 9 ∷ 11 ∷ 9 ∷ 0 ∷ 0 ∷ 0 ∷ []))
unfolding computing
rows_of_close = (refl, refl, refl, refl, refl, refl, refl, refl, refl, refl, refl, refl)

-- the world after the close of 7
abbrev closed : World
closed = after bare (turn (called name.Close (0 ∷ 1 ∷ []) 0) (with_rights 0) (Values []))

rows_of_close_2 :
    -- The closed value is the value removed last.
    (last_of closed 2 ≡ Some 7)
    -- No handle names event 3 any more, so it is gone.
    × (has_key closed.objects 3 ≡ false)
    -- The next event may get the value 7.
    × (may_choose closed closed 2 event_create (7 ∷ []) ≡ true)
    -- It may not get the value 8.
    × (may_choose closed closed 2 event_create (8 ∷ []) ≡ false)
unfolding computing
rows_of_close_2 = (refl, refl, refl, refl)

-- It may get no value but 7.
closed_only : (v : ℕ) → IsTrue (may_choose closed closed 2 event_create (v ∷ [])) → v ≡ 7
unfolding computing
closed_only v chosen = eqb-true v 7 (and_parts (v == 7) true chosen).0

-- ---- dup

rows_of_dup :
    -- The value 5 isn't live.
    (Refuses bare (dup 5 SAME_RIGHTS) (outcome.Answered status.BadHandle))
    -- The status goes to its register, and the register of the copy becomes 0.
    × (told (turn (called name.Dup (0 ∷ 1 ∷ 2 ∷ []) SAME_RIGHTS) bare Refused)
    ≡ Some (item.Call 2 name.Dup (outcome.Answered status.BadHandle), 11 ∷ 5 ∷ 0 ∷ 0 ∷ 0 ∷ 0 ∷ []))
    -- 0 is no handle, and only close takes it.
    × (Refuses bare (dup 0 SAME_RIGHTS) (outcome.Answered status.BadHandle))
    -- Where the policy kills for a bad handle, the process ends with -1026.
    × (Refuses (bare_under condition.BadHandle action.Kill) (dup 5 SAME_RIGHTS) (outcome.Ended (negsuc 1025)))
    -- The handle has no right to duplicate.
    × (Refuses (with_rights SIGNAL) (dup 7 SAME_RIGHTS) (outcome.Answered status.AccessDenied))
    -- The handle stays.
    × (told (turn (called name.Dup (0 ∷ 1 ∷ 2 ∷ []) SAME_RIGHTS) (with_rights SIGNAL) Refused)
    ≡ Some (item.Call 2 name.Dup (outcome.Answered status.AccessDenied), 30 ∷ 7 ∷ 0 ∷ 0 ∷ 0 ∷ 0 ∷ []))
    -- A copy can't have a right that the handle hasn't.
    × (Refuses (with_rights DUPLICATE) (dup 7 SIGNAL) (outcome.Answered status.InvalidArgs))
    -- The mark for the same rights stands alone.
    × (Refuses (with_rights FIRST_RIGHTS) (dup 7 0x8000_0001) (outcome.Answered status.InvalidArgs))
    -- A copy may have a part of the rights.
    × (Passes (with_rights FIRST_RIGHTS) (dup 7 SIGNAL))
    -- A copy may have no right.
    × (Passes (with_rights FIRST_RIGHTS) (dup 7 0))
    -- The table has 1,024 handles.
    × (Refuses (with_many 1024) (dup 7 SAME_RIGHTS) (outcome.Answered status.NoResources))
    -- There is room for one more beside 1,023 handles.
    × (Passes (with_many 1023) (dup 7 SAME_RIGHTS))
    -- The missing right comes before the wrong rights.
    × (Refuses (with_rights SIGNAL) (dup 7 DUPLICATE) (outcome.Answered status.AccessDenied))
    -- The wrong rights come before the full table.
    × (Refuses (with_many 1024) (dup 7 0x1_0000) (outcome.Answered status.InvalidArgs))
    -- The bad handle comes before the wrong rights and the full table.
    × (Refuses (with_many 1024) (dup 2000 0x1_0000) (outcome.Answered status.BadHandle))
    -- A copy gets a value that isn't used.
    × (told (turn (called name.Dup (0 ∷ 1 ∷ 2 ∷ []) SIGNAL) (with_rights FIRST_RIGHTS) (Values (65535 ∷ [])))
    ≡ Some (item.Call 2 name.Dup (outcome.Answered status.Ok), 0 ∷ 7 ∷ 65535 ∷ 0 ∷ 0 ∷ 0 ∷ []))
    -- The copy has the rights that were asked for, and the handle keeps its own.
    × (table_of (after bare (turn (called name.Dup (0 ∷ 1 ∷ 2 ∷ []) SIGNAL) (with_rights FIRST_RIGHTS) (Values (65535 ∷ [])))) 2
    ≡ (7, event_with FIRST_RIGHTS) ∷ (65535, event_with SIGNAL) ∷ [])
    -- No copy gets a value that is used.
    × (may_choose (with_rights FIRST_RIGHTS) (with_rights FIRST_RIGHTS) 2 (dup 7 SIGNAL) (7 ∷ []) ≡ false)
    -- No copy gets the value 0.
    × (may_choose (with_rights FIRST_RIGHTS) (with_rights FIRST_RIGHTS) 2 (dup 7 SIGNAL) (0 ∷ []) ≡ false)
    -- No copy gets a value above 65,535.
    × (may_choose (with_rights FIRST_RIGHTS) (with_rights FIRST_RIGHTS) 2 (dup 7 SIGNAL) (65536 ∷ []) ≡ false)
    -- Where memory is wanted, no handle is made.
    × (told (turn (called name.Dup (0 ∷ 1 ∷ 2 ∷ []) SIGNAL) (with_rights FIRST_RIGHTS) (Wants status.NoMemory))
    ≡ Some (item.Call 2 name.Dup (outcome.Answered status.NoMemory), 4 ∷ 7 ∷ 0 ∷ 0 ∷ 0 ∷ 0 ∷ []))
    -- No place is ever wanted: the listed test tells whether there is one.
    × (told (turn (called name.Dup (0 ∷ 1 ∷ 2 ∷ []) SIGNAL) (with_rights FIRST_RIGHTS) (Wants status.NoResources)) ≡ None)
    -- There is no other want.
    × (told (turn (called name.Dup (0 ∷ 1 ∷ 2 ∷ []) SIGNAL) (with_rights FIRST_RIGHTS) (Wants status.BadState)) ≡ None)
unfolding computing
rows_of_dup = (refl, refl, refl, refl, refl, refl, refl, refl, refl, refl, refl, refl, refl, refl, refl, refl, refl, refl, refl, refl, refl, refl, refl)

-- ---- event_create

rows_of_event_create :
    -- Nothing stands against it.
    (Passes bare event_create)
    -- The policy denies new events.
    × (Refuses (bare_under condition.NewEvent action.Deny) event_create (outcome.Answered status.AccessDenied))
    -- The register of the event becomes 0.
    × (told (turn (called name.EventCreate (0 ∷ 1 ∷ []) 0) (bare_under condition.NewEvent action.Deny) Refused)
    ≡ Some (item.Call 2 name.EventCreate (outcome.Answered status.AccessDenied), 30 ∷ 0 ∷ 9 ∷ 0 ∷ 0 ∷ 0 ∷ []))
    -- The policy kills for new events.
    × (Refuses (bare_under condition.NewEvent action.Kill) event_create (outcome.Ended (negsuc 1025)))
    -- It has ended then.
    × (state_of (after bare (turn (called name.EventCreate (0 ∷ 1 ∷ []) 0) (bare_under condition.NewEvent action.Kill) Refused)) 2 ≡ Some (Ended (negsuc 1025)))
    -- A policy that allows new events.
    × (Passes (bare_under condition.NewEvent action.Allow) event_create)
    -- A policy for new channels says nothing of events.
    × (Passes (bare_under condition.NewChannel action.Kill) event_create)
    -- The table has 1,024 handles.
    × (Refuses (with_many 1024) event_create (outcome.Answered status.NoResources))
    -- There is room for one more beside 1,023 handles.
    × (Passes (with_many 1023) event_create)
    -- All koids below 2^62 are given.
    × (Refuses (record bare { next_koid = 2 ^ 62 }) event_create (outcome.Answered status.NoResources))
    -- The last koid below 2^62 is left.
    × (Passes (record bare { next_koid = 2 ^ 62 - 1 }) event_create)
    -- The policy comes before the koids.
    × (Refuses (record (bare_under condition.NewEvent action.Deny) { next_koid = 2 ^ 62 }) event_create (outcome.Answered status.AccessDenied))
    -- The policy that kills comes before the koids too.
    × (Refuses (record (bare_under condition.NewEvent action.Kill) { next_koid = 2 ^ 62 }) event_create (outcome.Ended (negsuc 1025)))
    -- The policy comes before the full table.
    × (Refuses (world_of ((condition_number condition.NewEvent, action.Deny) ∷ []) (process_of [] (times 1024 (event_with FIRST_RIGHTS)) None)) event_create
    (outcome.Answered status.AccessDenied))
    -- The event's handle gets a value that isn't used.
    × (told (turn (called name.EventCreate (0 ∷ 1 ∷ []) 0) bare (Values (6 ∷ [])))
    ≡ Some (item.Call 2 name.EventCreate (outcome.Answered status.Ok), 0 ∷ 6 ∷ 9 ∷ 0 ∷ 0 ∷ 0 ∷ []))
    -- It names object 4, the next koid, with the rights of a first handle.
    × (table_of (after bare (turn (called name.EventCreate (0 ∷ 1 ∷ []) 0) bare (Values (6 ∷ [])))) 2
    ≡ (6, record (event_with FIRST_RIGHTS) { koid = 4 }) ∷ [])
unfolding computing
rows_of_event_create = (refl, refl, refl, refl, refl, refl, refl, refl, refl, refl, refl, refl, refl, refl, refl, refl)

-- Where the next koid is that of an object, here of the job, the event would take its place:
-- so the laws of koids ask that each object's koid was given.
create_at_used_koid : kind_at_1 (after bare (turn (called name.EventCreate (0 ∷ 1 ∷ []) 0) (record bare { next_koid = 1 }) (Values (6 ∷ [])))) ≡ Some kind.Event
unfolding computing
create_at_used_koid = refl

-- ---- signal

rows_of_signal :
    -- The value 5 isn't live.
    (Refuses bare (signal 5 0 SIGNALED) (outcome.Answered status.BadHandle))
    -- 0 is no handle.
    × (Refuses bare (signal 0 0 SIGNALED) (outcome.Answered status.BadHandle))
    -- Where the policy kills for a bad handle, the process ends with -1026.
    × (Refuses (bare_under condition.BadHandle action.Kill) (signal 5 0 SIGNALED) (outcome.Ended (negsuc 1025)))
    -- The handle has no right to signal.
    × (Refuses (with_rights DUPLICATE) (signal 7 0 SIGNALED) (outcome.Answered status.AccessDenied))
    -- No call sets READABLE.
    × (Refuses (with_rights SIGNAL) (signal 7 0 READABLE) (outcome.Answered status.InvalidArgs))
    -- No call clears READABLE.
    × (Refuses (with_rights SIGNAL) (signal 7 READABLE 0) (outcome.Answered status.InvalidArgs))
    -- There is no signal above 32 bits.
    × (Refuses (with_rights SIGNAL) (signal 7 0 0x1_0000_0000) (outcome.Answered status.InvalidArgs))
    -- The missing right comes before the wrong signals.
    × (Refuses (with_rights DUPLICATE) (signal 7 0 READABLE) (outcome.Answered status.AccessDenied))
    -- SIGNALED and the eight user signals may be set and cleared at an event.
    × (Passes (with_rights SIGNAL) (signal 7 0xff00_0008 0xff00_0008))
unfolding computing
rows_of_signal = (refl, refl, refl, refl, refl, refl, refl, refl, refl)

-- process 2 has a handle with all rights of a job to job 1 at the value 7
abbrev with_job : World
with_job = world_of [] (process_of [] ((7, job_with 0x3_d60f) ∷ []) None)

rows_of_signal_2 :
    -- A job ends by itself alone, so no call sets that signal.
    (Refuses with_job (signal 7 0 TERMINATED) (outcome.Answered status.InvalidArgs))
    -- The user signals may be set at a job.
    × (Passes with_job (signal 7 0 0x100_0000))
    -- The answer is a status alone.
    × (told (turn (called name.Signal (0 ∷ 1 ∷ 3 ∷ 4 ∷ []) 0)
    (record bare { processes = (2, process_of (9 ∷ 7 ∷ 9 ∷ 0 ∷ SIGNALED ∷ []) ((7, event_with SIGNAL) ∷ []) None) ∷ [] }) (Values []))
    ≡ Some (item.Call 2 name.Signal (outcome.Answered status.Ok), 0 ∷ 7 ∷ 9 ∷ 0 ∷ 8 ∷ 0 ∷ []))
    -- What is cleared and set stays set, as set comes last.
    × (active (effect [] (with_rights SIGNAL) (with_rights SIGNAL) 2 (signal 7 SIGNALED SIGNALED) []) 3 ≡ SIGNALED)
unfolding computing
rows_of_signal_2 = (refl, refl, refl, refl)

-- ---- process_exit

rows_of_process_exit :
    -- Nothing stands against it.
    (Passes bare (process_exit 5))
    -- The code 0xffff_ffff is -1.
    × (ok_outcome bare 2 (process_exit 0xffff_ffff) ≡ outcome.Ended (negsuc 0))
    -- Of the code 2^32 + 5 the low 32 bits count.
    × (ok_outcome bare 2 (process_exit (2 ^ 32 + 5)) ≡ outcome.Ended (pos 5))
    -- The least code is -2^31.
    × (ok_outcome bare 2 (process_exit 0x8000_0000) ≡ outcome.Ended (negsuc 2147483647))
    -- The largest code is 2^31 - 1.
    × (ok_outcome bare 2 (process_exit 0x7fff_ffff) ≡ outcome.Ended (pos 2147483647))
    -- The process has ended with the code of its register.
    × (state_of (after bare (turn (called name.ProcessExit (1 ∷ []) 0) bare (Values []))) 2 ≡ Some (Ended (pos 5)))
    -- Its handles are closed, so the event goes, and its job too, which nothing else keeps.
    × ((after bare (turn (called name.ProcessExit (1 ∷ []) 0) (with_rights FIRST_RIGHTS) (Values []))).objects ≡ [])
unfolding computing
rows_of_process_exit = (refl, refl, refl, refl, refl, refl, refl)
