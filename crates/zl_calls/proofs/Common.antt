-- The names that most proofs of this crate cite, passed on from one place. Declares nothing.
pub use Rattle.zl_calls.specs.Own.{DoesOwn, FreeBy, IsOwnDone, StepsOwn, living, own_beside}
pub use Rattle.zl_calls.specs.Registered.{AreBeside, EndsOwn, EndsUnheld, EndsWaits, FiresWaits, KeepsListed, KeepsWithout, ListsBut, ListsWithout, is_left}
pub use Rattle.zl_calls.specs.Registered.{stays_but, world_left}
pub use Rattle.zl_code.proofs.Common.{Acts, All, All-append, All-cons, All-filter, All-head, All-nil, All-tail, AtCall, Blocked, Body as BodyValue, Bool, Boots}
pub use Rattle.zl_code.proofs.Common.{Calls, ChannelEnd, Choice, Cpu, Created, DUPLICATE, Ended, Err, EventBody, FirstFault, Gone, IfNone, IfOk, IfSome, Image}
pub use Rattle.zl_code.proofs.Common.{IsBoot, IsSome, IsSound, IsStuck, IsTrue, JobBody, Koids, Library, List, MOST_ITEMS, Map, Moves, Next, None}
pub use Rattle.zl_code.proofs.Common.{Object as ObjectValue, Ok, OnOk, Option, PortBody, Process as ProcessValue, ProcessBody, Program, Ready, Refused, Request}
pub use Rattle.zl_code.proofs.Common.{Result, Row, Runs, SIGNAL, STUCK, Settles, Site, Some, State as StateValue, Step, Values, Wants, World, [], after_ok}
pub use Rattle.zl_code.proofs.Common.{after_refusal, and_from, and_parts, answer_if, any, ap, append-nil, append_assoc, arith, at_limit, at_statement}
pub use Rattle.zl_code.proofs.Common.{below_all, bit_and, bits, body_in, body_of, call_row, calls_at, cases_Bool, cases_lt, chan_create, chan_read_etc}
pub use Rattle.zl_code.proofs.Common.{chan_write, close, cond, consumes, contains, copy_of, count_by, cpu_answered, default_rights_of, dup, entry_at, eq-eqb}
pub use Rattle.zl_code.proofs.Common.{eqb-true, event_create, false, false≢true, first_some, flat_map, get-each, get-where_key-in, get_or, get_or-map, grows}
pub use Rattle.zl_code.proofs.Common.{handles_in, has_default_rights, has_key, if◌then◌else◌, inl, inr, is_blocked, is_empty, is_job_body, is_port_there}
pub use Rattle.zl_code.proofs.Common.{is_ready, is_some, is_sorted, kind_of, length, length-map, list_any, lives, lt-ltb, map, map-append, may_boot, may_get}
pub use Rattle.zl_code.proofs.Common.{may_get_after, meets, names_its_object, narrowed, nat_cmp, nat_le, nat_lt, nat_tests, ne_eqb, next_for, none-some, not}
pub use Rattle.zl_code.proofs.Common.{number_at, option_map, option_or, or_left, or_right, origin, pid_of, position, process_exit, process_settled}
pub use Rattle.zl_code.proofs.Common.{process_with, process_without, queue_of, refl, replace, replicate, rights_of, rules, runs, same_Some, set, signal, site}
pub use Rattle.zl_code.proofs.Common.{slice_get, slice_get-get_or, slice_index, slice_index_or, slice_set, state_passes, subst, suc, sum_by, sum_by-cons, sym}
pub use Rattle.zl_code.proofs.Common.{table_of, take, take-append-drop, take_all, take_more, taken, then_some, true, true≢false, with_effect, with_rights}
pub use Rattle.zl_code.proofs.Common.{within, zero, ℕ, ℤ, ⊤, ◌&&◌, ◌*◌, ◌++◌, ◌+◌, ◌-◌, ◌<◌, ◌==◌, ◌^◌, ◌||◌, ◌∙◌, ◌∷◌, ◌≡◌, ◌≢◌, ◌≤◌, ◌⊎◌}
unfoldable pub use Rattle.zl_code.proofs.Common.{active, answered, boot_effect, boot_fault, each, effect, ended, examined, fired, get, gives_ok, gives_refused}
unfoldable pub use Rattle.zl_code.proofs.Common.{handle_operands, handles_to, has_child_job, has_child_process, has_koids, has_room, in_queue, in_table}
unfoldable pub use Rattle.zl_code.proofs.Common.{insert_all, is_held, is_process, listed, local_effect, may_choose, new_handles, next_at, on_process, operand}
unfoldable pub use Rattle.zl_code.proofs.Common.{put, remove_all, replied, site_of, taken_handles, update, wakes, where_key, with_object, without}
unfoldable pub use Rattle.zl_code.proofs.Common.{without_others}
pub use Rattle.zl_rights.proofs.Common.{drop, find}
pub use Rattle.std.proofs.Math.Bool.{and-false}
pub use Rattle.std.proofs.lemmas.Bool.{or_cases, or_parts}
pub use Rattle.std.proofs.lemmas.Grind.{common_steps}
pub use Rattle.std.proofs.lemmas.List.{length-append, length-set, length-take-le}
pub use Rattle.std.proofs.lemmas.List.Elements.{All-contains, All-contains_itself, All-more, All-weaker, Contains-append_right, filter-append, filter_passes}
pub use Rattle.std.proofs.lemmas.List.Folds.{find_at, list_any-append, list_any_none}
pub use Rattle.std.proofs.lemmas.List.Quantifiers.{position-Some}
pub use Rattle.std.proofs.lemmas.List.Sums.{count_by-le-length, sum_by-append}
pub use Rattle.std.proofs.lemmas.Nat.{and_le_l, and_le_r}
pub use Rattle.std.proofs.lemmas.Option.{get_or_from_slice_get, slice_get-map, slice_get_cases, slice_get_past, slice_get_read, slice_get_within}
pub use Rattle.std.specs.Bool.{passes}
pub use Rattle.std.specs.List.{AllByRecursion, Contains, filter, fold, list_all, position_or_len}
pub use Rattle.std.specs.Option.{option_to_list}
pub use Rattle.std.specs.Prelude.{IsOk, MatchOption, OnSome, T, bit_or, unwrap_or}
pub use Rattle.std.specs.Result.{result_err}
pub use Rattle.std.specs.Vec.{vec_capacity, vec_len}
pub use Rattle.zl_calls.proofs.policy.Plain.{PlainCalls}
unfoldable pub use Rattle.zl_calls.proofs.policy.Plain.{plain_refusal}
pub use Rattle.zl_calls.specs.Acted.{Acted, ActsHere, Exits, action_asked}
pub use Rattle.zl_calls.specs.Acting.{DoesNext, IsActed, StaysAwake, is_local}
pub use Rattle.zl_calls.specs.Blocked.{AreBlocked, AreLeft, AreOrdered, AreSought, IsWhole, StandInOrder, takes_at, takes_from}
pub use Rattle.zl_calls.specs.Blocking.{FallsAsleep, awaited_found, awaited_in, fell_asleep, if_asleep, then_blocked}
pub use Rattle.zl_calls.specs.Consistent.{AreNamed, IsConsistent, IsNamed}
pub use Rattle.zl_calls.specs.FieldFaults.{fields_fault, last_fault}
pub use Rattle.zl_calls.specs.Gives.{Gives, IsBare, allowed, if_default, process_given, rights_if}
pub use Rattle.zl_calls.specs.Killing.{AreClosed, AreClosedBut, IsClosed, StandsBefore, StayBlocked, ended_among}
pub use Rattle.zl_calls.specs.Leaving.{HasBegun, HaveBegunBut, is_unstarted, left_beside, left_state}
pub use Rattle.zl_calls.specs.Makes.{IsCauseOf, IsReached, Makes, koid_fault, making_pair, seen}
pub use Rattle.zl_calls.specs.Making.{AreSound, IsMaking, IsUnwatched, is_killed}
pub use Rattle.zl_calls.specs.Policed.{EndsBy, IsDenied, Policed, on_fault_by, verdict_by, verdict_in, verdict_on}
unfoldable pub use Rattle.zl_calls.specs.Policed.{operands_fault}
pub use Rattle.zl_calls.specs.Reaching.{CallActs, CalledAmong, IsAnsweredIn, IsToldIn, Reaches, acts, creates_process, kills, kills_itself, starts}
pub use Rattle.zl_calls.specs.Started.{StepsAndTells, child_next, child_of, has_started, if_started}
pub use Rattle.zl_calls.specs.Steps.{Performs, StepsTo, TakesStep, takes_memory}
pub use Rattle.zl_calls.specs.Sure.{CallsSurely, IsFaultless, IsSure, IsSureIfChecked, is_checked}
pub use Rattle.zl_calls.specs.Taken.{AreKnown, IsKnown, IsNoted, NotesChild, NotesFor, NotesNext, NotesNextChild, NotesStarted, has_noted, is_end, is_gone}
pub use Rattle.zl_calls.specs.Taken.{NotesNextTask, NotesTask}
pub use Rattle.zl_calls.specs.Killed.{ListsTask, TellsKilled, keeps_all, keeps_others, task_next, task_of}
pub use Rattle.zl_calls.specs.Told.{Fits, FitsItem, IsEffect, is_asleep, is_started, killed_of, woke_of}
pub use Rattle.zl_calls.specs.Taken.{is_over_by, keeps_handles}
pub use Rattle.zl_calls.specs.Turns.{Stands}
pub use Rattle.zl_calls.specs.Waking.{HaveCounters, Wakes, WakesOne, WakesSleeper, awake, destinations_of, given_awake, without_taken}
pub use Rattle.zl_calls.specs.Woke.{AreParted, HaveLeft, StepsAndWakes, pids_told, tells_all, times_among}
pub use Rattle.zl_calls.specs.World.{CallsNext, IsPlaceOf, Machine, awaited_of, call_for, call_of, free_entry, free_of, held, is_ready_in, process_entry}
pub use Rattle.zl_calls.specs.World.{process_value, stands_next, state_value, world_blocked, world_value}
pub use Rattle.zl_calls.specs.calls.Answer.{Action, Blocks, ClosesEach, Does, DoesTaking, IsAnswered, IsRefusedBy, IsTold, Replies, Told, answered_in, answers}
pub use Rattle.zl_calls.specs.calls.Answer.{exits, has_room_in, no_value, one_value, reaches, status_of, taken_from, told_by, two_values, values_of, waits}
pub use Rattle.zl_calls.specs.calls.Answer.{wants_memory, wants_nothing, with_kept, with_stored, with_told, without_handle, without_handles}
pub use Rattle.zl_calls.specs.calls.Async.{Cancels, PortCancelDoes, RegistersWait, WaitAsyncDoes, async_refusal, cancel_refusal, source_of, wait_for}
pub use Rattle.zl_calls.specs.calls.Channel.{ChanCreateDoes, ChanWriteDoes, WritesMessage, fault_of, filled, list_refusal, write_refusal}
pub use Rattle.zl_calls.specs.calls.Event.{settable_at}
pub use Rattle.zl_calls.specs.calls.Handle.{CloseDoes, Closes, DupDoes, Dups, ReplaceDoes, Replaces, close_answer, dup_refusal, replace_refusal, HandleInfoDoes}
pub use Rattle.zl_calls.specs.calls.Handle.{info_values, replace_refusal_of}
pub use Rattle.zl_calls.specs.calls.Job.{has_child_at}
pub use Rattle.zl_calls.specs.calls.Making.{MakeDoes, MakePairDoes, MakesOne, MakesPair, pair_refusal, room_refusal}
pub use Rattle.zl_calls.specs.calls.Port.{TakesPacket, poll_refusal, port_at}
pub use Rattle.zl_calls.specs.calls.Process.{Drained, Ends, none_left as none_drained}
pub use Rattle.zl_calls.specs.calls.Reading.{CameFrom, ChanReadDoes, InsertsEach, IsFaultBy, ReadsMessage, front_at, front_by, front_in, read_into, told_read}
pub use Rattle.zl_calls.specs.calls.Reading.{sizes_into, told_slots, told_unread, triple_of}
pub use Rattle.zl_calls.specs.calls.Task.{ClosesAllEnded, ClosesEnded, ClosesHandle, CreatesProcess, EndsOrAnswers, Enters, IsCallerStill, IsCreatedAt, IsFound}
pub use Rattle.zl_calls.specs.calls.Task.{IsReachedBy, KillsNamed, KillsTask, Reach, ProcessCreateDoes, ProcessStartDoes, StartsProcess, TaskKillDoes}
pub use Rattle.zl_calls.specs.calls.Task.{child_refusal, create_refusal, create_refusal_of, ended_if, ended_within, ending_of, is_over, kill_refusal, lives_on}
pub use Rattle.zl_calls.specs.calls.Task.{needs_more, one_more, parts, process_at, start_refusal, told_unless_over}
pub use Rattle.zl_calls.specs.declared.boot.Made.{Made}
pub use Rattle.zl_calls.specs.declared.calls.channel.reading.ReadFault.{ReadFault}
pub use Rattle.zl_calls.specs.declared.calls.channel.reading.Received.{Received}
pub use Rattle.zl_calls.specs.declared.policy.Verdict.{Verdict}
pub use Rattle.zl_calls.specs.declared.process.Process.{Process}
pub use Rattle.zl_calls.specs.declared.process.State.{State}
pub use Rattle.zl_calls.specs.declared.step.taken.Taken.{Taken}
pub use Rattle.zl_calls.specs.declared.told.Effect.{Effect}
pub use Rattle.zl_calls.specs.declared.told.Woke.{Woke}
pub use Rattle.zl_code.proofs.AwakeRuns.{boot_awake, step_awake}
pub use Rattle.zl_code.proofs.CallRows.{asks_again, site_named}
pub use Rattle.zl_code.proofs.CanStart.{can_start}
pub use Rattle.zl_code.proofs.Changes.{times, times-behind, times-last, times-other, times-same}
pub use Rattle.zl_code.proofs.MapKept.{in_order-each}
pub use Rattle.zl_code.proofs.ProgramsKept.{step_programs}
pub use Rattle.zl_code.proofs.SoundKept.{none_raised}
pub use Rattle.zl_code.proofs.SoundRuns.{boot_sound, settled_sound, step_sound}
pub use Rattle.zl_code.proofs.StepsBeside.{ActsAndSettles, blocked_by, blocked_in, next_looks, tells_blocking, waits_by}
pub use Rattle.zl_code.proofs.StepsWaiting.{is_left as is_left_at_port, settles_waiting}
pub use Rattle.zl_code.proofs.Waiters.{is_blocking, looks_at_waits, replied_among, waits_after, with_waiters}
pub use Rattle.zl_code.specs.Asked.{array_in, bytes_in, emptied_count, filled_among, has_its_memory, is_written, room_in, those, triples_from, used}
pub use Rattle.zl_code.specs.Boot.{MOST_GRANTS, MOST_KOIDS, MOST_PROCESSES, all_known, are_declared, are_misfits, handle_given, handles_given, is_job}
pub use Rattle.zl_code.specs.Boot.{lacks_koids, may_start_with, process_with_all, rights_given, setting, started_process}
pub use Rattle.zl_code.specs.CallTable.{awaited_by, entering_at, eventpair_create, job_create, job_set_policy, name_of, port_cancel, port_create, port_poll}
pub use Rattle.zl_code.specs.CallTable.{port_queue, port_wait, process_create, process_start, receiver_of, stored_by, task_kill, wait_async, wait_one}
pub use Rattle.zl_code.specs.CallTable.{chan_read_slots, chan_write_slots, handle_info, kept_by, read_refused}
unfoldable pub use Rattle.zl_code.specs.CallTable.{new_handles}
pub use Rattle.zl_code.specs.Calls.{CallBy, Calls, may_want, ok_outcome, wanted}
pub use Rattle.zl_code.specs.Common.{signal_peer, wait_poll}
pub use Rattle.zl_code.specs.Effects.{body_after_read, body_with_message, gets_all, keeping, may_get_all, message_read, message_sent, new_entry, object_changed}
pub use Rattle.zl_code.specs.Effects.{process_ended, signed_word, slots_filled, storing, told_of, waiting, with_process}
unfoldable pub use Rattle.zl_code.specs.Effects.{on_object}
pub use Rattle.zl_code.specs.Headline.{word_of}
pub use Rattle.zl_code.specs.Image.{call_at, can_be_needed, instr_at, is_among}
pub use Rattle.zl_code.specs.Instructions.{field_of}
pub use Rattle.zl_code.specs.Jobs.{has_child, is_allowing, job_within, lacks_need, misfits, object_killed, policy_changed, process_killed}
pub use Rattle.zl_code.specs.Limits.{most_word}
pub use Rattle.zl_code.specs.Local.{reg}
pub use Rattle.zl_code.specs.Operands.{Operand}
unfoldable pub use Rattle.zl_code.specs.Own.{all_given, taken_all}
pub use Rattle.zl_code.specs.Own.{OwnWorld, entered_free, free_at, free_or, left_free, own_values}
pub use Rattle.zl_code.specs.OwnHistory.{tells_want}
pub use Rattle.zl_code.specs.Programs.{HavePrograms}
pub use Rattle.zl_code.specs.Refusals.{condition_of, operand_by}
unfoldable pub use Rattle.zl_code.specs.Refusals.{refusal}
pub use Rattle.zl_code.specs.Request.{site_at, site_in}
pub use Rattle.zl_code.specs.Sound.{IsSound, IsSoundWait}
pub use Rattle.zl_code.specs.Starting.{cpu_given, created_process, is_created, set_from, started_with, with_handles}
pub use Rattle.zl_code.specs.Tests.{first_handles, koid_in, may_change, object_at, parent_of, peer_at, policy_in, queue_at, settable_of, sizes_of}
pub use Rattle.zl_code.specs.Waiting.{active_at, body_packed, first_values, is_active_at, is_by_handle, is_full, is_keyed, is_mask, packet_awaited}
pub use Rattle.zl_code.specs.Waiting.{packet_taken, packets_at, packets_cancelled, packets_in, repacked, source_at, wait_of, without_keyed}
pub use Rattle.zl_code.specs.declared.boot.BootCause.{BootCause}
pub use Rattle.zl_code.specs.declared.boot.Grant.{Grant}
pub use Rattle.zl_code.specs.declared.boot.Statement.{Statement}
pub use Rattle.zl_code.specs.declared.history.CallName.{CallName}
pub use Rattle.zl_code.specs.declared.history.Outcome.{Outcome}
pub use Rattle.zl_code.specs.declared.history.TraceItem.{TraceItem}
pub use Rattle.zl_code.specs.declared.instr.CallInstr.{CallInstr}
pub use Rattle.zl_interp.specs.Bursts.{after_locals}
pub use Rattle.zl_interp.specs.Common.{StandsNext, call_here, handle_register, program_value, register_set, started_cpu}
pub use Rattle.zl_jobs.specs.Jobs.{Job, is_deepest_here, job_within_here}
pub use Rattle.zl_jobs.specs.declared.job.JobFault.{JobFault}
pub use Rattle.zl_objects.proofs.Bodies.{alone_changed, job_changed, more_in_job, same_in_job}
pub use Rattle.zl_objects.proofs.ByKoid.{put_last}
pub use Rattle.zl_objects.proofs.Found.{Found, any_found}
pub use Rattle.zl_objects.proofs.Law.{any_seen, cascaded, get_seen, has_seen, kept_all, named_queue, queue_named, settles_left}
pub use Rattle.zl_objects.proofs.Places.{first_out}
pub use Rattle.zl_objects.proofs.Released.{Was, cascaded_was, cascades_then, releases_then, stopped_loose, was_queue, was_seen, was_there}
pub use Rattle.zl_objects.proofs.Showing.{job_shown, process_shown}
pub use Rattle.zl_objects.proofs.Sums.{any_counted, any_summed, count_none, counted_any, positive_part, sum_fewer, sum_without, summed_any}
pub use Rattle.zl_objects.proofs.Unlisted.{none_any}
pub use Rattle.zl_objects.proofs.Whole.{more_same}
pub use Rattle.zl_objects.specs.Awaited.{AreSameButSleepers, KeepSleepers, Seeks, is_same, koid_of}
pub use Rattle.zl_objects.specs.Calm.{holds_now, is_due, knowing, slept}
pub use Rattle.zl_objects.specs.Jobs.{action_here, is_dead_here, is_within_here, job_at, killed_body, killed_if, killing, new_in, setting_policy}
pub use Rattle.zl_objects.specs.Jobs.{with_policy_body, with_policy_set}
unfoldable pub use Rattle.zl_objects.specs.Jobs.{all_killed}
pub use Rattle.zl_objects.specs.Listed.{LeavesListed, holds_at, is_keyed_at, is_made_at, is_there, may_register_here, unlisting, wait_value, watch_of, watching}
pub use Rattle.zl_objects.specs.Objects.{Objects, changing, end_to, has_place, held_once_more, holding, is_child, is_job_at, is_job_here, is_job_in, is_kept}
pub use Rattle.zl_objects.specs.Objects.{job_in, job_of, keeper_of, kind_here, kind_in, kind_of_pair, new_object, peer_here, queue_found, queue_held}
pub use Rattle.zl_objects.specs.Objects.{raised_changed, root_alone, started, started_body, starting, stays_alone, stopped, stopped_body, stopping, with_new}
pub use Rattle.zl_objects.specs.Objects.{with_pair}
unfoldable pub use Rattle.zl_objects.specs.Objects.{has_living_child_here}
pub use Rattle.zl_objects.specs.Ports.{at_port, changed_port, changing_port, new_port, packets_found, packets_of}
pub use Rattle.zl_objects.specs.Release.{AreKeptBut, Cascades, EndedHere, Ends as ObjectEnds, Releases, all_koids, koids_in, none_left}
pub use Rattle.zl_objects.specs.Seen.{Agrees, IsExact, body_value, is_above, is_in_job, object_entry, object_value, with_all, with_objects}
pub use Rattle.zl_objects.specs.Signals.{ShowStates, signals_at}
pub use Rattle.zl_objects.specs.Sleepers.{IsUnlisted, ListsLast, TakesDue, is_for, listed_for}
pub use Rattle.zl_objects.specs.Waits.{AreSameButWaits, at_port_of, bare, firing, unwatched, unwatching, waits_in, watched}
pub use Rattle.zl_objects.specs.declared.awaited.Sleeper.{Sleeper}
pub use Rattle.zl_objects.specs.declared.object.Body.{Body}
pub use Rattle.zl_objects.specs.declared.object.Life.{Life}
pub use Rattle.zl_objects.specs.declared.object.Object.{Object}
pub use Rattle.zl_objects.specs.declared.object.Pair.{Pair}
pub use Rattle.zl_port.specs.Packets.{Port, is_from, with_packet, without_front, without_packets, without_place}
pub use Rattle.zl_rights.proofs.Canonical.{same_map}
pub use Rattle.zl_rights.proofs.MapLaws.{get-put, get-update}
pub use Rattle.zl_rights.proofs.MapTests.{filter_all, list_any-and}
pub use Rattle.zl_rights.proofs.SameSignals.{active_of-same}
pub use Rattle.zl_rights.proofs.Settling.{Settles-exists, Settles-unique}
pub use Rattle.zl_rights.proofs.Waking.{IsLater, fired-same, has_no_packet, none_holds, offers_nothing, woken-later}
pub use Rattle.zl_rights.specs.Common.{condition_number}
pub use Rattle.zl_rights.specs.Counts.{queued_to}
pub use Rattle.zl_rights.specs.LookUp.{granted, looked_up}
pub use Rattle.zl_rights.specs.Numbers.{BY_POLICY, DESTROY, KILLED, MANAGE_JOB, MANAGE_PROCESS, READ, SET_POLICY, SIGNAL_PEER, TRANSFER, WAIT, WRITE}
pub use Rattle.zl_rights.specs.Numbers.{action_number, mode_number, status_magnitude, takes}
pub use Rattle.zl_rights.specs.Policies.{Setting}
unfoldable pub use Rattle.zl_rights.specs.Policies.{conflicts}
pub use Rattle.zl_rights.specs.Settle.{IsHeld, has_handle, names, state_without}
unfoldable pub use Rattle.zl_rights.specs.Settle.{is_made_by_handle}
pub use Rattle.zl_rights.specs.Settled.{settled}
pub use Rattle.zl_rights.specs.Signals.{active_of, has_ended, implied, is_job_below, is_process_of}
pub use Rattle.zl_rights.specs.Values.{Free, given_back, new_free}
unfoldable pub use Rattle.zl_rights.specs.Values.{coming}
pub use Rattle.zl_rights.specs.Wakes.{body_with_packets, packet_of, packet_values, packets_for, with_body, woken_at_port, woken_by, woken_from}
unfoldable pub use Rattle.zl_rights.specs.Wakes.{holds, made_ready, woken}
pub use Rattle.zl_rights.specs.World.{Awaited, Message, Packet, PacketAt, PairEnd, SignalOf, Source, Wait, written}
pub use Rattle.zl_rights.specs.declared.entry.Entry.{Entry}
pub use Rattle.zl_rights.specs.declared.kind.Kind.{Kind}
pub use Rattle.zl_rights.specs.declared.policy.Condition.{Condition}
pub use Rattle.zl_rights.specs.declared.signals.Signals.{Signals}
pub use Rattle.zl_rights.specs.declared.status.Status.{Status}
pub use Rattle.zl_signals.specs.Waits.{is_keyed_here, wait_at, without_first}
pub use Rattle.zl_signals.specs.declared.watch.Watch.{Watch}
pub use Rattle.zl_rights.proofs.MapEdits.{below_parts, get-without, has_key-update, is_sorted-update, length-put_new, length-without, put_key, sorted_parts}
pub use Rattle.zl_rights.proofs.MapEdits.{sorted_put, sorted_without, update_missing, without_lower}
pub use Rattle.zl_table.specs.Table.{Handles, Inserts, IsTable, Removes}
pub use Rattle.zl_verify.proofs.Covering.{boot_covered, step_covered}
pub use Rattle.zl_verify.proofs.Headline.{program_in}
pub use Rattle.zl_verify.proofs.LocalSteps.{able_of, not_stuck}
pub use Rattle.zl_verify.proofs.OwnTable.{other_way}
pub use Rattle.zl_verify.proofs.Places.{get_put_other}
pub use Rattle.zl_verify.specs.Covered.{IsAbleIn, IsAsTyped, IsCovered, IsVerified}
