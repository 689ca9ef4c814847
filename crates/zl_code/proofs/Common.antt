-- The names that most proofs cite, of this crate and those above, passed on from one place. Declares nothing.
pub use Rattle.std.proofs.Common.{MatchResult, T, add-zero, max, min, slice_index_or}
pub use Rattle.zl_rights.proofs.Common.{All, All-nil, Blocked, Body, Bool, ChannelEnd, Cpu, Created, DUPLICATE, Ended, Err, EventBody, Gone, IfErr, IfNone}
pub use Rattle.zl_rights.proofs.Common.{IfOk, IfSome, IsSome, IsTrue, JobBody, Koids, List, Map, None, Object, Ok, OnOk, Option, PairEnd, PortBody, Process}
pub use Rattle.zl_rights.proofs.Common.{ProcessBody, Ready, Result, SIGNAL, SIGNALED, STUCK, Settles, Some, State, World, [], and_from, and_parts, ap}
pub use Rattle.zl_rights.proofs.Common.{append-nil, append_assoc, arith, at_drop_all, at_drop_more, below_all, bit_and, bits, cases_Bool, cases_lt, codes, cond}
pub use Rattle.zl_rights.proofs.Common.{condition_name, condition_number, count_by, decimal, default_rights_of, drop, drop_at, eq-eqb, eqb, eqb-true}
pub use Rattle.zl_rights.proofs.Common.{err_from_is_err_and, false, false≢true, filter, find, flat_map, flat_map-append, fold, get_or, get_or-drop, get_or-map}
pub use Rattle.zl_rights.proofs.Common.{has_key, if◌then◌else◌, inl, inr, is_empty, is_ready, is_some, is_sorted, kind_of, le-leb, leb, leb-true, length}
pub use Rattle.zl_rights.proofs.Common.{length-append, length-drop, length-map, length-take, length-take-le, list_all, list_all-append, list_any, lives, lt-ltb}
pub use Rattle.zl_rights.proofs.Common.{ltb, ltb-true, map, map-append, narrowed, nat_cmp, nat_le, nat_lt, nat_tests, ne_eqb, none-some, not, option_map}
pub use Rattle.zl_rights.proofs.Common.{option_or, or_left, or_right, pos, position, process_settled, queue_of, refl, replicate, rights_of, rules, runs}
pub use Rattle.zl_rights.proofs.Common.{same_Some, set, slice_get, slice_get-get_or, slice_index, slice_set, starts_with, state_passes, string_bytes, subst}
pub use Rattle.zl_rights.proofs.Common.{suc, sum_by, sum_by-cons, sym, take, take-append-drop, take_all, take_at, take_more, then_some, true, true≢false}
pub use Rattle.zl_rights.proofs.Common.{within, zero, ℕ, ℤ, ⊤, ◌%◌, ◌&&◌, ◌*◌, ◌++◌, ◌+◌, ◌-◌, ◌/◌, ◌<◌, ◌==◌, ◌^◌, ◌||◌, ◌∙◌, ◌∷◌, ◌≡◌, ◌≢◌, ◌≤◌, ◌⊎◌}
unfoldable pub use Rattle.zl_rights.proofs.Common.{answered, each, fired, get, has_living_child, in_queue, in_table, is_held, is_process, put, update, wakes}
unfoldable pub use Rattle.zl_rights.proofs.Common.{where_key, without, without_others}
pub use Rattle.std.proofs.Math.Seq.{drop-append-add, drop-append_seam, take-append_seam, take-suc-set}
pub use Rattle.std.proofs.lemmas.Bool.{le-ltb, ltb-false, not-false, not-true, or_parts}
pub use Rattle.std.proofs.lemmas.List.{drop-drop, drop_all, get_or-take, get_or_past, map_more, take_rest}
pub use Rattle.std.proofs.lemmas.List.Concat.{flat_map-cons}
pub use Rattle.std.proofs.lemmas.List.Elements.{All-append, All-cons, All-filter, All-head, All-tail, filter_passes}
pub use Rattle.std.proofs.lemmas.Slice.Eq.{slice_eq-Decides}
pub use Rattle.std.specs.Cmp.Lexicographic.{pointwise}
pub use Rattle.std.specs.List.{AllByRecursion, HoldsAt}
pub use Rattle.std.specs.Option.{option_to_list}
pub use Rattle.std.specs.Prelude.{IsSomeAnd, MatchOption, bit_or, bit_xor, negsuc, option_copied, unwrap_or, ◌↔◌}
pub use Rattle.zl_code.specs.Boot.{IsBooted, MOST_GRANTS, MOST_KOIDS, MOST_PROCESSES, all_known, are_declared, are_misfits}
pub use Rattle.zl_code.specs.Boot.{gives_no_handle, handle_given, handles_given, is_job, lacks_koids, may_start_with, process_with_all, setting}
pub use Rattle.zl_code.specs.Boot.{started_process, values_given}
pub use Rattle.zl_code.specs.CallTable.{awaited_by, choosing, ends_caller, entering_at, job_create, job_set_policy, kept_by, outcome_of, port_cancel}
pub use Rattle.zl_code.specs.CallTable.{port_create, port_poll, port_queue, port_wait, process_create, process_start, receiver_of, signal_peer, stored_by}
pub use Rattle.zl_code.specs.CallTable.{task_kill, wait_async, wait_one, wait_poll}
pub use Rattle.zl_code.specs.Calls.{CallBy, after_ok, after_refusal, may_want}
pub use Rattle.zl_code.specs.Common.{Acts, AtCall, Boots, Calls, Choice, FirstFault, HandlesAreNamed, HandlesAreSound, HasGivenKoids, Image, IsBoot}
pub use Rattle.zl_code.specs.Common.{IsLegalHistory, IsSound, IsStuck, Layout, Library, MOST_ITEMS, Moves, Next, Program, Reading, Refused, Request, Row}
pub use Rattle.zl_code.specs.Common.{Site, Spells, Step, Values, Wants, answer_if, any, are_needs, are_registers, at_limit, at_statement, body_in, body_of}
pub use Rattle.zl_code.specs.Common.{by_look_up, bytes_of, call_name, call_row, calls_at, chan_create, chan_read_etc, chan_read_slots, chan_write}
pub use Rattle.zl_code.specs.Common.{chan_write_slots, close, copy_of, cpu_answered, dup, entry_at, event_create, eventpair_create, first_some, grows}
pub use Rattle.zl_code.specs.Common.{has_default_rights, in_order, instr_bytes, is_among, is_in_range, is_instr_in_range, is_job_body, is_slot_in_range}
pub use Rattle.zl_code.specs.Common.{is_start_in_range, layout_of, may_boot, may_get, names_its_object, needs_byte, needs_named, needs_value, next_for}
pub use Rattle.zl_code.specs.Common.{number_at, number_of, object_at, ok_outcome, operand_of, origin, pid_of, process_exit, process_with, process_without}
pub use Rattle.zl_code.specs.Common.{raisable, reading_of, replace, row_bytes, seven, signal, single, site, slot_bytes, spelling, start_bytes, table_of}
pub use Rattle.zl_code.specs.Common.{taken, with_effect, with_rights}
unfoldable pub use Rattle.zl_code.specs.Common.{boot_effect, boot_fault, effect, ended, examined, first_fault, gives_ok, gives_refused, handle_operands}
unfoldable pub use Rattle.zl_code.specs.Common.{handles_to, has_koids, has_room, header_fault, insert_all, instr_fault, listed, local_effect, local_parts}
unfoldable pub use Rattle.zl_code.specs.Common.{may_choose, new_handles, on_process, operand, pieces, refusal, remove_all, replied, row_named, row_of, site_of}
unfoldable pub use Rattle.zl_code.specs.Common.{slot_fault, start_fault, taken_handles, with_object}
pub use Rattle.zl_code.specs.Effects.{body_after_read, body_with_message, gets_all, may_get_after, may_get_all, message_read, message_sent, new_entry}
pub use Rattle.zl_code.specs.Effects.{keeping, object_changed, process_ended, slots_filled, storing, waiting, with_process, without_waits}
unfoldable pub use Rattle.zl_code.specs.Effects.{on_object}
pub use Rattle.zl_code.specs.Headline.{EndsItself, GoesWell, HasNoFault, IsNotStuck, IsSizedBoot, KeepsBudget, MayEnd, executed, is_fault, left_behind}
pub use Rattle.zl_code.specs.Instructions.{Field, calls, closes, consumes, ends, field_of, layout, layout_in, names, row_among, row_value, rows}
pub use Rattle.zl_code.specs.Jobs.{body_killed, body_with_policy, depth_in, has_child, is_allowing, is_dead, is_deepest, job_within, lacks_need, object_killed}
pub use Rattle.zl_code.specs.Jobs.{policy_after, policy_changed, process_killed}
unfoldable pub use Rattle.zl_code.specs.Jobs.{is_under_by, is_within, with_killed}
pub use Rattle.zl_code.specs.Koids.{KeepsKoids}
pub use Rattle.zl_code.specs.Operands.{Operand, by_policy, contains, ends_if_kill, faults, operand_after, seen_after, unless_allowed}
unfoldable pub use Rattle.zl_code.specs.Operands.{creates}
pub use Rattle.zl_code.specs.Refusals.{condition_of}
pub use Rattle.zl_code.specs.Sound.{HasItsObject, HasPeer, HasPeerOf, IsBelow, IsSoundJob, IsSoundTable, IsSoundWait, KeepsProcesses, LivesAt, StandsBelow}
pub use Rattle.zl_code.specs.Sound.{is_blocked, is_kind_if_there, is_policy, is_port_there, is_value}
pub use Rattle.zl_code.specs.Spells.{Parts, allows, are_places, ascend_from, body_bytes, call_bytes, call_reading, code_pieces, count_at, ending_bytes}
pub use Rattle.zl_code.specs.Spells.{fault_by, has_length, has_rights, header, is_32_bits, is_call_in_range, is_ending_clear, is_header_in_range}
pub use Rattle.zl_code.specs.Spells.{is_local_in_range, is_needs_byte, is_packed, is_raw_at, is_room, is_unused_zero, kind_at, kind_byte, length_at}
pub use Rattle.zl_code.specs.Spells.{local_bytes, magic, names_registers, registers_at, rights_allowed, slot_pieces, slots_at, start_pieces, starts_at}
pub use Rattle.zl_code.specs.Starting.{created_process, started_with}
pub use Rattle.zl_code.specs.Steps.{Runs, has_count}
unfoldable pub use Rattle.zl_code.specs.Steps.{next_at}
pub use Rattle.zl_code.specs.Tests.{action_of, entries_at, first_bytes, first_handles, handles_in, koid_in, may_change, parent_in, parent_of, peer_at, peer_in}
pub use Rattle.zl_code.specs.Tests.{policy_in, queue_at, queue_in, settable_of}
pub use Rattle.zl_code.specs.Waiting.{body_packed, is_by_handle, packets_in, registered, repacked, source_at, wait_of, without_keyed}
pub use Rattle.zl_code.specs.declared.boot.BootCause.{BootCause}
pub use Rattle.zl_code.specs.declared.boot.Grant.{Grant}
pub use Rattle.zl_code.specs.declared.boot.Statement.{Statement}
pub use Rattle.zl_code.specs.declared.history.CallName.{CallName}
pub use Rattle.zl_code.specs.declared.history.Outcome.{Outcome}
pub use Rattle.zl_code.specs.declared.history.TraceItem.{TraceItem}
pub use Rattle.zl_code.specs.declared.image.DecodeFault.{DecodeFault}
pub use Rattle.zl_code.specs.declared.image.SlotArray.{SlotArray}
pub use Rattle.zl_code.specs.declared.image.Start.{Start}
pub use Rattle.zl_code.specs.declared.instr.CallInstr.{CallInstr}
pub use Rattle.zl_code.specs.declared.instr.Instr.{Instr}
pub use Rattle.zl_code.specs.declared.instr.LocalInstr.{LocalInstr}
pub use Rattle.zl_rights.proofs.MapLaws.{get-each, get-put, get-update, get-where_key-in, get-where_key-out}
pub use Rattle.zl_rights.proofs.Narrowed.{narrowed_within}
pub use Rattle.zl_rights.proofs.Settling.{Settles-by, Settles-exists, Settles-unique, is_held-larger, stays}
pub use Rattle.zl_rights.specs.LookUp.{granted}
pub use Rattle.zl_rights.specs.Numbers.{BY_POLICY, DESTROY, KILLED, MANAGE_JOB, MANAGE_PROCESS, NO_JOBS, NO_PROCESSES, PEER_CLOSED, READ, READABLE, SAME_RIGHTS}
pub use Rattle.zl_rights.specs.Numbers.{SET_POLICY, SIGNAL_PEER, TERMINATED, TRANSFER, USER_SIGNALS, WAIT, WRITABLE, WRITE, action_number, kind_number, meets}
pub use Rattle.zl_rights.specs.Numbers.{mode_number, same_kind, takes}
pub use Rattle.zl_rights.specs.Packets.{user_packet}
pub use Rattle.zl_rights.specs.Policies.{Setting, condition_numbered}
unfoldable pub use Rattle.zl_rights.specs.Policies.{conflicts, policy_set, setting_of, with_unset}
pub use Rattle.zl_rights.specs.Settle.{IsLargestHeld, has_handle, state_without}
unfoldable pub use Rattle.zl_rights.specs.Settle.{is_made_by_handle}
pub use Rattle.zl_rights.specs.Settled.{keys_of, settled_in, shrunk}
pub use Rattle.zl_rights.specs.Signals.{is_job_below, is_process_of}
unfoldable pub use Rattle.zl_rights.specs.Signals.{active, has_child_job, has_child_process}
pub use Rattle.zl_rights.specs.Wakes.{body_with_packets, packet_values, packets_for, with_body, woken_at_port, woken_by, woken_by_first, woken_from}
pub use Rattle.zl_rights.specs.Wakes.{woken_if_there}
unfoldable pub use Rattle.zl_rights.specs.Wakes.{holds, made_ready, woken}
pub use Rattle.zl_rights.specs.World.{Awaited, Message, Packet, PacketAt, SignalOf, Wait}
pub use Rattle.zl_rights.specs.declared.entry.Entry.{Entry}
pub use Rattle.zl_rights.specs.declared.kind.Kind.{Kind}
pub use Rattle.zl_rights.specs.declared.policy.Action.{Action}
pub use Rattle.zl_rights.specs.declared.policy.Condition.{Condition}
pub use Rattle.zl_rights.specs.declared.status.Status.{Status}
