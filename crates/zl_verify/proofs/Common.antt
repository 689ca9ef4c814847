-- The names that two proofs of this crate or more cite, passed on from one place. Declares nothing.
pub use Rattle.std.proofs.Common.{Err, None, Ok, Option, Result, Some, leb, max, zip, ⊎_elim, ◌↔◌}
pub use Rattle.zl_code.proofs.AwakeRuns.{runs_joined}
pub use Rattle.zl_code.proofs.Common.{Acts, AtCall, Awaited, Blocked, Body, Bool, Boots, CallBy, Calls, ChannelEnd, Choice, Cpu, Created, Ended, EventBody}
pub use Rattle.zl_code.proofs.Common.{HandlesAreSound, IfOk, IfSome, Image, IsSound, IsStuck, IsTrue, JobBody, KILLED, Library, List, Map, Message, Moves, Next}
pub use Rattle.zl_code.proofs.Common.{Object, Operand, Packet, PacketAt, PairEnd, PortBody, Process, ProcessBody, Program, READ, Ready, Refused, Request, Runs}
pub use Rattle.zl_code.proofs.Common.{STUCK, Setting, Settles, SignalOf, Site, Step, Values, Wants, World, [], action_of, after_ok, after_refusal, answer_if}
pub use Rattle.zl_code.proofs.Common.{any, ap, are_registers, arith, awaited_by, bit_and, bit_or, bit_xor, bits, body_in, body_killed, body_of}
pub use Rattle.zl_code.proofs.Common.{body_with_packets, body_with_policy, by_policy, bytes_of, call_row, calls_at, cases_Bool, chan_create, chan_read_etc}
pub use Rattle.zl_code.proofs.Common.{chan_read_slots, chan_write, chan_write_slots, choosing, cond, condition_number, condition_of, contains, cpu_answered}
pub use Rattle.zl_code.proofs.Common.{created_process, default_rights_of, drop, dup, ends_caller, entering_at, entry_at, eq-eqb, eqb, eqb-true, event_create}
pub use Rattle.zl_code.proofs.Common.{eventpair_create, false, first_handles, first_some, flat_map, get-each, get-put, get-update, get_or, handles_given}
pub use Rattle.zl_code.proofs.Common.{has_key, if◌then◌else◌, inl, inr, is_among, is_call_in_range, is_empty, is_in_range, is_instr_in_range, is_local_in_range}
pub use Rattle.zl_code.proofs.Common.{is_some, is_value, job_create, job_set_policy, job_within, keeping, kept_by, kind_number, length, length-map, list_all}
pub use Rattle.zl_code.proofs.Common.{list_any, lives, ltb, map, may_boot, may_get, may_get_after, may_get_all, may_want, meets, min, nat_le, nat_lt, nat_tests}
pub use Rattle.zl_code.proofs.Common.{next_for, none-some, not, number_at, number_of, object_at, object_killed, ok_outcome, operand_after, option_map}
pub use Rattle.zl_code.proofs.Common.{option_to_list, or_right, origin, outcome_of, packet_values, packets_for, packets_in, parent_in, parent_of, pid_of}
pub use Rattle.zl_code.proofs.Common.{port_cancel, port_create, port_poll, port_queue, port_wait, position, process_create, process_ended, process_exit}
pub use Rattle.zl_code.proofs.Common.{process_killed, process_settled, process_start, process_with, process_with_all, process_without, queue_at, queue_of}
pub use Rattle.zl_code.proofs.Common.{receiver_of, refl, replace, replicate, rights_of, runs, same_Some, seen_after, setting, signal, signal_peer, single, site}
pub use Rattle.zl_code.proofs.Common.{slice_get, slice_get-get_or, slice_index, slice_index_or, slice_set, slots_filled, started_with, state_passes}
pub use Rattle.zl_code.proofs.Common.{state_without, stored_by, storing, subst, suc, sum_by, sum_by-cons, sym, take, taken, takes, task_kill, then_some, true}
pub use Rattle.zl_code.proofs.Common.{unless_allowed, wait_async, wait_one, wait_poll, waiting, with_body, with_effect, within, woken_at_port, woken_by}
pub use Rattle.zl_code.proofs.Common.{woken_by_first, woken_from, woken_if_there, zero, ℕ, ℤ, ⊤, ◌&&◌, ◌*◌, ◌++◌, ◌+◌, ◌-◌, ◌/◌, ◌<◌, ◌==◌, ◌^◌, ◌||◌, ◌∙◌, ◌∷◌}
pub use Rattle.zl_code.proofs.Common.{◌≡◌, ◌≢◌, ◌≤◌, ◌⊎◌}
unfoldable pub use Rattle.zl_code.proofs.Common.{active, answered, boot_effect, creates, effect, ended, examined, fired, get, gives_ok, gives_refused}
unfoldable pub use Rattle.zl_code.proofs.Common.{handle_operands, has_child_job, has_child_process, insert_all, is_process, is_within, listed, local_effect}
unfoldable pub use Rattle.zl_code.proofs.Common.{local_parts, made_ready, may_choose, new_handles, next_at, on_object, on_process, operand, put, refusal}
unfoldable pub use Rattle.zl_code.proofs.Common.{remove_all, replied, setting_of, site_of, taken_handles, wakes, with_killed, with_object, without}
unfoldable pub use Rattle.zl_code.proofs.Common.{without_others, woken}
pub use Rattle.std.proofs.Math.Bool.{and-false}
pub use Rattle.std.proofs.Math.ListN.{length-replicate, length-set}
pub use Rattle.std.proofs.Math.Nat.{div-mul-le_self, mod-le, mod-lt, mul-le-mul_right}
pub use Rattle.std.proofs.lemmas.Bool.{and_parts as both, cases_eq, cond_both, eqb-false, false≢true, not-false}
pub use Rattle.std.proofs.lemmas.List.{get_or-drop, get_or-set_other, get_or-set_same}
pub use Rattle.std.proofs.lemmas.List.Elements.{filter-append}
pub use Rattle.std.proofs.lemmas.List.Sums.{sum_by-set}
pub use Rattle.std.proofs.lemmas.Nat.{and_assoc, and_comm, and_le_l, and_le_r, le-div, or_lt, pow_pos, xor_lt}
pub use Rattle.std.proofs.lemmas.Option.{get_or_from_slice_get, slice_get-map}
pub use Rattle.std.specs.List.{AllByRecursion, Contains, concat, filter, fold, position_or_len}
unfoldable pub use Rattle.std.specs.List.{IsDistinct}
pub use Rattle.std.specs.Option.{option_and_then, option_map}
pub use Rattle.std.specs.Prelude.{IsSomeAnd, unwrap_or, ◌%◌}
pub use Rattle.zl_abs.proofs.FineRules.{in_range_at, rule_fine}
pub use Rattle.zl_abs.proofs.FineStates.{fine_joined, start_fine, with_long}
pub use Rattle.zl_abs.proofs.Order.{kind_trans, parts, same_kind_refl, within_is, within_trans}
pub use Rattle.zl_abs.proofs.RuleLowering.{rule_below}
pub use Rattle.zl_abs.proofs.StateOrder.{all_below_refl, all_below_trans}
pub use Rattle.zl_abs.specs.Bounds.{bounds_of, rounded}
pub use Rattle.zl_abs.specs.CallRules.{Uses, answers, are_words, array_fault, call_rule_by, cannot_keep, count_fits, examined_by, fault_of, finished}
pub use Rattle.zl_abs.specs.CallRules.{finished_unless, goes_on, has_one, is_declared, is_result, narrowed_value, new, operands_at, operands_listed, range_fits}
pub use Rattle.zl_abs.specs.CallRules.{range_in, received_in, state_after, stops, sum_fits, taken_from, takes_any, triple_results, values_of}
unfoldable pub use Rattle.zl_abs.specs.CallRules.{are_distinct, call_rule, examined_all, uses_of}
pub use Rattle.zl_abs.specs.Fine.{AllFine, IsFine}
pub use Rattle.zl_abs.specs.Laws.{AreAmong, IsAmong, RuleBelow}
pub use Rattle.zl_abs.specs.LocalRules.{becomes, below_ways, computes, copies, equal_ways, has_ways, in_memory, kind_numbered, kind_ways, known_kind}
pub use Rattle.zl_abs.specs.LocalRules.{known_other, known_rights, known_there, known_zero, loads, may_move, moved, shifted, slot_fault, slot_value, stores}
pub use Rattle.zl_abs.specs.LocalRules.{swaps_by, swaps_in, unless, zero_ways}
unfoldable pub use Rattle.zl_abs.specs.LocalRules.{local_rule}
pub use Rattle.zl_abs.specs.Outcome.{Outcome as Ways}
pub use Rattle.zl_abs.specs.Rule.{Edge, and_then, edge_to, edges, passes, word_at, writes}
pub use Rattle.zl_abs.specs.States.{IsState, State, bound_at, can_be_named, is_named_well, refined, start_results, start_value, starts_from, value_at}
unfoldable pub use Rattle.zl_abs.specs.States.{all_below, all_joined, start_state, with_all, with_value}
pub use Rattle.zl_abs.specs.Typing.{AllLead, Holds as RuleHolds, IsAbove, IsTyping, rule, rule_by, target_of}
unfoldable pub use Rattle.zl_abs.specs.Typing.{rule_with}
pub use Rattle.zl_abs.specs.Values.{ANY, capped, is_has, kind_below, smaller, untagged}
pub use Rattle.zl_abs.specs.declared.cause.Cause.{Cause}
pub use Rattle.zl_abs.specs.declared.value.AbsVal.{AbsVal}
pub use Rattle.zl_abs.specs.declared.value.AbsVal.TheVariants.{Has, KindOf, RightsOf, Word}
pub use Rattle.zl_code.proofs.CallRows.{asks_again}
pub use Rattle.zl_code.proofs.Called.{called}
pub use Rattle.zl_code.proofs.Entering.{get_without, gone_without, left_behind}
pub use Rattle.zl_code.proofs.Frame.{ended_other, kept_other, left_other, replied_other, stored_other, waiting_other}
pub use Rattle.zl_code.proofs.ImageRanges.{ranges}
pub use Rattle.zl_code.proofs.MapKept.{Each}
pub use Rattle.zl_code.proofs.Passing.{listed_none, test_fails, test_passes}
pub use Rattle.zl_code.proofs.SoundRuns.{IsBooting, boot_sound, origin_booting, run_sound, step_keeps_processes, step_sound, still_booting}
pub use Rattle.zl_code.specs.Asked.{has_its_memory, room_in, zeros_in_front}
pub use Rattle.zl_code.specs.Boot.{are_declared}
pub use Rattle.zl_code.specs.CallTable.{handle_info, name_of}
pub use Rattle.zl_code.specs.Calls.{zeros_for}
pub use Rattle.zl_code.specs.Effects.{body_after_read, body_with_message, filled_in, gets_all, new_entry, signed_word, slots_filled, told_of, with_process}
pub use Rattle.zl_code.specs.Handles.{Throughout, has_default_rights}
pub use Rattle.zl_code.specs.Headline.{CoveredGoWell, EndsItself, HasNoFault, IsNeverRefused, IsNotStuck, IsProperStart, IsSizedBoot, IsStarted, KeepsBudget}
pub use Rattle.zl_code.specs.Headline.{MayEnd, StartsChild, WasStarted, by_boot, by_call, executed, is_fault, is_pause_name, word_of}
pub use Rattle.zl_code.specs.Image.{blank_image, call_at, call_in, instr_at, local_at, local_in}
pub use Rattle.zl_code.specs.Instructions.{consumes, is_known}
pub use Rattle.zl_code.specs.Jobs.{has_child, is_allowing, is_dead, is_only_start, lacks_need, misfits, policy_changed}
pub use Rattle.zl_code.specs.Limits.{register_count}
pub use Rattle.zl_code.specs.Local.{is_in_memory, overwritten, reg, sets, swaps}
pub use Rattle.zl_code.specs.Refusals.{needs, taking}
pub use Rattle.zl_code.specs.Sound.{HasItsObject, IsSoundTable, is_blocked, raisable}
pub use Rattle.zl_code.specs.Spells.{call_reading, is_32_bits, kind_among, names_registers}
pub use Rattle.zl_code.specs.Starting.{blank_cpu, cpu_given, is_created, program_in, program_of, set_from, with_handles}
pub use Rattle.zl_code.specs.Steps.{moves, next_in, next_of}
pub use Rattle.zl_code.specs.Tests.{copy_of, entries_at, first_bytes, handles_in, info_of, is_too_large, koid_in, may_change, peer_at, policy_in, queue_in}
pub use Rattle.zl_code.specs.Tests.{settable_of, sizes_of, with_rights}
pub use Rattle.zl_code.specs.Waiting.{body_packed, first_values, is_active_at, is_by_handle, is_keyed, packet_awaited, packets_at, registered, source_at}
pub use Rattle.zl_code.specs.Waiting.{wait_of, without_keyed}
pub use Rattle.zl_code.specs.declared.boot.Statement.{Statement}
pub use Rattle.zl_code.specs.declared.history.CallName.{CallName}
pub use Rattle.zl_code.specs.declared.history.Outcome.{Outcome}
pub use Rattle.zl_code.specs.declared.history.TraceItem.{TraceItem}
pub use Rattle.zl_code.specs.declared.image.SlotArray.{SlotArray}
pub use Rattle.zl_code.specs.declared.image.Start.{Start}
pub use Rattle.zl_code.specs.declared.instr.CallInstr.{CallInstr}
pub use Rattle.zl_code.specs.declared.instr.Instr.{Instr}
pub use Rattle.zl_code.specs.declared.instr.LocalInstr.{LocalInstr}
pub use Rattle.zl_code.specs.declared.layout.Ending.{Ending}
pub use Rattle.zl_rights.specs.Common.{State as Life}
pub use Rattle.zl_rights.specs.Numbers.{DUPLICATE, KNOWN_RIGHTS, NO_JOBS, NO_PROCESSES, PEER_CLOSED, READABLE, SAME_RIGHTS, TERMINATED, TRANSFER, WRITABLE}
pub use Rattle.zl_rights.specs.Numbers.{WRITE, all_kinds, changed, same_kind, status_magnitude}
pub use Rattle.zl_rights.specs.Signals.{has_ended}
pub use Rattle.zl_rights.specs.World.{written}
pub use Rattle.zl_rights.specs.declared.entry.Entry.{Entry}
pub use Rattle.zl_rights.specs.declared.kind.Kind.{Kind}
pub use Rattle.zl_rights.specs.declared.policy.Action.{Action}
pub use Rattle.zl_rights.specs.declared.policy.Condition.{Condition}
pub use Rattle.zl_rights.specs.declared.rights.Rights.{Rights}
pub use Rattle.zl_rights.specs.declared.status.Status.{Status}
pub use Rattle.zl_verify.specs.Ahead.{AreAhead, ahead, jump_in, may_jump, onward, place_within}
pub use Rattle.zl_verify.specs.Peaks.{AreHomes, ArePeaks, IsBoundOf, IsUnbounded, lengths, or_most, turns_left}
pub use Rattle.zl_verify.specs.Stretches.{AreStretches, Stretches, Out, stretch, inner_of, known, known_by, leaves_first, leaves_last, out_from, passed_on}
pub use Rattle.zl_verify.specs.Stretches.{start_of, states_of}
unfoldable pub use Rattle.zl_verify.specs.Stretches.{flows, inner, leaves, out}
pub use Rattle.zl_verify.specs.CallLaws.{CanCall, IsAnswered, IsOwnEnd, IsSizedMessage, IsSizedPacket, IsWaiting, QueuesAreSized, StandsAtCall, ends_by}
pub use Rattle.zl_verify.specs.CallLaws.{ends_of, exits, kills}
pub use Rattle.zl_verify.specs.Checks.{HasNoTyping, HasStepBound, IsLeastTyping, IsOverBudget, IsRefused, is_of_rules}
pub use Rattle.zl_verify.specs.Conforms.{Conforms, Describes, Holds, IsAs, IsHandle, IsMemory, Table, WaitsAt, is_it, kind_in, one_if, place_at, rights_in}
pub use Rattle.zl_verify.specs.Conforms.{waits_for}
unfoldable pub use Rattle.zl_verify.specs.Conforms.{keepers, owners, owns}
pub use Rattle.zl_verify.specs.Covered.{AreUnstarted, IsAble, IsAsTyped, IsCovered, IsUnstarted, IsVerified, StandsBy}
pub use Rattle.zl_verify.specs.Leading.{AreTargets, unless_pause}
pub use Rattle.zl_verify.specs.Lists.{at}
pub use Rattle.zl_verify.specs.Marks.{AreMarked, AreNumbered}
pub use Rattle.zl_verify.specs.NoLeak.{HoldsJustItsHandles, handle_values}
unfoldable pub use Rattle.zl_verify.specs.NoLeak.{values_in_registers, values_in_slots}
pub use Rattle.zl_verify.specs.Nested.{IsNested, IsPacked, Suits, places, places_at, places_by, spots_from}
pub use Rattle.zl_code.specs.Blocks.{AreCounters, end_of, head_of, imm_of, mark_of, marks_of}
unfoldable pub use Rattle.zl_code.specs.Blocks.{blocks_at}
pub use Rattle.zl_code.specs.declared.blocks.Mark.{Mark}
pub use Rattle.zl_verify.specs.RunLaws.{HasEnded, IsFineItem, IsUnderWay}
pub use Rattle.zl_verify.specs.Search.{cleared, raised, raised_over, turned_over}
unfoldable pub use Rattle.zl_verify.specs.Search.{raised_all}
pub use Rattle.zl_verify.specs.SizedLaws.{CpusAreSized, IsSized, IsSizedCpu, IsSizedObject, IsSizedWait}
pub use Rattle.zl_verify.specs.Steps.{AllBelow, AreCountersAt, Follow, IsOver, IsStepBound, OneOf, Spot, is_pause, leads, leads_by, leads_on, spots, spots_to}
pub use Rattle.zl_verify.specs.Steps.{targets_of}
pub use Rattle.zl_verify.specs.WakeLaws.{EndsStep, IsFitStep, IsRunStep, OthersLeave, left_so, stays, was_killed}
pub use Rattle.zl_verify.specs.declared.steps.Longest.{Longest}
pub use Rattle.zl_verify.specs.declared.steps.Targets.{Targets}
