-- The names that most proofs of this crate cite, passed on from one place. Declares nothing.
pub use Rattle.zl_code.proofs.Common.{Acts, AtCall, Blocked, Body, Bool, CallBy, Calls, Choice, Created, Ended, Err, Gone, IsLegalHistory, IsSound, IsStuck}
pub use Rattle.zl_code.proofs.Common.{IsTrue, Library, List, Moves, Next, None, Object, Ok, Option, Packet, PacketAt, PortBody, Process, Ready, Refused}
pub use Rattle.zl_code.proofs.Common.{Request, Settles, SignalOf, Site, Some, State, Step, Values, Wants, World, [], after_ok, after_refusal, and_parts}
pub use Rattle.zl_code.proofs.Common.{answer_if, ap, append-nil, append_assoc, arith, bits, cases_Bool, drop, entry_at, false, first_some, fold, get-each}
pub use Rattle.zl_code.proofs.Common.{get-put, get-update, get_or, has_key, if◌then◌else◌, inl, inr, is_blocked, is_ready, is_some, length, length-append}
pub use Rattle.zl_code.proofs.Common.{lives, map, may_want, meets, nat_lt, ne_eqb, next_for, none-some, not, not-false, object_at, ok_outcome, option_map}
pub use Rattle.zl_code.proofs.Common.{option_to_list, pid_of, process_ended, process_killed, process_settled, process_with, process_without, refl, replicate}
pub use Rattle.zl_code.proofs.Common.{rules, same_Some, single, site, state_passes, state_without, subst, suc, sym, take, take-append-drop, take_more, taken}
pub use Rattle.zl_code.proofs.Common.{takes, true, true≢false, waiting, with_body, with_effect, within, woken_at_port, woken_by, woken_by_first, woken_from}
pub use Rattle.zl_code.proofs.Common.{woken_if_there, zero, ℕ, ⊤, ◌++◌, ◌+◌, ◌-◌, ◌<◌, ◌==◌, ◌∙◌, ◌∷◌, ◌≡◌, ◌≤◌, ◌⊎◌}
unfoldable pub use Rattle.zl_code.proofs.Common.{active, effect, ended, examined, fired, get, gives_ok, handle_operands, insert_all, is_process, is_within}
unfoldable pub use Rattle.zl_code.proofs.Common.{listed, new_handles, on_object, on_process, operand, refusal, remove_all, replied, row_of, taken_handles}
unfoldable pub use Rattle.zl_code.proofs.Common.{wakes, with_killed, with_object, without, without_others}
pub use Rattle.zl_rights.proofs.Common.{Map, below_all, eq-eqb, eqb-true, false≢true, is_sorted, nat_cmp, nat_tests}
pub use Rattle.std.proofs.Math.Seq.{take-append_seam}
pub use Rattle.std.proofs.lemmas.Bool.{and_right, not-true}
pub use Rattle.std.proofs.lemmas.Fn.{filter_same}
pub use Rattle.std.proofs.lemmas.List.{replicate-append-replicate, replicate_more, take_all}
pub use Rattle.std.proofs.lemmas.List.Concat.{flat_map-append}
pub use Rattle.std.proofs.lemmas.List.Elements.{filter-append}
pub use Rattle.std.proofs.lemmas.List.Filters.{length-filter_both}
pub use Rattle.std.specs.List.{filter, flat_map, list_all, list_any, position, position_or_len}
pub use Rattle.std.specs.Prelude.{slice_get, vec_capacity, ◌&&◌}
pub use Rattle.zl_calls.proofs.Above.{asked_next, done, none_filtered, removed_one}
pub use Rattle.zl_calls.specs.Started.{Tells, child_next, child_of, if_started, is_ok, is_start, has_started}
pub use Rattle.zl_calls.specs.Steps.{TakesStep}
pub use Rattle.zl_calls.specs.Turns.{advanced}
pub use Rattle.zl_calls.specs.Killed.{TellsKilled, is_kill, keeps_all, keeps_others, spares_others, task_next, task_of}
pub use Rattle.zl_calls.specs.Told.{FitsItem, killed_of, woke_of}
pub use Rattle.zl_calls.specs.Woke.{AreParted, pids_told, tells_all}
pub use Rattle.zl_calls.specs.declared.told.Told.{Told}
pub use Rattle.zl_objects.specs.Below.{is_one_of}
pub use Rattle.zl_calls.specs.World.{Machine, is_ready_in, seen_in, seen_of, state_in}
pub use Rattle.zl_calls.specs.declared.told.Woke.{Woke}
pub use Rattle.zl_code.proofs.Changes.{times-other, times-same}
pub use Rattle.zl_code.proofs.SoundRuns.{boot_sound, run_sound, settled_sound, step_sound}
pub use Rattle.zl_code.specs.CallTable.{awaited_by, entering_at, name_of, process_create, process_start, receiver_of, stored_by, task_kill}
pub use Rattle.zl_code.specs.Effects.{storing}
pub use Rattle.zl_code.specs.Starting.{created_process, is_created, program_of, started_with}
pub use Rattle.zl_code.specs.declared.history.CallName.{CallName}
pub use Rattle.zl_code.specs.declared.history.Outcome.{Outcome}
pub use Rattle.zl_code.specs.declared.history.TraceItem.{TraceItem}
pub use Rattle.zl_interp.specs.Bursts.{Done}
unfoldable pub use Rattle.zl_rights.specs.Wakes.{made_ready}
pub use Rattle.zl_rights.specs.World.{Awaited}
pub use Rattle.zl_rights.specs.declared.entry.Entry.{Entry}
pub use Rattle.zl_rights.specs.declared.status.Status.{Status}
pub use Rattle.zl_sched.specs.Follows.{EndsBy, Follows, StopsBefore, goes, halts, skips, turns_of}
pub use Rattle.zl_sched.specs.HandIn.{Accepts, Changes, Ends, EndsFrom, GoesFrom, HasRoom, IsAwaited, is_more, put_back, run_items, unmarked}
pub use Rattle.zl_sched.specs.Queueing.{AreJoining, IsTold, LeaveTold, joined_by, joining, joins}
pub use Rattle.zl_sched.specs.Queueing.{one_if, requeued, without_ended}
pub use Rattle.zl_sched.specs.Ready.{Listed, became_ready, is_in, is_ready_or_over, itself_ready, others_of, pids_of, queued_after, ready_by_koid, still_ready}
pub use Rattle.zl_sched.specs.Ready.{times_in}
pub use Rattle.zl_sched.specs.System.{Adds, HasBooted, IsLegal, IsWhole, RunsHere, System, Turns, Walks, may_step, room_of}
pub use Rattle.zl_sched.specs.declared.system.End.{End}
pub use Rattle.zl_verify.proofs.CallEnds.{call_ends}
