-- The names that most definitions above this crate cite, passed on from one place. Declares nothing.
pub use Rattle.zl_rights.specs.Common.{Blocked, Body, ChannelEnd, Cpu, Created, DUPLICATE, Ended, EventBody, Gone, JobBody, Koids, Map, Object, PairEnd, PortBody, Process, ProcessBody, Ready, SIGNAL, SIGNALED, STUCK, Settles, State, World, bits, condition_name, condition_number, default_rights_of, has_key, is_empty, is_ready, kind_of, lives, narrowed, process_settled, queue_of, rights_of, runs, state_passes, within}
unfoldable pub use Rattle.zl_rights.specs.Common.{answered, each, fired, get, has_living_child, in_queue, in_table, is_held, is_process, put, update, wakes, where_key, without, without_others}
pub use Rattle.zl_code.specs.Boot.{Boots, FirstFault, IsBoot, MOST_ITEMS, at_limit, at_statement, is_job_body, may_boot, origin}
unfoldable pub use Rattle.zl_code.specs.Boot.{boot_effect, boot_fault}
pub use Rattle.zl_code.specs.CallTable.{Request, chan_create, chan_read_etc, chan_read_slots, chan_write, chan_write_slots, close, dup, event_create, eventpair_create, handle_info, job_create, job_set_policy, port_cancel, port_create, port_poll, port_queue, port_wait, process_create, process_exit, process_start, replace, signal, signal_peer, task_kill, wait_async, wait_one, wait_poll}
unfoldable pub use Rattle.zl_code.specs.CallTable.{effect, gives_ok, gives_refused, listed, new_handles}
pub use Rattle.zl_code.specs.Calls.{Calls, Choice, Refused, Values, Wants, cpu_answered, grows, ok_outcome, taken, with_effect}
unfoldable pub use Rattle.zl_code.specs.Calls.{may_choose, replied, taken_handles}
pub use Rattle.zl_code.specs.Effects.{may_get, process_with, process_without}
unfoldable pub use Rattle.zl_code.specs.Effects.{ended, insert_all, on_process, remove_all, with_object}
pub use Rattle.zl_code.specs.First.{first_some}
pub use Rattle.zl_code.specs.Handles.{HandlesAreNamed, HandlesAreSound, has_default_rights, in_order, names_its_object}
pub use Rattle.zl_code.specs.Image.{Image, Library, Program, is_among, needs_named, needs_value}
pub use Rattle.zl_code.specs.Instructions.{Layout, Row, call_name, call_row, layout_of}
unfoldable pub use Rattle.zl_code.specs.Instructions.{row_named, row_of}
pub use Rattle.zl_code.specs.Koids.{HasGivenKoids}
unfoldable pub use Rattle.zl_code.specs.Local.{local_effect}
unfoldable pub use Rattle.zl_code.specs.Refusals.{handle_operands, refusal}
pub use Rattle.zl_code.specs.Request.{Site, site}
unfoldable pub use Rattle.zl_code.specs.Request.{site_of}
pub use Rattle.zl_code.specs.Sound.{IsSound, raisable}
pub use Rattle.zl_code.specs.Spells.{Reading, Spells, are_needs, are_registers, bytes_of, instr_bytes, is_in_range, is_instr_in_range, is_slot_in_range, is_start_in_range, needs_byte, number_at, number_of, reading_of, row_bytes, seven, slot_bytes, spelling, start_bytes}
unfoldable pub use Rattle.zl_code.specs.Spells.{first_fault, header_fault, instr_fault, local_parts, pieces, slot_fault, start_fault}
pub use Rattle.zl_code.specs.Steps.{Acts, AtCall, IsLegalHistory, IsStuck, Moves, Next, Step, calls_at, next_for, pid_of, single}
pub use Rattle.zl_code.specs.Tests.{answer_if, body_in, body_of, copy_of, entry_at, object_at, table_of, with_rights}
pub use Rattle.zl_code.specs.Operands.{any, by_look_up, operand_of}
unfoldable pub use Rattle.zl_code.specs.Tests.{has_koids, has_room}
unfoldable pub use Rattle.zl_code.specs.Operands.{examined, operand}
unfoldable pub use Rattle.zl_rights.specs.Counts.{handles_to}
