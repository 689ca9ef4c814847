-- The names that most proofs of this crate cite, passed on from one place. Declares nothing.
pub use Rattle.std.proofs.Common.{Bool, Equal, Err, Greater, IfNone, IfOk, IfSome, IsTrue, Less, List, None, Ok, Option, Result, Some, [], add-one, ap}
pub use Rattle.std.proofs.Common.{append-nil, arith, cond, drop, drop-cons, eqb, false, get_or, if◌then◌else◌, inl, inr, is_some, leb, leb-true, length, ltb}
pub use Rattle.std.proofs.Common.{map, max, min, ne_eqb, not, refl, replicate, rules, slice_index, subst, suc, sym, take, true, zero, zip, ℕ, ◌&&◌, ◌*◌, ◌++◌}
pub use Rattle.std.proofs.Common.{◌+◌, ◌-◌, ◌<◌, ◌||◌, ◌∙◌, ◌∷◌, ◌≡◌, ◌≢◌, ◌≤◌, ◌⊎◌}
pub use Rattle.zl_code.proofs.Common.{and_parts, is_in_range, is_instr_in_range, none-some, same_Some}
unfoldable pub use Rattle.bitflags.specs.Sets.{known_from}
pub use Rattle.std.proofs.lemmas.Bool.Decides.{Decides-eqb, nat_tests}
pub use Rattle.std.proofs.lemmas.Grind.{common_steps, get_or_default_zero}
pub use Rattle.std.proofs.lemmas.List.{append_assoc, drop_all, get_or-set_other, get_or_default, length-append, length-drop, length-map, length-set, set-get_or}
pub use Rattle.std.proofs.lemmas.List.{take_all}
pub use Rattle.std.proofs.lemmas.Nat.{and_assoc, and_comm, and_le_l, and_le_r, le-div, or_lt, pow_pos}
pub use Rattle.std.specs.List.{Contains, dedup, list_all, list_any}
pub use Rattle.std.specs.Option.{option_map}
pub use Rattle.std.specs.Prelude.{bit_and, bit_or, nat_lt, slice_get, slice_set, ◌/◌, ◌^◌}
pub use Rattle.zl_abs.specs.Bounds.{RoundAlike, bounds_by, bounds_of, imm_bounds, plain_bounds, rounded}
unfoldable pub use Rattle.zl_abs.specs.Bounds.{imm_of, least_from}
pub use Rattle.zl_abs.specs.CallRules.{ArrayUse, Gives, Uses, answers, are_words, array_fault, array_in, call_rule_by, copies, count_fits, examined}
pub use Rattle.zl_abs.specs.CallRules.{examined_by, fault_of, finished, finished_unless, gives, goes_on, has_one, is_as_long, is_declared, is_result, is_word}
pub use Rattle.zl_abs.specs.CallRules.{makes, narrowed_value, new, nothing, operands_at, operands_listed, packet, packet_values, range_fits, received_in}
pub use Rattle.zl_abs.specs.CallRules.{sends, signals, sizes, state_after, stops, sum_fits, taken_from, takes_any, tells, triple_results, uses, uses_by}
pub use Rattle.zl_abs.specs.CallRules.{values_by, values_of}
unfoldable pub use Rattle.zl_abs.specs.CallRules.{are_distinct, call_rule, examined_all, uses_of}
pub use Rattle.zl_abs.specs.Changes.{left_by}
pub use Rattle.zl_abs.specs.Fine.{AllFine, Fits, IsFine}
pub use Rattle.zl_abs.specs.Found.{bounds_in}
pub use Rattle.zl_abs.specs.Laws.{AllAboveJoin, AreAmong, IsAboveJoin, IsAmong, JoinIsAbove, JoinIsAllAbove, RuleBelow}
pub use Rattle.zl_abs.specs.LocalRules.{becomes, below_ways, computes, equal_ways, has_ways, in_memory, kind_numbered, kind_ways, known_kind, known_other}
pub use Rattle.zl_abs.specs.LocalRules.{known_rights, known_there, known_zero, loads, may_move, moved, shifted, slot_fault, slot_value, stores, swaps_by}
pub use Rattle.zl_abs.specs.LocalRules.{swaps_in, takes, unless, zero_ways}
unfoldable pub use Rattle.zl_abs.specs.LocalRules.{local_rule}
pub use Rattle.zl_abs.specs.Rule.{Edge, and_then, edge_to, edges, passes, word_at, word_or, writes}
pub use Rattle.zl_abs.specs.States.{State, bound_at, can_be_named, cons_if, is_named_well, refined, start_results, start_value, starts_from, value_at}
unfoldable pub use Rattle.zl_abs.specs.States.{all_below, all_joined, start_state, with_all, with_value}
pub use Rattle.zl_abs.specs.Typing.{rule_by, target_of}
unfoldable pub use Rattle.zl_abs.specs.Typing.{rule_with}
pub use Rattle.zl_abs.specs.Values.{ANY, bound_of, capped, is_has, kind_below, kind_joined, larger, retagged, smaller, untagged}
unfoldable pub use Rattle.zl_abs.specs.Values.{below, joined}
pub use Rattle.zl_abs.specs.Ways.{Ways}
pub use Rattle.zl_abs.specs.declared.cause.Cause.{Cause}
pub use Rattle.zl_abs.specs.declared.value.AbsVal.{AbsVal}
pub use Rattle.zl_code.proofs.ImageCalls.{whole}
pub use Rattle.zl_code.proofs.ImageRanges.{ranges}
pub use Rattle.zl_code.specs.Asked.{is_written, those, used}
pub use Rattle.zl_code.specs.Image.{Image, call_in, instr_at, local_in}
pub use Rattle.zl_code.specs.Instructions.{Field, Row, call_row, field_of, row_value}
unfoldable pub use Rattle.zl_code.specs.Instructions.{row_of}
pub use Rattle.zl_code.specs.Operands.{Operand}
pub use Rattle.zl_code.specs.Refusals.{operand_by}
pub use Rattle.zl_code.specs.Spells.{call_reading, is_call_in_range, is_local_in_range, is_room, is_slot_in_range, is_start_in_range, names_registers}
pub use Rattle.zl_code.specs.Spells.{number_at, register_in, rights_allowed}
unfoldable pub use Rattle.zl_code.specs.Spells.{local_parts}
pub use Rattle.zl_code.specs.declared.image.SlotArray.{SlotArray}
pub use Rattle.zl_code.specs.declared.image.Start.{Start}
pub use Rattle.zl_code.specs.declared.instr.CallInstr.{CallInstr}
pub use Rattle.zl_code.specs.declared.instr.Instr.{Instr}
pub use Rattle.zl_code.specs.declared.instr.LocalInstr.{LocalInstr}
pub use Rattle.zl_rights.specs.Numbers.{KNOWN_RIGHTS, SAME_RIGHTS, bits, kind_number, rights_of, same_kind, within}
pub use Rattle.zl_rights.specs.declared.kind.Kind.{Kind}
pub use Rattle.zl_rights.specs.declared.rights.Rights.{Rights}
