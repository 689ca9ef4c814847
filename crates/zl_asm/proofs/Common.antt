-- The names that most proofs of this crate cite, passed on from one place. Declares nothing.
pub use Rattle.std.proofs.Common.{take-add}
pub use Rattle.zl_code.proofs.Common.{Bool, Err, IfErr, IfOk, Image, IsTrue, List, None, Ok, OnOk, Option, Reading, Result, Row, Some, [], and_from, and_parts}
pub use Rattle.zl_code.proofs.Common.{ap, append-nil, append_assoc, are_needs, are_registers, arith, at_drop_all, at_drop_more, bit_and, bits, bytes_of}
pub use Rattle.zl_code.proofs.Common.{cases_Bool, codes, cond, condition_name, condition_number, decimal, drop, drop_at, eqb, eqb-true, false, filter, find}
pub use Rattle.zl_code.proofs.Common.{flat_map, flat_map-append, fold, get_or, get_or-drop, get_or-map, if◌then◌else◌, inl, inr, instr_bytes, is_among}
pub use Rattle.zl_code.proofs.Common.{is_in_range, is_instr_in_range, is_slot_in_range, is_some, is_start_in_range, layout_of, le-leb, leb, leb-true, length}
pub use Rattle.zl_code.proofs.Common.{length-append, length-drop, length-map, length-take, length-take-le, list_all, list_all-append, list_any, lt-ltb, ltb}
pub use Rattle.zl_code.proofs.Common.{ltb-true, map, map-append, nat_le, nat_lt, nat_tests, ne_eqb, needs_byte, needs_named, not, number_at, option_map}
pub use Rattle.zl_code.proofs.Common.{or_left, or_right, reading_of, refl, replicate, rights_of, row_bytes, rules, set, seven, slice_index, spelling}
pub use Rattle.zl_code.proofs.Common.{starts_with, string_bytes, subst, suc, sym, take, take-append-drop, take_all, take_at, take_more, true, true≢false}
pub use Rattle.zl_code.proofs.Common.{within, zero, ℕ, ◌%◌, ◌&&◌, ◌*◌, ◌++◌, ◌+◌, ◌-◌, ◌/◌, ◌<◌, ◌==◌, ◌^◌, ◌||◌, ◌∙◌, ◌∷◌, ◌≡◌, ◌≢◌, ◌≤◌, ◌⊎◌}
unfoldable pub use Rattle.zl_code.proofs.Common.{instr_fault, local_parts, row_named, row_of}
pub use Rattle.std.proofs.Math.Nat.{le-mul_of_pos_right, pow-suc}
pub use Rattle.std.proofs.Math.Seq.{take-suc, take-suc-set}
pub use Rattle.std.proofs.lemmas.Bool.{and_left, and_right, cases_eq, eq-eqb, le-ltb, lt-leb, ltb-false, not-true}
pub use Rattle.std.proofs.lemmas.Grind.{common_steps}
pub use Rattle.std.proofs.lemmas.List.{drop-map, drop-replicate, drop_all, length-replicate, take-map}
pub use Rattle.std.proofs.lemmas.List.Folds.{list_all_at, list_all_more, list_any-append}
pub use Rattle.std.proofs.lemmas.List.Sums.{fold-append, fold_more}
pub use Rattle.std.specs.Cmp.Lexicographic.{bytes_decides, nat_list_eq_equiv, pointwise}
pub use Rattle.std.specs.List.{concat, enumerate_from, onto_first}
pub use Rattle.std.specs.Map.{lookup}
pub use Rattle.std.specs.Option.{is_none, option_copied, unwrap_or}
pub use Rattle.std.specs.Prelude.{MatchResult, nat_eq}
pub use Rattle.std.specs.Result.{IsErr, is_err, result_err, result_ok}
pub use Rattle.zl_asm.specs.Canonical.{EachTextDenotes, aims, aims_at, code_lines, directive_lines, hex_digit, hex_text, instr_text, is_target, kind_text}
pub use Rattle.zl_asm.specs.Canonical.{behind, label_lines, label_text, operand_texts, register_text, row_at, row_text, version_lines}
unfoldable pub use Rattle.zl_asm.specs.Canonical.{code_lines_from, joined, tail_texts, text_of}
pub use Rattle.zl_asm.specs.Denotes.{Denotes, EachTextGivesBytes, NoTextDenotesTwo, fields_of, listing_bytes}
pub use Rattle.zl_asm.specs.Draft.{Gives, GivesNone, Held, Holds, IsCodeOf, IsGiven, IsHeldOf, Pushes, Reads, ReadsAll, Refuses, Resolves, Stops, held_by}
pub use Rattle.zl_asm.specs.Draft.{is_directive_in_range, labels_shown, line_said, sources_shown}
pub use Rattle.zl_asm.specs.Kept.{fits, is_fine, is_kept_in_range, kept_value}
pub use Rattle.zl_asm.specs.Lines.{Blank, Code, Declares, Label, Line, Source, Tail, alone, if_fits, instruction_of, need_of, number_within, onto_all, row_by}
pub use Rattle.zl_asm.specs.Lines.{places_of, point_line, registers_of, slot_array_with, source_with, start_with, tail, tail_to, then_with, untargeted}
pub use Rattle.zl_asm.specs.Lines.{version_with, written}
unfoldable pub use Rattle.zl_asm.specs.Lines.{all_of, directive_of, kind_of, label_of, line_of, operands_after, operands_of, source_of, tail_of, unknown_of}
pub use Rattle.zl_asm.specs.Listing.{Listing, are_in_order, budget_in, declares, given, gives_version, is_body, is_listing, led_to, lines_said, listing_with}
pub use Rattle.zl_asm.specs.Listing.{mark_in, nested, paired, partner_by}
pub use Rattle.zl_asm.specs.Listing.{memory_in, need_in, position_of, resolved, says, slots_in, source_in, start_in, version_behind, version_in, with_target}
unfoldable pub use Rattle.zl_asm.specs.Listing.{end_among, labels_from, lines_from, listing_from, listing_of, names_once, none_behind, paired_from}
pub use Rattle.zl_asm.specs.Pieces.{TargetsAre, directives_text, ended, fields_text, line_text, need_text, needs_text, slot_array_text, start_text}
pub use Rattle.zl_asm.specs.Values.{line_value, source_value, tail_value, texts}
pub use Rattle.zl_asm.specs.Words.{byte_before, comma, digit_value, is_ascii, is_digit, is_name_byte, is_number, lines_of, number_in, value_of, word_before}
pub use Rattle.zl_asm.specs.Words.{words_of}
unfoldable pub use Rattle.zl_asm.specs.Words.{digit_of, hex_bytes, is_name, is_word, number_of, register_of, words_from}
pub use Rattle.zl_asm.specs.declared.directive.Directive.{Directive}
pub use Rattle.zl_asm.specs.declared.draft.SourceLine.{SourceLine}
pub use Rattle.zl_code.proofs.ImageBytes.{IsBytes, bytes_of-number_at, list_all-from_IsBytes}
pub use Rattle.zl_code.proofs.ImageNeeds.{needs_fit, needs_named-needs}
pub use Rattle.zl_code.proofs.ImageRanges.{Ranges, ranges}
pub use Rattle.zl_code.specs.Image.{can_be_needed, need_if}
pub use Rattle.zl_code.specs.Instructions.{field_of, is_known, is_new, layout, layout_at, row_among, row_value, rows}
pub use Rattle.zl_code.specs.Spells.{are_places, is_ending_clear, is_packed, keep_blocks, names_registers, registers_at, rights_allowed}
pub use Rattle.zl_code.specs.declared.image.SlotArray.{SlotArray}
pub use Rattle.zl_code.specs.declared.image.Start.{Start}
pub use Rattle.zl_code.specs.declared.image.Version.{Version}
pub use Rattle.zl_code.specs.declared.instr.Instr.{Instr}
pub use Rattle.zl_code.specs.declared.layout.Ending.{Ending}
pub use Rattle.zl_rights.specs.declared.kind.Kind.{Kind}
pub use Rattle.zl_rights.specs.declared.policy.Condition.{Condition}
