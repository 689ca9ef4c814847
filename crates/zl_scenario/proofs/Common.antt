-- The names that most proofs of this crate cite, passed on from one place. Declares nothing.
pub use Rattle.zl_code.proofs.Common.{Bool, Err, Image, IsTrue, Library, List, MOST_ITEMS, None, Ok, OnOk, Option, Program, Result, Some, Spells, [], and_parts}
pub use Rattle.zl_code.proofs.Common.{ap, append-nil, append_assoc, arith, at_drop_all, at_drop_more, codes, cond, drop, eqb, false, flat_map, fold, get_or}
pub use Rattle.zl_code.proofs.Common.{inl, inr, is_in_range, length, length-append, list_all, list_all-append, ltb, map, map-append, nat_tests, not, refl}
pub use Rattle.zl_code.proofs.Common.{replicate, rules, spelling, subst, sym, take, take-append-drop, true, true≢false, ℕ, ◌%◌, ◌&&◌, ◌*◌, ◌++◌, ◌+◌, ◌-◌, ◌/◌}
pub use Rattle.zl_code.proofs.Common.{◌<◌, ◌^◌, ◌∙◌, ◌∷◌, ◌≡◌, ◌≤◌, ◌⊎◌}
unfoldable pub use Rattle.zl_code.proofs.Common.{first_fault, header_fault, instr_fault, pieces, row_of}
unfoldable pub use Rattle.zl_asm.specs.Lines.{all_of}
pub use Rattle.zl_asm.specs.Words.{is_ascii, lines_of}
unfoldable pub use Rattle.zl_asm.specs.Words.{is_word}
unfoldable pub use Rattle.zl_scenario.specs.Handles.{handle_of, rights_named}
pub use Rattle.zl_scenario.specs.Numbers.{both, decimal_digit_of, decimal_value, hex_digit_of, hex_digits_of_byte, is_decimal_digit, is_number}
pub use Rattle.zl_lines.specs.Lines.{is_comment, words_of}
unfoldable pub use Rattle.zl_scenario.specs.Numbers.{bytes_of_digits, digits_of, number_of}
pub use Rattle.zl_scenario.specs.Scenario.{Asm, Block, BlocksAreWhole, Body, DigitsAreWhole, Hex, IsInOrder, Listed, MOST_PROGRAMS, Part, Place, Reading, Rises}
pub use Rattle.zl_scenario.specs.Scenario.{Scenario, Schedule, Statements, TextIsWhole, after_block, at, bytes_said, digits_said, fault_at_end, joined}
pub use Rattle.zl_scenario.specs.Scenario.{object_said, onto, onto_block, opened_by, opening, part_said, reading_of, refused_at, start, text_spelled, told_line}
pub use Rattle.zl_scenario.specs.Scenario.{with_program, with_schedule, with_statement}
unfoldable pub use Rattle.zl_scenario.specs.Scenario.{block_said, body_named, body_said, digits_in, digits_spelled, is_end, limit_said, line_said, mark_named}
unfoldable pub use Rattle.zl_scenario.specs.Scenario.{object_named, pair_said, process_said, program_said, reading_from, statement_said, text_in, turns_said}
pub use Rattle.zl_scenario.specs.Accepted.{AcceptsImage, RefusesImage}
pub use Rattle.zl_scenario.specs.Reads.{IsPassed, IsRead, IsStopped, Reads, TextsAreReadAsSaid, TextsAreReadOnce, at_end, line_faulty, line_taken, listed}
pub use Rattle.zl_scenario.specs.Reads.{program_refused}
unfoldable pub use Rattle.zl_scenario.specs.Reads.{whole_at, whole_in}
