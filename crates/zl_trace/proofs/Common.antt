-- The names that most proofs of this crate cite, passed on from one place. Declares nothing.
pub use Rattle.std.proofs.Common.{OnErr, OnOk, nat_eq, true≢false}
pub use Rattle.zl_code.proofs.Common.{Bool, Choice, Err, IsTrue, List, Map, None, Ok, Option, Process, Refused, Result, Some, [], and_parts, ap, append-nil}
pub use Rattle.zl_code.proofs.Common.{append_assoc, arith, at_drop_more, below_all, call_name, cases_Bool, codes, drop, eq-eqb, eqb-true, false, flat_map}
pub use Rattle.zl_code.proofs.Common.{get_or, inl, inr, is_sorted, length, length-append, length-map, map, map-append, nat_cmp, nat_tests, none-some, pos, refl}
pub use Rattle.zl_code.proofs.Common.{replicate, rules, same_Some, slice_get, string_bytes, subst, suc, sym, take, take-append-drop, take_more, true, zero, ℕ}
pub use Rattle.zl_code.proofs.Common.{◌++◌, ◌+◌, ◌-◌, ◌<◌, ◌==◌, ◌^◌, ◌∙◌, ◌∷◌, ◌≡◌, ◌≤◌}
unfoldable pub use Rattle.zl_code.proofs.Common.{boot_effect, get}
pub use Rattle.std.proofs.KnownBytes.{Appends-kept, Appends-nil, Appends-trans}
pub use Rattle.std.proofs.lemmas.Fmt.{IsAscii-decimal, decimal_digit, decimal_injective, parse-decimal, parse-signed_decimal}
pub use Rattle.std.proofs.lemmas.List.{length-take-le, take_rest}
pub use Rattle.std.proofs.lemmas.List.Concat.{flat_map-append}
pub use Rattle.std.specs.Fmt.{decimal, signed_decimal}
unfoldable pub use Rattle.std.specs.Fmt.{digits}
pub use Rattle.std.specs.Int.{w32, w64}
pub use Rattle.std.specs.Io.KnownBytes.{Appends}
pub use Rattle.std.specs.List.{take-map}
pub use Rattle.std.specs.Prelude.{FitsSigned, if◌then◌else◌, ℤ, ◌≢◌, ◌⊎◌}
pub use Rattle.std.specs.Str.Parse.{ParsesSigned, ParsesUnsigned}
pub use Rattle.zl_calls.specs.World.{Machine, seen_in, seen_of, state_in}
pub use Rattle.zl_code.specs.declared.history.TraceItem.{TraceItem}
pub use Rattle.zl_lines.specs.Lines.{lines_of, words_of}
pub use Rattle.zl_rights.specs.Names.{status_name}
pub use Rattle.zl_sched.specs.Follows.{Follows, turns_of}
pub use Rattle.zl_sched.specs.System.{System}
pub use Rattle.zl_trace.specs.Output.{AppendsBeginning, Gathers}
pub use Rattle.zl_trace.specs.Reading.{AreLinesOf, IsFirstWrong, Tells, TellsNothing, ends_items, item_lines_of, item_words, says_nothing}
unfoldable pub use Rattle.zl_trace.specs.Reading.{item_lines_from}
pub use Rattle.zl_trace.specs.Replaying.{Differs, DiffersAt, IsReplayed, Repeats, StepDiffers, another, at_step}
pub use Rattle.zl_trace.specs.Text.{end_line, item_line, state_line, states_of, trace_text}
unfoldable pub use Rattle.zl_trace.specs.Text.{history_text}
