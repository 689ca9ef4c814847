-- The names that most proofs of this crate cite, passed on from one place. Declares nothing.
pub use Rattle.std.proofs.Common.{ap, ap₂, arith, cond, inl, inr, option_map, refl, subst, sym, true≢false, ◌∙◌}
pub use Rattle.clap.specs.Simple.{App, Shape, app_of_fields, built, entered, filled, names_of, on_top, rows_at, with_index}
pub use Rattle.clap.specs.Words.{Text, app_of, fault_of, first_of, found_of, is_simple, is_simple_and_free, subcommand_of, takes, with_rule, with_subcommand}
pub use Rattle.clap.specs.declared.error.kind.ErrorKind.{ErrorKind}
pub use Rattle.std.proofs.lemmas.Result.{IfOk-weaker}
pub use Rattle.std.specs.List.{find}
pub use Rattle.std.specs.Option.{option_map_or}
pub use Rattle.std.specs.Prelude.{Bool, Err, IfErr, IfOk, IfSome, IsSome, List, None, Ok, Option, Result, Some, [], codes, drop, encode_utf8, false, fold}
pub use Rattle.std.specs.Prelude.{is_some, length, map, not, option_and_then, slice_get, suc, true, unwrap_or, zero, ℕ, ◌&&◌, ◌++◌, ◌||◌, ◌∷◌, ◌≡◌, ◌≢◌, ◌⊎◌}
pub use Rattle.std.specs.Str.{bytes_eq}
pub use Rattle.std.specs.Str.Parse.{ExplainsUnsignedError, HasUnsignedDigitsIfOk, ParsesUnsigned}
pub use Rattle.zl_command.specs.Words.{AnswersError, AsksFor, GivesText, HasNumber, HasValue, HasValues, IfTask, IfText, IsShown, MayAskForHelp}
pub use Rattle.zl_command.specs.Words.{MayHaveNumber, are_accepted, assembling, bad_of, checking, commands, exploring, is_within, needed, number, number_of}
pub use Rattle.zl_command.specs.Words.{numbered, optional, program, repeated, replaying, running, single, stepping}
