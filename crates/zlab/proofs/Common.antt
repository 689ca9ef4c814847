-- The names that most proofs of this crate cite, passed on from one place. Declares nothing.
pub use Rattle.zl_code.proofs.Common.{Err, FirstFault, IfOk, Image, IsBoot, IsLegalHistory, IsSound, Library, List, None, Ok, OnOk, Option, Result, Some}
pub use Rattle.zl_code.proofs.Common.{Spells, [], ap, append-nil, arith, at_limit, at_statement, codes, get_or, inl, inr, length, length-append, none-some}
pub use Rattle.zl_code.proofs.Common.{refl, slice_get, slice_get-get_or, subst, sym, take, ℕ, ◌++◌, ◌+◌, ◌-◌, ◌<◌, ◌∙◌, ◌∷◌, ◌≡◌, ◌≤◌, ◌⊎◌}
unfoldable pub use Rattle.zl_code.proofs.Common.{first_fault, header_fault}
pub use Rattle.std.proofs.Common.{length-take, vec_len}
pub use Rattle.std.specs.Io.KnownBytes.{Appends, Consumes}
pub use Rattle.std.specs.Prelude.{slice_index_or}
unfoldable pub use Rattle.zl_asm.specs.Words.{is_word}
pub use Rattle.zl_sched.specs.Follows.{EndsBy, turns_of}
pub use Rattle.zl_sched.specs.System.{System, Walks, room_of}
pub use Rattle.zl_trace.specs.Output.{AppendsBeginning}
pub use Rattle.zl_trace.specs.Text.{history_text, states_of, trace_text}
pub use Rattle.zlab.specs.Engine.{Answers, AnswersInput, AnswersSome, BeginsAnswer, BeginsInput, BeginsReader, BeginsRun, BeginsSome, InEachWorld, IsAnswer}
pub use Rattle.zlab.specs.Engine.{IsFirstFault, IsRun, IsRunOf, IsStart, IsTextOf, Starts, WritesRun, beginning, line_cause, no_line, nothing, of_reading}
pub use Rattle.zlab.specs.Engine.{of_statement, refusal, some_lines, too_long, trace}
pub use Rattle.zlab.specs.Files.{BeginsFiles, joined_files}
pub use Rattle.zlab.specs.Input.{FitsInput, Holds, IsBounded, IsInputOf, MOST_INPUT}
unfoldable pub use Rattle.zl_scenario.specs.Numbers.{number_of}
pub use Rattle.zl_scenario.specs.Scenario.{IsInOrder, Reading, Scenario, reading_of, refused_at}
unfoldable pub use Rattle.zl_scenario.specs.Scenario.{body_named, limit_said, line_said, mark_named, pair_said, process_said, reading_from, statement_said}
unfoldable pub use Rattle.zl_scenario.specs.Scenario.{turns_said}
pub use Rattle.zl_scenario.specs.Reads.{IsRead}
pub use Rattle.zl_scenario.specs.Causes.{cause_name}
pub use Rattle.zlab.specs.Text.{refused_line}
pub use Rattle.zl_code.proofs.Common.{take_all}
pub use Rattle.zl_code.specs.declared.boot.BootCause.{BootCause}
pub use Rattle.zl_code.specs.declared.boot.Statement.{Statement}
pub use Rattle.zl_code.specs.declared.history.TraceItem.{TraceItem}
pub use Rattle.zl_scenario.specs.Reading.{IsScenario, reading_value}
pub use Rattle.zl_scenario.specs.declared.cause.LineFault.{LineFault}
pub use Rattle.zl_sched.specs.declared.system.End.{End}
pub use Rattle.zl_trace.proofs.KnownOutput.{on_err}
pub use Rattle.zlab.specs.Engine.{IsFirstFaultBy}
pub use Rattle.zlab.specs.Replay.{IsStatementFault, fault_alone}
pub use Rattle.zlab.specs.Running.{no_trace, not_begun}
pub use Rattle.zlab.specs.declared.fault.Verdict.{Verdict}
