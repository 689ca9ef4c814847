-- What the replay engine answers to a scenario and to a trace.
use Rattle.std.specs.Prelude.{ℕ, ◌≡◌, ◌<◌, ◌≤◌, ◌+◌, List, ◌++◌, codes, length, take, Option, Some, None, slice_index_or}
use Rattle.std.specs.Fmt.{decimal}
use Rattle.std.specs.Io.KnownBytes.{Appends}
use Rattle.zl_code.specs.Common.{World, IsBoot, FirstFault, Library, IsLegalHistory, IsSound}
use Rattle.zl_code.specs.Headline.{IsSizedBoot, CoveredGoWell}
use Rattle.zl_code.specs.declared.boot.BootCause.{BootCause}
use Rattle.zl_code.specs.declared.boot.Statement.{Statement}
use Rattle.zl_code.specs.declared.history.TraceItem.{TraceItem}
use Rattle.zl_calls.specs.World.{Machine}
use Rattle.zl_trace.specs.Output.{AppendsBeginning}
use Rattle.zl_trace.specs.Reading.{AreLinesOf, IsFirstWrong, item_lines_of}
use Rattle.zl_trace.specs.Replaying.{DiffersAt, IsReplayed}
use Rattle.zl_scenario.specs.declared.cause.Cause.TheVariants as cause
use Rattle.zl_scenario.specs.declared.cause.LineFault.{LineFault}
use Rattle.zlab.specs.declared.fault.Verdict.{Verdict}
use Rattle.zlab.specs.declared.fault.Verdict.TheVariants as verdict
use Rattle.zlab.specs.declared.replaying.Items.{Items}
use Rattle.zlab.specs.declared.replaying.Items.TheVariants as items
use Rattle.zlab.specs.declared.replaying.Replayed.{Replayed}
use Rattle.zlab.specs.declared.replaying.Replayed.TheVariants as replayed
use Rattle.zlab.specs.Engine.{InEachWorld, IsFirstFaultBy, IsOwnHistory, IsTextOf, line_cause}
use Rattle.zlab.specs.Input.{FitsInput, TakesAtMost}
use Rattle.zl_scenario.specs.Reading.{Lists, AreAccepted}
use Rattle.zl_scenario.specs.Reads.{IsRead}
use Rattle.zl_scenario.specs.Scenario.{Reading}
use Rattle.zl_scenario.specs.Causes.{cause_name}
use Rattle.zlab.specs.Text.{refused_line, refused_trace_line}

-- ---- the two inputs

-- the most bytes of a trace
abbrev pub MOST_TRACE : ℕ
MOST_TRACE = 134217728

-- a reader gave up no more than one byte past that
abbrev pub TakesTrace : (old new : Option (List ℕ)) → Type 0
TakesTrace old new = TakesAtMost (MOST_TRACE + 1) old new

-- what is read of a trace: all of it, or one byte more than the most
abbrev pub trace_front : List ℕ → List ℕ
trace_front trace = take (MOST_TRACE + 1) trace

-- the line `--` where there is one, as Syntax, else the fault
abbrev pub alone : Option ℕ → Option LineFault → Option LineFault
alone (Some line) fault = Some (record { line = line; cause = cause.Syntax })
alone None fault = fault

-- the fault of reading a scenario alone: a schedule has no place there
abbrev pub fault_alone : Reading → Option LineFault
fault_alone reading = alone reading.said.schedule_line reading.fault

-- The text is a scenario alone, of these programs and statements, and reading finds no fault. Each checked program has a typing and a
-- step bound of it.
pub record IsScenarioOf (text : List ℕ) (library : Library) (statements : List Statement) : Type 0 where
  pub fits : FitsInput text
  pub reading : Reading
  pub read : IsRead text reading
  pub no_fault : fault_alone reading ≡ None
  pub programs : Lists reading.said.programs library
  pub accepted : AreAccepted library
  pub same : statements ≡ reading.said.statements

-- ---- what is found

-- the items are a legal history from a boot world of the scenario
pub record IsHistoryOf (text : List ℕ) (items : List TraceItem) : Type 0 where
  pub library : Library
  pub statements : List Statement
  pub scenario : IsScenarioOf text library statements
  pub boot : World
  pub boots : IsSizedBoot library statements boot
  pub last : World
  pub legal : IsLegalHistory library boot items last
  -- no process of a checked program is answered BAD_HANDLE, WRONG_TYPE or ACCESS_DENIED, is stuck, ended by a policy or past its
  -- budget, until somebody kills it
  pub covered : CoveredGoWell library boot items
  -- no two handles stand at one place, none has a right that its kind doesn't give, and each names an object that is there
  pub sound : InEachWorld IsSound library boot items last legal
  pub own : IsOwnHistory library statements boot items last

-- the items before number n, from 1, can be replayed; item n then differs, or is one past the most that a trace has
pub record DiffersFrom (text : List ℕ) (items : List TraceItem) (n : ℕ) : Type 0 where
  pub library : Library
  pub statements : List Statement
  pub scenario : IsScenarioOf text library statements
  pub limit : ℕ
  pub differs : DiffersAt library statements limit items n

-- the scenario has no fault
pub record Boots (text : List ℕ) : Type 0 where
  pub library : Library
  pub statements : List Statement
  pub scenario : IsScenarioOf text library statements
  pub boot : World
  pub boots : IsBoot library statements boot

-- the trace has too many bytes, or line n is the first that is to be that of an item and isn't
pub data IsTraceFault (trace : List ℕ) : LineFault → Type 0 where
  too_long : MOST_TRACE < length trace → IsTraceFault trace (record { line = 0; cause = cause.Limit })
  wrong : (n : ℕ) → length trace ≤ MOST_TRACE → IsFirstWrong trace n → IsTraceFault trace (record { line = n; cause = cause.Syntax })

-- the trace isn't too long, and these are its items
pub record HasItems (trace : List ℕ) (items : List TraceItem) : Type 0 where
  pub fits : length trace ≤ MOST_TRACE
  pub lines : AreLinesOf (item_lines_of trace) items

-- What is found is true of the two texts. A fault of the scenario comes before one of the trace.
abbrev pub IsTrueOf : (text trace : List ℕ) → Replayed → Type 0
IsTrueOf text trace (replayed.All n) = (items : List TraceItem) × HasItems trace items × (n ≡ length items) × IsHistoryOf text items
IsTrueOf text trace (replayed.Differs n) = (items : List TraceItem) × HasItems trace items × DiffersFrom text items n
IsTrueOf text trace (replayed.Refused fault) = IsFirstFaultBy fault_alone text fault
IsTrueOf text trace (replayed.RefusedTrace fault) = Boots text × IsTraceFault trace fault

-- the line that says what was found
abbrev pub replayed_line : Replayed → List ℕ
replayed_line (replayed.All n) = codes "replayed " ++ (decimal n ++ codes "\n")
replayed_line (replayed.Differs n) = codes "differs " ++ (decimal n ++ codes "\n")
replayed_line (replayed.Refused fault) = refused_line fault.line (cause_name fault.cause)
replayed_line (replayed.RefusedTrace fault) = refused_trace_line fault.line (cause_name fault.cause)

-- how the engine ends then
abbrev pub verdict_of : Replayed → Verdict
verdict_of (replayed.All n) = verdict.Done
verdict_of _ = verdict.Refused

-- ---- the answer

-- the writer got the line of what is true of the texts of two readers
pub record AnswersReplay (told told_trace : Option (List ℕ)) (v : Verdict) (old new : Option (List ℕ)) : Type 0 where
  pub text : List ℕ
  pub is_text : IsTextOf told text
  pub trace : List ℕ
  pub is_trace : IsTextOf told_trace trace
  pub found : Replayed
  pub is_true : IsTrueOf text trace found
  pub ends : v ≡ verdict_of found
  pub written : Appends old new (replayed_line found)

-- the writer got a beginning of such a line, or nothing
pub data BeginsReplay (told told_trace old : Option (List ℕ)) : Option (List ℕ) → Type 0 where
  no_line : BeginsReplay told told_trace old old
  line_begun : (text trace : List ℕ) (found : Replayed) (new : Option (List ℕ)) → IsTextOf told text → IsTextOf told_trace trace → IsTrueOf text trace found
      → AppendsBeginning old new (replayed_line found) → BeginsReplay told told_trace old new

-- ---- what the parts of the engine do

-- a boot is refused for this fault at a statement, which stands in this line
pub record IsStatementFault (library : Library) (statements : List Statement) (limit : ℕ) (lines : List ℕ) (fault : LineFault) : Type 0 where
  pub number : ℕ
  pub found : BootCause
  pub first : FirstFault library statements limit number found
  pub named : line_cause found ≡ Some fault.cause
  pub line : fault.line ≡ slice_index_or lines number 0

-- the items of the trace, or its fault
abbrev pub AreItems : List ℕ → Items → Type 0
AreItems trace (items.All list) = HasItems trace list.items
AreItems trace (items.Faulty fault) = IsTraceFault trace fault

-- what comes of the items after a boot of the statements, which stand in these lines
abbrev pub Comes : Library → List Statement → ℕ → List ℕ → List TraceItem → Replayed → Type 0
Comes library statements limit lines items (replayed.All n) = (n ≡ length items) × ((last : Machine) × IsReplayed library statements limit items last)
Comes library statements limit lines items (replayed.Differs n) = DiffersAt library statements limit items n
Comes library statements limit lines items (replayed.Refused fault) = IsStatementFault library statements limit lines fault
Comes library statements limit lines items (replayed.RefusedTrace fault) = ⊥
