-- What the step engine answers to the bytes that it has read.
use Rattle.std.specs.Prelude.{ℕ, ◌≡◌, ◌<◌, ◌≤◌, List, [], length, Option, Some, None, IfSome, slice_get}
use Rattle.std.specs.List.{flat_map}
use Rattle.zl_code.specs.Common.{World, IsBoot, FirstFault, Library, IsLegalHistory, single, IsSound}
use Rattle.std.specs.Io.KnownBytes.{Appends}
use Rattle.zl_code.specs.declared.boot.BootCause.{BootCause}
use Rattle.zl_code.specs.declared.boot.BootCause.TheVariants as boot
use Rattle.zl_code.specs.declared.history.TraceItem.{TraceItem}
use Rattle.zl_code.specs.Handles.{Throughout}
use Rattle.zl_code.specs.Headline.{IsSizedBoot, CoveredGoWell}
use Rattle.zl_code.specs.OwnBoot.{own_boot}
use Rattle.zl_code.specs.OwnHistory.{OwnHistory}
use Rattle.zl_rights.specs.Values.{Free}
use Rattle.zl_rights.specs.Map.{Map}
use Rattle.zl_calls.specs.World.{own_here}
use Rattle.zl_code.specs.declared.boot.Statement.{Statement}
use Rattle.zlab.specs.declared.engine.Booted.{Booted}
use Rattle.zlab.specs.declared.engine.Booted.TheVariants as booted
use Rattle.zl_scenario.specs.declared.cause.Cause.{Cause}
use Rattle.zl_scenario.specs.declared.cause.Cause.TheVariants as cause
use Rattle.zl_scenario.specs.declared.cause.LineFault.{LineFault}
use Rattle.zlab.specs.declared.fault.Verdict.{Verdict}
use Rattle.zlab.specs.declared.fault.Verdict.TheVariants as verdict
use Rattle.zlab.specs.declared.input.Input.{Input}
use Rattle.zl_sched.specs.declared.system.End.{End}
use Rattle.zl_sched.specs.Follows.{turns_of, EndsBy}
use Rattle.zlab.specs.Input.{MOST_INPUT, FitsInput, Holds}
use Rattle.zl_trace.specs.Output.{AppendsBeginning}
use Rattle.zl_scenario.specs.Reading.{Lists, AreAccepted}
use Rattle.zl_scenario.specs.Reads.{IsRead}
use Rattle.zl_scenario.specs.Scenario.{Scenario, Reading}
use Rattle.zl_sched.specs.System.{System, Walks}
use Rattle.zl_trace.specs.Text.{states_of, history_text}
use Rattle.zl_scenario.specs.Causes.{cause_name}
use Rattle.zlab.specs.Text.{refused_line}

-- ---- a trace

-- P is true of every world of the history, from the first to the last
abbrev pub InEachWorld : (World → Type 0) → (lib : Library) (first : World) (items : List TraceItem) (last : World) → IsLegalHistory lib first items last → Type 0
InEachWorld P lib first items last legal = Throughout P lib first (flat_map single items) last legal.run × P last

-- the boot world is the lab's own, and the items are the lab's own history from it: what the lab itself does next, one after another, with
-- the values that come in each table
pub record IsOwnHistory (library : Library) (statements : List Statement) (boot : World) (items : List TraceItem) (last : World) : Type 0 where
  pub begins : boot ≡ (own_boot library statements).world
  -- by process, the values that new handles get behind the last item
  pub free : Map Free
  pub own : OwnHistory library (own_boot library statements) items (record { world = last; free = free })

-- The items are a legal history from a boot world of the scenario in the text, along its schedule, up to
-- this end and within the limit. Neither the text nor a line of it is at fault.
pub record IsRunOf (text : List ℕ) (items : List TraceItem) (w : World) (e : End) : Type 0 where
  pub fits : FitsInput text
  pub said : Scenario
  pub read : IsRead text (record { said = said; fault = None })
  -- its programs with their marks; each checked one has a typing and a step bound of it
  pub library : Library
  pub programs : Lists said.programs library
  pub accepted : AreAccepted library
  pub boot : World
  pub boots : IsSizedBoot library said.statements boot
  pub legal : IsLegalHistory library boot items w
  -- no process of a checked program is answered BAD_HANDLE, WRONG_TYPE or ACCESS_DENIED, is stuck, ended by a policy or past its budget,
  -- until somebody kills it
  pub covered : CoveredGoWell library boot items
  -- no two handles stand at one place, none has a right that its kind doesn't give, and each names an object that is there
  pub sound : InEachWorld IsSound library boot items w legal
  pub own : IsOwnHistory library said.statements boot items w
  pub room : length items ≤ said.limit
  pub ends : EndsBy library boot (turns_of said.schedule) said.limit items w e

-- ---- a refusal

-- the fault of a statement, as a line has it
abbrev pub line_cause : BootCause → Option Cause
line_cause boot.BadHandleList = Some cause.BadHandleList
line_cause boot.NeedDenied = Some cause.NeedDenied
line_cause boot.Limit = Some cause.Limit
line_cause boot.NoMemory = None
line_cause boot.Unknown = Some cause.Unknown
line_cause boot.BadState = Some cause.BadState
line_cause boot.Conflict = Some cause.Conflict

-- the fault of reading: the first of the text's own, such as a checked program that the rules refuse
abbrev pub fault_read : Reading → Option LineFault
fault_read reading = reading.fault

-- The first fault of the text: too many bytes; or, in a text that isn't too long, a statement at which a boot is refused, before any
-- fault of reading, where all statements before it can be done.
pub data IsFirstFaultBy (fault_of : Reading → Option LineFault) (text : List ℕ) : LineFault → Type 0 where
  too_long : MOST_INPUT < length text → IsFirstFaultBy fault_of text (record { line = 0; cause = cause.Limit })
  of_statement : (reading : Reading) (library : Library) (n : ℕ) (found : BootCause) (fault : LineFault)
      → FitsInput text → IsRead text reading → Lists reading.said.programs library → FirstFault library reading.said.statements reading.said.limit n found
      → slice_get reading.said.lines n ≡ Some fault.line → line_cause found ≡ Some fault.cause → IsFirstFaultBy fault_of text fault
  of_reading : (reading : Reading) (library : Library) (w : World) (fault : LineFault)
      → FitsInput text → IsRead text reading → Lists reading.said.programs library → IsBoot library reading.said.statements w
      → fault_of reading ≡ Some fault → IsFirstFaultBy fault_of text fault

-- that of a scenario with its schedule
abbrev pub IsFirstFault : List ℕ → LineFault → Type 0
IsFirstFault = IsFirstFaultBy fault_read

-- ---- the answer

-- the lines are the answer to the text
pub data IsAnswer (text : List ℕ) : Verdict → List ℕ → Type 0 where
  trace : (items : List TraceItem) (w : World) (e : End) → IsRunOf text items w e → IsAnswer text verdict.Done (history_text items (states_of w) e)
  refusal : (fault : LineFault) → IsFirstFault text fault → IsAnswer text verdict.Refused (refused_line fault.line (cause_name fault.cause))

-- the bytes of a reader, which may tell what it has left
pub record IsTextOf (told : Option (List ℕ)) (text : List ℕ) : Type 0 where
  pub those_told : IfSome told (λ left. left ≡ text)

-- the writer got an answer to the text
pub record Answers (text : List ℕ) (v : Verdict) (old new : Option (List ℕ)) : Type 0 where
  pub lines : List ℕ
  pub is_answer : IsAnswer text v lines
  pub written : Appends old new lines

-- the writer got a beginning of an answer to the text, or nothing
pub data BeginsAnswer (text : List ℕ) (old : Option (List ℕ)) : Option (List ℕ) → Type 0 where
  nothing : BeginsAnswer text old old
  beginning : (v : Verdict) (lines : List ℕ) (new : Option (List ℕ)) → IsAnswer text v lines → AppendsBeginning old new lines → BeginsAnswer text old new

-- the writer got an answer to a text of which it is known where it comes from
pub record AnswersSome (IsSource : List ℕ → Type 0) (v : Verdict) (old new : Option (List ℕ)) : Type 0 where
  pub text : List ℕ
  pub is_text : IsSource text
  pub answers : Answers text v old new

-- the writer got a beginning of an answer to such a text, or nothing
pub record BeginsSome (IsSource : List ℕ → Type 0) (old new : Option (List ℕ)) : Type 0 where
  pub text : List ℕ
  pub is_text : IsSource text
  pub begins : BeginsAnswer text old new

-- the writer got an answer to what a reader had
abbrev pub AnswersReader : (told : Option (List ℕ)) → Verdict → (old new : Option (List ℕ)) → Type 0
AnswersReader told = AnswersSome (IsTextOf told)

-- the writer got a beginning of such an answer, or nothing
abbrev pub BeginsReader : (told old new : Option (List ℕ)) → Type 0
BeginsReader told = BeginsSome (IsTextOf told)

-- ---- what the parts of the engine do

-- the writer got an answer to what was read, whichever text that is
abbrev pub AnswersInput : Input → Verdict → (old new : Option (List ℕ)) → Type 0
AnswersInput read v old new = (text : List ℕ) → Holds text read → Answers text v old new

-- the writer got a beginning of such an answer, or nothing
abbrev pub BeginsInput : Input → (old new : Option (List ℕ)) → Type 0
BeginsInput read old new = (text : List ℕ) → Holds text read → BeginsAnswer text old new

-- the system stands before the first turn of the text's schedule
pub record IsStart (text : List ℕ) (s : System) (pairs : List (ℕ × ℕ)) : Type 0 where
  pub fits : FitsInput text
  pub said : Scenario
  pub read : IsRead text (record { said = said; fault = None })
  pub programs : Lists said.programs s.machine.programs
  pub accepted : AreAccepted s.machine.programs
  pub boots : IsSizedBoot s.machine.programs said.statements s.machine.world
  pub own : own_here s.machine ≡ own_boot s.machine.programs said.statements
  pub items : s.items ≡ []
  pub out : s.out ≡ []
  pub limit : s.limit ≡ said.limit
  pub schedule : pairs ≡ said.schedule

-- what the text leads to, before the first step
abbrev pub Starts : List ℕ → Booted → Type 0
Starts text (booted.Runs system schedule) = IsStart text system schedule.items
Starts text (booted.Refused fault) = IsFirstFault text fault

-- the system ran along the schedule
pub record IsRun (s : System) (schedule : List (ℕ × ℕ)) (lines : List ℕ) : Type 0 where
  pub last : System
  pub end : End
  pub walks : Walks s (turns_of schedule) end last
  pub lines_are : lines ≡ history_text last.items (states_of last.machine.world) end

-- the writer got the trace of a run along the schedule
pub record WritesRun (s : System) (schedule : List (ℕ × ℕ)) (old new : Option (List ℕ)) : Type 0 where
  pub lines : List ℕ
  pub is_run : IsRun s schedule lines
  pub written : Appends old new lines

-- the writer got a beginning of such a trace, or nothing
pub data BeginsRun (s : System) (schedule : List (ℕ × ℕ)) (old : Option (List ℕ)) : Option (List ℕ) → Type 0 where
  no_line : BeginsRun s schedule old old
  some_lines : (lines : List ℕ) (new : Option (List ℕ)) → IsRun s schedule lines → AppendsBeginning old new lines → BeginsRun s schedule old new
