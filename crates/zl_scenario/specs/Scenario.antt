-- What the lines of a scenario and of its schedule say, one after another, and the first fault of each, where each checked program is accepted.
use Rattle.std.specs.Prelude.{ℕ, ◌≡◌, ◌≤◌, ◌+◌, ◌%◌, Bool, true, false, ◌&&◌, not, ◌==◌, nat_lt, nat_le, List, [], ◌∷◌, ◌++◌, length, codes, Option, Some, None, is_some, IfSome, Result, Ok, Err, if◌then◌else◌}
use Rattle.zl_code.specs.Common.{MOST_ITEMS, first_fault}
use Rattle.zl_rights.specs.Names.{condition_named}
use Rattle.zl_rights.specs.Signals.{is_empty}
use Rattle.zl_rights.specs.declared.policy.Action.{Action}
use Rattle.zl_rights.specs.declared.policy.Action.TheVariants as action
use Rattle.zl_rights.specs.declared.policy.Condition.{Condition}
use Rattle.zl_code.specs.declared.boot.Grant.{Grant}
use Rattle.zl_code.specs.declared.boot.Statement.{Statement}
use Rattle.zl_code.specs.declared.boot.Statement.TheVariants as statement
use Rattle.zl_asm.specs.Denotes.{image_bytes_of}
use Rattle.zl_asm.specs.Words.{lines_of, is_ascii, is_word}
use Rattle.zl_scenario.specs.declared.cause.Cause.{Cause}
use Rattle.zl_scenario.specs.declared.cause.Cause.TheVariants as cause
use Rattle.zl_scenario.specs.declared.cause.LineFault.{LineFault}
use Rattle.zl_lines.specs.Lines.{is_comment, words_of}
use Rattle.zl_scenario.specs.Numbers.{number_of, digits_of, bytes_of_digits}
use Rattle.zl_scenario.specs.Handles.{handles_of}

-- a program of a scenario: whether it is marked as checked, and its bytes
pub record Listed : Type 0 where
  pub checked : Bool
  pub bytes : List ℕ

-- what lines have said
pub record Scenario : Type 0 where
  -- by their numbers
  pub programs : List Listed
  pub statements : List Statement
  -- the line of each statement
  pub lines : List ℕ
  -- the limit of the trace
  pub limit : ℕ
  -- the line `--` between the statements and the schedule, if there is one
  pub schedule_line : Option ℕ
  -- pairs of a process and a number of turns
  pub schedule : List (ℕ × ℕ)

-- what the lines of a program's block have given so far: the digits of its image, or the text of the assembler
pub data Body : Type 0 where
  Hex : (digits : List ℕ) → Body
  Asm : (text : List ℕ) → Body

-- what the next line belongs to
pub data Part : Type 0 where
  Statements : Part
  -- a program's block: the line that opens it, whether it is marked as checked, and what it holds so far
  Block : (opened : ℕ) (checked : Bool) (body : Body) → Part
  Schedule : Part

-- where a line stands: after what was said, in a part
pub record Place : Type 0 where
  pub said : Scenario
  pub part : Part

-- so much is said, and the next line belongs to this part
abbrev pub at : Scenario → Part → Place
at said part = record { said = said; part = part }

-- before the first line; a trace has 1,000 items at most where no line says another limit
abbrev pub start : Place
start = at (record { programs = []; statements = []; lines = []; limit = 1000; schedule_line = None; schedule = [] }) Statements

-- what follows where nothing is at fault
abbrev pub onto : Part → Result Scenario Cause → Result Place Cause
onto part (Ok said) = Ok (at said part)
onto part (Err c) = Err c

-- ---- statements

-- one more statement, of line n
abbrev pub with_statement : Scenario → ℕ → Statement → Scenario
with_statement said n s = record said { statements = said.statements ++ (s ∷ []); lines = said.lines ++ (n ∷ []) }

-- `process JOB PROGRAM WORD H ..`: three numbers and handles, and a program that stands further up
unfoldable pub process_said : ℕ → Scenario → Option ℕ → Option ℕ → Option ℕ → Option (List Grant) → Result Scenario Cause
process_said n said (Some job) (Some program) (Some word) (Some handles) =
    if nat_lt program (length said.programs) then Ok (with_statement said n (statement.Process job program word handles)) else Err cause.Unknown
process_said n said _ _ _ _ = Err cause.Syntax

-- `job PARENT`: a number
unfoldable pub job_said : ℕ → Scenario → Option ℕ → Result Scenario Cause
job_said n said (Some parent) = Ok (with_statement said n (statement.Job parent))
job_said n said None = Err cause.Syntax

-- an action, as a line names it
unfoldable pub action_named : List ℕ → Option Action
action_named name =
    if is_word name (codes "ALLOW") then Some action.Allow
    else (if is_word name (codes "DENY") then Some action.Deny
    else (if is_word name (codes "KILL") then Some action.Kill else None))

-- `policy JOB CONDITION ACTION`: a number and two names
unfoldable pub policy_said : ℕ → Scenario → Option ℕ → Option Condition → Option Action → Result Scenario Cause
policy_said n said (Some job) (Some condition) (Some action) = Ok (with_statement said n (statement.Policy job condition action))
policy_said n said _ _ _ = Err cause.Syntax

-- `event`, `port`, `channel` or `eventpair`
unfoldable pub object_named : List ℕ → Option Statement
object_named name =
    if is_word name (codes "event") then Some statement.Event
    else (if is_word name (codes "port") then Some statement.Port
    else (if is_word name (codes "channel") then Some statement.Channel
    else (if is_word name (codes "eventpair") then Some statement.Eventpair else None)))

-- the statement, if there is one
abbrev pub object_said : ℕ → Scenario → Option Statement → Result Scenario Cause
object_said n said (Some s) = Ok (with_statement said n s)
object_said n said None = Err cause.Syntax

-- `limit N`: a number, and at most the largest limit of a trace; the last one counts
unfoldable pub limit_said : Scenario → Option ℕ → Result Scenario Cause
limit_said said (Some limit) = if nat_le limit MOST_ITEMS then Ok (record said { limit = limit }) else Err cause.Limit
limit_said said None = Err cause.Syntax

-- `program raw` or `program checked`: whether the program is marked as checked
unfoldable pub mark_named : List ℕ → List ℕ → Option Bool
mark_named name mark =
    if is_word name (codes "program") then
    (if is_word mark (codes "raw") then Some false else (if is_word mark (codes "checked") then Some true else None))
    else None

-- `hex` or `asm`: what the block holds at first
unfoldable pub body_named : List ℕ → Option Body
body_named form = if is_word form (codes "hex") then Some (Hex []) else (if is_word form (codes "asm") then Some (Asm []) else None)

-- line n opens a block of this mark and form, if these are one
abbrev pub opened_by : ℕ → Scenario → Option Bool → Option Body → Result Place Cause
opened_by n said (Some checked) (Some body) = Ok (at said (Block n checked body))
opened_by n said _ _ = Err cause.Syntax

-- line n parts the statements from the schedule
abbrev pub with_schedule : Scenario → ℕ → Scenario
with_schedule said n = record said { schedule_line = Some n }

-- the words of line n, which stands among the statements
unfoldable pub statement_said : ℕ → Scenario → List (List ℕ) → Result Place Cause
statement_said n said [] = Ok (at said Statements)
statement_said n said (name ∷ []) = if is_word name (codes "--") then Ok (at (with_schedule said n) Schedule) else onto Statements (object_said n said (object_named name))
statement_said n said (name ∷ most ∷ []) =
    if is_word name (codes "limit") then onto Statements (limit_said said (number_of most))
    else (if is_word name (codes "job") then onto Statements (job_said n said (number_of most)) else Err cause.Syntax)
statement_said n said (name ∷ mark ∷ form ∷ []) = opened_by n said (mark_named name mark) (body_named form)
statement_said n said (name ∷ job ∷ program ∷ word ∷ handles) =
    if is_word name (codes "policy") && is_empty handles then onto Statements (policy_said n said (number_of job) (condition_named program) (action_named word))
    else (if is_word name (codes "process") then onto Statements (process_said n said (number_of job) (number_of program) (number_of word) (handles_of handles))
    else Err cause.Syntax)

-- ---- the block of a program

-- the most programs of a scenario
abbrev pub MOST_PROGRAMS : ℕ
MOST_PROGRAMS = 256

-- one more program, of this mark and these bytes
abbrev pub with_program : Scenario → Bool → List ℕ → Scenario
with_program said checked bytes = record said { programs = said.programs ++ (record { checked = checked; bytes = bytes } ∷ []) }

-- the bytes of an image that a whole block's digits spell: an even count of them
unfoldable pub digits_spelled : List ℕ → Result (List ℕ) Cause
digits_spelled digits =
    if not (length digits % 2 == 0) then Err cause.Syntax
    else (if is_some (first_fault (bytes_of_digits digits)) then Err cause.Program
    else Ok (bytes_of_digits digits))

-- the bytes of the image that a whole block's text denotes
abbrev pub text_spelled : Option (List ℕ) → Result (List ℕ) Cause
text_spelled (Some bytes) = Ok bytes
text_spelled None = Err cause.Program

-- the bytes of the image that a whole block gives
abbrev pub bytes_said : Body → Result (List ℕ) Cause
bytes_said (Hex digits) = digits_spelled digits
bytes_said (Asm text) = text_spelled (image_bytes_of text)

-- one program more, if it isn't one too many
unfoldable pub program_said : Scenario → Bool → Result (List ℕ) Cause → Result Scenario Cause
program_said said checked (Ok bytes) = if nat_lt (length said.programs) MOST_PROGRAMS then Ok (with_program said checked bytes) else Err cause.Limit
program_said said checked (Err c) = Err c

-- a line's digits after those before it
abbrev pub digits_said : List ℕ → Option (List ℕ) → Result (List ℕ) Cause
digits_said digits (Some more) = Ok (digits ++ more)
digits_said digits None = Err cause.Syntax

-- a block of these digits, if none of their lines is at fault
abbrev pub hex_with : Result (List ℕ) Cause → Result Body Cause
hex_with (Ok digits) = Ok (Hex digits)
hex_with (Err c) = Err c

-- a line of a block after those before it: its digits, or the line itself with its end
unfoldable pub body_said : Body → List ℕ → Result Body Cause
body_said (Hex digits) line = hex_with (digits_said digits (digits_of line))
body_said (Asm text) line = Ok (Asm (text ++ (line ++ codes "\n")))

-- the block goes on, if the line is not at fault
abbrev pub onto_block : Scenario → ℕ → Bool → Result Body Cause → Result Place Cause
onto_block said opened checked (Ok body) = Ok (at said (Block opened checked body))
onto_block said opened checked (Err c) = Err c

-- the one word `end`
unfoldable pub is_end : List (List ℕ) → Bool
is_end (name ∷ []) = is_word name (codes "end")
is_end _ = false

-- a line of a block, and its words: the one word `end`, or what the block is made of
unfoldable pub block_said : Scenario → ℕ → Bool → Body → List ℕ → List (List ℕ) → Result Place Cause
block_said said opened checked body line words =
    if is_end words then onto Statements (program_said said checked (bytes_said body)) else onto_block said opened checked (body_said body line)

-- ---- the schedule

-- the most turns of a line
abbrev pub MOST_TURNS : ℕ
MOST_TURNS = 1000000

-- so many turns more of a process
abbrev pub with_turns : Scenario → ℕ → ℕ → Scenario
with_turns said pid count = record said { schedule = said.schedule ++ ((pid, count) ∷ []) }

-- `PID COUNT`: two numbers, and not too many turns
unfoldable pub pair_said : Scenario → Option ℕ → Option ℕ → Result Scenario Cause
pair_said said (Some pid) (Some count) = if nat_le count MOST_TURNS then Ok (with_turns said pid count) else Err cause.Syntax
pair_said said _ _ = Err cause.Syntax

-- the words of a line after the line `--`
unfoldable pub turns_said : Scenario → List (List ℕ) → Result Scenario Cause
turns_said said [] = Ok said
turns_said said (pid ∷ count ∷ []) = pair_said said (number_of pid) (number_of count)
turns_said said _ = Err cause.Syntax

-- ---- one line, and all lines

-- a line and its words, by the part that the line belongs to
abbrev pub part_said : ℕ → Scenario → Part → List ℕ → List (List ℕ) → Result Place Cause
part_said n said Statements line words = statement_said n said words
part_said n said (Block opened checked body) line words = block_said said opened checked body line words
part_said n said Schedule line words = onto Schedule (turns_said said words)

-- line n, where it stands: a byte outside ASCII is a fault in a comment too, and a comment says nothing
unfoldable pub line_said : ℕ → Place → List ℕ → Result Place Cause
line_said n place line =
    if is_ascii line then (if is_comment line then Ok place else part_said n place.said place.part line (words_of line)) else Err cause.Syntax

-- the line that a fault of line n is told of: in a block the one that opens it
abbrev pub told_line : ℕ → Part → ℕ
told_line n (Block opened checked body) = opened
told_line n _ = n

-- what a text says: all that stands before its first fault, and that fault
pub record Reading : Type 0 where
  pub said : Scenario
  pub fault : Option LineFault

-- line n is the first at fault
abbrev pub refused_at : Scenario → ℕ → Cause → Reading
refused_at said line c = record { said = said; fault = Some (record { line = line; cause = c }) }

-- after the last line: a block that no line ends
abbrev pub fault_at_end : Part → Option LineFault
fault_at_end (Block opened checked body) = Some (record { line = opened; cause = cause.Syntax })
fault_at_end _ = None

-- the lines from number n on, from where they stand
unfoldable pub reading_from : ℕ → Place → List (List ℕ) → Reading
reading_from n place [] = record { said = place.said; fault = fault_at_end place.part }
reading_from n place (line ∷ lines) = elim (line_said n place line) as (λ _. Reading) [
  | Ok next ↦ reading_from (n + 1) next lines
  | Err c ↦ refused_at place.said (told_line n place.part) c
]

-- a whole text
abbrev pub reading_of : List ℕ → Reading
reading_of text = reading_from 1 start (lines_of text)

-- ---- in which order

-- the lines rise, from `low` on and below `high`
abbrev pub Rises : ℕ → List ℕ → ℕ → Type 0
Rises low [] high = low ≤ high
Rises low (line ∷ lines) high = (low ≤ line) × Rises (line + 1) lines high

-- each statement has a line, these lines rise, and all are before that of the fault
pub record IsInOrder (reading : Reading) : Type 0 where
  pub limit : reading.said.limit ≤ MOST_ITEMS
  pub placed : length reading.said.lines ≡ length reading.said.statements
  pub rising : (last : ℕ) × Rises 1 reading.said.lines last
  pub before_fault : IfSome reading.fault (λ fault. Rises 1 reading.said.lines fault.line)

-- ---- whole blocks

-- one after the other, if both are there
abbrev pub joined : Option (List ℕ) → Option (List ℕ) → Option (List ℕ)
joined (Some front) (Some back) = Some (front ++ back)
joined _ _ = None

-- the digits of the lines of a block, comments aside; nothing where a line is `end`, or has another byte
unfoldable pub digits_in : List (List ℕ) → Option (List ℕ)
digits_in [] = Some []
digits_in (line ∷ lines) =
    if is_ascii line && not (is_end (words_of line)) then joined (if is_comment line then Some [] else digits_of line) (digits_in lines) else None

-- the line that opens a block of this mark and form
abbrev pub opening : Bool → List ℕ → List ℕ
opening true form = codes "program checked " ++ form
opening false form = codes "program raw " ++ form

-- what follows a block from the line of this number on, by what all of it says
abbrev pub after_block : ℕ → ℕ → Scenario → List (List ℕ) → Result Scenario Cause → Reading
after_block opened n said rest (Ok new) = reading_from n (at new Statements) rest
after_block opened n said rest (Err c) = refused_at said opened c

-- the text of the lines of a block of the assembler, comments aside; nothing where a line is `end`, or has a byte outside ASCII
unfoldable pub text_in : List (List ℕ) → Option (List ℕ)
text_in [] = Some []
text_in (line ∷ lines) =
    if is_ascii line && not (is_end (words_of line)) then joined (if is_comment line then Some [] else Some (line ++ codes "\n")) (text_in lines) else None

-- from the line `program raw hex` or `program checked hex` to the line `end`, a block says what all of its digits say, or it is at
-- fault as a whole
abbrev pub DigitsAreWhole : Type 0
DigitsAreWhole = (checked : Bool) (n : ℕ) (said : Scenario) (lines rest : List (List ℕ)) (digits : List ℕ) → digits_in lines ≡ Some digits
    → reading_from n (at said Statements) (opening checked (codes "hex") ∷ (lines ++ (codes "end" ∷ rest)))
    ≡ after_block n (n + 2 + length lines) said rest (program_said said checked (digits_spelled digits))

-- and where the form is `asm`, the image that all of its text denotes
abbrev pub TextIsWhole : Type 0
TextIsWhole = (checked : Bool) (n : ℕ) (said : Scenario) (lines rest : List (List ℕ)) (text : List ℕ) → text_in lines ≡ Some text
    → reading_from n (at said Statements) (opening checked (codes "asm") ∷ (lines ++ (codes "end" ∷ rest)))
    ≡ after_block n (n + 2 + length lines) said rest (program_said said checked (text_spelled (image_bytes_of text)))

-- a block of either form gives what all of its lines say together
pub record BlocksAreWhole : Type 0 where
  pub digits : DigitsAreWhole
  pub text : TextIsWhole
