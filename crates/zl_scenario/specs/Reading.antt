-- What the reader of scenarios makes and answers, beside what the text says.
use Rattle.std.specs.Prelude.{ℕ, ◌≡◌, Bool, true, IsTrue, List, [], ◌∷◌, map, Option, None, is_some, Result, Ok, Err}
use Rattle.std.specs.List.{list_all}
use Rattle.zl_code.specs.Common.{Image, Library, Program as Value, Spells, spelling, is_in_range, first_fault}
use Rattle.zl_interp.specs.Program.{program_value}
use Rattle.zl_interp.specs.declared.program.Program.{Program}
use Rattle.zl_scenario.specs.declared.cause.Cause.{Cause}
use Rattle.zl_scenario.specs.declared.cause.Cause.TheVariants as cause
use Rattle.zl_scenario.specs.declared.reading.Reading.{Reading as MadeReading}
use Rattle.zl_scenario.specs.declared.reading.Scenario.{Scenario as Made}
use Rattle.zl_scenario.specs.declared.fault.Fault.{Fault}
use Rattle.zl_scenario.specs.declared.fault.Fault.TheVariants as fault
use Rattle.zl_scenario.specs.declared.part.Part.{Part as Seen}
use Rattle.zl_scenario.specs.declared.part.Part.TheVariants as seen
use Rattle.zl_scenario.specs.declared.body.Form.{Form}
use Rattle.zl_scenario.specs.declared.body.Form.TheVariants as form
use Rattle.zl_scenario.specs.Accepted.{AcceptsImage, RefusesImage}
use Rattle.zl_scenario.specs.Reads.{IsPassed, IsStopped}
use Rattle.zl_scenario.specs.Scenario.{Scenario, Listed, Body, Hex, Asm, Part, Statements, Block, Schedule, Reading}

-- ---- what is made

-- one program for each, in their order, with its mark and the image that its bytes spell
abbrev pub Lists : List Listed → Library → Type 0
Lists [] [] = Unit {0}
Lists (listed ∷ more) (p ∷ library) = Spells listed.bytes p.image × (p.checked ≡ listed.checked) × Lists more library
Lists _ _ = ⊥

-- the image of each program that is marked as checked has a typing and a step bound of it
abbrev pub AreAccepted : Library → Type 0
AreAccepted [] = Unit {0}
AreAccepted (p ∷ library) = AcceptsImage p.checked p.image × AreAccepted library

-- the scenario is what was said
pub record IsScenario (said : Scenario) (scenario : Made) : Type 0 where
  pub programs : Lists said.programs scenario.library
  pub statements : scenario.boot.statements.items ≡ said.statements
  pub lines : scenario.lines.items ≡ said.lines
  pub limit : scenario.boot.limit ≡ said.limit
  pub schedule_line : scenario.schedule_line ≡ said.schedule_line
  pub schedule : scenario.schedule.items ≡ said.schedule
  pub accepted : AreAccepted scenario.library

-- the mark and the bytes of each program
abbrev pub spellings : Library → List Listed
spellings library = map (λ p. record { checked = p.checked; bytes = spelling p.image }) library

-- each field of the program's image is in its range
unfoldable pub has_ranges : Value → Bool
has_ranges p = is_in_range p.image

-- a library of images in range, in which each checked program is accepted
pub record IsLibrary (library : Library) : Type 0 where
  pub ranges : IsTrue (list_all has_ranges library)
  pub accepted : AreAccepted library

-- what a scenario says
abbrev pub said_by : Made → Scenario
said_by s = record {
  programs = spellings s.library;
  statements = s.boot.statements.items;
  lines = s.lines.items;
  limit = s.boot.limit;
  schedule_line = s.schedule_line;
  schedule = s.schedule.items;
}

-- all that was read
abbrev pub reading_value : MadeReading → Reading
reading_value r = record { said = said_by r.scenario; fault = r.fault }

-- ---- what is answered

-- the part that the reader is in, which in a block holds this
abbrev pub part_with : Body → Seen → Part
part_with body seen.Statements = Statements
part_with body (seen.Block opened checked) = Block opened checked body
part_with body seen.Schedule = Schedule

-- what a block of this form holds: these digits, or this text
abbrev pub body_with : Form → List ℕ → List ℕ → Body
body_with form.Hex digits text = Hex digits
body_with form.Asm digits text = Asm text

-- the answer is what was said: what is made, or the fault; of a want of memory nothing is known
abbrev pub Tells : {A S : Type 0} → Result A Fault → (A → S) → Result S Cause → Type 0
Tells (Ok x) made told = told ≡ Ok (made x)
Tells (Err (fault.Refused c)) made told = told ≡ Err c
Tells (Err fault.Unaccepted) made told = ⊥
Tells (Err fault.NoMemory) made told = Unit {0}

-- the same where a program may have become whole: it is none that the rules refuse, or the answer is that they do
abbrev pub Judges : {A S : Type 0} → Result A Fault → (A → S) → Result S Cause → Option Listed → Type 0
Judges (Ok x) made told program = (told ≡ Ok (made x)) × IsPassed program
Judges (Err (fault.Refused c)) made told program = (told ≡ Err c) × IsPassed program
Judges (Err fault.Unaccepted) made told program = IsStopped program
Judges (Err fault.NoMemory) made told program = Unit {0}

-- the program that is made of the image, of this mark, or that the rules refuse it
abbrev pub Verifies : Result Program Fault → Bool → Image → Type 0
Verifies (Ok p) checked image = (program_value p ≡ record { checked = checked; image = image }) × AcceptsImage checked image
Verifies (Err (fault.Refused c)) checked image = ⊥
Verifies (Err fault.Unaccepted) checked image = RefusesImage checked image
Verifies (Err fault.NoMemory) checked image = Unit {0}

-- a refusal changes nothing
abbrev pub Keeps : {A S : Type 0} → Result A Fault → S → S → Type 0
Keeps (Ok x) old new = Unit {0}
Keeps (Err (fault.Refused c)) old new = new ≡ old
Keeps (Err fault.Unaccepted) old new = new ≡ old
Keeps (Err fault.NoMemory) old new = Unit {0}

-- the image that the bytes spell, or that they spell none
abbrev pub Decodes : Result Image Fault → List ℕ → Type 0
Decodes (Ok image) bytes = Spells bytes image × (first_fault bytes ≡ None)
Decodes (Err (fault.Refused c)) bytes = (c ≡ cause.Program) × (is_some (first_fault bytes) ≡ true)
Decodes (Err fault.Unaccepted) bytes = ⊥
Decodes (Err fault.NoMemory) bytes = Unit {0}
