-- How a text is read: what its lines say, up to the first checked program that the rules refuse.
use Rattle.std.specs.Prelude.{ℕ, ◌≡◌, ◌+◌, Bool, List, [], ◌∷◌, Option, Some, None, Result, Ok, Err, if◌then◌else◌, ◌⊎◌}
use Rattle.zl_asm.specs.Words.{lines_of, is_ascii}
use Rattle.zl_scenario.specs.declared.cause.Cause.{Cause}
use Rattle.zl_scenario.specs.declared.cause.Cause.TheVariants as cause
use Rattle.zl_scenario.specs.Accepted.{AcceptsImage, RefusesImage, SpellOneThat}
use Rattle.zl_lines.specs.Lines.{is_comment, words_of}
use Rattle.zl_scenario.specs.Scenario.{Listed, Part, Block, Place, Reading, start, bytes_said, is_end, line_said, told_line, refused_at, fault_at_end, reading_of}

-- ---- whole programs

-- a program of this mark, if its block gives the bytes of an image
abbrev pub listed : Bool → Result (List ℕ) Cause → Option Listed
listed checked (Ok bytes) = Some (record { checked = checked; bytes = bytes })
listed checked (Err c) = None

-- the program that a line of these words makes whole, as it ends the block
unfoldable pub whole_in : Part → List (List ℕ) → Option Listed
whole_in (Block opened checked body) words = if is_end words then listed checked (bytes_said body) else None
whole_in _ words = None

-- the program that the line makes whole, if it does
unfoldable pub whole_at : Place → List ℕ → Option Listed
whole_at place line = if is_ascii line then (if is_comment line then None else whole_in place.part (words_of line)) else None

-- what was made whole is no program that the rules refuse
abbrev pub IsPassed : Option Listed → Type 0
IsPassed (Some p) = SpellOneThat (AcceptsImage p.checked) p.bytes
IsPassed None = Unit {0}

-- what was made whole is a checked program, and the rules refuse it
abbrev pub IsStopped : Option Listed → Type 0
IsStopped (Some p) = SpellOneThat (RefusesImage p.checked) p.bytes
IsStopped None = ⊥

-- ---- all lines

-- The lines from number n on are read as this, from where they stand. The first checked program that is refused is the fault Check of its
-- block, behind all faults of its bytes, and before that of a program too many.
pub data Reads : ℕ → Place → List (List ℕ) → Reading → Type 0 where
  at_end : (n : ℕ) (place : Place) → Reads n place [] (record { said = place.said; fault = fault_at_end place.part })
  line_taken : (n : ℕ) (place next : Place) (line : List ℕ) (lines : List (List ℕ)) (reading : Reading)
      → line_said n place line ≡ Ok next → IsPassed (whole_at place line) → Reads (n + 1) next lines reading → Reads n place (line ∷ lines) reading
  line_faulty : (n : ℕ) (place : Place) (line : List ℕ) (lines : List (List ℕ)) (c : Cause)
      → line_said n place line ≡ Err c → IsPassed (whole_at place line) → Reads n place (line ∷ lines) (refused_at place.said (told_line n place.part) c)
  program_refused : (n : ℕ) (place : Place) (line : List ℕ) (lines : List (List ℕ))
      → IsStopped (whole_at place line) → Reads n place (line ∷ lines) (refused_at place.said (told_line n place.part) cause.Check)

-- the text is read as this
abbrev pub IsRead : List ℕ → Reading → Type 0
IsRead text reading = Reads 1 start (lines_of text) reading

-- ---- laws

-- a text is read in one way
abbrev pub TextsAreReadOnce : Type 0
TextsAreReadOnce = (text : List ℕ) (one other : Reading) → IsRead text one → IsRead text other → one ≡ other

-- it is read as its lines say, but where a checked program is refused
abbrev pub TextsAreReadAsSaid : Type 0
TextsAreReadAsSaid = (text : List ℕ) (reading : Reading) → IsRead text reading
    → (reading ≡ reading_of text) ⊎ ((line : ℕ) × (reading.fault ≡ Some (record { line = line; cause = cause.Check })))
