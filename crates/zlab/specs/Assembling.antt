-- The answer of the assembler to a text, for one writer or for the other.
use Rattle.std.specs.Prelude.{ℕ, ◌≡◌, ◌≢◌, ◌⊎◌, ◌<◌, List, length, Option, None}
use Rattle.zl_code.specs.Common.{Image, Spells}
use Rattle.std.specs.Io.KnownBytes.{Appends}
use Rattle.zl_asm.specs.declared.fault.AsmFault.{AsmFault}
use Rattle.zl_asm.specs.declared.fault.AsmCause.TheVariants as cause
use Rattle.zl_asm.specs.Causes.{cause_name}
use Rattle.zl_asm.specs.Listing.{listing_of}
use Rattle.zl_asm.specs.Denotes.{Denotes}
use Rattle.zlab.specs.declared.assembling.Assembled.{Assembled}
use Rattle.zlab.specs.declared.assembling.Assembled.TheVariants as assembled
use Rattle.zlab.specs.declared.fault.Verdict.{Verdict}
use Rattle.zlab.specs.declared.fault.Verdict.TheVariants as verdict
use Rattle.zlab.specs.Engine.{IsTextOf}
use Rattle.zlab.specs.Input.{MOST_INPUT, FitsInput}
use Rattle.zl_trace.specs.Output.{AppendsBeginning}
use Rattle.zlab.specs.Text.{refused_line}

-- the bytes are those of the image that the text denotes
pub record IsImageOf (text bytes : List ℕ) : Type 0 where
  pub fits : FitsInput text
  pub image : Image
  pub denoted : Denotes text image
  pub spelled : Spells bytes image

-- the text is too long, of which line 0 is told, or it denotes no image, of which a want of memory isn't told
abbrev pub DenotesNone : List ℕ → AsmFault → Type 0
DenotesNone text f = ((MOST_INPUT < length text) × (f.line ≡ 0) × (f.cause ≡ cause.Limit)) ⊎ (FitsInput text × (listing_of text ≡ None) × (f.cause ≢ cause.NoMemory))

-- what the text leads to
abbrev pub Leads : List ℕ → Assembled → Type 0
Leads text (assembled.Image bytes) = IsImageOf text bytes.items
Leads text (assembled.Refused f) = DenotesNone text f

-- what the text of a reader leads to
pub record ReadsTo (told : Option (List ℕ)) (answer : Assembled) : Type 0 where
  pub text : List ℕ
  pub is_text : IsTextOf told text
  pub leads : Leads text answer

-- a writer got the image that the text denotes
pub record WritesImage (text : List ℕ) (old new : Option (List ℕ)) : Type 0 where
  pub bytes : List ℕ
  pub is_image : IsImageOf text bytes
  pub written : Appends old new bytes

-- a writer got the line of the fault of the text
pub record WritesFault (text : List ℕ) (old new : Option (List ℕ)) : Type 0 where
  pub fault : AsmFault
  pub none : DenotesNone text fault
  pub written : Appends old new (refused_line fault.line (cause_name fault.cause))

-- one of the writers got the answer to the text, and the other nothing
abbrev pub AnswersText : List ℕ → Verdict → (old_image new_image old_line new_line : Option (List ℕ)) → Type 0
AnswersText text verdict.Done old_image new_image old_line new_line = WritesImage text old_image new_image × (new_line ≡ old_line)
AnswersText text verdict.Refused old_image new_image old_line new_line = WritesFault text old_line new_line × (new_image ≡ old_image)
AnswersText text _ old_image new_image old_line new_line = ⊥

-- a writer got a beginning of the image
pub record BeginsImage (text : List ℕ) (old new : Option (List ℕ)) : Type 0 where
  pub bytes : List ℕ
  pub is_image : IsImageOf text bytes
  pub written : AppendsBeginning old new bytes

-- a writer got a beginning of the line of the fault
pub record BeginsFault (text : List ℕ) (old new : Option (List ℕ)) : Type 0 where
  pub fault : AsmFault
  pub none : DenotesNone text fault
  pub written : AppendsBeginning old new (refused_line fault.line (cause_name fault.cause))

-- one of the writers got a beginning of the answer or nothing, and the other nothing
pub data BeginsText (text : List ℕ) (old_image old_line : Option (List ℕ)) : (new_image new_line : Option (List ℕ)) → Type 0 where
  nothing_written : BeginsText text old_image old_line old_image old_line
  image_begun : (new : Option (List ℕ)) → BeginsImage text old_image new → BeginsText text old_image old_line new old_line
  line_begun : (new : Option (List ℕ)) → BeginsFault text old_line new → BeginsText text old_image old_line old_image new

-- the same for what a reader had
pub record AssemblesReader (told : Option (List ℕ)) (v : Verdict) (old_image new_image old_line new_line : Option (List ℕ)) : Type 0 where
  pub text : List ℕ
  pub is_text : IsTextOf told text
  pub answers : AnswersText text v old_image new_image old_line new_line

-- one writer got a beginning of the answer to what a reader had, or nothing, and the other nothing
pub record BeginsAssembly (told old_image new_image old_line new_line : Option (List ℕ)) : Type 0 where
  pub text : List ℕ
  pub is_text : IsTextOf told text
  pub begins : BeginsText text old_image old_line new_image new_line
