-- The answer of the verifier to the bytes of an image.
use Rattle.std.specs.Prelude.{ℕ, ◌≡◌, ◌≢◌, ◌+◌, List, ◌++◌, codes, take, Option, Some}
use Rattle.std.specs.Io.KnownBytes.{Appends}
use Rattle.zl_code.specs.Common.{Image, Spells}
use Rattle.zl_code.specs.Spells.{first_fault}
use Rattle.zl_code.specs.declared.image.DecodeFault.{DecodeFault}
use Rattle.zl_code.specs.declared.image.DecodeFault.TheVariants as fault
use Rattle.zl_verify.specs.Checks.{HasStepBound, IsRefused}
use Rattle.zl_verify.specs.Names.{cause_name}
use Rattle.zl_verify.specs.declared.refusal.RefusalCause.TheVariants as cause
use Rattle.zlab.specs.declared.checking.Finding.{Finding}
use Rattle.zlab.specs.declared.checking.Finding.TheVariants as finding
use Rattle.zlab.specs.declared.fault.Verdict.{Verdict}
use Rattle.zlab.specs.declared.fault.Verdict.TheVariants as verdict
use Rattle.zlab.specs.Engine.{IsTextOf}
use Rattle.zlab.specs.Input.{TakesAtMost}
use Rattle.zl_trace.specs.Output.{AppendsBeginning}
use Rattle.zlab.specs.Text.{refused_line}

-- the most bytes of an image
abbrev pub MOST_IMAGE : ℕ
MOST_IMAGE = 65676

-- what is read of the bytes of an image: all of them, or one more than an image has
abbrev pub front_of : List ℕ → List ℕ
front_of bytes = take (MOST_IMAGE + 1) bytes

-- a reader gave up no more than that
abbrev pub TakesImage : (old new : Option (List ℕ)) → Type 0
TakesImage old new = TakesAtMost (MOST_IMAGE + 1) old new

-- What is found is true of the image: it has a step bound; or it is refused at the n-th instruction, as it has no typing, or, for
-- the budget, none with a step bound. A want of memory isn't found.
abbrev pub IsTrueOf : Image → Finding → Type 0
IsTrueOf i finding.Accepted = HasStepBound i
IsTrueOf i (finding.Refused n c) = IsRefused i n c × (c ≢ cause.NoMemory)
IsTrueOf i (finding.Undecodable f) = ⊥

-- the bytes are those of an image of which it is true
pub record IsTrueOfSpelled (bytes : List ℕ) (found : Finding) : Type 0 where
  pub image : Image
  pub spelled : Spells bytes image
  pub is_true : IsTrueOf image found

-- the bytes are those of no image, and this is the first fault of what is read of them
pub record IsNoImage (bytes : List ℕ) (f : DecodeFault) : Type 0 where
  pub none : (i : Image) → Spells bytes i → ⊥
  pub first : first_fault (front_of bytes) ≡ Some f

-- what the bytes lead to
abbrev pub Finds : List ℕ → Finding → Type 0
Finds bytes (finding.Undecodable f) = IsNoImage bytes f
Finds bytes found = IsTrueOfSpelled bytes found

-- the name of a fault of bytes
abbrev pub fault_name : DecodeFault → List ℕ
fault_name fault.Short = codes "Short"
fault_name fault.Magic = codes "Magic"
fault_name fault.Version = codes "Version"
fault_name fault.Length = codes "Length"
fault_name fault.UnknownOp = codes "UnknownOp"
fault_name fault.UnusedField = codes "UnusedField"
fault_name fault.BadRegister = codes "BadRegister"
fault_name fault.BadHeader = codes "BadHeader"
fault_name fault.BadBlock = codes "BadBlock"
fault_name fault.NoMemory = codes "NoMemory"

-- the line that says what was found
abbrev pub finding_line : Finding → List ℕ
finding_line finding.Accepted = codes "accepted\n"
finding_line (finding.Refused n c) = refused_line n (cause_name c)
finding_line (finding.Undecodable f) = codes "undecodable " ++ (fault_name f ++ codes "\n")

-- how the engine ends then
abbrev pub verdict_of : Finding → Verdict
verdict_of finding.Accepted = verdict.Done
verdict_of _ = verdict.Refused

-- a writer got the line of what the bytes of a reader lead to
pub record ChecksReader (told : Option (List ℕ)) (v : Verdict) (old new : Option (List ℕ)) : Type 0 where
  pub bytes : List ℕ
  pub are_bytes : IsTextOf told bytes
  pub found : Finding
  pub finds : Finds bytes found
  pub ends : v ≡ verdict_of found
  pub written : Appends old new (finding_line found)

-- a writer got a beginning of such a line, or nothing
pub data BeginsCheck (told old : Option (List ℕ)) : Option (List ℕ) → Type 0 where
  no_line : BeginsCheck told old old
  line_begun : (bytes : List ℕ) (found : Finding) (new : Option (List ℕ)) → IsTextOf told bytes → Finds bytes found → AppendsBeginning old new (finding_line found) → BeginsCheck told old new
