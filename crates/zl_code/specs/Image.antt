-- Images, programs and libraries.
use Rattle.std.specs.Prelude.{ℕ, Bool, true, false, ◌==◌, List, [], ◌∷◌, filter, Option, Some, None, slice_get}
use Rattle.std.specs.List.{list_any}
use Rattle.zl_rights.specs.Common.{condition_number}
use Rattle.zl_rights.specs.Numbers.{all_makings}
use Rattle.zl_rights.specs.declared.policy.Condition.{Condition}
use Rattle.zl_rights.specs.declared.policy.Condition.TheVariants as condition
use Rattle.zl_code.specs.declared.image.Version.{Version}
use Rattle.zl_code.specs.declared.image.Version.TheVariants as version
use Rattle.zl_code.specs.declared.image.Start.{Start}
use Rattle.zl_code.specs.declared.image.SlotArray.{SlotArray}
use Rattle.zl_code.specs.declared.image.Needs.{Needs}
use Rattle.zl_code.specs.declared.instr.Instr.{Instr}
use Rattle.zl_code.specs.declared.instr.Instr.TheVariants as instr
use Rattle.zl_code.specs.declared.instr.LocalInstr.{LocalInstr}
use Rattle.zl_code.specs.declared.instr.CallInstr.{CallInstr}

-- a program as it is loaded: its instructions, and what it declares
pub record Image : Type 0 where
  -- of the format of its bytes
  pub version : Version
  -- unknown opcodes may stand
  pub raw : Bool
  -- bytes of data memory
  pub memory : ℕ
  pub budget : ℕ
  -- what its processes have to be allowed to make
  pub needs : List Condition
  -- the handles that a process starts with
  pub starts : List Start
  pub slots : List SlotArray
  pub code : List Instr

-- an image of version 1 without instructions, which declares nothing and has the budget 1
abbrev pub blank_image : Image
blank_image = record { version = version.One; raw = false; memory = 0; budget = 1; needs = []; starts = []; slots = []; code = [] }

-- an image that processes can run, as a checked program or not
pub record Program : Type 0 where
  pub checked : Bool
  pub image : Image

-- programs by their numbers
abbrev pub Library : Type 0
Library = List Program

-- the condition is among the needs
abbrev pub is_among : List Condition → Condition → Bool
is_among needs c = list_any (λ x. condition_number x == condition_number c) needs

-- the conditions that an image can need, in the order of their numbers
abbrev pub can_be_needed : List Condition
can_be_needed = all_makings

-- those of them that are named, each once
abbrev pub needs_named : List Condition → List Condition
needs_named named = filter (λ c. is_among named c) can_be_needed

-- one need more in front, where its flag is set
abbrev pub need_if : Bool → Condition → List Condition → List Condition
need_if true c rest = c ∷ rest
need_if false c rest = rest

-- the needs that these flags stand for, in the order of their numbers
abbrev pub needs_value : Needs → List Condition
needs_value n =
    need_if n.channel condition.NewChannel (need_if n.event condition.NewEvent (need_if n.eventpair condition.NewEventpair
    (need_if n.port condition.NewPort (need_if n.process condition.NewProcess []))))

-- the n-th instruction, counted from 0
abbrev pub instr_at : Image → ℕ → Option Instr
instr_at i n = slice_get i.code n

-- the instruction, if it is a local one
abbrev pub local_in : Option Instr → Option LocalInstr
local_in (Some (instr.Local i)) = Some i
local_in _ = None

-- the n-th instruction, if it is a local one
abbrev pub local_at : Image → ℕ → Option LocalInstr
local_at i n = local_in (instr_at i n)

-- the instruction, if it is a system call
abbrev pub call_in : Option Instr → Option CallInstr
call_in (Some (instr.Call i)) = Some i
call_in _ = None

-- the n-th instruction, if it is a system call
abbrev pub call_at : Image → ℕ → Option CallInstr
call_at i n = call_in (instr_at i n)
