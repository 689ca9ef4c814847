-- In what two images are the same. No public clause cites this module.
use Rattle.std.specs.Prelude.{◌≡◌, List, length}
use Rattle.std.specs.List.{flat_map}
use Rattle.zl_rights.specs.declared.policy.Condition.TheVariants as condition
use Rattle.zl_code.specs.Image.{Image, is_among}
use Rattle.zl_code.specs.Spells.{instr_bytes}
use Rattle.zl_code.specs.declared.instr.Instr.{Instr}

-- the images need the same
pub record HasSameNeeds (i j : Image) : Type 0 where
  pub channels : is_among i.needs condition.NewChannel ≡ is_among j.needs condition.NewChannel
  pub events : is_among i.needs condition.NewEvent ≡ is_among j.needs condition.NewEvent
  pub eventpairs : is_among i.needs condition.NewEventpair ≡ is_among j.needs condition.NewEventpair
  pub ports : is_among i.needs condition.NewPort ≡ is_among j.needs condition.NewPort
  pub processes : is_among i.needs condition.NewProcess ≡ is_among j.needs condition.NewProcess

-- they have the same version, mark, numbers and needs
pub record HasSameHeader (i j : Image) : Type 0 where
  pub version : i.version ≡ j.version
  pub raw : i.raw ≡ j.raw
  pub memory : i.memory ≡ j.memory
  pub budget : i.budget ≡ j.budget
  pub needs : HasSameNeeds i j

-- they declare the same handles and slot arrays
pub record DeclaresSame (i j : Image) : Type 0 where
  pub starts : i.starts ≡ j.starts
  pub slots : i.slots ≡ j.slots

-- as many instructions, spelled by the same bytes
pub record HaveSameBytes (xs ys : List Instr) : Type 0 where
  pub count : length xs ≡ length ys
  pub bytes : flat_map instr_bytes xs ≡ flat_map instr_bytes ys
