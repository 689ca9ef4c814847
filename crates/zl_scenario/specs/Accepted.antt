-- What the rules say of an image, and of the bytes of one.
use Rattle.std.specs.Prelude.{ℕ, Bool, true, false, List}
use Rattle.zl_code.specs.Common.{Image, Spells}
use Rattle.zl_verify.specs.Checks.{HasStepBound}

-- no typing of the image has a step bound
pub record HasNoStepBound (i : Image) : Type 0 where
  pub none : HasStepBound i → ⊥

-- ---- programs

-- a program of this image is accepted: that is asked of one that is marked as checked
abbrev pub AcceptsImage : Bool → Image → Type 0
AcceptsImage true i = HasStepBound i
AcceptsImage false i = Unit {0}

-- a program of this image is marked as checked, and refused
abbrev pub RefusesImage : Bool → Image → Type 0
RefusesImage true i = HasNoStepBound i
RefusesImage false i = ⊥

-- the bytes spell an image of which this is true
pub record SpellOneThat (P : Image → Type 0) (bytes : List ℕ) : Type 0 where
  pub image : Image
  pub spelled : Spells bytes image
  pub is_true : P image
