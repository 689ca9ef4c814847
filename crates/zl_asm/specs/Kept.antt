-- An instruction as it is kept until all labels are known. No public clause cites this module.
use Rattle.std.specs.Prelude.{ℕ, Bool, true, false, not, List, Option, Some, None, is_some}
use Rattle.zl_code.specs.Common.{instr_bytes, instr_fault, is_instr_in_range}
use Rattle.zl_code.specs.declared.image.Version.{Version}
use Rattle.zl_asm.specs.declared.resolving.Kept.{Kept}
use Rattle.zl_asm.specs.declared.resolving.Kept.TheVariants as kept
use Rattle.zl_asm.specs.Lines.{Source}

-- the instruction as its line has it
abbrev pub kept_value : Kept → Source
kept_value (kept.Whole i) = record { bytes = instr_bytes i; label = None }
kept_value (kept.Open bytes name) = record { bytes = bytes; label = Some name.now }

-- where it is decoded, it can stand in an image
abbrev pub is_kept_in_range : Version → Bool → Kept → Bool
is_kept_in_range v raw (kept.Whole i) = is_instr_in_range v raw i
is_kept_in_range v raw (kept.Open bytes name) = true

-- there is a value, and it passes
abbrev pub fits : {X : Type 0} → (X → Bool) → Option X → Bool
fits test None = false
fits test (Some x) = test x

-- there are bytes, and they have no fault
abbrev pub is_fine : Version → Bool → Option (List ℕ) → Bool
is_fine v raw bytes = fits (λ b. not (is_some (instr_fault v raw b))) bytes
