-- The names of causes, as answers have them, and what contracts say of a refusal.
use Rattle.std.specs.Prelude.{ℕ, ◌≡◌, ◌⊎◌, List, codes, Result, IfErr}
use Rattle.zl_asm.specs.declared.fault.AsmCause.{AsmCause}
use Rattle.zl_asm.specs.declared.fault.AsmCause.TheVariants as cause

-- each cause by its name
abbrev pub cause_name : AsmCause → List ℕ
cause_name cause.Token = codes "Token"
cause_name cause.UnknownName = codes "UnknownName"
cause_name cause.LabelTwice = codes "LabelTwice"
cause_name cause.LabelMissing = codes "LabelMissing"
cause_name cause.Operand = codes "Operand"
cause_name cause.Limit = codes "Limit"
cause_name cause.NoMemory = codes "NoMemory"
cause_name cause.Block = codes "Block"

-- where there is no answer, memory was refused or this holds
abbrev pub OnRefusal : {X : Type 0} → Result X AsmCause → Type 0 → Type 0
OnRefusal result P = IfErr result (λ c. (c ≡ cause.NoMemory) ⊎ P)
