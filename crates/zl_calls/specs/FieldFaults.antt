-- The faults of handle operands by the row of a call, as its registers have them. No public clause cites this module.
use Rattle.std.specs.Prelude.{ℕ, suc, ◌==◌, List, [], ◌∷◌, Option, None, if◌then◌else◌, slice_index}
use Rattle.std.specs.Option.{option_or}
use Rattle.std.specs.Result.{result_err}
use Rattle.zl_code.specs.Common.{Cpu, Map}
use Rattle.zl_code.specs.Asked.{given_in, listed_values}
use Rattle.zl_code.specs.Instructions.{Field, names, consumes, closes}
use Rattle.zl_code.specs.Local.{reg}
use Rattle.zl_code.specs.declared.instr.CallInstr.{CallInstr}
use Rattle.zl_code.specs.declared.layout.Ending.{Ending}
use Rattle.zl_rights.specs.LookUp.{looked_up}
use Rattle.zl_rights.specs.declared.entry.Entry.{Entry}
use Rattle.zl_rights.specs.declared.status.Status.{Status}
use Rattle.zl_calls.specs.calls.Channel.{list_refusal}

-- the fault of the value in a register of this field, if it is a handle operand that has one
abbrev pub field_fault : Map Entry → Field → ℕ → Option Status
field_fault entries (names kinds rights) value = result_err (looked_up entries value kinds rights)
field_fault entries (consumes kinds rights) value = result_err (looked_up entries value kinds rights)
field_fault entries closes value = if value == 0 then None else result_err (looked_up entries value [] 0)
field_fault entries _ value = None

-- the fault of the first of the registers that has one, by their fields, of which the first is that of the n-th register; behind them comes that of the list
abbrev pub fields_fault : Map Entry → Cpu → List Field → (n : ℕ) (registers : List ℕ) → Option Status → Option Status
fields_fault entries c [] n rs in_list = in_list
fields_fault entries c (f ∷ fs) n rs in_list =
    option_or (field_fault entries f (reg c (slice_index rs n))) (fields_fault entries c fs (suc n) rs in_list)

-- the fault of the handles of a list, where the call has one
abbrev pub last_fault : Map Entry → Cpu → Ending → CallInstr → Option Status
last_fault entries c ending i = list_refusal entries [] (listed_values ending (given_in ending i c))
