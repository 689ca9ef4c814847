-- What a handle is looked up as, where one of some kinds and some rights are asked for.
use Rattle.std.specs.Prelude.{ℕ, List, Option, Some, None, Result, Ok, Err, if◌then◌else◌}
use Rattle.zl_rights.specs.declared.kind.Kind.{Kind}
use Rattle.zl_rights.specs.declared.entry.Entry.{Entry}
use Rattle.zl_rights.specs.declared.status.Status.{Status}
use Rattle.zl_rights.specs.declared.status.Status.TheVariants as status
use Rattle.zl_rights.specs.Numbers.{bits, within, takes}
use Rattle.zl_rights.specs.Map.{Map, get}

-- what the entry, if there is one, answers: no handle comes first, then the wrong kind, then a right that is missing
abbrev pub granted : Option Entry → List Kind → ℕ → Result Entry Status
granted None kinds needed = Err status.BadHandle
granted (Some e) kinds needed =
    if takes kinds e.kind
    then (if within needed (bits e.rights) then Ok e else Err status.AccessDenied)
    else Err status.WrongType

-- what a value is looked up as
abbrev pub looked_up : Map Entry → ℕ → List Kind → ℕ → Result Entry Status
looked_up m value kinds needed = granted (get m value) kinds needed
