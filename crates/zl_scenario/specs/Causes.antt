-- The names of the causes for which a line of an input is refused.
use Rattle.std.specs.Prelude.{ℕ, List, codes}
use Rattle.zl_scenario.specs.declared.cause.Cause.{Cause}
use Rattle.zl_scenario.specs.declared.cause.Cause.TheVariants as cause

-- the name of a fault
abbrev pub cause_name : Cause → List ℕ
cause_name cause.Syntax = codes "Syntax"
cause_name cause.Program = codes "Program"
cause_name cause.Check = codes "Check"
cause_name cause.Unknown = codes "Unknown"
cause_name cause.BadHandleList = codes "BadHandleList"
cause_name cause.NeedDenied = codes "NeedDenied"
cause_name cause.BadState = codes "BadState"
cause_name cause.Conflict = codes "Conflict"
cause_name cause.Limit = codes "Limit"
