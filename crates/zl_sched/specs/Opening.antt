-- What a system was booted from with its items at some time, and a system that goes on from there.
use Rattle.std.specs.Prelude.{ℕ, ◌≡◌, List, ◌++◌}
use Rattle.zl_code.specs.Common.{Library}
use Rattle.zl_code.specs.declared.boot.Statement.{Statement}
use Rattle.zl_code.specs.declared.history.TraceItem.{TraceItem}
use Rattle.zl_sched.specs.System.{System}

-- the programs, the statements and the limit of the boot, and the items so far
pub record Opening : Type 0 where
  pub programs : Library
  pub statements : List Statement
  pub limit : ℕ
  pub items : List TraceItem

abbrev pub opening_of : System → Opening
opening_of s = record { programs = s.machine.programs; statements = s.statements; limit = s.limit; items = s.items }

-- the items begin with the first ones
abbrev pub Begins : List TraceItem → List TraceItem → Type 0
Begins first items = (rest : List TraceItem) × (items ≡ first ++ rest)

-- it was booted from the same, and its trace begins with those items
pub record GoesOn (o : Opening) (s : System) : Type 0 where
  pub programs : s.machine.programs ≡ o.programs
  pub statements : s.statements ≡ o.statements
  pub limit : s.limit ≡ o.limit
  pub items : Begins o.items s.items
