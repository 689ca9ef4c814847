-- What one statement of a boot does to the processes and objects made so far.
use Rattle.zl_code.specs.Common.{Ready, World, Library, boot_fault, boot_effect, may_boot, Boots, origin}
use Rattle.std.specs.Prelude.{ℕ, ◌≡◌, ◌<◌, ◌+◌, nat_lt, List, [], length, map, take, Option, Some, None, IsTrue, max}
use Rattle.std.specs.Bool.{then_some}
use Rattle.std.specs.List.{All}
use Rattle.zl_code.specs.Boot.{MOST_KOIDS}
use Rattle.zl_code.specs.Own.{OwnWorld}
use Rattle.zl_code.specs.OwnBoot.{own_given}
use Rattle.zl_code.specs.declared.boot.BootCause.{BootCause}
use Rattle.zl_code.specs.declared.boot.BootCause.TheVariants as cause
use Rattle.zl_code.specs.declared.boot.Statement.{Statement}
use Rattle.zl_code.specs.declared.boot.Statement.TheVariants as statement
use Rattle.zl_objects.specs.declared.object.Pair.{Pair}
use Rattle.zl_objects.specs.declared.object.Pair.TheVariants as pair
use Rattle.zl_calls.specs.declared.boot.Made.{Made}
use Rattle.zl_calls.specs.declared.process.Process.{Process}
use Rattle.zl_calls.specs.World.{free_entry, state_value, world_value}
use Rattle.zl_calls.specs.Making.{IsMaking}

-- the world of what was made
abbrev pub seen : Made → World
seen made = world_value made.processes.items made.objects

-- the same with the values of each process
abbrev pub own_seen : Made → OwnWorld
own_seen made = record { world = seen made; free = map free_entry made.processes.items }

-- the process is ready, and no handle has gone from its table
pub record IsFresh (p : Process) : Type 0 where
  pub ready : state_value p.state ≡ Ready
  pub free : p.table.free ≡ record { freed = []; made = length p.table.entries }

-- the statement leads from one world to the other, by a choice of values
pub record Makes (lib : Library) (s : Statement) (old new : Made) : Type 0 where
  pub no_fault : boot_fault lib (seen old) s ≡ None
  pub values : List ℕ
  pub own : values ≡ own_given s
  pub chosen : IsTrue (may_boot lib (seen old) s values)
  pub effect : seen new ≡ boot_effect lib (seen old) s values
  pub making : IsMaking new.processes.items [] new.objects
  pub fresh : All IsFresh old.processes.items → All IsFresh new.processes.items

-- the cause is that of the statement; where it has none, memory is wanted
abbrev pub IsCauseOf : Option BootCause → BootCause → Type 0
IsCauseOf None c = c ≡ cause.NoMemory
IsCauseOf (Some found) c = c ≡ found

-- the statement that makes such a pair
abbrev pub making_pair : Pair → Statement
making_pair pair.Channel = statement.Channel
making_pair pair.Eventpair = statement.Eventpair

-- the fault of a statement that makes one object, where it has no other
abbrev pub koid_fault : Made → Option BootCause
koid_fault made = then_some (nat_lt (MOST_KOIDS + 1) (made.objects.next_koid + 1)) cause.Limit

-- number n is that of a statement, or 0 where there is none, and the statements before it can be done
pub record IsReached (lib : Library) (statements : List Statement) (n : ℕ) : Type 0 where
  pub made : World
  pub boots : Boots lib origin (take n statements) made
  pub place : n < max 1 (length statements)
