-- What calls on processes do: process_exit. No public clause cites this module.
use Rattle.std.specs.Prelude.{ℕ, ℤ, ◌≡◌, [], ◌∷◌, None, Some}
use Rattle.zl_code.specs.Common.{Map, get, without}
use Rattle.zl_rights.specs.declared.entry.Entry.{Entry}
use Rattle.zl_objects.specs.Objects.{Objects}
use Rattle.zl_objects.specs.Release.{Releases, Ends as ObjectEnds}
use Rattle.zl_calls.specs.declared.process.State.TheVariants as state
use Rattle.zl_calls.specs.declared.process.Process.{Process}
use Rattle.zl_calls.specs.Registered.{EndsOwn}

-- the handles of a table close, one after another
pub data Drained : Map Entry → Objects → Objects → Type 0 where
  none_left : (r : Objects) → Drained [] r r
  one_more : (m : Map Entry) (value : ℕ) (e : Entry) (r mid r2 : Objects) → get m value ≡ Some e → Releases (e.koid ∷ []) [] r mid → Drained (without m value) mid r2 → Drained m r r2

-- the process has ended with the code, without handles, and its objects are those that are left
pub record Ends (code : ℤ) (old : Process) (r : Objects) (new : Process) (r2 : Objects) : Type 0 where
  pub process : new ≡ record old { state = state.Ended code; table = new.table }
  pub no_handle : new.table.entries ≡ []
  pub no_last : new.table.last ≡ None
  -- the objects, once its own is over
  pub between : Objects
  pub over : ObjectEnds old.pid r between
  pub closes : Drained old.table.entries between r2
  pub waits : EndsOwn old.pid old.table.entries r r2
