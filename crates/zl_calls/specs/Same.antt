-- What counts of a process for what comes.
use Rattle.std.specs.Prelude.{ℕ, [], None, if◌then◌else◌}
use Rattle.zl_code.specs.Common.{lives, Process as ProcessValue}
use Rattle.zl_rights.specs.Values.{Free}
use Rattle.zl_calls.specs.Rested.{no_cpu}
use Rattle.zl_calls.specs.World.{free_of, process_value}
use Rattle.zl_calls.specs.declared.process.Process.{Process}

-- of one that is over its program and how it ended
abbrev pub counting : ProcessValue → ProcessValue
counting q = if lives q.state then q else record q { cpu = no_cpu; handles = []; last = None }

-- its koid, what counts of it, and the values that its new handles get
abbrev pub counted : Process → ℕ × (ProcessValue × Free)
counted p = (p.pid, (counting (process_value p), free_of p))
