-- What a kill makes of the processes that were listed, and what stays so that it need not look at the others. No public clause cites this module.
use Rattle.std.specs.Prelude.{ℕ, ◌≡◌, ◌<◌, false, List, [], Some, None, slice_get, if◌then◌else◌}
use Rattle.zl_rights.specs.Signals.{lives}
use Rattle.zl_objects.specs.Below.{is_one_of}
use Rattle.zl_objects.specs.Objects.{Objects}
use Rattle.zl_calls.specs.Blocked.{AreBlocked}
use Rattle.zl_calls.specs.World.{state_value}
use Rattle.zl_calls.specs.calls.Task.{ended_within}
use Rattle.zl_calls.specs.declared.process.Process.{Process}

-- no handle of the process is left to close: it lives, or it has none
abbrev pub IsClosed : Process → Type 0
IsClosed p = lives (state_value p.state) ≡ false → (p.table.entries ≡ []) × (p.table.last ≡ None)

-- so it is of each of them
abbrev pub AreClosed : List Process → Type 0
AreClosed ps = (n : ℕ) (p : Process) → slice_get ps n ≡ Some p → IsClosed p

-- so it is of each but perhaps these
abbrev pub AreClosedBut : List ℕ → List Process → Type 0
AreClosedBut ks ps = (n : ℕ) (p : Process) → slice_get ps n ≡ Some p → is_one_of p.pid ks ≡ false → IsClosed p

-- if it is one of these, a process that lives has ended, where it is the task or stands below it
abbrev pub ended_among : Objects → ℕ → List ℕ → Process → Process
ended_among r task ks p = if is_one_of p.pid ks then ended_within r task p else p

-- just who was blocked is
abbrev pub StayBlocked : List Process → List Process → Type 0
StayBlocked ps ps2 = (blocked : List ℕ) → AreBlocked ps blocked → AreBlocked ps2 blocked

-- whoever has the koid stands before the place
abbrev pub StandsBefore : List Process → ℕ → ℕ → Type 0
StandsBefore ps k place = (n : ℕ) (p : Process) → slice_get ps n ≡ Some p → p.pid ≡ k → n < place
