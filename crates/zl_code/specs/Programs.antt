-- Which programs processes run.
use Rattle.std.specs.Prelude.{ℕ, ◌≡◌, Some, is_some, slice_get, IsTrue}
use Rattle.zl_rights.specs.Common.{get, World, Process}
use Rattle.zl_code.specs.Image.{Library}

-- each process runs a program of the library, or is to run one
abbrev pub HavePrograms : Library → World → Type 0
HavePrograms lib w = (p : ℕ) (q : Process) → get w.processes p ≡ Some q → IsTrue (is_some (slice_get lib q.program))
