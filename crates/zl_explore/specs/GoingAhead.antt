-- Turns up to the next call: behind an own step, who took it and who became ready go ahead by their local instructions.
use Rattle.std.specs.Prelude.{ℕ, ◌≡◌, ◌==◌, ◌||◌, not, List, ◌++◌}
use Rattle.std.specs.List.{filter, list_any}
use Rattle.zl_calls.specs.World.{Machine}
use Rattle.zl_explore.specs.GoesAhead.{all_ahead, gone_ahead, reduced_start, reduced_turn}
use Rattle.zl_explore.specs.Paths.{IsPath, after}
use Rattle.zl_explore.specs.Private.{is_local}
use Rattle.zl_explore.specs.Running.{ready_of, turned}

-- the most local instructions that a process goes ahead by
unfoldable pub most_ahead : ℕ
most_ahead = 10000

abbrev pub ahead : Machine → ℕ → Machine
ahead m p = gone_ahead turned is_local most_ahead m p

abbrev pub ahead_all : Machine → List ℕ → Machine
ahead_all m ps = all_ahead turned is_local most_ahead m ps

-- a turn of the process, up to the next call
abbrev pub reduced : Machine → ℕ → Machine
reduced = reduced_turn ready_of turned is_local most_ahead

-- where the search begins, behind a machine
abbrev pub start_of : Machine → Machine
start_of = reduced_start ready_of turned is_local most_ahead

-- of those who are ready behind a turn, the process itself and who wasn't ready before
abbrev pub going : (before : List ℕ) → ℕ → (behind : List ℕ) → List ℕ
going before q behind = filter (λ k. (k == q) || not (list_any (λ j. j == k) before)) behind

-- turns of one instruction that stand behind others, and lead from s to t
pub record Takes (s : Machine) (old new : List ℕ) (t : Machine) : Type 0 where
  pub more : List ℕ
  pub items : new ≡ old ++ more
  pub is_path : IsPath ready_of turned s more
  pub leads : after ready_of turned s more ≡ t
