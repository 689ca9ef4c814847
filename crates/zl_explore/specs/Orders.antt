-- Orders of turns, each of which is the lab's own step, and the worlds to which they lead.
use Rattle.std.specs.Prelude.{ℕ, ◌≡◌, Bool, if◌then◌else◌, List, [], ◌∷◌, map, Option, None, Some}
use Rattle.std.specs.List.{filter}
use Rattle.zl_rights.specs.Common.{is_process, is_ready}
use Rattle.zl_code.specs.declared.history.ProcState.{ProcState}
use Rattle.zl_code.specs.declared.history.TraceItem.{TraceItem}
use Rattle.zl_code.specs.Image.{Library}
use Rattle.zl_code.specs.Own.{OwnWorld}
use Rattle.zl_code.specs.OwnSteps.{own_step}
use Rattle.zl_calls.specs.Rested.{own_rested}
use Rattle.zl_calls.specs.World.{seen_in}

-- the own steps of these processes, one after another, lead from o to o2
abbrev pub OwnTurns : Library → OwnWorld → List ℕ → OwnWorld → Type 0
OwnTurns lib o [] o2 = o2 ≡ o
OwnTurns lib o (p ∷ turns) o2 = (mid : OwnWorld) × (x : TraceItem) × (own_step lib o p ≡ Some (mid, x)) × OwnTurns lib mid turns o2

-- the koids of those that are ready; of nobody at an end
abbrev pub ready_in : OwnWorld → List ℕ
ready_in o = filter (is_process o.world is_ready) (map (λ e. e.0) o.world.processes)

-- the process, if it is so
abbrev pub one_if : Bool → ℕ → List ℕ
one_if is_so p = if is_so then p ∷ [] else []

-- what each process is in, by koid, as a trace tells it
abbrev pub told_in : OwnWorld → List (ℕ × ProcState)
told_in o = map (λ e. (e.0, seen_in e.1.state)) o.world.processes

-- what counts of the world behind the own step of the process; where it has none, all stays
abbrev pub behind : OwnWorld → Option (OwnWorld × TraceItem) → OwnWorld
behind o None = o
behind o (Some y) = own_rested y.0

abbrev pub next_in : Library → OwnWorld → ℕ → OwnWorld
next_in lib o p = behind o (own_step lib o p)
