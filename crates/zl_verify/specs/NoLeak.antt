-- No leak: in every run, as long as it lives, a process that was properly started from an accepted image has in its table just the handles
-- that stand in its slot arrays and in the registers that a typing knows as handles, each in one place.
use Rattle.std.specs.Prelude.{ℕ, ◌≡◌, ◌↔◌, ◌&&◌, ◌==◌, nat_lt, List, [], ◌∷◌, ◌++◌, Option, Some, IsTrue, if◌then◌else◌}
use Rattle.std.specs.List.{concat, filter, Contains, IsDistinct}
use Rattle.zl_rights.specs.Common.{get, has_key, lives, Cpu, Process}
use Rattle.zl_code.specs.Image.{Image}
use Rattle.zl_code.specs.Headline.{HoldsFromItsStart}
use Rattle.zl_abs.specs.Values.{is_has}
use Rattle.zl_abs.specs.States.{State}

-- the values of handles in the registers that the state types as handles; 0 is none, where it may stand there
unfoldable pub values_in_registers : State → List ℕ → List ℕ
values_in_registers (a ∷ s) (x ∷ xs) = if is_has a && nat_lt 0 x then x ∷ values_in_registers s xs else values_in_registers s xs
values_in_registers _ _ = []

-- the values of handles in slot arrays, each place of which has a handle or 0
unfoldable pub values_in_slots : List (List ℕ) → List ℕ
values_in_slots slots = filter (nat_lt 0) (concat slots)

-- both together: one for each register and each place that has a handle
abbrev pub handle_values : State → Cpu → List ℕ
handle_values s c = values_in_registers s c.registers ++ values_in_slots c.slots

-- The table of the process q has just these handles, by what the typing t has at its counter.
pub record HoldsJustItsHandles (t : ℕ → Option State) (q : Process) : Type 0 where
  pub state : State
  pub stands : t q.cpu.counter ≡ Some state
  -- the table has a handle at each of these values, and at no other
  pub exactly : (v : ℕ) → (IsTrue (has_key q.handles v) ↔ Contains (handle_values state q.cpu) v)
  -- no value stands in two of the registers and places
  pub once : IsDistinct ◌==◌ (handle_values state q.cpu)

-- So it is in every world of every run, by this typing, from the proper start of a process from this image on and as long as it lives, whatever it and others do.
abbrev pub NeverLeaks : Image → (ℕ → Option State) → Type 0
NeverLeaks i t =
    HoldsFromItsStart i (λ p items w. (q : Process) → get w.processes p ≡ Some q → IsTrue (lives q.state) → HoldsJustItsHandles t q)
