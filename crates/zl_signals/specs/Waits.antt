-- What is raised at an object and the waits that are registered there, and what operations make of them.
use Rattle.std.specs.Prelude.{ℕ, Bool, not, ◌&&◌, ◌==◌, List, [], ◌∷◌, ◌++◌, Option, filter, option_map}
use Rattle.std.specs.List.{find, before_first, after_first}
use Rattle.zl_rights.specs.Numbers.{changed, meets}
use Rattle.zl_rights.specs.World.{Wait}
use Rattle.zl_signals.specs.declared.watch.Watch.{Watch}

-- the signals that calls raised at an object, and its waits, the earliest registered first
pub record SignalState : Type 0 where
  pub raised : ℕ
  pub waits : List Watch

-- the wait as the world lists it, where it was registered at this object
abbrev pub wait_at : ℕ → Watch → Wait
wait_at object x =
    record { pid = x.pid; value = x.value; object = object; port = x.port; key = x.key; mask = x.mask.0 }

-- ---- which wait

-- a watched signal is active
abbrev pub watch_holds : ℕ → Watch → Bool
watch_holds active x = meets active x.mask.0

-- the wait was made by the process with its handle of this value
abbrev pub is_by_handle_here : ℕ → ℕ → Watch → Bool
is_by_handle_here pid value x = (x.pid == pid) && (x.value == value)

-- the wait gives its packet to the port
abbrev pub is_at_port : ℕ → Watch → Bool
is_at_port port x = x.port == port

-- the wait was made by that handle, and gives a packet with this key to the port
abbrev pub is_keyed_here : ℕ → ℕ → ℕ → ℕ → Watch → Bool
is_keyed_here pid value port key x = is_by_handle_here pid value x && (is_at_port port x && (x.key == key))

-- ---- changes

-- the list without the first element that passes the test
abbrev pub without_first : {X : Type 0} → (X → Bool) → List X → List X
without_first test xs = before_first test xs ++ after_first test xs

-- the state, where the signals of one mask were cleared, and then those of the other set
abbrev pub with_changed : SignalState → ℕ → ℕ → SignalState
with_changed s clear set = record s { raised = changed s.raised clear set }

-- the state with one wait more, behind all others
abbrev pub with_wait : SignalState → Watch → SignalState
with_wait s x = record s { waits = s.waits ++ x ∷ [] }

-- the state without the earliest wait that passes the test
abbrev pub without_wait : SignalState → (Watch → Bool) → SignalState
without_wait s test = record s { waits = without_first test s.waits }

-- the state without the waits that give their packets to the port
abbrev pub without_port : SignalState → ℕ → SignalState
without_port s port = record s { waits = filter (λ x. not (is_at_port port x)) s.waits }

-- the order of the earliest wait that holds
abbrev pub next_order : SignalState → ℕ → Option ℕ
next_order s active = option_map (λ (x : Watch). x.order) (find (watch_holds active) s.waits)
