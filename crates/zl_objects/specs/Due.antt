-- The earliest wait that holds, found object by object. No public clause cites this module.
use Rattle.std.specs.Prelude.{ℕ, Bool, nat_le, List, [], ◌∷◌, Option, Some, None, if◌then◌else◌}
use Rattle.zl_rights.specs.Map.{Map, get}
use Rattle.zl_objects.specs.declared.object.Object.{Object}
use Rattle.zl_objects.specs.declared.wait.Listed.{Listed}
use Rattle.zl_objects.specs.Calm.{holds_now}
use Rattle.zl_objects.specs.Listed.{listed_value}
use Rattle.zl_objects.specs.Signals.{signals_at}
use Rattle.zl_objects.specs.Waits.{order_found}

-- the entry of the list is of a wait that holds
abbrev pub is_entry_due : Map Object → Listed → Bool
is_entry_due m x = holds_now m (listed_value x)

-- the order of the earliest wait at the object k that holds
abbrev pub order_at : Map Object → ℕ → Option ℕ
order_at m k = order_found (signals_at m k) (get m k)

-- the one with the lower order: what was found so far, or the object k, of whose earliest wait this is the order
abbrev pub earlier : Option (ℕ × ℕ) → Option ℕ → ℕ → Option (ℕ × ℕ)
earlier first None k = first
earlier None (Some order) k = Some (order, k)
earlier (Some first) (Some order) k = if nat_le first.0 order then Some first else Some (order, k)

-- the one with the lowest order of what was found so far and of these objects
abbrev pub earliest_from : (ℕ → Option ℕ) → Option (ℕ × ℕ) → List ℕ → Option (ℕ × ℕ)
earliest_from next first [] = first
earliest_from next first (k ∷ ks) = earliest_from next (earlier first (next k) k) ks
