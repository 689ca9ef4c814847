-- The list of all registered waits beside the waits that stand at the objects.
use Rattle.std.specs.Prelude.{ℕ, ◌≡◌, ◌+◌, ◌^◌, Bool, ◌&&◌, ◌==◌, nat_lt, List, [], ◌∷◌, ◌++◌, map}
use Rattle.std.specs.List.{filter}
use Rattle.zl_rights.specs.Map.{Map, get, has_key, update}
use Rattle.zl_rights.specs.Numbers.{meets}
use Rattle.zl_rights.specs.World.{Wait as WaitValue}
use Rattle.zl_signals.specs.declared.watch.Watch.{Watch}
use Rattle.zl_signals.specs.Waits.{without_first}
use Rattle.zl_port.specs.Packets.{with_place}
use Rattle.zl_objects.specs.declared.object.Object.{Object}
use Rattle.zl_objects.specs.declared.wait.Listed.{Listed}
use Rattle.zl_objects.specs.declared.wait.Wait.{Wait}
use Rattle.zl_objects.specs.Awaited.{KeepSleepers}
use Rattle.zl_objects.specs.Objects.{Objects}
use Rattle.zl_objects.specs.Ports.{at_port}
use Rattle.zl_objects.specs.Waits.{waits_in, watched}

-- ---- one wait

-- the wait as the world lists it
abbrev pub wait_value : Wait → WaitValue
wait_value x = record { pid = x.pid; value = x.value; object = x.object; port = x.port; key = x.key; mask = x.mask.0 }

-- the wait as it stands at its object, where so many were registered before it
abbrev pub watch_of : ℕ → Wait → Watch
watch_of order x =
    record { pid = x.pid; value = x.value; port = x.port; key = x.key; mask = x.mask; order = order }

-- the wait in the list, where so many were registered before it
abbrev pub entry_of : ℕ → Wait → Listed
entry_of order x = record { order = order; wait = x }

-- the entry of the list as the world lists it
abbrev pub listed_value : Listed → WaitValue
listed_value x = wait_value x.wait

-- the wait that stands at the object k as the list has it
abbrev pub listed_at : ℕ → Watch → Listed
listed_at k x = record {
  order = x.order;
  wait = record { pid = x.pid; value = x.value; object = k; port = x.port; key = x.key; mask = x.mask };
}

-- the entry of the list by its order
abbrev pub order_entry : Listed → ℕ × Wait
order_entry x = (x.order, x.wait)

-- ---- which waits of the list

-- the wait is at the object k, and the process made it by its handle of this value
abbrev pub is_made_at : (k pid value : ℕ) → WaitValue → Bool
is_made_at k pid value x = (x.object == k) && ((x.pid == pid) && (x.value == value))

-- the wait is at the object k, and gives its packet to the port
abbrev pub is_given_from : (k port : ℕ) → WaitValue → Bool
is_given_from k port x = (x.object == k) && (x.port == port)

-- the wait is at the object k, was made by that handle, and gives a packet with this key to the port
abbrev pub is_keyed_at : (k pid value port key : ℕ) → WaitValue → Bool
is_keyed_at k pid value port key x =
    (x.object == k) && (((x.pid == pid) && (x.value == value)) && ((x.port == port) && (x.key == key)))

-- the wait is at the object k, and a signal of its mask is among these
abbrev pub holds_at : (k signals : ℕ) → WaitValue → Bool
holds_at k signals x = (x.object == k) && meets signals x.mask

-- the object of the wait is there, and its port
abbrev pub is_there : Map Object → WaitValue → Bool
is_there m x = has_key m x.object && has_key m x.port

-- so is it for the entry of the list
abbrev pub is_entry_there : Map Object → Listed → Bool
is_entry_there m x = is_there m (listed_value x)

-- ---- changes

-- one more wait may be registered, as not so many ever were
abbrev pub may_register_here : Objects → Bool
may_register_here r = nat_lt r.waits_made (2 ^ 62)

-- the objects, where the wait was registered last of all, with a place for its packet at its port
abbrev pub watching : Objects → Wait → Objects
watching r x = record r {
  objects = update (update r.objects x.port (at_port with_place)) x.object (watched (watch_of r.waits_made x));
  waits = r.waits ++ (wait_value x ∷ []);
  waits_made = r.waits_made + 1;
}

-- the objects, of whose list the earliest wait that passes the test has gone
abbrev pub unlisting : (WaitValue → Bool) → Objects → Objects
unlisting test r = record r { waits = without_first test r.waits }

-- of all waits those are left whose object and port are, in order, and who may be blocked is as before
pub record LeavesListed (r r2 : Objects) : Type 0 where
  pub waits : r2.waits ≡ filter (is_there r2.objects) r.waits
  pub made : r2.waits_made ≡ r.waits_made
  pub asleep : KeepSleepers r r2

-- ---- what the list and the objects both say

-- the list has the waits of each object as they stand there, in their order
abbrev pub AreListed : List Listed → Map Object → Type 0
AreListed list m = (k : ℕ) → filter (λ x. x.wait.object == k) list ≡ map (listed_at k) (waits_in (get m k))
