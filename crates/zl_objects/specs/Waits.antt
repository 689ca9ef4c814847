-- The waits that are registered at the objects, and what operations make of them.
use Rattle.std.specs.Prelude.{ℕ, false, ◌≡◌, Bool, not, ◌||◌, nat_lt, ◌+◌, cond, ◌==◌, List, [], ◌∷◌, Option, Some, None, if◌then◌else◌}
use Rattle.std.specs.List.{find, filter, count_by, sum_by}
use Rattle.zl_rights.specs.Map.{Map, each, get, has_key, update}
use Rattle.zl_rights.specs.Signals.{is_empty}
use Rattle.zl_rights.specs.World.{Packet}
use Rattle.zl_signals.specs.declared.watch.Watch.{Watch}
use Rattle.zl_signals.specs.Waits.{is_at_port, next_order, watch_holds, with_wait, without_port, without_wait}
use Rattle.zl_port.specs.Packets.{Port, with_packet, without_place}
use Rattle.zl_objects.specs.declared.object.Object.{Object}
use Rattle.zl_objects.specs.Objects.{Objects}
use Rattle.zl_objects.specs.Ports.{at_port, reserved_in, reserved_of, unreserved}

-- the waits at the object that was found, the earliest registered first
abbrev pub waits_in : Option Object → List Watch
waits_in None = []
waits_in (Some o) = o.signals.waits

-- the order of the earliest wait that holds at the object that was found
abbrev pub order_found : ℕ → Option Object → Option ℕ
order_found active None = None
order_found active (Some o) = next_order o.signals active

-- the packet of a wait that was registered at the object k, where these signals are active
abbrev pub packet_here : ℕ → ℕ → Watch → Packet
packet_here k active x = record {
  kind = 1;
  key = x.key;
  trigger = x.mask.0;
  observed = active;
  source = Some (record { pid = x.pid; value = x.value; object = k });
}

-- ---- places at ports

-- how many waits of the object give their packets to the port k
abbrev pub waits_for : ℕ → Object → ℕ
waits_for k o = count_by (is_at_port k) o.signals.waits

-- how many waits give their packets to the port k
abbrev pub waits_at : Map Object → ℕ → ℕ
waits_at m k = sum_by (λ (e : ℕ × Object). waits_for k e.1) m

-- one, where it is the port of the wait that was found
abbrev pub one_for : ℕ → Option Watch → ℕ
one_for k None = 0
one_for k (Some x) = cond (x.port == k) 1 0

-- at each port just as many places are reserved as waits give their packets to it, with this one; none gives its packet to what is no port
abbrev pub HavePlacesWith : Option Watch → Map Object → Type 0
HavePlacesWith x m = (k : ℕ) → waits_at m k + one_for k x ≡ reserved_in (get m k)

-- at each port just as many places are reserved as waits give their packets to it, and none gives its packet to what is no port
abbrev pub HavePlaces : Map Object → Type 0
HavePlaces m = HavePlacesWith None m

-- ---- changes

-- the object with one wait more, behind all others
abbrev pub watched : Watch → Object → Object
watched x o = record o { signals = with_wait o.signals x }

-- the object without the earliest wait that passes the test
abbrev pub unwatched : (Watch → Bool) → Object → Object
unwatched test o = record o { signals = without_wait o.signals test }

-- the objects, where the port of the wait that was found is as f leaves it
abbrev pub at_port_of : Option Watch → (Watch → Port → Port) → Map Object → Map Object
at_port_of None f m = m
at_port_of (Some x) f m = update m x.port (at_port (f x))

-- the objects, where the earliest wait at the object k that passes the test has gone, and its place was given back
abbrev pub unwatching : Objects → ℕ → (Watch → Bool) → Objects
unwatching r k test = record r {
  objects = at_port_of (find test (waits_in (get r.objects k))) (λ x. without_place) (update r.objects k (unwatched test));
}

-- the objects, where the earliest wait at the object k that holds has gone, and its packet stands in its place
abbrev pub firing : Objects → ℕ → ℕ → Objects
firing r k active = record r {
  objects = at_port_of (find (watch_holds active) (waits_in (get r.objects k)))
      (λ x port. with_packet (without_place port) (packet_here k active x)) (update r.objects k (unwatched (watch_holds active)));
}

-- the object without the waits that give their packets to the port
abbrev pub without_port_waits : ℕ → Object → Object
without_port_waits port o = record o { signals = without_port o.signals port }

-- the objects, where the places of these waits were given back
abbrev pub giving_back : List Watch → Map Object → Map Object
giving_back [] m = m
giving_back (x ∷ xs) m = giving_back xs (update m x.port (at_port without_place))

-- the objects without the waits that give their packets to the port k, if a place was reserved there
abbrev pub ending_port : ℕ → Bool → Map Object → Map Object
ending_port k reserved m = if reserved then each (λ j. without_port_waits k) m else m

-- the objects that are left, once the waits have ended that end with the object k
abbrev pub ending_waits : ℕ → Object → Map Object → Map Object
ending_waits k o m = ending_port k (nat_lt 0 (reserved_of o.body)) (giving_back o.signals.waits m)

-- the same waits are registered at each object
abbrev pub HaveSameWaits : Map Object → Map Object → Type 0
HaveSameWaits m m2 = (k : ℕ) → waits_in (get m2 k) ≡ waits_in (get m k)

-- waits end with the object: its own, or those that give their packets to it
abbrev pub ends_waits : Object → Bool
ends_waits o = nat_lt 0 (reserved_of o.body) || not (is_empty o.signals.waits)

-- ---- what is left

-- the object without its waits and reserved places, at which no process was blocked
abbrev pub bare : Object → Object
bare o = record { body = unreserved o.body; signals = record { raised = o.signals.raised; waits = [] }; handles = o.handles; asleep = false }

-- the objects are the same but for waits and reserved places
abbrev pub AreSameButWaits : Map Object → Map Object → Type 0
AreSameButWaits m m2 = each (λ k. bare) m ≡ each (λ k. bare) m2

-- of the waits at the object those are left whose port is left, in order; what it is, but for reserved places, and its raised signals
-- are as before
pub record KeepsWaits (m m2 : Map Object) (k : ℕ) (o : Object) : Type 0 where
  pub before : Object
  pub there : get m k ≡ Some before
  pub body : unreserved o.body ≡ unreserved before.body
  pub raised : o.signals.raised ≡ before.signals.raised
  pub waits : o.signals.waits ≡ filter (λ (x : Watch). has_key m2 x.port) before.signals.waits

-- at each object that is left those waits are left whose port is
abbrev pub LeavesWaits : Objects → Objects → Type 0
LeavesWaits r r2 = (k : ℕ) (o : Object) → get r2.objects k ≡ Some o → KeepsWaits r.objects r2.objects k o
