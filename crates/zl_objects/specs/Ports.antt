-- The ports among the objects, and what operations make of them.
use Rattle.std.specs.Prelude.{ℕ, Bool, true, false, nat_lt, List, [], Option, Some, None}
use Rattle.zl_rights.specs.Map.{Map, get, update}
use Rattle.zl_rights.specs.World.{Packet}
use Rattle.zl_port.specs.Packets.{Port}
use Rattle.zl_objects.specs.declared.object.Body.{Body}
use Rattle.zl_objects.specs.declared.object.Body.TheVariants as body
use Rattle.zl_objects.specs.declared.object.Object.{Object}
use Rattle.zl_objects.specs.Objects.{Objects}

-- a port
abbrev pub is_port_body : Body → Bool
is_port_body (body.Port port) = true
is_port_body _ = false

-- the object that was found is a port
abbrev pub is_port_in : Option Object → Bool
is_port_in None = false
is_port_in (Some o) = is_port_body o.body

-- the object k is a port
abbrev pub is_port_at : Map Object → ℕ → Bool
is_port_at objects k = is_port_in (get objects k)

-- the packets at a port, the earliest first; none at other objects
abbrev pub packets_of : Body → List Packet
packets_of (body.Port port) = port.packets
packets_of _ = []

-- the packets at the object that was found
abbrev pub packets_found : Option Object → List Packet
packets_found None = []
packets_found (Some o) = packets_of o.body

-- the places that are reserved for packets to come
abbrev pub reserved_of : Body → ℕ
reserved_of (body.Port port) = port.reserved
reserved_of _ = 0

-- the places that are reserved at the object that was found
abbrev pub reserved_in : Option Object → ℕ
reserved_in None = 0
reserved_in (Some o) = reserved_of o.body

-- a place is reserved, if it is a port
abbrev pub has_place_body : Body → Bool
has_place_body (body.Port port) = nat_lt 0 port.reserved
has_place_body _ = true

-- a place is reserved at the object that was found, if it is a port
abbrev pub has_place_in : Option Object → Bool
has_place_in None = true
has_place_in (Some o) = has_place_body o.body

-- what an object is, where it is as f leaves it if it is a port
abbrev pub changed_port : (Port → Port) → Body → Body
changed_port f (body.Port port) = body.Port (f port)
changed_port f b = b

-- what an object is, but for places that are reserved
abbrev pub unreserved : Body → Body
unreserved b = changed_port (λ p. record p { reserved = 0 }) b

-- the object as f leaves it, if it is a port
abbrev pub at_port : (Port → Port) → Object → Object
at_port f o = record o { body = changed_port f o.body }

-- the objects, where the port k is as f leaves it
abbrev pub changing_port : Objects → ℕ → (Port → Port) → Objects
changing_port r k f = record r { objects = update r.objects k (at_port f) }

-- a port without packets, at which no place is reserved
abbrev pub new_port : Body
new_port = body.Port (record { packets = []; reserved = 0 })
