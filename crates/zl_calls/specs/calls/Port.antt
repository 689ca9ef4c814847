-- What calls on ports do: port_create, port_queue, port_poll and port_wait. No public clause cites this module.
use Rattle.std.specs.Prelude.{ℕ, ◌≡◌, Bool, [], ◌∷◌, List, Option, Some, None, Result, Ok, Err, ⊤, slice_get}
use Rattle.std.specs.Bool.{then_some}
use Rattle.std.specs.Result.{result_err}
use Rattle.zl_code.specs.Common.{Map, get, is_empty}
use Rattle.zl_rights.specs.declared.kind.Kind.TheVariants as kind
use Rattle.zl_rights.specs.declared.status.Status.{Status}
use Rattle.zl_rights.specs.declared.status.Status.TheVariants as status
use Rattle.zl_rights.specs.declared.entry.Entry.{Entry}
use Rattle.zl_rights.specs.LookUp.{looked_up}
use Rattle.zl_rights.specs.Numbers.{READ, WRITE}
use Rattle.zl_rights.specs.World.{Awaited, Packet, PacketAt}
use Rattle.zl_rights.specs.Wakes.{packet_values}
use Rattle.zl_port.specs.Packets.{user_packet, with_packet, without_front}
use Rattle.zl_code.specs.Waiting.{is_full}
use Rattle.zl_table.specs.Table.{Handles}
use Rattle.zl_objects.specs.declared.object.Object.{Object}
use Rattle.zl_objects.specs.Objects.{Objects}
use Rattle.zl_objects.specs.Ports.{changing_port, new_port, packets_found}
use Rattle.zl_calls.specs.calls.Answer.{Action, Does, answers, told_by, wants_memory, wants_nothing}
use Rattle.zl_calls.specs.calls.Making.{MakeDoes}

-- ---- port_create

-- port_create, over the table of its caller: it makes a port without packets
abbrev pub PortCreateDoes : Handles → Objects → Result ℕ Status → Handles → Objects → Type 0
PortCreateDoes = MakeDoes new_port

-- ---- a port that a handle names

-- the port that the handle at the value names, if it is one and the handle has the rights
abbrev pub port_at : Map Entry → ℕ → ℕ → Result Entry Status
port_at entries value rights = looked_up entries value (kind.Port ∷ []) rights

-- why a call on the port is refused that the look-up found: its fault, or the status where the packets pass the test
abbrev pub refused_by : Map Object → (List Packet → Bool) → Status → Result Entry Status → Option Status
refused_by objects test s (Ok e) = then_some (test (packets_found (get objects e.koid))) s
refused_by objects test s (Err fault) = Some fault

-- ---- port_queue

-- the answer of port_queue other than OK
abbrev pub queue_refusal : Map Entry → Map Object → ℕ → Option Status
queue_refusal entries objects value = refused_by objects is_full status.ShouldWait (port_at entries value WRITE)

-- the packet goes behind all others of the port that the handle names
pub record QueuesPacket (t : Handles) (r : Objects) (value key word : ℕ) (t2 : Handles) (r2 : Objects) : Type 0 where
  pub unrefused : queue_refusal t.entries r.objects value ≡ None
  pub port : Entry
  pub is_port : port_at t.entries value WRITE ≡ Ok port
  pub table : t2 ≡ t
  pub objects : r2 ≡ changing_port r port.koid (λ p. with_packet p (user_packet key word))

-- port_queue at the port at the value, with the key and the word of the packet
abbrev pub PortQueueDoes : (value key word : ℕ) → Handles → Objects → Result ⊤ Status → Handles → Objects → Type 0
PortQueueDoes value key word t r = Does (λ _. QueuesPacket t r value key word) wants_memory (queue_refusal t.entries r.objects value) t r

-- ---- port_poll

-- the answer of port_poll other than OK
abbrev pub poll_refusal : Map Entry → Map Object → ℕ → Option Status
poll_refusal entries objects value = refused_by objects is_empty status.TimedOut (port_at entries value READ)

-- the packet is the first of the port that the handle names, and leaves it
pub record TakesPacket (t : Handles) (r : Objects) (value : ℕ) (packet : Packet) (t2 : Handles) (r2 : Objects) : Type 0 where
  pub unrefused : poll_refusal t.entries r.objects value ≡ None
  pub port : Entry
  pub is_port : port_at t.entries value READ ≡ Ok port
  pub first : slice_get (packets_found (get r.objects port.koid)) 0 ≡ Some packet
  pub table : t2 ≡ t
  pub objects : r2 ≡ changing_port r port.koid without_front

-- port_poll at the port at the value; it never wants memory
abbrev pub PortPollDoes : (value : ℕ) → Handles → Objects → Result Packet Status → Handles → Objects → Type 0
PortPollDoes value t r = Does (TakesPacket t r value) wants_nothing (poll_refusal t.entries r.objects value) t r

-- its answer gives the values of a packet
abbrev pub gives_packet : (Handles → Objects → Result Packet Status → Handles → Objects → Type 0) → Action
gives_packet = answers (Result Packet Status) (told_by packet_values)

-- ---- port_wait

-- port_wait at the port at the value, where it is answered: it takes the first packet, as port_poll does
abbrev pub PortWaitDoes : (value : ℕ) → Handles → Objects → Result Packet Status → Handles → Objects → Type 0
PortWaitDoes value t r = Does (TakesPacket t r value) wants_nothing (result_err (port_at t.entries value READ)) t r

-- where it blocks: the port that the handle names has no packet, and it waits there for one
pub record WaitsForPacket (value : ℕ) (t : Handles) (r : Objects) (awaited : Awaited) : Type 0 where
  pub port : Entry
  pub is_port : port_at t.entries value READ ≡ Ok port
  pub none : slice_get (packets_found (get r.objects port.koid)) 0 ≡ None
  pub is_awaited : awaited ≡ PacketAt port.koid
