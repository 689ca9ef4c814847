-- What follows each step: waits give their packets, and blocked processes become ready.
use Rattle.std.specs.Prelude.{ℕ, Bool, ◌&&◌, not, ◌==◌, List, [], ◌∷◌, ◌++◌, map, Option, Some, None, if◌then◌else◌}
use Rattle.std.specs.List.{filter, fold}
use Rattle.zl_rights.specs.Numbers.{meets}
use Rattle.zl_rights.specs.Map.{get, put, each}
use Rattle.zl_rights.specs.World.{World, answered, Process, State, Ready, Blocked, SignalOf, PacketAt, Object, Body, PortBody, Packet, Wait}
use Rattle.zl_rights.specs.Signals.{active}

-- ---- the waits that hold

-- a watched signal is active
unfoldable pub holds : World → Wait → Bool
holds w x = meets (active w x.object) x.mask

-- the packet that a wait gives
abbrev pub packet_of : World → Wait → Packet
packet_of w x = record {
  kind = 1;
  key = x.key;
  trigger = x.mask;
  observed = active w x.object;
  source = Some (record { pid = x.pid; value = x.value; object = x.object });
}

-- a port with these packets behind its own; no other object takes packets
abbrev pub body_with_packets : List Packet → Body → Body
body_with_packets more (PortBody packets) = PortBody (packets ++ more)
body_with_packets more b = b

-- the packets that the port k gets, in the order of the waits
abbrev pub packets_for : World → ℕ → List Packet
packets_for w k = map (packet_of w) (filter (λ x. x.port == k && holds w x) w.waits)

-- each registered wait that holds queues its packet and is gone
unfoldable pub fired : World → World
fired w = record w {
  objects = each (λ k o. record o { body = body_with_packets (packets_for w k) o.body }) w.objects;
  waits = filter (λ x. not (holds w x)) w.waits;
}

-- ---- the blocked processes

-- the process is ready, with this answer
unfoldable pub made_ready : World → ℕ → Process → List ℕ → List ℕ → World
made_ready w p process destinations values = record w {
  processes = put w.processes p (record process { state = Ready; cpu = answered process.cpu destinations values });
  blocked = filter (λ q. not (q == p)) w.blocked;
}

-- what a packet gives to the registers
abbrev pub packet_values : Packet → List ℕ
packet_values x = x.key ∷ x.kind ∷ x.trigger ∷ x.observed ∷ []

-- the object k with another body
abbrev pub with_body : World → ℕ → Object → Body → World
with_body w k o b = record w { objects = put w.objects k (record o { body = b }) }

-- the first packet goes to the process
abbrev pub woken_by_first : World → ℕ → Process → ℕ → List ℕ → Object → List Packet → World
woken_by_first w p process k destinations o [] = w
woken_by_first w p process k destinations o (x ∷ rest) =
    made_ready (with_body w k o (PortBody rest)) p process destinations (0 ∷ packet_values x)

-- the first packet of the object k goes to the process, if k is a port
abbrev pub woken_by : World → ℕ → Process → ℕ → List ℕ → Object → Body → World
woken_by w p process k destinations o (PortBody packets) = woken_by_first w p process k destinations o packets
woken_by w p process k destinations o _ = w

-- likewise, where the object k may be gone
abbrev pub woken_at_port : World → ℕ → Process → ℕ → List ℕ → Option Object → World
woken_at_port w p process k destinations None = w
woken_at_port w p process k destinations (Some o) = woken_by w p process k destinations o o.body

-- the process becomes ready, if the signal or the packet that it is blocked on is there
abbrev pub woken_from : World → ℕ → Process → State → World
woken_from w p process (Blocked (SignalOf k mask) destinations) =
    if meets (active w k) mask then made_ready w p process destinations (0 ∷ active w k ∷ []) else w
woken_from w p process (Blocked (PacketAt k) destinations) =
    woken_at_port w p process k destinations (get w.objects k)
woken_from w p process _ = w

-- likewise, where there may be no process p
abbrev pub woken_if_there : World → ℕ → Option Process → World
woken_if_there w p None = w
woken_if_there w p (Some process) = woken_from w p process process.state

-- the blocked process p becomes ready, if what it waits for is there
unfoldable pub woken : World → ℕ → World
woken w p = woken_if_there w p (get w.processes p)

-- first the waits, then the blocked processes, one after another
unfoldable pub wakes : World → World
wakes w = fold woken (fired w) w.blocked
