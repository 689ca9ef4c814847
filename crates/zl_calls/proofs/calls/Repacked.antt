-- What the calls on a port have in common: what packets are there, and what it means that those of one port change.
use Rattle.zl_calls.proofs.Common.{Body, IsConsistent, List, Map, None, Object, Objects, Option, Packet, Port, Process, Replies, Site, Some, World, ap, at_port}
use Rattle.zl_calls.proofs.Common.{body_in, body_value, changing_port, get, get_seen, map, object_entry, object_value, on_object, option_map, packets_found}
use Rattle.zl_calls.proofs.Common.{packets_in, packets_of, refl, repacked, replied, world_value, ℕ, ◌≡◌}
use Rattle.zl_rights.specs.declared.status.Status.TheVariants as status
use Rattle.zl_objects.specs.declared.object.Body.TheVariants as body
use Rattle.zl_calls.proofs.calls.Answered.{IsWrite, replied_changed}
use Rattle.zl_calls.proofs.objects.Packed.{packed_consistent, packed_seen}
use Rattle.zl_calls.proofs.processes.Written.{refusal_keeps}

-- the packets at an object are the same for the definitions
pub packets_there : (os : Map Object) (k : ℕ) → packets_in (body_in (get (map object_entry os) k)) ≡ packets_found (get os k)
packets_there os k = rw (get_seen os k) (by_object (get os k))
  where
    by_body : (b : Body) → packets_in (Some (body_value b)) ≡ packets_of b
    by_body (body.Port port) = refl
    by_body _ = refl

    by_object : (o : Option Object) → packets_in (body_in (option_map object_value o)) ≡ packets_found o
    by_object None = refl
    by_object (Some o) = by_body o.body

-- a process of the world, before and after its call
module _ (before after : List Process) (r r2 : Objects) (p p2 : Process) (consistent : IsConsistent before r) (write : IsWrite before after p p2) where
  abbrev w : World
  w = world_value before r

  -- the port k is as f leaves it, and its packets as g does; nothing else changes but the registers
  module _ (k : ℕ) (f : Port → Port) (g : List Packet → List Packet) (packed : (x : Port) → (f x).packets ≡ g x.packets) (objects : r2 ≡ changing_port r k f)
      (table : p2.table ≡ p.table)
      (s : Site) (values : List ℕ) (replies : Replies s status.Ok values p p2) where
    -- the world after it
    pub port_ends : world_value after r2 ≡ replied (on_object w k (repacked g)) p.pid s status.Ok values
    port_ends = replied_changed write r r2 k (at_port f) (repacked g) (packed_seen f g packed) objects table s values replies

    -- the invariant
    pub port_kept : IsConsistent after r2
    port_kept = rw objects
        (refusal_keeps write (changing_port r k f) (packed_consistent f before r k consistent) table (ap (λ (q : Process). q.state) replies))
