-- What port_wait does in each of its cases: it is refused, it takes a packet, or it blocks.
use Rattle.zl_calls.proofs.Common.{ActsHere, Blocked, Entry, Err, IsTold, List, None, Objects, Ok, Outcome, Packet, PacketAt, Process, READ, Result, Site, Some}
use Rattle.zl_calls.proofs.Common.{State, Status, TakesPacket, [], action_asked, answered_in, ap, changing_port, get, inl, inr, packet_values, packets_found}
use Rattle.zl_calls.proofs.Common.{port_at, port_wait, refl, site, slice_get, state_value, subst, sym, told_by, without_front, ℕ, ◌<◌, ◌^◌, ◌∙◌, ◌≡◌}
use Rattle.zl_code.specs.declared.history.Outcome.TheVariants as outcome
use Rattle.zl_rights.specs.declared.status.Status.TheVariants as status
use Rattle.zl_calls.proofs.calls.Polled.{nothing_polled, packet_polled}

module _ (value : ℕ) (destinations : List ℕ) (p : Process) (r : Objects) where
  abbrev waiting_site : Site
  waiting_site = site (port_wait value) [] destinations

  -- its answer is told
  told_so : (p2 : Process) (answer : Result Packet Status) → p2 ≡ answered_in p destinations packet_values answer
      → IsTold waiting_site (told_by packet_values answer) p p2
  told_so p2 (Ok packet) is = is ∙ λ i. record (answered_in p destinations packet_values (Ok packet)) { table = sym (ap (λ (q : Process). q.table) is) i }
  told_so p2 (Err refused) is = is ∙ λ i. record (answered_in p destinations packet_values (Err refused)) { table = sym (ap (λ (q : Process). q.table) is) i }

  pub port_refuses : (refused : Status) → port_at p.table.entries value READ ≡ Err refused → (o : Outcome) (p2 : Process) → o ≡ outcome.Answered refused
      → p2 ≡ answered_in p destinations packet_values (Err refused) → ActsHere (action_asked p.pid (port_wait value)) waiting_site p r o p2 r
  port_refuses refused no_port o p2 ends is = inl (record {
    answer = Err refused;
    acts = record { ok = tt; err = rw no_port refl; same_table = ap (λ (q : Process). q.table) is; same_objects = refl };
    ends = ends;
    replied = told_so p2 (Err refused) is;
  })

  module _ (r2 : Objects) (port : Entry) (is_port : port_at p.table.entries value READ ≡ Ok port) (rest : r2 ≡ changing_port r port.koid without_front) where
    pub packet_comes : (packet : Packet) → slice_get (packets_found (get r.objects port.koid)) 0 ≡ Some packet → (o : Outcome) (p2 : Process)
        → o ≡ outcome.Answered status.Ok → p2 ≡ answered_in p destinations packet_values (Ok packet)
        → ActsHere (action_asked p.pid (port_wait value)) waiting_site p r o p2 r2
    packet_comes packet first o p2 ends is = inl (record {
      answer = Ok packet;
      acts = record {
        ok = subst (λ t. TakesPacket p.table r value packet t r2) (sym (ap (λ (q : Process). q.table) is))
            (packet_polled p.table r r2 value port is_port rest packet first).ok;
        err = tt;
        same_table = tt;
        same_objects = tt;
      };
      ends = ends;
      replied = told_so p2 (Ok packet) is;
    })

    pub port_blocks : slice_get (packets_found (get r.objects port.koid)) 0 ≡ None → p.cpu.counter < 2 ^ 32 → (s : State)
        → state_value s ≡ Blocked (PacketAt port.koid) destinations
        → ActsHere (action_asked p.pid (port_wait value)) waiting_site p r outcome.Blocked (record p { state = s }) r2
    port_blocks none within s is = inr (record {
      awaited = PacketAt port.koid;
      awaits = record { port = port; is_port = is_port; none = none; is_awaited = refl };
      ends = refl;
      process = refl;
      state = is;
      counter = within;
      objects = (nothing_polled p.table r r2 value port is_port rest none).same_objects;
    })
