-- What is taken from a port: its first packet, or nothing, and then nothing has changed.
use Rattle.zl_calls.proofs.Common.{Body, Does, Entry, Err, Handles, IsRefusedBy, List, Map, None, Object, Objects, Ok, Packet, READ, Some, TakesPacket, [], ap}
use Rattle.zl_calls.proofs.Common.{at_port, cases_Bool, changed_port, changing_port, drop, eqb-true, get, inl, inr, is_empty, none-some, packets_found}
use Rattle.zl_calls.proofs.Common.{packets_of, poll_refusal, port_at, refl, slice_get, sym, then_some, update, wants_nothing, without_front, ℕ, ◌==◌, ◌∙◌, ◌∷◌}
use Rattle.zl_calls.proofs.Common.{◌≡◌}
use Rattle.zl_rights.specs.declared.status.Status.TheVariants as status
use Rattle.zl_objects.specs.declared.object.Body.TheVariants as body

-- where no packet is, none leaves
none_left_behind : (b : Body) → slice_get (packets_of b) 0 ≡ None → changed_port without_front b ≡ b
none_left_behind (body.Port port) none = by_packets port.packets refl none
  where
    by_packets : (xs : List Packet) → port.packets ≡ xs → slice_get xs 0 ≡ None → body.Port (without_front port) ≡ body.Port port
    by_packets [] is h = λ i. body.Port (record port { packets = (ap (drop 1) is ∙ sym is) i })
    by_packets (x ∷ xs) is h = absurd (none-some x (sym h))
none_left_behind _ none = refl

unpopped : (m : Map Object) (k : ℕ) → slice_get (packets_found (get m k)) 0 ≡ None → update m k (at_port without_front) ≡ m
unfolding get update
unpopped [] k none = refl
unpopped (e ∷ m) k none = elim (cases_Bool (e.0 == k)) as (λ _. update (e ∷ m) k (at_port without_front) ≡ e ∷ m) [
  | inl here ↦
      let same : changed_port without_front e.1.body ≡ e.1.body = none_left_behind e.1.body (rw here at none) in
      rw here (λ i. (sym (eqb-true e.0 k here) i, record e.1 { body = same i }) ∷ m)
  | inr apart ↦ rw apart (ap (λ (rest : Map Object). e ∷ rest) (unpopped m k (rw apart at none)))
]

-- the handle at the value names the port, from which the first packet was taken
module _ (t : Handles) (r r2 : Objects) (value : ℕ) (port : Entry) (is_port : port_at t.entries value READ ≡ Ok port)
    (rest : r2 ≡ changing_port r port.koid without_front) where
  pub packet_polled : (packet : Packet) → slice_get (packets_found (get r.objects port.koid)) 0 ≡ Some packet
      → Does (TakesPacket t r value) wants_nothing (poll_refusal t.entries r.objects value) t r (Ok packet) t r2
  packet_polled packet first = record {
    ok = record {
      unrefused = rw is_port (by_packets (packets_found (get r.objects port.koid)) first);
      port = port;
      is_port = is_port;
      first = first;
      table = refl;
      objects = rest;
    };
    err = tt;
    same_table = tt;
    same_objects = tt;
  }
    where
      by_packets : (xs : List Packet) → slice_get xs 0 ≡ Some packet → then_some (is_empty xs) status.TimedOut ≡ None
      by_packets [] h = absurd (none-some packet h)
      by_packets (x ∷ xs) h = refl

  pub nothing_polled : slice_get (packets_found (get r.objects port.koid)) 0 ≡ None
      → Does (TakesPacket t r value) wants_nothing (poll_refusal t.entries r.objects value) t r (Err status.TimedOut) t r2
  nothing_polled none = record {
    ok = tt;
    err = rw is_port (by_packets (packets_found (get r.objects port.koid)) none);
    same_table = refl;
    same_objects = rest ∙ ap (λ (os : Map Object). record r { objects = os }) (unpopped r.objects port.koid none);
  }
    where
      by_packets : (xs : List Packet) → slice_get xs 0 ≡ None → IsRefusedBy wants_nothing (then_some (is_empty xs) status.TimedOut) status.TimedOut
      by_packets [] h = refl
      by_packets (x ∷ xs) h = absurd (none-some x (sym h))
