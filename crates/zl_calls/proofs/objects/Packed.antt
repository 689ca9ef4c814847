-- The packets of one port change, and nothing else: what is seen of it, and the invariant.
use Rattle.zl_calls.proofs.Common.{Body, IsConsistent, List, Object, Objects, Packet, Port, PortBody, Process, ap, at_port, body_packed, body_value}
use Rattle.zl_calls.proofs.Common.{changed_port, changing_port, object_value, queue_held, refl, repacked, ℕ, ◌≡◌}
use Rattle.zl_objects.specs.declared.object.Body.TheVariants as body
use Rattle.zl_calls.proofs.objects.Rebodied.{IsAlike, alike_itself, quiet_consistent}

module _ (f : Port → Port) where
  -- the packets that are seen are as g leaves them
  pub packed_seen : (g : List Packet → List Packet) → ((x : Port) → (f x).packets ≡ g x.packets) → (o : Object)
      → object_value (at_port f o) ≡ repacked g (object_value o)
  packed_seen g packed o = ap (λ b. record { body = b; raised = o.signals.raised }) (by_body o.body)
    where
      by_body : (b : Body) → body_value (changed_port f b) ≡ body_packed g (body_value b)
      by_body (body.Port port) = ap (λ (xs : List Packet). PortBody xs) (packed port)
      by_body _ = refl

  port_alike : (b : Body) → IsAlike b (changed_port f b)
  port_alike (body.Port port) = record { kind = refl; living = λ j. refl; in_job = λ m. refl; alone = λ m k. refl; agrees = λ w k same. same }
  port_alike b = alike_itself b

  port_quiet : (b : Body) → queue_held (changed_port f b) ≡ queue_held b
  port_quiet (body.Port port) = refl
  port_quiet _ = refl

  pub packed_consistent : (ps : List Process) (r : Objects) (k : ℕ) → IsConsistent ps r → IsConsistent ps (changing_port r k f)
  packed_consistent ps r k = quiet_consistent (at_port f) (λ o. port_alike o.body) (λ o. port_quiet o.body) ps r k (λ o. refl)
