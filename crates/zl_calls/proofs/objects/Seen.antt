-- What is seen of the objects: handles in the messages that are to be read there, and kinds.
use Rattle.zl_calls.proofs.Common.{Body, Map, None, Object, ObjectValue, Option, Some, [], any_seen, ap, body_value, get, get_seen, kind_here, kind_in}
use Rattle.zl_calls.proofs.Common.{kind_of, list_any, map, object_entry, object_value, option_map, queue_of, refl, sym, ℕ, ◌||◌, ◌∙◌, ◌∷◌, ◌≡◌}
use Rattle.zl_channel.specs.Named.{has_queued_here}
use Rattle.zl_objects.specs.Queued.{has_queued_at}
use Rattle.zl_objects.specs.declared.object.Body.TheVariants as body
use Rattle.zl_calls.proofs.objects.Counted.{queue_seen}

-- handles that lie in messages lie there in the world too
pub queued_seen : (koid rights : ℕ) (m : Map Object)
    → has_queued_at m koid rights ≡ list_any (λ o. has_queued_here (queue_of o.1.body) koid rights) (map object_entry m)
queued_seen koid rights m = any_held m ∙ sym (any_seen (λ o. has_queued_here (queue_of o.1.body) koid rights) m)
  where
    any_held : (m : Map Object) → has_queued_at m koid rights ≡ list_any (λ e. has_queued_here (queue_of (object_entry e).1.body) koid rights) m
    any_held [] = refl
    any_held (e ∷ m) = λ i. has_queued_here (sym (queue_seen e.1.body) i) koid rights || any_held m i

-- an object has its kind in the world too
pub kind_seen : (m : Map Object) (koid : ℕ) → kind_here m koid ≡ option_map (λ o. kind_of o.body) (get (map object_entry m) koid)
kind_seen m koid = by_object (get m koid) ∙ ap (option_map (λ (o : ObjectValue). kind_of o.body)) (sym (get_seen m koid))
  where
    kind_is : (b : Body) → kind_in b ≡ kind_of (body_value b)
    kind_is (body.Job own) = refl
    kind_is _ = refl

    by_object : (o : Option Object)
        → option_map (λ (x : Object). kind_in x.body) o ≡ option_map (λ (x : ObjectValue). kind_of x.body) (option_map object_value o)
    by_object None = refl
    by_object (Some o) = ap Some (kind_is o.body)
