-- The queue of one object changes, and nothing else of it: what the invariant says of the objects.
use Rattle.zl_calls.proofs.Common.{AreKeptBut, AreNamed, AreSound, Body, Entry, IsNamed, List, Map, Message, Object, Objects, Process, Some, [], arith}
use Rattle.zl_calls.proofs.Common.{count_by, get, handles_to, queue_held, refl, update, world_value, ℕ, ◌+◌, ◌==◌, ◌≡◌}
use Rattle.zl_objects.specs.declared.object.Body.TheVariants as body
use Rattle.zl_calls.proofs.objects.Counting.{queues}
use Rattle.zl_calls.proofs.objects.Rebodied.{IsAlike, alike_itself, named_still, recounted_kept, recounted_sound}

-- the body with the queue as h leaves it; only the end of a channel has one
abbrev pub requeued_body : (List Message → List Message) → Body → Body
requeued_body h (body.ChannelEnd peer queue) = body.ChannelEnd peer (h queue)
requeued_body h b = b

-- the object with the queue as h leaves it
abbrev pub requeued : (List Message → List Message) → Object → Object
requeued h o = record o { body = requeued_body h o.body }

module _ (h : List Message → List Message) where
  queue_alike : (b : Body) → IsAlike b (requeued_body h b)
  queue_alike (body.ChannelEnd peer queue) = record { kind = refl; living = λ j. refl; in_job = λ m. refl; alone = λ m k. refl; agrees = λ w k same. same }
  queue_alike b = alike_itself b

  pub requeued_named : (m : Map Object) (k : ℕ) (e : Entry) → IsNamed m e → IsNamed (update m k (requeued h)) e
  requeued_named = named_still (requeued h) (λ o. queue_alike o.body)

  -- where the handles in the queue are named; those of m counted beside tables and queues, and those of m2 do now
  pub requeued_sound : (ps : List Process) (r : Objects) (k : ℕ) (m m2 : Map Entry) → AreSound ps m r
      → ((o : Object) → get r.objects k ≡ Some o → AreNamed (update r.objects k (requeued h)) (queue_held (requeued_body h o.body)))
      → ((j : ℕ) → handles_to (world_value ps (record r { objects = update r.objects k (requeued h) })) j + count_by (λ x. x.1.koid == j) m2
      ≡ handles_to (world_value ps r) j + count_by (λ x. x.1.koid == j) m) → AreSound ps m2 (record r { objects = update r.objects k (requeued h) })
  requeued_sound ps r k = recounted_sound (requeued h) (λ o. queue_alike o.body) ps r k (λ o. refl)

  pub requeued_kept : (ps : List Process) (r : Objects) (k : ℕ) → AreKeptBut [] r.objects → AreKeptBut [] (update r.objects k (requeued h))
  requeued_kept ps r k = recounted_kept (requeued h) (λ o. queue_alike o.body) ps r k (λ o. refl)

-- ---- counts

-- handles that are queued are counted
pub more_queued : (ps : List Process) (r r2 : Objects) (j c : ℕ) → queues r2.objects j ≡ queues r.objects j + c
    → handles_to (world_value ps r2) j ≡ handles_to (world_value ps r) j + c
unfolding handles_to
more_queued ps r r2 j c more = omega (arith, more)
