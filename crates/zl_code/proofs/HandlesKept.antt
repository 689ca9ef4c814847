-- Handles stay sound: at places of their own, with no right beyond the defaults of their kinds.
use Rattle.zl_code.proofs.Common.{Body, Bool, ChannelEnd, Entry, HandlesAreSound, IsTrue, JobBody, List, Map, Message, Object, Option, Process, Setting}
use Rattle.zl_code.proofs.Common.{Settles, Some, World, [], and_from, and_parts, body_after_read, body_killed, body_with_message, body_with_policy, get}
use Rattle.zl_code.proofs.Common.{has_default_rights, in_order, list_all, list_all-append, none-some, not, process_settled, put, queue_of, refl, true}
use Rattle.zl_code.proofs.Common.{where_key, without, without_others, ℕ, ◌==◌, ◌∷◌, ◌≡◌}
use Rattle.zl_code.proofs.MapKept.{in_order-where_key, in_order-each, each_put, each_where_key, changed, changed_each, each_changed}
use Rattle.zl_code.proofs.Changes.{ObjectChange, signals_change, packets_change, message_comes, message_goes, policy_changes, dies, Change, table_kept}
use Rattle.zl_rights.proofs.MapEdits.{sorted_put}

record IsFineTable (m : Map Entry) : Type 0 where
  order : IsTrue (in_order m)
  rights : (v : ℕ) (e : Entry) → get m v ≡ Some e → IsTrue (has_default_rights e)

abbrev HasFineQueue : Object → Type 0
HasFineQueue o = IsTrue (list_all (λ m. list_all has_default_rights m.handles) (queue_of o.body))

empty_table : IsFineTable []
unfolding get
empty_table = record { order = refl; rights = λ v e there. absurd (none-some e there) }

enters : (m : Map Entry) (v : ℕ) (e : Entry) → IsTrue (has_default_rights e) → IsFineTable m → IsFineTable (put m v e)
enters m v e fine t = record { order = sorted_put m v e t.order; rights = each_put (λ x. IsTrue (has_default_rights x)) m t.rights v e fine }

leaves : (m : Map Entry) (v : ℕ) → IsFineTable m → IsFineTable (without m v)
unfolding without where_key
leaves m v t = record {
  order = in_order-where_key m (λ j. not (j == v)) t.order;
  rights = each_where_key (λ x. IsTrue (has_default_rights x)) m t.rights (λ j. not (j == v));
}

abbrev AreFine : List Message → Bool
AreFine ms = list_all (λ m. list_all has_default_rights m.handles) ms

sent_fine : (m : Message) (b : Body) → IsTrue (list_all has_default_rights m.handles) → IsTrue (AreFine (queue_of b))
    → IsTrue (AreFine (queue_of (body_with_message m b)))
sent_fine m (ChannelEnd peer queue) fine t =
    rw (list_all-append (λ (x : Message). list_all has_default_rights x.handles) queue (m ∷ [])) (and_from _ _ t (and_from _ true fine refl))
sent_fine m _ fine t = t

read_fine : (b : Body) → IsTrue (AreFine (queue_of b)) → IsTrue (AreFine (queue_of (body_after_read b)))
read_fine (ChannelEnd peer []) t = refl
read_fine (ChannelEnd peer (m ∷ ms)) t = (and_parts _ _ t).1
read_fine _ t = t

-- a job has no queue, whatever its policy, and killed or not
pub set_queue : (s : Option Setting) (b : Body) → queue_of (body_with_policy s b) ≡ queue_of b
set_queue s (JobBody parent depth policy killed) = refl
set_queue s _ = refl

pub killed_queue : (b : Body) → queue_of (body_killed b) ≡ queue_of b
killed_queue (JobBody parent depth policy killed) = refl
killed_queue _ = refl

by_object : (start after : World) (k : ℕ) (x y : Object) → HandlesAreSound start → ObjectChange start after k x y → HasFineQueue x → HasFineQueue y
by_object start after k x y before (signals_change clear set is may) t = rw is t
by_object start after k x y before (packets_change old packets port is) t = rw is refl
by_object start after k x y before (message_comes m is may) t = rw is (sent_fine m x.body (may.rights before) t)
by_object start after k x y before (message_goes is) t = rw is (read_fine x.body t)
by_object start after k x y before (policy_changes s is may) t = rw (is, set_queue s x.body) t
by_object start after k x y before (dies is may) t = rw (is, killed_queue x.body) t

-- the law by tables
fine_tables : (w : World) → HandlesAreSound w → (p : ℕ) (q : Process) → get w.processes p ≡ Some q → IsFineTable q.handles
fine_tables w s p q there = record { order = s.places p q there; rights = λ v e at. s.rights p v q e there at }

from_tables : (w : World) → IsTrue (in_order w.processes) → IsTrue (in_order w.objects)
    → ((p : ℕ) (q : Process) → get w.processes p ≡ Some q → IsFineTable q.handles)
    → ((k : ℕ) (o : Object) → get w.objects k ≡ Some o → HasFineQueue o) → HandlesAreSound w
from_tables w processes objects tables queues = record {
  processes = processes;
  objects = objects;
  places = λ p q there. (tables p q there).order;
  rights = λ p v q e there at. (tables p q there).rights v e at;
  queued = queues;
}

pub sound_change : (start u v : World) → HandlesAreSound start → Change start u v → HandlesAreSound u → HandlesAreSound v
sound_change start u v before c s =
    from_tables v (c.processes_in_order s.processes) (c.objects_in_order s.objects)
    (each_changed _ _ (λ k q. IsFineTable q.handles) u.processes v.processes c.processes
    (table_kept IsFineTable start v empty_table leaves (λ m n e rights names. enters m n e (rights before))) (λ k y n. rw n.empty empty_table)
    (fine_tables u s))
    (each_changed _ _ (λ k o. HasFineQueue o) u.objects v.objects c.objects (λ k x y. by_object start v k x y before) (λ k y n. rw n.quiet refl) s.queued)

pub sound_settled : (u v : World) → Settles u v → HandlesAreSound u → HandlesAreSound v
unfolding without_others
sound_settled u v (K, largest, e) s = rw e
    (from_tables (without_others u K) (rw (in_order-each u.processes (process_settled K)) s.processes) (in_order-where_key u.objects K s.objects)
    (each_changed (λ k x y. y ≡ process_settled K k x) (λ k y. ⊥) (λ k q. IsFineTable q.handles) u.processes _
    (changed_each _ _ u.processes (process_settled K) (λ k x. changed x _ refl refl refl))
    (λ k x y is t. rw is t) (λ k y none. absurd none) (fine_tables u s))
    (each_where_key HasFineQueue u.objects s.queued K))
