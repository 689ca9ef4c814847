-- What handles name stays there, of the kind that they have.
use Rattle.zl_code.proofs.Common.{All, All-append, All-cons, All-nil, All-tail, Body, ChannelEnd, Entry, HandlesAreNamed, HasGivenKoids, IsLargestHeld}
use Rattle.zl_code.proofs.Common.{IsTrue, Koids, Map, Message, Object, Process, Settles, Some, World, [], and_from, ap, arith, body_after_read}
use Rattle.zl_code.proofs.Common.{body_with_message, cases_Bool, eq-eqb, get, get-where_key-in, get-where_key-out, has_living_child, in_queue}
use Rattle.zl_code.proofs.Common.{in_table, inl, inr, is_held, is_held-larger, is_process, is_some, kind_of, length, names_its_object, none-some, not}
use Rattle.zl_code.proofs.Common.{or_left, or_right, process_settled, queue_of, refl, runs, same_Some, slice_index_or, sym, where_key, without, without_others}
use Rattle.zl_code.proofs.Common.{ℕ, ◌<◌, ◌==◌, ◌||◌, ◌∙◌, ◌∷◌, ◌≡◌, ◌⊎◌}
use Rattle.std.proofs.lemmas.List.Folds.{list_any_at}
use Rattle.zl_code.proofs.MapKept.{Each, each_put, each_where_key, same, changed, new, changed_each, each_changed}
use Rattle.zl_code.proofs.HandlesKept.{set_queue, killed_queue}
use Rattle.zl_code.proofs.Changes.{ObjectChange, signals_change, packets_change, message_comes, message_goes, policy_changes, dies, Change, table_kept}
use Rattle.zl_code.proofs.NotReused.{same_kind}
use Rattle.zl_rights.proofs.MapTests.{any_at}

-- ---- one process and one object, where handles name objects of m

abbrev pub TableNames : Map Object → Process → Type 0
TableNames m q = Each (names_its_object m) q.handles

abbrev pub QueueNames : Map Object → Object → Type 0
QueueNames m o = All (λ x. All (names_its_object m) x.handles) (queue_of o.body)

no_handle : (m : Map Object) → Each (names_its_object m) []
unfolding get
no_handle m v e there = absurd (none-some e there)

pub no_queue : (m : Map Object) (b : Body) → queue_of b ≡ [] → All (λ x. All (names_its_object m) x.handles) (queue_of b)
no_queue m b none = rw none (All-nil (λ x. All (names_its_object m) x.handles))

leaves : (m : Map Object) (h : Map Entry) (v : ℕ) → Each (names_its_object m) h → Each (names_its_object m) (without h v)
unfolding without where_key
leaves m h v t = each_where_key (names_its_object m) h t (λ j. not (j == v))

sent_names : (objects : Map Object) (m : Message) (b : Body) → All (names_its_object objects) m.handles
    → All (λ x. All (names_its_object objects) x.handles) (queue_of b) → All (λ x. All (names_its_object objects) x.handles) (queue_of (body_with_message m b))
sent_names objects m (ChannelEnd peer queue) names t =
    All-append (λ (x : Message). All (names_its_object objects) x.handles) queue (m ∷ []) t
    (All-cons (λ (x : Message). All (names_its_object objects) x.handles) m [] names (All-nil (λ (x : Message). All (names_its_object objects) x.handles)))
sent_names objects m _ names t = t

read_names : (objects : Map Object) (b : Body) → All (λ x. All (names_its_object objects) x.handles) (queue_of b)
    → All (λ x. All (names_its_object objects) x.handles) (queue_of (body_after_read b))
read_names objects (ChannelEnd peer []) t = t
read_names objects (ChannelEnd peer (m ∷ ms)) t = All-tail (λ (x : Message). All (names_its_object objects) x.handles) m ms t
read_names objects _ t = t

by_object : (start after : World) (k : ℕ) (x y : Object) → HandlesAreNamed start → ObjectChange start after k x y → QueueNames after.objects x
    → QueueNames after.objects y
by_object start after k x y before (signals_change clear set is may) t = rw is t
by_object start after k x y before (packets_change old packets port is) t = no_queue after.objects y.body (rw is refl)
by_object start after k x y before (message_comes m is may) t = rw is (sent_names after.objects m x.body (may.names before) t)
by_object start after k x y before (message_goes is) t = rw is (read_names after.objects x.body t)
by_object start after k x y before (policy_changes s is may) t = rw (is, set_queue s x.body) t
by_object start after k x y before (dies is may) t = rw (is, killed_queue x.body) t

-- ---- a change

-- what names an object of m of its kind names one of n
abbrev StillNamed : Map Object → Map Object → Type 0
StillNamed m n = (e : Entry) → names_its_object m e → names_its_object n e

still : (start u v : World) → HasGivenKoids u → Change start u v → StillNamed u.objects v.objects
still start u v given c e (o, there, kind) = elim (c.objects e.koid) as (λ _. names_its_object v.objects e) [
  | same is ↦ (o, is ∙ there, kind)
  | changed x y was is r ↦ (y, is, kind ∙ (ap (λ (z : Object). kind_of z.body) (same_Some o x (sym there ∙ was)) ∙ sym (same_kind start v e.koid x y r)))
  | new y is n ↦ let below : e.koid < u.next_koid = given.below e.koid (ap is_some there) in absurd (omega (arith, n.next))
]

queue_grows : (m n : Map Object) → StillNamed m n → (o : Object) → QueueNames m o → QueueNames n o
queue_grows m n more o t i x inside j e below = more (slice_index_or (slice_index_or (queue_of o.body) i x).handles j e) (t i x inside j e below)

pub named_change : (start u v : World) → HandlesAreNamed start → HasGivenKoids u → Change start u v → HandlesAreNamed u → HandlesAreNamed v
named_change start u v before given c s = record {
  tables = λ p w q e there at. all_tables p q there w e at;
  queues =
      each_changed _ _ (λ k o. QueueNames v.objects o) u.objects v.objects c.objects (λ k x y. by_object start v k x y before)
      (λ k y n. no_queue v.objects y.body n.quiet)
      (λ k o there. queue_grows u.objects v.objects (still start u v given c) o (s.queues k o there));
}
  where
    all_tables : (p : ℕ) (q : Process) → get v.processes p ≡ Some q → TableNames v.objects q
    all_tables =
        each_changed _ _ (λ k q. TableNames v.objects q) u.processes v.processes c.processes
        (table_kept (Each (names_its_object v.objects)) start v (no_handle v.objects) (leaves v.objects)
        (λ m n e rights names t. each_put (names_its_object v.objects) m t n e (names before))) (λ k y n. rw n.empty (no_handle v.objects))
        (λ p q there w e at. still start u v given c e (s.tables p w q e there at))

-- ---- settling

-- what is held by the largest held set is in it
pub held_is_kept : (w : World) (K : Koids) → IsLargestHeld w K → (k : ℕ) → IsTrue (is_held w K k) → IsTrue (K k)
held_is_kept w K l = l.largest (is_held w K) (is_held-larger w K (is_held w K) l.held)

named_in_table : (w : World) (p v : ℕ) (q : Process) (e : Entry) → get w.processes p ≡ Some q → get q.handles v ≡ Some e → IsTrue (in_table w e.koid)
unfolding in_table
named_in_table w p v q e there at = any_at _ w.processes p q there (any_at _ q.handles v e at (eq-eqb e.koid e.koid refl))

named_in_queue : (w : World) (K : Koids) (k : ℕ) (o : Object) → get w.objects k ≡ Some o → IsTrue (K k) → (i j : ℕ) (m : Message) (e : Entry)
    → i < length (queue_of o.body) → j < length (slice_index_or (queue_of o.body) i m).handles
    → IsTrue (in_queue w K (slice_index_or (slice_index_or (queue_of o.body) i m).handles j e).koid)
unfolding in_queue
named_in_queue w K k o there kept i j m e inside below =
    any_at _ w.objects k o there (and_from (K k) _ kept (list_any_at _ (queue_of o.body) i m inside
    (list_any_at _ (slice_index_or (queue_of o.body) i m).handles j e below (eq-eqb _ _ refl))))

-- what a handle in a table or in a kept queue names is kept
named_still : (w : World) (K : Koids) → IsLargestHeld w K → (e : Entry) → (IsTrue (in_table w e.koid) ⊎ IsTrue (in_queue w K e.koid))
    → names_its_object w.objects e → names_its_object (where_key K w.objects) e
unfolding is_held
named_still w K l e by (o, there, kind) =
    (o, get-where_key-in w.objects K e.koid (held_is_kept w K l e.koid (and_from _ _ (ap is_some there) (held by))) ∙ there, kind)
  where
    held : (IsTrue (in_table w e.koid) ⊎ IsTrue (in_queue w K e.koid))
        → IsTrue (in_table w e.koid || in_queue w K e.koid || is_process w runs e.koid || has_living_child w K e.koid)
    held (inl table) = or_left _ _ (or_left _ _ (or_left (in_table w e.koid) (in_queue w K e.koid) table))
    held (inr queue) = or_left _ _ (or_left _ _ (or_right (in_table w e.koid) (in_queue w K e.koid) queue))

pub named_settled : (u v : World) → Settles u v → HandlesAreNamed u → HandlesAreNamed v
unfolding without_others
named_settled u v (K, largest, settled) s = rw settled (record {
  tables = λ p w q e there at. all_tables p q there w e at;
  queues = λ k o there. elim (cases_Bool (K k)) as (λ _. QueueNames (where_key K u.objects) o) [
    | inl kept ↦ by_kept k o kept (rw (get-where_key-in u.objects K k kept) at there)
    | inr gone ↦ absurd (none-some o (rw (get-where_key-out u.objects K k gone) at there))
  ];
})
  where
    all_tables : (p : ℕ) (q : Process) → get (without_others u K).processes p ≡ Some q → TableNames (where_key K u.objects) q
    all_tables =
        each_changed (λ k x y. y ≡ process_settled K k x) (λ k y. ⊥) (λ k q. TableNames (where_key K u.objects) q) u.processes _
        (changed_each _ _ u.processes (process_settled K) (λ k x. changed x _ refl refl refl)) (λ k x y is t. rw is t) (λ k y none. absurd none)
        (λ p q there w e at. named_still u K largest e (inl (named_in_table u p w q e there at)) (s.tables p w q e there at))

    by_kept : (k : ℕ) (o : Object) → IsTrue (K k) → get u.objects k ≡ Some o → QueueNames (where_key K u.objects) o
    by_kept k o kept there i m inside j e below =
        let at = slice_index_or (slice_index_or (queue_of o.body) i m).handles j e in
        named_still u K largest at (inr (named_in_queue u K k o there kept i j m e inside below)) (s.queues k o there i m inside j e below)
