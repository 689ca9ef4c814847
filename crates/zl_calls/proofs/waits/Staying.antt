-- Tables and objects from which nothing goes: each registered wait that was left is left still.
use Rattle.zl_calls.proofs.Common.{All, All-head, All-tail, Bool, Entry, IsSound, IsSoundWait, IsTrue, List, Map, None, ObjectValue, Objects, Option, Process}
use Rattle.zl_calls.proofs.Common.{ProcessValue, Some, Wait, [], and_from, and_parts, ap, body_in, false, false≢true, filter, get, handles_in, has_handle}
use Rattle.zl_calls.proofs.Common.{has_key, has_seen, if◌then◌else◌, is_left, is_made_by_handle, is_port_there, is_some, map, none-some, object_entry}
use Rattle.zl_calls.proofs.Common.{process_entry, process_value, refl, same_Some, slice_get, slice_index_or, slice_set, suc, sym, true, world_blocked}
use Rattle.zl_calls.proofs.Common.{world_value, zero, ℕ, ◌++◌, ◌==◌, ◌∙◌, ◌∷◌, ◌≡◌}
use Rattle.zl_calls.proofs.waits.LeftWaits.{watched_there}

-- ---- maps

-- what is at a key is there still, with more behind it
behind : {X : Type 0} (m n : Map X) (k : ℕ) → IsTrue (has_key m k) → get (m ++ n) k ≡ get m k
unfolding get
behind [] n k there = absurd (false≢true there)
behind {X} (e ∷ m) n k there = by_key (e.0 == k) there (behind m n k)
  where
    by_key : (b : Bool) → IsTrue (is_some (if b then Some e.1 else get m k)) → (IsTrue (has_key m k) → get (m ++ n) k ≡ get m k)
        → ◌≡◌ {A = Option X} (if b then Some e.1 else get (m ++ n) k) (if b then Some e.1 else get m k)
    by_key true here rest = refl
    by_key false apart rest = rest apart

-- ---- the handles of a table

-- each value that a handle has in the one, one has in the other
abbrev pub KeepsValues : Map Entry → Map Entry → Type 0
KeepsValues m m2 = (v : ℕ) → IsTrue (has_key m v) → IsTrue (has_key m2 v)

-- ---- the handles of all processes

-- each handle of each process is there still
abbrev pub KeepsHandles : List Process → List Process → Type 0
KeepsHandles ps ps2 = (k v : ℕ) → IsTrue (has_handle (get (map process_entry ps) k) v) → IsTrue (has_handle (get (map process_entry ps2) k) v)

either_has : (b : Bool) (x x2 y y2 : Option ProcessValue) (v : ℕ) → (IsTrue (has_handle x v) → IsTrue (has_handle x2 v))
    → (IsTrue (has_handle y v) → IsTrue (has_handle y2 v)) → IsTrue (has_handle (if b then x else y) v) → IsTrue (has_handle (if b then x2 else y2) v)
either_has true x x2 y y2 v first later = first
either_has false x x2 y y2 v first later = later

-- one process is written, whose table keeps its handles
pub written_keeps : (ps : List Process) (place : ℕ) (p p2 : Process) → slice_get ps place ≡ Some p → p2.pid ≡ p.pid
    → KeepsValues p.table.entries p2.table.entries → KeepsHandles ps (slice_set ps place p2)
unfolding get
written_keeps [] place p p2 at same values k v has = absurd (none-some p at)
written_keeps (q ∷ ps) zero p p2 at same values k v has =
    let is : q ≡ p = same_Some q p at in
    let key : p2.pid ≡ q.pid = same ∙ ap (λ (x : Process). x.pid) (sym is) in
    rw key (either_has (q.pid == k) (Some (process_value q)) (Some (process_value p2)) (get (map process_entry ps) k) (get (map process_entry ps) k) v
    (λ there. values v (ap (λ (x : Process). has_key x.table.entries v) (sym is) ∙ there)) (λ there. there) has)
written_keeps (q ∷ ps) (suc place) p p2 at same values k v has =
    either_has (q.pid == k) (Some (process_value q)) (Some (process_value q)) (get (map process_entry ps) k)
    (get (map process_entry (slice_set ps place p2)) k) v (λ there. there) (written_keeps ps place p p2 at same values k v) has

-- ---- the objects

-- each object is there still
abbrev pub KeepsObjects : Objects → Objects → Type 0
KeepsObjects r r2 = (k : ℕ) → IsTrue (has_key r.objects k) → IsTrue (has_key r2.objects k)

-- ---- the waits

-- of each registered wait the handle, the object and the port are there
abbrev pub AreLeft : List Process → Objects → List Wait → Type 0
AreLeft ps r waits = All (λ x. IsTrue (is_left (world_value ps r) x)) waits

pub stays_left : (ps ps2 : List Process) (r r2 : Objects) → KeepsHandles ps ps2 → KeepsObjects r r2 → (waits : List Wait) → AreLeft ps r waits
    → AreLeft ps2 r2 waits
unfolding is_made_by_handle
stays_left ps ps2 r r2 handles objects waits left i d inside = one (slice_index_or waits i d) (left i d inside)
  where
    seen : (k : ℕ) → IsTrue (has_key (map object_entry r.objects) k) → IsTrue (has_key (map object_entry r2.objects) k)
    seen k there = has_seen r2.objects k ∙ objects k (sym (has_seen r.objects k) ∙ there)

    one : (x : Wait) → IsTrue (is_left (world_value ps r) x) → IsTrue (is_left (world_value ps2 r2) x)
    one x is =
        let made = and_parts (is_made_by_handle (world_value ps r) x) _ is in
        let there = and_parts (has_key (map object_entry r.objects) x.object) _ made.1 in
        and_from _ _ (handles x.pid x.value made.0) (and_from _ _ (seen x.object there.0) (seen x.port there.1))

pub all_pass : {X : Type 0} (test : X → Bool) (xs : List X) → All (λ x. IsTrue (test x)) xs → filter test xs ≡ xs
all_pass test [] all = refl
all_pass {X} test (x ∷ xs) all =
    rw (All-head (λ y. IsTrue (test y)) x xs all) (ap (λ (ys : List X). x ∷ ys) (all_pass test xs (All-tail (λ y. IsTrue (test y)) x xs all)))

-- in a sound world each wait is left
pub sound_left : (ps : List Process) (r : Objects) (blocked : List ℕ) → IsSound (world_blocked ps r blocked) → AreLeft ps r r.waits
unfolding is_made_by_handle get
sound_left ps r blocked sound i d inside =
    one (slice_index_or r.waits i d) (sound.waits i d inside) (watched_there (world_blocked ps r blocked) sound i d inside)
  where
    by_process : (o : Option ProcessValue) (v : ℕ) (e : Entry) → get (handles_in o) v ≡ Some e → IsTrue (has_handle o v)
    by_process None v e at = absurd (none-some e at)
    by_process (Some q) v e at = rw at refl

    port_there : (o : Option ObjectValue) → IsTrue (is_port_there (body_in o)) → IsTrue (is_some o)
    port_there None none = absurd (false≢true none)
    port_there (Some o) there = refl

    one : (x : Wait) → IsSoundWait (world_blocked ps r blocked) x → IsTrue (has_key (map object_entry r.objects) x.object)
        → IsTrue (is_left (world_value ps r) x)
    one x t watched =
        and_from _ _ (by_process (get (map process_entry ps) x.pid) x.value t.handle.0 t.handle.1)
        (and_from _ _ watched (port_there (get (map object_entry r.objects) x.port) t.port))
