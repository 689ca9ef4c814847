-- Registered waits stay right: their handles name what they watch, and their ports stay. After a step their handles are live.
use Rattle.zl_code.proofs.Common.{All, All-append, All-cons, All-filter, All-nil, Blocked, Body, Bool, Entry, HasGivenKoids, IsSound, IsSoundWait, IsTrue}
use Rattle.zl_code.proofs.Common.{Koids, List, Map, None, Object, Option, Packet, PacketAt, PortBody, Process, Ready, Setting, Settles, SignalOf, Some, State}
use Rattle.zl_code.proofs.Common.{Wait, World, [], active, and_from, and_parts, answered, ap, arith, body_after_read, body_in, body_killed, body_of}
use Rattle.zl_code.proofs.Common.{body_with_message, body_with_policy, cases_Bool, each, entry_at, eq-eqb, eqb-true, false, false≢true, filter, filter_passes}
use Rattle.zl_code.proofs.Common.{fired, fold, get, get-each, get-put, get-where_key-in, get-where_key-out, handles_in, has_handle, has_key, if◌then◌else◌, inl}
use Rattle.zl_code.proofs.Common.{inr, is_by_handle, is_made_by_handle, is_port_there, is_some, made_ready, meets, none-some, not, option_map, packet_values}
use Rattle.zl_code.proofs.Common.{process_settled, refl, same_Some, slice_index_or, subst, sym, true, true≢false, wakes, where_key, with_body, without}
use Rattle.zl_code.proofs.Common.{without_others, woken, woken_at_port, woken_by, woken_by_first, woken_from, woken_if_there, ℕ, ◌&&◌, ◌<◌, ◌==◌, ◌∙◌, ◌∷◌, ◌≡◌}
use Rattle.zl_rights.proofs.Waking.{turns-later}
use Rattle.zl_code.proofs.MapKept.{same, changed, new}
use Rattle.zl_code.proofs.Changes.{IsWait, AreUnmade, alike, fewer, begins, ProcessChange, handle_enters, handle_leaves, computes, ends, wakes as wakes_up}
use Rattle.zl_code.proofs.Changes.{starts, blocks, ObjectChange, signals_change, packets_change, message_comes, message_goes, policy_changes, dies, Change}

-- ---- within a step

-- a port has no policy, and isn't killed
port_set : (s : Option Setting) (b : Body) → IsTrue (is_port_there (Some b)) → IsTrue (is_port_there (Some (body_with_policy s b)))
port_set s (PortBody packets) h = refl
port_set s _ h = absurd (false≢true h)

port_killed : (b : Body) → IsTrue (is_port_there (Some b)) → IsTrue (is_port_there (Some (body_killed b)))
port_killed (PortBody packets) h = refl
port_killed _ h = absurd (false≢true h)

-- a port stays one
port_stays : (start after : World) (k : ℕ) (x y : Object) → ObjectChange start after k x y → IsTrue (is_port_there (Some x.body))
    → IsTrue (is_port_there (Some y.body))
port_stays start after k x y (signals_change clear set is may) t = rw is t
port_stays start after k x y (packets_change old packets port is) t = rw is refl
port_stays start after k x y (policy_changes s is may) t = rw is (port_set s x.body t)
port_stays start after k x y (dies is may) t = rw is (port_killed x.body t)
port_stays start after k x y (message_comes message is may) t = rw is (sent x.body t)
  where
    sent : (b : Body) → IsTrue (is_port_there (Some b)) → IsTrue (is_port_there (Some (body_with_message message b)))
    sent (PortBody packets) h = refl
    sent _ h = absurd (false≢true h)
port_stays start after k x y (message_goes is) t = rw is (read x.body t)
  where
    read : (b : Body) → IsTrue (is_port_there (Some b)) → IsTrue (is_port_there (Some (body_after_read b)))
    read (PortBody packets) h = refl
    read _ h = absurd (false≢true h)

some_port : (o : Option Object) → IsTrue (is_port_there (body_in o)) → IsTrue (is_some o)
some_port None h = absurd (false≢true h)
some_port (Some o) h = refl

port_kept : (start u v : World) → HasGivenKoids u → Change start u v → (k : ℕ) → IsTrue (is_port_there (body_of u k)) → IsTrue (is_port_there (body_of v k))
port_kept start u v given c k there = elim (c.objects k) as (λ _. IsTrue (is_port_there (body_of v k))) [
  | same e ↦ rw e there
  | changed x y was is r ↦ rw is (port_stays start v k x y r (rw was at there))
  | new y is n ↦ let below : k < u.next_koid = given.below k (some_port (get u.objects k) there) in absurd (omega (arith, n.next))
]

-- what a table has at a value after a change it had there before, unless it entered where no wait was made
entry_before : (start v : World) (p n : ℕ) (x y : Process) (e : Entry) → IsSound start → ProcessChange start v p x y → get y.handles n ≡ Some e
    → (AreUnmade v.waits p n → ⊥) → get x.handles n ≡ Some e
unfolding get without where_key
entry_before start v p n x y e s (handle_enters j f is may) at made = by_key (j == n) refl
  where
    by_key : (b : Bool) → (j == n) ≡ b → get x.handles n ≡ Some e
    by_key true here = absurd (made (subst (AreUnmade v.waits p) (eqb-true j n here) (may.unmade s)))
    by_key false other = rw (is, get-put x.handles j f n, other) at at
entry_before start v p n x y e s (handle_leaves j is there) at made = by_key (n == j) refl
  where
    by_key : (b : Bool) → (n == j) ≡ b → get x.handles n ≡ Some e
    by_key true here = absurd (none-some e (sym (get-where_key-out x.handles (λ i. not (i == j)) n (ap not here)) ∙ rw is at at))
    by_key false other = sym (get-where_key-in x.handles (λ i. not (i == j)) n (ap not other)) ∙ rw is at at
entry_before start v p n x y e s (computes c is) at made = rw is at at
entry_before start v p n x y e s (ends code is) at made = absurd (none-some e (rw is at at))
entry_before start v p n x y e s (wakes_up c is running) at made = rw is at at
entry_before start v p n x y e s (starts c is created) at made = rw is at at
entry_before start v p n x y e s (blocks awaited ds is running) at made = rw is at at

module _ (start u v : World) (s : IsSound start) (given : HasGivenKoids u) (c : Change start u v) where
  handle_kept : (x : Wait) → IsWait u x → (AreUnmade v.waits x.pid x.value → ⊥) → (e : Entry) → entry_at v x.pid x.value ≡ Some e → e.koid ≡ x.object
  unfolding get
  handle_kept x t made e at = elim (c.processes x.pid) as (λ _. e.koid ≡ x.object) [
    | same is ↦ t.handle e (ap (λ o. get (handles_in o) x.value) (sym is) ∙ at)
    | changed a b was is r ↦ t.handle e
        (ap (λ o. get (handles_in o) x.value) was ∙ entry_before start v x.pid x.value a b e s r (sym (ap (λ o. get (handles_in o) x.value) is) ∙ at) made)
    | new b is n ↦ absurd (none-some e (rw (is, n.empty) at at))
  ]

  -- a wait was made by its own handle
  is_made : (x : Wait) → is_by_handle x.pid x.value x ≡ true
  is_made x = and_from (x.pid == x.pid) (x.value == x.value) (eq-eqb x.pid x.pid refl) (eq-eqb x.value x.value refl)

  wait_kept : (x : Wait) → IsWait u x → (AreUnmade v.waits x.pid x.value → ⊥) → IsWait v x
  wait_kept x t made = record { handle = handle_kept x t made; port = port_kept start u v given c x.port t.port }

  each_kept : All (IsWait u) v.waits → All (IsWait v) v.waits
  each_kept before i d inside =
      wait_kept (slice_index_or v.waits i d) (before i d inside) (λ unmade. true≢false (sym (is_made (slice_index_or v.waits i d)) ∙ unmade i d inside))

  same_tables : v.processes ≡ u.processes → (x : Wait) → IsWait u x → IsWait v x
  same_tables processes x t = record {
    handle = λ e at. t.handle e (subst (λ (m : Map Process). get (handles_in (get m x.pid)) x.value ≡ Some e) processes at);
    port = port_kept start u v given c x.port t.port;
  }

  pub waits_kept : All (IsWait u) u.waits → All (IsWait v) v.waits
  waits_kept all = elim c.waits as (λ _. All (IsWait v) v.waits) [
    | alike e ↦ each_kept (subst (All (IsWait u)) (sym e) all)
    | fewer test e ↦ each_kept (subst (All (IsWait u)) (sym e) (All-filter test (IsWait u) u.waits all))
    | begins x e processes fine ↦ subst (All (IsWait v)) (sym e)
        (All-append (IsWait v) u.waits (x ∷ []) (λ i d inside. same_tables processes (slice_index_or u.waits i d) (all i d inside))
        (All-cons (IsWait v) x [] (fine s) (All-nil (IsWait v))))
  ]

-- ---- settling

-- it changes no table
settled_table : (u : World) (K : Koids) (p : ℕ) → handles_in (get (each (process_settled K) u.processes) p) ≡ handles_in (get u.processes p)
settled_table u K p = ap handles_in (get-each u.processes (process_settled K) p) ∙ by_process (get u.processes p)
  where
    by_process : (o : Option Process) → handles_in (option_map (process_settled K p) o) ≡ handles_in o
    by_process None = refl
    by_process (Some q) = refl

-- the wait stays where settling leaves others
abbrev remains : World → Koids → Wait → Bool
remains u K x = is_made_by_handle u x && K x.port

pub waits_settled : (u : World) (K : Koids) → All (IsWait u) u.waits → All (IsWait (without_others u K)) (without_others u K).waits
unfolding without_others
waits_settled u K all i d inside =
    one (slice_index_or (filter (remains u K) u.waits) i d) (All-filter (remains u K) (IsWait u) u.waits all i d inside)
    (filter_passes (remains u K) u.waits i d inside)
  where
    one : (x : Wait) → IsWait u x → remains u K x ≡ true → IsWait (without_others u K) x
    one x t passes = record {
      handle = λ e at. t.handle e (sym (ap (λ m. get m x.value) (settled_table u K x.pid)) ∙ at);
      port = subst (λ (o : Option Object). IsTrue (is_port_there (body_in o)))
          (sym (get-where_key-in u.objects K x.port (and_parts (is_made_by_handle u x) (K x.port) passes).1)) t.port;
    }

-- ---- handles are live after a step

-- each wait's handle is live
abbrev pub AreLive : World → Type 0
AreLive w = All (λ x. is_made_by_handle w x ≡ true) w.waits

pub live_without : (w : World) → w.waits ≡ [] → AreLive w
live_without w none = subst (All (λ x. is_made_by_handle w x ≡ true)) (sym none) (All-nil (λ x. is_made_by_handle w x ≡ true))

live_by : (o : Option Process) (v : ℕ) → has_handle o v ≡ has_key (handles_in o) v
unfolding get
live_by None v = refl
live_by (Some q) v = refl

pub live_settled : (u v : World) → Settles u v → AreLive v
unfolding without_others is_made_by_handle
live_settled u v (K, largest, e) =
    subst AreLive (sym e) (λ i d inside. one (slice_index_or (filter (remains u K) u.waits) i d) (filter_passes (remains u K) u.waits i d inside))
  where
    one : (x : Wait) → remains u K x ≡ true → is_made_by_handle (without_others u K) x ≡ true
    one x passes =
        live_by (get (each (process_settled K) u.processes) x.pid) x.value ∙ (ap (λ m. has_key m x.value) (settled_table u K x.pid)
        ∙ (sym (live_by (get u.processes x.pid) x.value) ∙ (and_parts (has_handle (get u.processes x.pid) x.value) (K x.port) passes).0))

-- who wakes keeps its handles
module _ (w : World) (p : ℕ) (q : Process) (there : get w.processes p ≡ Some q) where
  ready_table : (u : World) (ds vs : List ℕ) → u.processes ≡ w.processes → (k : ℕ)
      → handles_in (get (made_ready u p q ds vs).processes k) ≡ handles_in (get w.processes k)
  unfolding made_ready
  ready_table u ds vs as_before k =
      ap handles_in (get-put u.processes p _ k) ∙ elim (cases_Bool (p == k)) as (λ _.
      handles_in (if p == k then Some (record q { state = Ready; cpu = answered q.cpu ds vs }) else get u.processes k) ≡ handles_in (get w.processes k)) [
        | inl here ↦ rw (here, ← eqb-true p k here, there) refl
        | inr other ↦ rw (other, as_before) refl
      ]

  packet_table : (k : ℕ) (ds : List ℕ) (o : Object) (packets : List Packet) (j : ℕ)
      → handles_in (get (woken_by_first w p q k ds o packets).processes j) ≡ handles_in (get w.processes j)
  packet_table k ds o [] j = refl
  packet_table k ds o (x ∷ rest) j = ready_table (with_body w k o (PortBody rest)) ds (0 ∷ packet_values x) refl j

  body_table : (k : ℕ) (ds : List ℕ) (o : Object) (b : Body) (j : ℕ) → handles_in (get (woken_by w p q k ds o b).processes j) ≡ handles_in (get w.processes j)
  body_table k ds o (PortBody packets) j = packet_table k ds o packets j
  body_table k ds o _ j = refl

  object_table : (k : ℕ) (ds : List ℕ) (o : Option Object) (j : ℕ) → handles_in (get (woken_at_port w p q k ds o).processes j) ≡ handles_in (get w.processes j)
  object_table k ds None j = refl
  object_table k ds (Some o) j = body_table k ds o o.body j

  state_table : (s : State) (j : ℕ) → handles_in (get (woken_from w p q s).processes j) ≡ handles_in (get w.processes j)
  state_table (Blocked (SignalOf k mask) ds) j =
      elim (meets (active w k) mask)
      as (λ b. handles_in (get (if b then made_ready w p q ds (0 ∷ active w k ∷ []) else w).processes j) ≡ handles_in (get w.processes j)) [
        | true ↦ ready_table w ds (0 ∷ active w k ∷ []) refl j
        | false ↦ refl
      ]
  state_table (Blocked (PacketAt k) ds) j = object_table k ds (get w.objects k) j
  state_table _ j = refl

woken_table : (w : World) (p j : ℕ) → handles_in (get (woken w p).processes j) ≡ handles_in (get w.processes j)
unfolding woken
woken_table w p j = by_process (get w.processes p) refl
  where
    by_process : (o : Option Process) → get w.processes p ≡ o → handles_in (get (woken_if_there w p o).processes j) ≡ handles_in (get w.processes j)
    by_process None is = refl
    by_process (Some q) is = state_table w p q is q.state j

turns_table : (w : World) (ps : List ℕ) (j : ℕ) → handles_in (get (fold woken w ps).processes j) ≡ handles_in (get w.processes j)
turns_table w [] j = refl
turns_table w (p ∷ ps) j = turns_table (woken w p) ps j ∙ woken_table w p j

pub live_awake : (w : World) → AreLive w → AreLive (wakes w)
unfolding wakes fired is_made_by_handle
live_awake w live i d inside = same_made (slice_index_or (wakes w).waits i d) ∙ stayed i d inside
  where
    stayed : All (λ x. is_made_by_handle w x ≡ true) (wakes w).waits
    stayed =
        subst (All (λ x. is_made_by_handle w x ≡ true)) (sym (turns-later (fired w) w.blocked).waits)
        (All-filter _ (λ x. is_made_by_handle w x ≡ true) w.waits live)

    same_made : (x : Wait) → is_made_by_handle (wakes w) x ≡ is_made_by_handle w x
    same_made x =
        live_by (get (wakes w).processes x.pid) x.value ∙ (ap (λ m. has_key m x.value) (turns_table (fired w) w.blocked x.pid)
        ∙ sym (live_by (get w.processes x.pid) x.value))

-- ---- waits of sound worlds

pub are_waits : (w : World) → All (IsSoundWait w) w.waits → All (IsWait w) w.waits
are_waits w all i d inside = one (slice_index_or w.waits i d) (all i d inside)
  where
    one : (x : Wait) → IsSoundWait w x → IsWait w x
    one x t = record { handle = λ e at. ap (λ (y : Entry). y.koid) (same_Some e t.handle.0 (sym at ∙ t.handle.1)) ∙ t.handle.2; port = t.port }

some_entry : (o : Option Entry) → is_some o ≡ true → (e : Entry) × (o ≡ Some e)
some_entry None h = absurd (false≢true h)
some_entry (Some e) h = (e, refl)

pub sound_waits : (w : World) → AreLive w → All (IsWait w) w.waits → All (IsSoundWait w) w.waits
unfolding is_made_by_handle
sound_waits w live all i d inside = one (slice_index_or w.waits i d) (live i d inside) (all i d inside)
  where
    one : (x : Wait) → is_made_by_handle w x ≡ true → IsWait w x → IsSoundWait w x
    one x made t =
        let (e, at) = some_entry (entry_at w x.pid x.value) (sym (live_by (get w.processes x.pid) x.value) ∙ made) in
        record { handle = (e, at, t.handle e at); port = t.port }
