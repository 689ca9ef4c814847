-- Handles enter and leave the table of a process: where there is room values are free, and each handle is one change.
use Rattle.zl_code.proofs.Common.{All, All-cons, All-head, All-nil, All-tail, Body, Entry, HandlesAreNamed, HandlesAreSound, IsSound, IsTrue, Kind, List}
use Rattle.zl_code.proofs.Common.{Map, None, Object, Option, Process, Some, Wait, World, [], and_from, and_parts, ap, arith, cases_Bool, copy_of}
use Rattle.zl_code.proofs.Common.{default_rights_of, entry_at, eq-eqb, eqb-true, false, get, get-put, get-update, get-where_key-in, get-where_key-out}
use Rattle.zl_code.proofs.Common.{granted, handles_in, has_default_rights, has_key, inl, inr, insert_all, is_some, kind_of, length, lt-ltb, may_get}
use Rattle.zl_code.proofs.Common.{may_get_after, may_get_all, names_its_object, narrowed, narrowed_within, nat_lt, nat_tests, ne_eqb, new_entry, none-some, not}
use Rattle.zl_code.proofs.Common.{not-true, on_process, process_with, process_without, put, refl, remove_all, runs, same_Some, subst, suc, sym, taken, true}
use Rattle.zl_code.proofs.Common.{true≢false, where_key, with_object, with_rights, without, zero, ℕ, ◌-◌, ◌<◌, ◌==◌, ◌∙◌, ◌∷◌, ◌≡◌, ◌≤◌}
use Rattle.zl_rights.specs.declared.kind.Kind.TheVariants as kind
use Rattle.zl_rights.specs.declared.rights.Rights.{Rights}
use Rattle.zl_code.proofs.MapKept.{changed}
use Rattle.zl_code.proofs.Changes.{AreUnmade, MayEnter, handle_enters, Changes, stays, changes, process_changes, handle_goes}
use Rattle.zl_rights.proofs.Settling.{filter-length}

-- ---- an unused value

-- nothing is at the koid that is given next
pub no_process : (w : World) → IsSound w → get w.processes w.next_koid ≡ None
no_process w s = by_process (get w.processes w.next_koid) refl
  where
    by_process : (o : Option Process) → get w.processes w.next_koid ≡ o → o ≡ None
    by_process None is = refl
    by_process (Some q) is = let below : w.next_koid < w.next_koid = s.processes w.next_koid (ap is_some is) in absurd (omega arith)

-- without a key that is there a map is shorter
pub length_without : {X : Type 0} (m : Map X) (k : ℕ) → has_key m k ≡ true → length (without m k) < length m
unfolding get without
length_without [] k h = absurd (true≢false (sym h))
length_without {X = X} (e ∷ m) k h = elim (cases_Bool (e.0 == k)) as (λ _. length (without (e ∷ m) k) < suc (length m)) [
  | inl here ↦ rw here (let short : length (without m k) ≤ length m = filter-length (λ (x : ℕ × X). not (x.0 == k)) m in omega arith)
  | inr there ↦ rw there (let short : length (without m k) < length m = length_without m k (rw there at h) in omega arith)
]

pub get_without : {X : Type 0} (m : Map X) (k v : ℕ) → (v == k) ≡ false → get (without m k) v ≡ get m v
unfolding without where_key
get_without m k v other = get-where_key-in m (λ j. not (j == k)) v (ap not other)

pub gone_without : {X : Type 0} (m : Map X) (k : ℕ) → has_key (without m k) k ≡ false
unfolding without where_key
gone_without m k = ap is_some (get-where_key-out m (λ j. not (j == k)) k (ap not (eq-eqb k k refl)))

-- of the values from 1 to n one is no key of a map with fewer entries
unused : {X : Type 0} (n : ℕ) (m : Map X) → length m < n → (v : ℕ) × (0 < v) × (v ≤ n) × (has_key m v ≡ false)
unused zero m h = absurd (omega arith)
unused {X = X} (suc n) m h = elim (cases_Bool (has_key m (suc n))) as (λ _. (v : ℕ) × (0 < v) × (v ≤ suc n) × (has_key m v ≡ false)) [
  | inl taken ↦
      let shorter : length (without m (suc n)) < length m = length_without m (suc n) taken in
      let rest : (v : ℕ) × (0 < v) × (v ≤ n) × (has_key (without m (suc n)) v ≡ false) = unused n (without m (suc n)) (omega arith) in
      let other : (rest.0 == suc n) ≡ false = ne_eqb rest.0 (suc n) (λ e. omega arith) in
      (rest.0, rest.1, omega (arith, rest.2), sym (ap is_some (get_without m (suc n) rest.0 other)) ∙ rest.3)
  | inr free ↦ (suc n, omega arith, omega arith, free)
]

-- a value that a new handle may get
fresh : (q : Process) → length q.handles < 1024 → (v : ℕ) × (may_get q v ≡ true)
fresh q room = by_last q.last refl
  where
    by_last : (last : Option ℕ) → q.last ≡ last → (v : ℕ) × (may_get q v ≡ true)
    by_last (Some v) e = (v, rw e (eq-eqb v v refl))
    by_last None e =
        let free = unused 1024 q.handles room in
        (free.0, rw e (and_from _ _ (lt-ltb 0 free.0 free.1) (and_from _ _ (lt-ltb free.0 65536 (omega (arith, free.2))) (ap not free.3))))

-- ---- handles enter and leave a table

-- the rights and the object of a handle that is to enter, where the handles of start are sound and named
pub record IsFine (start : World) (objects : Map Object) (e : Entry) : Type 0 where
  pub rights : HandlesAreSound start → IsTrue (has_default_rights e)
  pub names : HandlesAreNamed start → names_its_object objects e

pub length_put : {X : Type 0} (m : Map X) (k : ℕ) (v : X) → length (put m k v) ≤ suc (length m)
unfolding put
length_put [] k v = omega arith
length_put (e ∷ m) k v = grind (arith, nat_tests, length_put m k v)

-- Handles may enter the table of q, the process p, beside these waits: at a free value none of them was made,
-- and the value that was removed last is free.
pub record MayTake (start : World) (waits : List Wait) (p : ℕ) (q : Process) : Type 0 where
  pub free : IsSound start → (v : ℕ) → has_key q.handles v ≡ false → AreUnmade waits p v
  pub last : IsSound start → (v : ℕ) → q.last ≡ Some v → has_key q.handles v ≡ false

-- the table of the process has room for the new handles
abbrev pub HaveRoom : Process → List Entry → Type 0
HaveRoom q es = length es ≤ 1024 - length q.handles

-- the process p after its table changed
changed_table : (w : World) (p : ℕ) (q : Process) (f : Process → Process) → get w.processes p ≡ Some q → get (on_process w p f).processes p ≡ Some (f q)
unfolding on_process
changed_table w p q f there = get-update w.processes p f p ∙ rw (eq-eqb p p refl, there) refl

pub all_enter : (start u : World) (p : ℕ) (q : Process) (es : List Entry) (vs : List ℕ) → (IsSound start → get u.processes p ≡ Some q) → IsTrue (runs q.state)
    → IsTrue (may_get_all q es vs)
    → (IsSound start → HaveRoom q es) → MayTake start u.waits p q → All (IsFine start u.objects) es → Changes start u (insert_all u p es vs)
unfolding insert_all on_process
all_enter start u p q [] vs there running gets room may fine = stays u
all_enter start u p q (e ∷ es) [] there running gets room may fine = stays u
all_enter start u p q (e ∷ es) (v ∷ vs) there running gets room may fine =
    let both = and_parts (may_get q v) (may_get_all (process_with v e q) es vs) gets in
    let longer : length (put q.handles v e) ≤ suc (length q.handles) = length_put q.handles v e in
    let head = All-head (IsFine start u.objects) e es fine in
    let enters : (x : Process) → get u.processes p ≡ Some x → MayEnter start (on_process u p (process_with v e)) p x v e = λ x at. record {
      value = λ s. subst (λ (y : Process). IsTrue (may_get y v)) (same_Some q x (sym (there s) ∙ at)) both.0;
      room = λ s. subst (λ (y : Process). length y.handles < 1024) (same_Some q x (sym (there s) ∙ at)) (omega (arith, room s));
      running = λ s. subst (λ (y : Process). IsTrue (runs y.state)) (same_Some q x (sym (there s) ∙ at)) running;
      unmade = λ s. may.free s v (unused_value s both.0);
      rights = head.rights;
      names = head.names;
    } in
    changes u (on_process u p (process_with v e)) _
    (process_changes start u p (process_with v e) (λ x at. changed x _ refl refl (handle_enters v e refl (enters x at))) (λ x. refl))
    (all_enter start (on_process u p (process_with v e)) p (process_with v e q) es vs (λ s. changed_table u p q (process_with v e) (there s)) running both.1
    (λ s. omega (arith, room s, longer)) (record { free = λ s j none. may.free s j (free_before j none); last = λ s j is. absurd (none-some j is) })
    (All-tail (IsFine start u.objects) e es fine))
  where
    -- what is free after v was taken was free before
    free_before : (j : ℕ) → has_key (put q.handles v e) j ≡ false → has_key q.handles j ≡ false
    free_before j none = elim (cases_Bool (v == j)) as (λ _. has_key q.handles j ≡ false) [
      | inl here ↦ absurd (true≢false (rw (get-put q.handles v e j, here) at none))
      | inr other ↦ rw (get-put q.handles v e j, other) at none
    ]

    -- v is free
    unused_value : IsSound start → IsTrue (may_get q v) → has_key q.handles v ≡ false
    unused_value s = by_last q.last refl
      where
        by_last : (last : Option ℕ) → q.last ≡ last → IsTrue (may_get_after last q v) → has_key q.handles v ≡ false
        by_last (Some l) is gets = may.last s v (rw (eqb-true v l gets) is)
        by_last None is gets = not-true _ (and_parts (nat_lt v 65536) _ (and_parts (nat_lt 0 v) _ gets).1).1

pub same_state : (v : ℕ) (q : Process) → (process_without v q).state ≡ q.state
same_state v q = elim (cases_Bool (has_key q.handles v)) as (λ _. (process_without v q).state ≡ q.state) [ inl there ↦ rw there refl | inr gone ↦ rw gone refl ]

pub all_leave : (start u : World) (p : ℕ) (hs : List ℕ) → Changes start u (remove_all u p hs)
unfolding remove_all
all_leave start u p [] = stays u
all_leave start u p (h ∷ hs) =
    changes u (on_process u p (process_without h)) _ (handle_goes start u p h) (all_leave start (on_process u p (process_without h)) p hs)

-- what is removed last is kept
pub removed_last : (w : World) (p v : ℕ) (q : Process) → get w.processes p ≡ Some q → has_key q.handles v ≡ true
    → get (on_process w p (process_without v)).processes p ≡ Some (record q { handles = without q.handles v; last = Some v })
removed_last w p v q there live = changed_table w p q (process_without v) there ∙ rw live refl

-- u is w after handles left the table of p, which is q in u
pub record IsLeft (w u : World) (p : ℕ) (before after : Process) : Type 0 where
  pub objects : u.objects ≡ w.objects
  pub next_koid : u.next_koid ≡ w.next_koid
  pub is_there : get u.processes p ≡ Some after
  pub state : after.state ≡ before.state
  pub shorter : length after.handles ≤ length before.handles

shorter_without : (v : ℕ) (q : Process) → length (process_without v q).handles ≤ length q.handles
unfolding without
shorter_without v q =
    elim (cases_Bool (has_key q.handles v))
    as (λ _. length (process_without v q).handles ≤ length q.handles) [ inl there ↦ rw there (filter-length _ q.handles) | inr gone ↦ rw gone (omega arith) ]

pub left_behind : (w : World) (p : ℕ) (q : Process) (hs : List ℕ) → get w.processes p ≡ Some q → (after : Process) × IsLeft w (remove_all w p hs) p q after
unfolding remove_all on_process
left_behind w p q [] there = (q, record { objects = refl; next_koid = refl; is_there = there; state = refl; shorter = omega arith })
left_behind w p q (h ∷ hs) there =
    let rest = left_behind (on_process w p (process_without h)) p (process_without h q) hs (changed_table w p q (process_without h) there) in
    let shorter : length (process_without h q).handles ≤ length q.handles = shorter_without h q in (
      rest.0,
      record {
        objects = rest.1.objects;
        next_koid = rest.1.next_koid;
        is_there = rest.1.is_there;
        state = rest.1.state ∙ same_state h q;
        shorter = omega (arith, rest.1.shorter);
      },
    )

-- values that new handles may get one after another
pub values_for : (q : Process) (es : List Entry) → HaveRoom q es → (vs : List ℕ) × (may_get_all q es vs ≡ true)
values_for q [] room = ([], refl)
values_for q (e ∷ es) room =
    let first = fresh q (omega (arith, room)) in
    let longer : length (put q.handles first.0 e) ≤ suc (length q.handles) = length_put q.handles first.0 e in
    let shorter : length es ≤ 1024 - length (put q.handles first.0 e) = omega (arith, room, longer) in
    let rest = values_for (process_with first.0 e q) es shorter in
    (first.0 ∷ rest.0, and_from (may_get q first.0) (may_get_all (process_with first.0 e q) es rest.0) first.1 rest.1)

-- ---- new handles

pub copy_is_fine : (start : World) (m : Map Object) (e : Option Entry) (asked : ℕ) → ((x : Entry) → e ≡ Some x → IsFine start m x)
    → All (IsFine start m) (copy_of e asked)
copy_is_fine start m None asked fine = All-nil (IsFine start m)
copy_is_fine start m (Some e) asked fine = by_rights (narrowed e.rights asked) refl
  where
    by_rights : (r : Option Rights) → narrowed e.rights asked ≡ r → All (IsFine start m) (with_rights e r)
    by_rights None is = All-nil (IsFine start m)
    by_rights (Some granted) is = All-cons (IsFine start m) (record e { rights = granted }) [] (record {
      rights = λ sound. narrowed_within e.rights asked granted (default_rights_of e.kind) is ((fine e refl).rights sound);
      names = (fine e refl).names;
    }) (All-nil (IsFine start m))

pub one_copy : (e : Option Entry) (asked : ℕ) → length (copy_of e asked) ≤ 1
one_copy None asked = omega arith
one_copy (Some e) asked = elim (narrowed e.rights asked) as (λ r. length (with_rights e r) ≤ 1) [ None ↦ omega arith | Some granted ↦ omega arith ]

pub entry_is_fine : (w : World) (p h : ℕ) (e : Entry) → entry_at w p h ≡ Some e → IsFine w w.objects e
unfolding get
entry_is_fine w p h e there = by_process (get w.processes p) refl there
  where
    by_process : (o : Option Process) → get w.processes p ≡ o → get (handles_in o) h ≡ Some e → IsFine w w.objects e
    by_process None is at = absurd (none-some e at)
    by_process (Some q) is at = record { rights = λ s. s.rights p h q e is at; names = λ s. s.tables p h q e is at }

new_is_named : (u : World) (b : Body) (k : ℕ) → u.next_koid ≡ k → names_its_object (with_object u b).objects (new_entry k (kind_of b))
unfolding with_object
new_is_named u b k is =
    (record { body = b; raised = 0 }, get-put u.objects u.next_koid (record { body = b; raised = 0 }) k ∙ rw (eq-eqb u.next_koid k is) refl, refl)

pub default_rights : (k : ℕ) (kind : Kind) → IsTrue (has_default_rights (new_entry k kind))
default_rights k kind.Event = refl
default_rights k _ = refl

-- the first handle to a new object
pub new_is_fine : (start u : World) (b : Body) (k : ℕ) → u.next_koid ≡ k → All (IsFine start (with_object u b).objects) (new_entry k (kind_of b) ∷ [])
new_is_fine start u b k is =
    All-cons (IsFine start (with_object u b).objects) (new_entry k (kind_of b)) []
    (record { rights = λ s. default_rights k (kind_of b); names = λ s. new_is_named u b k is }) (All-nil (IsFine start (with_object u b).objects))
