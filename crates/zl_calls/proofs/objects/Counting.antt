-- How many handles name an object, in tables and in queues, after a change of one table or of the objects.
use Rattle.zl_calls.proofs.Common.{Body, Bool, Entry, IsTrue, List, Map, None, Object, Objects, Process, ProcessValue, Some, [], ap, arith, body_value}
use Rattle.zl_calls.proofs.Common.{cases_Bool, cond, count_by, false, get, handles_to, inl, inr, is_sorted, map, map-append, nat_cmp, nat_lt, new_object}
use Rattle.zl_calls.proofs.Common.{none-some, object_entry, process_entry, process_value, put, queued_to, refl, suc, sum_by, sum_by-append, sum_by-cons}
use Rattle.zl_calls.proofs.Common.{sum_fewer, sum_without, sym, true, update, with_new, without, world_value, ℕ, ◌+◌, ◌==◌, ◌∙◌, ◌∷◌, ◌≡◌}
use Rattle.zl_calls.proofs.calls.Answered.{IsWrite}
use Rattle.zl_objects.proofs.Sums.{sum_updated}

-- ---- queues

-- how many handles in queues name the object k
abbrev pub queues : Map Object → ℕ → ℕ
queues os k = sum_by (λ o. queued_to k o.1.body) (map object_entry os)

-- a change that leaves as many handles in each queue
pub queues_kept : (f : Object → Object) (j : ℕ) → ((o : Object) → queued_to j (body_value (f o).body) ≡ queued_to j (body_value o.body))
    → (os : Map Object) (k : ℕ) → queues (update os k f) j ≡ queues os j
unfolding update
queues_kept f j same [] k = refl
queues_kept f j same (e ∷ os) k = elim (cases_Bool (e.0 == k)) as (λ _. queues (update (e ∷ os) k f) j ≡ queues (e ∷ os) j) [
  | inl here ↦ rw here (omega (
    arith,
    sum_by-cons (λ o. queued_to j o.1.body) (object_entry (k, f e.1)) (map object_entry os),
    sum_by-cons (λ o. queued_to j o.1.body) (object_entry e) (map object_entry os),
    same e.1,
  ))
  | inr apart ↦ rw apart (omega (
    arith,
    sum_by-cons (λ o. queued_to j o.1.body) (object_entry e) (map object_entry (update os k f)),
    sum_by-cons (λ o. queued_to j o.1.body) (object_entry e) (map object_entry os),
    queues_kept f j same os k,
  ))
]

-- an object more, in whose queue nothing is
pub queues_grown : (r : Objects) (b : Body) (handles j : ℕ) → ◌≡◌ {A = ℕ} (queued_to j (body_value b)) 0
    → queues (with_new r b handles).objects j ≡ queues r.objects j
queues_grown r b handles j none =
    ap (sum_by (λ o. queued_to j o.1.body)) (map-append object_entry r.objects ((r.next_koid, new_object b handles) ∷ []))
    ∙ omega (
      arith,
      none,
      sum_by-append (λ o. queued_to j o.1.body) (map object_entry r.objects) (object_entry (r.next_koid, new_object b handles) ∷ []),
      sum_by-cons (λ o. queued_to j o.1.body) (object_entry (r.next_koid, new_object b handles)) [],
    )

-- ---- tables

module _ {X : Type 0} where
  pub count_put : (test : ℕ × X → Bool) (m : Map X) (k : ℕ) (v : X) → get m k ≡ None → count_by test (put m k v) ≡ count_by test m + cond (test (k, v)) 1 0
  unfolding get put
  count_put test [] k v none = refl
  count_put test (e ∷ m) k v none = elim (cases_Bool (e.0 == k)) as (λ _. count_by test (put (e ∷ m) k v) ≡ count_by test (e ∷ m) + cond (test (k, v)) 1 0) [
    | inl here ↦ absurd (none-some e.1 (sym (rw here at none)))
    | inr apart ↦
        rw apart (elim (nat_lt k e.0) as (λ b. count_by test (cond b ((k, v) ∷ e ∷ m) (e ∷ put m k v)) ≡ count_by test (e ∷ m) + cond (test (k, v)) 1 0) [
          | true ↦ omega (arith, sum_by-cons (λ x. cond (test x) 1 0) (k, v) (e ∷ m))
          | false ↦ omega (
            arith,
            sum_by-cons (λ x. cond (test x) 1 0) e (put m k v),
            sum_by-cons (λ x. cond (test x) 1 0) e m,
            count_put test m k v (rw apart at none),
          )
        ])
  ]

  -- the entry that leaves counted once
  pub count_without : (test : ℕ × X → Bool) (m : Map X) (k : ℕ) (x : X) → IsTrue (is_sorted nat_cmp m) → get m k ≡ Some x
      → count_by test m ≡ count_by test (without m k) + cond (test (k, x)) 1 0
  count_without test = sum_without (λ e. cond (test e) 1 0)

  pub sum_update : (n : ℕ × X → ℕ) (m : Map X) (k c : ℕ) (x : X) (f : X → X) → get m k ≡ Some x → n (k, f x) ≡ n (k, x) + c
      → sum_by n (update m k f) ≡ sum_by n m + c
  sum_update n m k c x f there more = omega (arith, sum_updated n m k x f there, more)

-- the handles that name k before a process was written whose table has c fewer of them
pub counts_fewer : (before after : List Process) (p p2 : Process) (r r2 : Objects) (k c : ℕ) → IsWrite before after p p2
    → queues r2.objects k ≡ queues r.objects k → count_by (λ h. h.1.koid == k) p.table.entries ≡ count_by (λ h. h.1.koid == k) p2.table.entries + c
    → handles_to (world_value before r) k ≡ handles_to (world_value after r2) k + c
unfolding handles_to
counts_fewer before after p p2 r r2 k c write same fewer =
    let summed : sum_by (λ q. count_by (λ h. h.1.koid == k) q.1.handles) (map process_entry before)
    ≡ sum_by (λ (q : ℕ × ProcessValue). count_by (λ h. h.1.koid == k) q.1.handles) (update (map process_entry before) p.pid (λ _. process_value p2)) + c
    = sum_fewer (λ q. count_by (λ h. h.1.koid == k) q.1.handles) (map process_entry before) p.pid c (process_value p)
    (λ _. process_value p2) write.there fewer in
    rw (write.writes (λ _. process_value p2) refl) (omega (arith, summed, same))

-- the handles that name k after a process was written whose table has c more of them
pub counts_written : (before after : List Process) (p p2 : Process) (r r2 : Objects) (k c : ℕ) → IsWrite before after p p2
    → queues r2.objects k ≡ queues r.objects k → count_by (λ h. h.1.koid == k) p2.table.entries ≡ count_by (λ h. h.1.koid == k) p.table.entries + c
    → handles_to (world_value after r2) k ≡ handles_to (world_value before r) k + c
unfolding handles_to
counts_written before after p p2 r r2 k c write same more =
    let summed : sum_by (λ (q : ℕ × ProcessValue). count_by (λ h. h.1.koid == k) q.1.handles) (update (map process_entry before) p.pid (λ _. process_value p2))
    ≡ sum_by (λ q. count_by (λ h. h.1.koid == k) q.1.handles) (map process_entry before) + c
    = sum_update (λ q. count_by (λ h. h.1.koid == k) q.1.handles) (map process_entry before) p.pid c (process_value p)
    (λ _. process_value p2) write.there more in
    rw (write.writes (λ _. process_value p2) refl) (omega (arith, summed, same))

-- the handles that name k, where the tables stay
pub same_tables : (ps : List Process) (r r2 : Objects) (k : ℕ) → queues r2.objects k ≡ queues r.objects k
    → handles_to (world_value ps r2) k ≡ handles_to (world_value ps r) k
unfolding handles_to
same_tables ps r r2 k same = rw same refl

-- ---- entries in a list

-- how many of them name k
abbrev pub naming : ℕ → List Entry → ℕ
naming k es = count_by (λ (e : Entry). e.koid == k) es

pub naming_cons : (k : ℕ) (e : Entry) (es : List Entry) → naming k (e ∷ es) ≡ cond (e.koid == k) 1 0 + naming k es
naming_cons k e es = sum_by-cons (λ (x : Entry). cond (x.koid == k) 1 0) e es

-- the entries under the numbers from n on
abbrev pub numbered : ℕ → List Entry → Map Entry
numbered n [] = []
numbered n (e ∷ es) = (n, e) ∷ numbered (suc n) es

pub numbered_naming : (k n : ℕ) (es : List Entry) → count_by (λ (h : ℕ × Entry). h.1.koid == k) (numbered n es) ≡ naming k es
numbered_naming k n [] = refl
numbered_naming k n (e ∷ es) =
    omega (arith, naming_cons k e es, sum_by-cons (λ (x : ℕ × Entry). cond (x.1.koid == k) 1 0) (n, e) (numbered (suc n) es), numbered_naming k (suc n) es)
