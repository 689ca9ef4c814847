-- What an answered call takes out of tables: the handles that are taken on every answer, and no other.
use Rattle.zl_code.specs.Common.{Acts, ok_outcome, refusal}
use Rattle.zl_calls.proofs.Common.{AtCall, Awaited, Bool, CallBy, CallName, Choice, Contains, Contains-append_right, Entry, IsTrue, Library, List, None, Option}
use Rattle.zl_calls.proofs.Common.{Outcome, ProcessValue, Refused, Request, Settles, Site, Some, Status, Values, Wants, World, [], after_ok, after_refusal, ap}
use Rattle.zl_calls.proofs.Common.{arith, awaited_by, cases_Bool, created_process, effect, entering_at, eqb-true, false, false≢true, get, get-each, get-put}
use Rattle.zl_calls.proofs.Common.{get-update, get-where_key-in, gives_ok, gives_refused, has_handle, has_key, if◌then◌else◌, inl, inr, insert_all, is_end}
use Rattle.zl_calls.proofs.Common.{is_some, keeping, kept_by, new_handles, not, on_object, on_process, option_map, process_create, process_settled}
use Rattle.zl_calls.proofs.Common.{process_start, process_with, process_without, receiver_of, refl, remove_all, replied, stored_by, storing, subst, sym, taken}
use Rattle.zl_calls.proofs.Common.{taken_handles, task_kill, true, waiting, where_key, with_object, without, without_others, ℕ, ◌==◌, ◌∙◌, ◌∷◌, ◌≡◌, ◌⊎◌}
use Rattle.zl_rights.specs.declared.status.Status.TheVariants as status
use Rattle.zl_code.specs.declared.history.Outcome.TheVariants as outcome
use Rattle.zl_code.specs.declared.history.TraceItem.TheVariants as item

-- the process k has a handle of the value v
abbrev pub Has : World → (k v : ℕ) → Type 0
Has w k v = IsTrue (has_handle (get w.processes k) v)

-- each handle of w is one of u
abbrev Keeps : World → World → Type 0
Keeps w u = (k v : ℕ) → Has w k v → Has u k v

-- so is each but those of p at these values
abbrev pub KeepsBut : (p : ℕ) → List ℕ → World → World → Type 0
KeepsBut p hs w u = (k v : ℕ) → Has w k v → Has u k v ⊎ ((k ≡ p) × Contains hs v)

but_then : (p : ℕ) (hs : List ℕ) (w u v : World) → KeepsBut p hs w u → Keeps u v → KeepsBut p hs w v
but_then p hs w u v first later k n has = elim (first k n has) as (λ _. Has v k n ⊎ ((k ≡ p) × Contains hs n)) [
  | inl there ↦ inl (later k n there)
  | inr gone ↦ inr gone
]

-- ---- one process is written

written : (w : World) (p : ℕ) (f : ProcessValue → ProcessValue) → ((x : ProcessValue) (v : ℕ) → IsTrue (has_key x.handles v) → IsTrue (has_key (f x).handles v))
    → Keeps w (on_process w p f)
unfolding on_process
written w p f keeps k v has = rw (get-update w.processes p f k) (by_test (p == k) (get w.processes k) has)
  where
    by_test : (b : Bool) (o : Option ProcessValue) → IsTrue (has_handle o v) → IsTrue (has_handle (if b then option_map f o else o) v)
    by_test false o there = there
    by_test true None none = none
    by_test true (Some x) there = keeps x v there

-- one handle less
without_stays : (h : ℕ) (x : ProcessValue) (v : ℕ) → IsTrue (has_key x.handles v) → IsTrue (has_key (process_without h x).handles v) ⊎ (v ≡ h)
unfolding without where_key
without_stays h x v there = elim (cases_Bool (v == h)) as (λ _. IsTrue (has_key (process_without h x).handles v) ⊎ (v ≡ h)) [
  | inl here ↦ inr (eqb-true v h here)
  | inr apart ↦ inl (by_live (has_key x.handles h) apart)
]
  where
    by_live : (b : Bool) → (v == h) ≡ false → IsTrue (has_key (if b then record x { handles = without x.handles h; last = Some h } else x).handles v)
    by_live true apart = ap is_some (get-where_key-in x.handles (λ i. not (i == h)) v (ap not apart)) ∙ there
    by_live false apart = there

one_removed : (w : World) (p h : ℕ) (k v : ℕ) → Has w k v → Has (on_process w p (process_without h)) k v ⊎ ((k ≡ p) × (v ≡ h))
unfolding on_process
one_removed w p h k v has = rw (get-update w.processes p (process_without h) k) (by_test (cases_Bool (p == k)) (get w.processes k) has)
  where
    by_test : IsTrue (p == k) ⊎ ((p == k) ≡ false) → (o : Option ProcessValue) → IsTrue (has_handle o v)
        → IsTrue (has_handle (if p == k then option_map (process_without h) o else o) v) ⊎ ((k ≡ p) × (v ≡ h))
    by_test (inr apart) o there = rw apart (inl there)
    by_test (inl here) None none = absurd (false≢true none)
    by_test (inl here) (Some x) there =
        rw here (elim (without_stays h x v there) as (λ _. IsTrue (has_key (process_without h x).handles v) ⊎ ((k ≡ p) × (v ≡ h))) [
          | inl stays ↦ inl stays
          | inr is ↦ inr (sym (eqb-true p k here), is)
        ])

removed : (p : ℕ) (hs : List ℕ) (w : World) → KeepsBut p hs w (remove_all w p hs)
unfolding remove_all
removed p [] w k v has = inl has
removed p (h ∷ hs) w k v has =
    elim (one_removed w p h k v has) as (λ _. Has (remove_all (on_process w p (process_without h)) p hs) k v ⊎ ((k ≡ p) × Contains (h ∷ hs) v)) [
      | inl stays ↦ elim (removed p hs (on_process w p (process_without h)) k v stays)
          as (λ _. Has (remove_all (on_process w p (process_without h)) p hs) k v ⊎ ((k ≡ p) × Contains (h ∷ hs) v)) [
            | inl there ↦ inl there
            | inr gone ↦ inr (gone.0, Contains-append_right (h ∷ []) hs v gone.1)
          ]
      | inr gone ↦ inr (gone.0, subst (Contains (h ∷ hs)) (sym gone.1) (0, omega arith, refl))
    ]

-- ---- what else a call does

with_stays : (v : ℕ) (e : Entry) (x : ProcessValue) (n : ℕ) → IsTrue (has_key x.handles n) → IsTrue (has_key (process_with v e x).handles n)
with_stays v e x n there = ap is_some (get-put x.handles v e n) ∙ by_key (v == n)
  where
    by_key : (b : Bool) → IsTrue (is_some (if b then Some e else get x.handles n))
    by_key true = refl
    by_key false = there

entered : (p : ℕ) (es : List Entry) (vs : List ℕ) (w : World) → Keeps w (insert_all w p es vs)
unfolding insert_all
entered p [] vs w k v has = has
entered p (e ∷ es) [] w k v has = has
entered p (e ∷ es) (n ∷ vs) w k v has = entered p es vs (on_process w p (process_with n e)) k v (written w p (process_with n e) (with_stays n e) k v has)

stored : (w : World) (p : ℕ) (at : ℕ × List ℕ) → Keeps w (storing w p at)
stored w p (address, []) k v has = has
stored w p (address, b ∷ bytes) k v has = written w p _ (λ x n there. there) k v has

kept : (w : World) (p : ℕ) (x : Option (ℕ × List ℕ)) → Keeps w (keeping w p x)
kept w p None k v has = has
kept w p (Some x) k v has = written w p _ (λ y n there. there) k v has

-- the request kills nothing
abbrev pub spares : Request → Bool
spares (task_kill task) = false
spares r = true

effected : (lib : Library) (w u : World) (p : ℕ) (request : Request) (vs : List ℕ) → get u.processes w.next_koid ≡ None → spares request ≡ true
    → Keeps u (effect lib w u p request vs)
unfolding effect with_object on_object
effected lib w u p (process_create job program) vs free plain k v has =
    rw (get-put u.processes w.next_koid (created_process lib program) k) (by_key (cases_Bool (w.next_koid == k)))
  where
    by_key : IsTrue (w.next_koid == k) ⊎ ((w.next_koid == k) ≡ false)
        → IsTrue (has_handle (if w.next_koid == k then Some (created_process lib program) else get u.processes k) v)
    by_key (inl here) = absurd (false≢true (rw (← eqb-true w.next_koid k here, free) at has))
    by_key (inr apart) = rw apart has
effected lib w u p (process_start process h word) vs free plain k v has = written u _ _ (λ x n there. there) k v has
effected lib w u p (task_kill task) vs free plain k v has = absurd (false≢true plain)
effected lib w u p _ vs free plain k v has = has

replies : (w : World) (p : ℕ) (s : Site) (answer : Status) (values : List ℕ) → Keeps w (replied w p s answer values)
unfolding replied
replies w p s answer values = written w p _ (λ x v there. there)

settled : (u v : World) → Settles u v → Keeps u v
unfolding without_others
settled u v (K, largest, is) k n has = rw (is, get-each u.processes (process_settled K) k) (by_process (get u.processes k) has)
  where
    by_process : (o : Option ProcessValue) → IsTrue (has_handle o n) → IsTrue (has_handle (option_map (process_settled K k) o) n)
    by_process None none = none
    by_process (Some x) there = there

-- handles that leave a table make no process
pub still_free : (p k : ℕ) (hs : List ℕ) (w : World) → get w.processes k ≡ None → get (remove_all w p hs).processes k ≡ None
unfolding remove_all on_process
still_free p k [] w free = free
still_free p k (h ∷ hs) w free =
    still_free p k hs (on_process w p (process_without h)) (get-update w.processes p (process_without h) k ∙ rw free (by_test (p == k)))
  where
    by_test : (b : Bool) → ◌≡◌ {A = Option ProcessValue} (if b then option_map (process_without h) None else None) None
    by_test true = refl
    by_test false = refl

-- ---- the call

module _ (lib : Library) (w : World) (p : ℕ) (s : Site) (free : get w.processes w.next_koid ≡ None) (plain : spares s.request ≡ true) where
  abbrev hs : List ℕ
  hs = taken_handles s.request

  refused : (o : Outcome) → is_end o ≡ false → KeepsBut p hs w (after_refusal w p s o)
  refused (outcome.Answered answer) goes =
      but_then p hs w (taken w p s) (after_refusal w p s (outcome.Answered answer)) (removed p hs w)
      (replies (taken w p s) p s answer (gives_refused w p s.request answer))
  refused (outcome.Ended code) goes = absurd (false≢true (sym goes))
  refused outcome.Blocked goes = λ k v has. inl has

  done : (vs : List ℕ) (o : Outcome) → is_end o ≡ false → KeepsBut p hs w (after_ok lib w p s vs o)
  done vs (outcome.Answered answer) goes =
      let doing = effect lib w (taken w p s) p s.request vs in
      let giving = insert_all doing (receiver_of w p s.request) (new_handles w p s.request) (entering_at s.request vs) in
      let storing_all = storing giving p (stored_by w p s.request) in
      but_then p hs w (taken w p s) (after_ok lib w p s vs (outcome.Answered answer)) (removed p hs w) (λ k v has.
      replies (keeping storing_all p (kept_by s.request vs)) p s status.Ok (gives_ok w p s.request vs) k v
      (kept storing_all p (kept_by s.request vs) k v
      (stored giving p (stored_by w p s.request) k v
      (entered (receiver_of w p s.request) (new_handles w p s.request) (entering_at s.request vs) doing k v
      (effected lib w (taken w p s) p s.request vs (still_free p w.next_koid hs w free) plain k v has)))))
  done vs (outcome.Ended code) goes = absurd (false≢true (sym goes))
  done vs outcome.Blocked goes = λ k v has. inl (by_awaited (awaited_by w p s.request) k v has)
    where
      by_awaited : (o : Option Awaited) → Keeps w (waiting w p s.destinations o)
      by_awaited None k v has = has
      by_awaited (Some a) k v has = written w p _ (λ x n there. there) k v has

  called : (choice : Choice) (r : Option Outcome) (o : Outcome) (w2 : World) → is_end o ≡ false → CallBy lib w p s choice r o w2 → KeepsBut p hs w w2
  called Refused None o w2 goes c = absurd c
  called Refused (Some x) o w2 goes c = rw c.1 (refused x (ap is_end (sym c.0) ∙ goes))
  called (Wants want) None o w2 goes c = rw c.2 (refused (outcome.Answered want) refl)
  called (Wants want) (Some x) o w2 goes c = absurd c
  called (Values vs) None o w2 goes c = rw c.2 (done vs (ok_outcome w p s.request) (ap is_end (sym c.1) ∙ goes))
  called (Values vs) (Some x) o w2 goes c = absurd c

-- up to where what isn't held has gone
pub acted_keeps : (lib : Library) (w : World) (p : ℕ) (s : Site) (name : CallName) (o : Outcome) (acted w2 : World)
    → get w.processes w.next_koid ≡ None → spares s.request ≡ true → is_end o ≡ false → Acts lib w p (AtCall name s) (item.Call p name o) acted
    → Settles acted w2 → KeepsBut p (taken_handles s.request) w w2
acted_keeps lib w p s name o acted w2 free plain goes (o2, is, (choice, calls)) settles =
    but_then p (taken_handles s.request) w acted w2
    (called lib w p s free plain choice (refusal lib w p s.request) o2 acted (ap is_end (same_outcome is) ∙ goes) calls) (settled acted w2 settles)
  where
    same_outcome : item.Call p name o ≡ item.Call p name o2 → o2 ≡ o
    same_outcome e = cc
