-- Which values the new handles of a call get, and which come then: those of the lab's own call.
use Rattle.zl_calls.proofs.Common.{AtCall, Bool, CallName, Choice, Entry, FreeBy, Handles, InsertsEach, Library, List, Objects, Outcome, OwnWorld, PlainCalls}
use Rattle.zl_calls.proofs.Common.{Process, ProcessValue, Refused, Request, Settles, Site, Some, Values, Wants, World, [], all_given, ap, coming, entered_free}
use Rattle.zl_calls.proofs.Common.{eq-eqb, false, free_at, free_entry, get, given_back, has_key, if◌then◌else◌, is_process, left_free, length, lives, map}
use Rattle.zl_calls.proofs.Common.{new_handles, next_for, own_values, process_entry, process_value, refl, same_Some, state_value, subst, sym, taken_all}
use Rattle.zl_calls.proofs.Common.{taken_handles, true, without, without_handles, world_value, ℕ, ⊤, ◌∙◌, ◌∷◌, ◌≡◌}
use Rattle.zl_calls.proofs.processes.Departed.{settled_world}
use Rattle.zl_code.specs.CallTable.{choosing, receiver_of}
use Rattle.zl_code.specs.Own.{given_by}
use Rattle.zl_calls.proofs.calls.Answered.{IsWrite, with_table}
use Rattle.zl_calls.proofs.processes.Freed.{free_written}

-- the world of these processes and objects with the values of each process
abbrev pub own_in : List Process → Objects → OwnWorld
own_in ps r = record { world = world_value ps r; free = map free_entry ps }

-- of the calls that may be done the lab did its own, and the values are those that it leaves
abbrev pub IsOwn : (before after : List Process) → Objects → ℕ → Request → Choice → Type 0
IsOwn before after r pid request (Values vs) = (vs ≡ own_values (own_in before r) pid request) × FreeBy after (entered_free (own_in before r) pid request)
IsOwn before after r pid request Refused = FreeBy after (left_free (own_in before r) pid request)
IsOwn before after r pid request (Wants want) = ⊤

-- the call takes no handle, and makes so many for its caller
pub record IsMaker (w : World) (pid : ℕ) (request : Request) (n : ℕ) : Type 0 where
  pub none : taken_handles request ≡ []
  pub chosen : length (choosing w pid request) ≡ n
  pub made : length (new_handles w pid request) ≡ n
  pub own : receiver_of w pid request ≡ pid

-- ---- a table

left_table : (hs : List ℕ) (t : Handles) (q : ProcessValue) → all_given hs (with_table t q) t.free ≡ (without_handles t hs).free
unfolding all_given
left_table [] t q = refl
left_table (h ∷ hs) t q = by_live (λ u. left_table hs u q) (has_key t.entries h)
  where
    by_live : ((u : Handles) → all_given hs (with_table u q) u.free ≡ (without_handles u hs).free) → (live : Bool)
        → all_given hs (if live then record (with_table t q) { handles = without t.entries h; last = Some h } else with_table t q)
        (if live then given_back h t.free else t.free)
        ≡ (without_handles (if live then record { entries = without t.entries h; last = Some h; free = given_back h t.free } else t) hs).free
    by_live rest true = rest (record { entries = without t.entries h; last = Some h; free = given_back h t.free })
    by_live rest false = rest t

entered_table : (es : List Entry) (vs : List ℕ) (t t2 : Handles) → InsertsEach t es vs t2
    → (vs ≡ coming (length es) t.free) × (t2.free ≡ taken_all (length es) t.free)
unfolding coming taken_all
entered_table [] [] t t2 same = (refl, ap (λ (u : Handles). u.free) same)
entered_table [] (v ∷ vs) t t2 same = absurd same
entered_table (e ∷ es) [] t t2 same = absurd same
entered_table (e ∷ es) (v ∷ vs) t t2 first =
    let rest = entered_table es vs first.between t2 first.rest in
    (λ i. first.inserts.offered i ∷ (rest.0 ∙ ap (coming (length es)) first.inserts.free) i, rest.1 ∙ ap (taken_all (length es)) first.inserts.free)

-- ---- the process that calls

module _ {before after : List Process} {p p2 : Process} (write : IsWrite before after p p2) (r : Objects)
    (living : is_process (world_value before r) lives p.pid ≡ true)
    (request : Request) where
  abbrev hs : List ℕ
  hs = taken_handles request

  alive : lives (state_value p.state) ≡ true
  unfolding is_process
  alive = rw write.there at living

  left : given_by (get (map process_entry before) p.pid) hs (free_at (map free_entry before) p.pid) ≡ (without_handles p.table hs).free
  left = rw (write.there, write.free_there, alive) (left_table hs p.table (process_value p))

  pub mine : left_free (own_in before r) p.pid request p.pid ≡ (without_handles p.table hs).free
  mine = rw (eq-eqb p.pid p.pid refl) left

  -- it is left with its other handles
  pub own_refused : p2.table ≡ without_handles p.table hs → FreeBy after (left_free (own_in before r) p.pid request)
  own_refused table =
      free_written write (left_free (own_in before r) p.pid request) (λ goes. ap (λ (t : Handles). t.free) table ∙ sym mine) (λ k apart. rw apart refl)

  -- and gets these
  pub own_written : (vs : List ℕ) → vs ≡ own_values (own_in before r) p.pid request
      → p2.table.free ≡ taken_all (length (new_handles (world_value before r) p.pid request)) (without_handles p.table hs).free
      → receiver_of (world_value before r) p.pid request ≡ p.pid → IsOwn before after r p.pid request (Values vs)
  own_written vs are free own = (
    are,
    free_written write (entered_free (own_in before r) p.pid request)
        (λ goes. rw (own, eq-eqb p.pid p.pid refl) (free ∙ ap (taken_all (length (new_handles (world_value before r) p.pid request))) (sym left)))
        (λ k apart. rw (own, apart) refl),
  )

  pub own_entered : (es : List Entry) (vs : List ℕ) → InsertsEach (without_handles p.table hs) es vs p2.table
      → length (choosing (world_value before r) p.pid request) ≡ length es → length (new_handles (world_value before r) p.pid request) ≡ length es
      → receiver_of (world_value before r) p.pid request ≡ p.pid → IsOwn before after r p.pid request (Values vs)
  own_entered es vs inserts chosen made own =
      let entered = entered_table es vs (without_handles p.table hs) p2.table inserts in
      own_written vs (rw (chosen, own) (entered.0 ∙ ap (coming (length es)) (sym mine)))
      (entered.1 ∙ ap (λ n. taken_all n (without_handles p.table hs).free) (sym made)) own

  -- the same where it takes none
  pub own_plain : {n : ℕ} → IsMaker (world_value before r) p.pid request n → (es : List Entry) (vs : List ℕ) → length es ≡ n
      → InsertsEach p.table es vs p2.table
      → IsOwn before after r p.pid request (Values vs)
  own_plain maker es vs count inserts =
      own_entered es vs (subst (λ (gone : List ℕ). InsertsEach (without_handles p.table gone) es vs p2.table) (sym maker.none) inserts)
      (maker.chosen ∙ sym count) (maker.made ∙ sym count) maker.own

-- ---- a call

-- the call of the process, where no policy has a say, what is left of it, and that its choice is the lab's own
pub record IsOwnCall (lib : Library) (before after : List Process) (r r2 : Objects) (pid : ℕ) (call : CallName) (ends : Outcome) : Type 0 where
  pub at : Site
  pub next : (q : ProcessValue) → get (map process_entry before) pid ≡ Some q → next_for lib q ≡ AtCall call at
  pub acted : World
  pub calls : PlainCalls lib (world_value before r) pid at ends acted
  pub own : is_process (world_value before r) lives pid ≡ true → IsOwn before after r pid at.request calls.0
  pub settles : Settles acted (settled_world after r2)

pub own_call_of : (lib : Library) (before after : List Process) (r r2 : Objects) (p : Process) (call : CallName) (s : Site) (ends : Outcome)
    → get (map process_entry before) p.pid ≡ Some (process_value p) → next_for lib (process_value p) ≡ AtCall call s → (acted : World)
    → (calls : PlainCalls lib (world_value before r) p.pid s ends acted)
    → (is_process (world_value before r) lives p.pid ≡ true → IsOwn before after r p.pid s.request calls.0) → Settles acted (settled_world after r2)
    → IsOwnCall lib before after r r2 p.pid call ends
own_call_of lib before after r r2 p call s ends there next acted calls own settles = record {
  at = s;
  next = λ q at. ap (next_for lib) (same_Some q (process_value p) (sym at ∙ there)) ∙ next;
  acted = acted;
  calls = calls;
  own = own;
  settles = settles;
}
