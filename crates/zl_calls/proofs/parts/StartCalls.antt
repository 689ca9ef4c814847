-- The call process_start, from all processes and the objects to the relation of calls.
use Rattle.zl_calls.proofs.Common.{Bool, Entry, Inserts, IsTrue, Library, List, Map, None, Object, Objects, Ok, Option, PlainCalls, Process, ProcessValue}
use Rattle.zl_calls.proofs.Common.{Ready, Site, Some, TRANSFER, Values, WRITE, World, [], and_from, answer_if, ap, arith, below_all, below_parts, cases_Bool}
use Rattle.zl_calls.proofs.Common.{child_refusal, cpu_answered, cpu_given, effect, eq-eqb, eqb-true, false, first_some, free_of, get, get-update, given_back}
use Rattle.zl_calls.proofs.Common.{gives_ok, handle_operands, has_key, if◌then◌else◌, inl, inr, insert_all, is_created, is_process, is_sorted, listed}
use Rattle.zl_calls.proofs.Common.{looked_up, map, may_choose, may_get, misfits, nat_cmp, ne_eqb, new_handles, none-some, not, object_entry, object_value}
use Rattle.zl_calls.proofs.Common.{on_process, operands_fault, option_map, plain_refusal, process_at, process_entry, process_start, process_value, process_with}
use Rattle.zl_calls.proofs.Common.{process_without, refl, remove_all, replied, same_Some, slice_get, slice_set, sorted_parts, start_refusal, started}
use Rattle.zl_calls.proofs.Common.{started_with, starting, state_passes, state_value, subst, suc, sym, table_of, taken, taken_handles, true, update, without}
use Rattle.zl_calls.proofs.Common.{without_handle, world_value, zero, ℕ, ◌<◌, ◌==◌, ◌∙◌, ◌∷◌, ◌≡◌}
use Rattle.zl_rights.specs.declared.kind.Kind.TheVariants as kind
use Rattle.zl_rights.specs.declared.status.Status.TheVariants as status
use Rattle.zl_code.specs.Starting.{program_in}
use Rattle.zl_code.specs.declared.history.Outcome.TheVariants as outcome
use Rattle.zl_calls.proofs.processes.Freed.{entry_there}
use Rattle.zl_calls.specs.declared.process.State.TheVariants as state
use Rattle.zl_calls.proofs.calls.Answered.{IsWrite, asking, may_get_inserted}
use Rattle.zl_calls.proofs.calls.Refused.{answers, is_found, both_looked_up, two_tests}
use Rattle.zl_calls.proofs.lists.Updates.{update_twice, update_unseen}
use Rattle.zl_calls.proofs.parts.StartSound.{started_seen}

-- ---- processes by their koids

-- the map has the first with the koid
pub process_there : (ps : List Process) (k : ℕ) → get (map process_entry ps) k ≡ option_map process_value (process_at ps k)
process_there = entry_there process_value

pub below_at : (k : ℕ) (ps : List Process) (i : ℕ) (q : Process) → IsTrue (below_all nat_cmp k (map process_entry ps)) → slice_get ps i ≡ Some q → k < q.pid
below_at k [] i q below at = absurd (none-some q at)
below_at k (x ∷ ps) zero q below at = subst (λ (y : Process). k < y.pid) (same_Some x q at) (below_parts k (process_entry x) (map process_entry ps) below).0
below_at k (x ∷ ps) (suc i) q below at = below_at k ps i q (below_parts k (process_entry x) (map process_entry ps) below).1 at

-- where koids rise, a process is written under its koid
module _ {Y : Type 0} (value : Process → Y) where
  abbrev entries : List Process → Map Y
  entries = map (λ (p : Process). (p.pid, value p))

  record IsWritten (ps after : List Process) (q q2 : Process) : Type 0 where
    pub there : get (entries ps) q.pid ≡ Some (value q)
    pub writes : (f : Y → Y) → value q2 ≡ f (value q) → entries after ≡ update (entries ps) q.pid f

  written_at : (ps : List Process) (i : ℕ) (q q2 : Process) → IsTrue (is_sorted nat_cmp (map process_entry ps)) → slice_get ps i ≡ Some q → q2.pid ≡ q.pid
      → IsWritten ps (slice_set ps i q2) q q2
  unfolding get update
  written_at [] i q q2 sorted at same = absurd (none-some q at)
  written_at (x ∷ ps) zero q q2 sorted at same =
      let is : x ≡ q = same_Some x q at in
      let here : (x.pid == q.pid) ≡ true = eq-eqb x.pid q.pid (ap (λ (y : Process). y.pid) is) in
      record {
        there = rw here (ap (λ (y : Process). Some (value y)) is);
        writes = λ f now. rw here (λ i. (same i, (now ∙ ap (λ (y : Process). f (value y)) (sym is)) i) ∷ entries ps);
      }
  written_at (x ∷ ps) (suc i) q q2 sorted at same =
      let parts = sorted_parts (process_entry x) (map process_entry ps) sorted in
      let before : x.pid < q.pid = below_at x.pid ps i q parts.0 at in
      let apart : (x.pid == q.pid) ≡ false = ne_eqb x.pid q.pid (λ e. absurd (omega (arith, before, e))) in
      let rest : IsWritten ps (slice_set ps i q2) q q2 = written_at ps i q q2 parts.1 at same in
      record { there = rw apart rest.there; writes = λ f now. rw apart (ap (λ (m : Map Y). (x.pid, value x) ∷ m) (rest.writes f now)) }

pub writes_at : (ps : List Process) (i : ℕ) (q q2 : Process) → IsTrue (is_sorted nat_cmp (map process_entry ps)) → slice_get ps i ≡ Some q → q2.pid ≡ q.pid
    → IsWrite ps (slice_set ps i q2) q q2
writes_at ps i q q2 sorted at same =
    let seen = written_at process_value ps i q q2 sorted at same in
    let free = written_at free_of ps i q q2 sorted at same in
    record { there = seen.there; writes = seen.writes; free_there = free.there; frees = free.writes (λ _. free_of q2) refl }

-- changes at two keys
pub update_apart : {X : Type 0} (m : Map X) (j k : ℕ) (f g : X → X) → (j == k) ≡ false → update (update m j f) k g ≡ update (update m k g) j f
unfolding update
update_apart [] j k f g apart = refl
update_apart {X} (e ∷ m) j k f g apart = elim (cases_Bool (e.0 == j)) as (λ _. update (update (e ∷ m) j f) k g ≡ update (update (e ∷ m) k g) j f) [
  | inl at_j ↦
      let not_k : (e.0 == k) ≡ false = subst (λ (n : ℕ). (n == k) ≡ false) (sym (eqb-true e.0 j at_j)) apart in
      let same : (j == j) ≡ true = eq-eqb j j refl in
      rw (at_j, not_k, apart, at_j) refl
  | inr not_j ↦ elim (cases_Bool (e.0 == k)) as (λ _. update (update (e ∷ m) j f) k g ≡ update (update (e ∷ m) k g) j f) [
    | inl at_k ↦
        let other : (k == j) ≡ false = subst (λ (n : ℕ). (n == j) ≡ false) (eqb-true e.0 k at_k) not_j in
        rw (not_j, at_k, other) refl
    | inr not_k ↦ rw (not_j, not_k, not_j) (ap (λ (rest : Map X). e ∷ rest) (update_apart m j k f g apart))
  ]
]

-- ---- the answer

module _ (lib : Library) (ps : List Process) (r : Objects) (p : Process) (there : get (map process_entry ps) p.pid ≡ Some (process_value p))
    (process h word : ℕ) where
  abbrev w : World
  w = world_value ps r

  pub table_there : table_of w p.pid ≡ p.table.entries
  table_there = rw there refl

  by_child : (o : Option Process) (e : Entry) → first_some (answer_if (not (state_passes is_created (option_map process_value o))) status.BadState
      ∷ answer_if (misfits (program_in lib (option_map process_value o)) (Some e)) status.InvalidArgs ∷ [])
      ≡ answers (child_refusal lib o e)
  by_child None e = refl
  by_child (Some q) e = two_tests (not (is_created (state_value q.state))) (misfits (slice_get lib q.program) (Some e)) status.BadState status.InvalidArgs

  pub start_refused : plain_refusal lib w p.pid (process_start process h word) ≡ answers (start_refusal lib ps p.table.entries process h)
  unfolding handle_operands operands_fault listed is_process
  start_refused =
      both_looked_up lib w p.pid p.table.entries table_there (process_start process h word) (start_refusal lib ps p.table.entries process h)
      process h (kind.Process ∷ []) [] WRITE TRANSFER refl (λ s is. rw is refl) (λ e s is fails. rw (is, fails) refl)
      (λ e f is are at also. rw (is, are, table_there, at, also, process_there ps e.koid) (by_child (process_at ps e.koid) f))

  -- ---- what it does

  -- the process that starts, and the handle that it gets, at this value
  module _ (base : Site) (named e : Entry) (is_named : looked_up p.table.entries process (kind.Process ∷ []) WRITE ≡ Ok named)
      (is_given : looked_up p.table.entries h [] TRANSFER ≡ Ok e)
      (apart : (p.pid == named.koid) ≡ false) (child begun : Process) (child_there : get (map process_entry ps) named.koid ≡ Some (process_value child))
      (value : ℕ) (inserts : Inserts child.table e value begun.table) where
    abbrev start_site : Site
    start_site = asking (process_start process h word) base

    named_there : get p.table.entries process ≡ Some named
    named_there = is_found (get p.table.entries process) (kind.Process ∷ []) WRITE named is_named

    given_there : get p.table.entries h ≡ Some e
    given_there = is_found (get p.table.entries h) [] TRANSFER e is_given

    pub start_chosen : IsTrue (may_choose w (taken w p.pid start_site) p.pid (process_start process h word) (value ∷ []))
    unfolding may_choose new_handles remove_all taken_handles handle_operands on_process
    start_chosen =
        rw (table_there, named_there, given_there, get-update (map process_entry ps) p.pid (process_without h) named.koid, apart, child_there)
        (and_from (may_get (process_value child) value) true (may_get_inserted child begun e value inserts) refl)

    abbrev caller_after : ProcessValue → ProcessValue
    caller_after q = record (process_without h q) { cpu = cpu_answered start_site status.Ok [] (process_without h q).cpu }

    abbrev child_after : ProcessValue → ProcessValue
    child_after q = process_with value e (started_with (value ∷ []) word q)

    -- both processes, as the definitions leave them
    pub caller_is : (p2 : Process) → p2 ≡ record p { table = without_handle p.table h; cpu = cpu_answered start_site status.Ok [] p.cpu }
        → process_value p2 ≡ caller_after (process_value p)
    caller_is p2 is = ap process_value is ∙ by_live (has_key p.table.entries h)
      where
        by_live : (live : Bool) → (record (process_value p) {
          cpu = cpu_answered start_site status.Ok [] p.cpu;
          handles = (if live then record { entries = without p.table.entries h; last = Some h; free = given_back h p.table.free } else p.table).entries;
          last = (if live then record { entries = without p.table.entries h; last = Some h; free = given_back h p.table.free } else p.table).last;
        }) ≡ record (if live then record (process_value p) { handles = without p.table.entries h; last = Some h } else process_value p) {
          cpu = cpu_answered start_site status.Ok []
              (if live then record (process_value p) { handles = without p.table.entries h; last = Some h } else process_value p).cpu;
        }
        by_live true = refl
        by_live false = refl

    pub child_is : begun ≡ record child { state = state.Ready; cpu = cpu_given (value ∷ []) word child.cpu; table = begun.table }
        → process_value begun ≡ child_after (process_value child)
    child_is is =
        ap process_value is
        ∙ (λ i. record (process_value child) { state = Ready; cpu = cpu_given (value ∷ []) word child.cpu; handles = inserts.entries i; last = inserts.last i })

    -- the objects are seen as before
    same_kind : (o : Object) → object_value (started o) ≡ object_value o
    same_kind o = ap (λ b. record (object_value o) { body = b }) (started_seen o.body)

    pub objects_seen : (k : ℕ) → map object_entry (starting r k).objects ≡ map object_entry r.objects
    objects_seen k = update_unseen object_value r.objects k started same_kind

    pub start_ends : (after : List Process) (k : ℕ) → map process_entry after ≡ update (update (map process_entry ps) named.koid child_after) p.pid caller_after
        → world_value after (starting r k)
        ≡ replied (insert_all (on_process (remove_all w p.pid (h ∷ [])) named.koid (started_with (value ∷ []) word)) named.koid (e ∷ []) (value ∷ [])) p.pid
        start_site status.Ok []
    unfolding replied insert_all remove_all on_process
    start_ends after k written =
        (λ i. record w { processes = (written ∙ by_steps) i; objects = objects_seen k i })
      where
        by_steps : update (update (map process_entry ps) named.koid child_after) p.pid caller_after
            ≡ update (update (update (update (map process_entry ps) p.pid (process_without h)) named.koid (started_with (value ∷ []) word)) named.koid
            (process_with value e)) p.pid (λ q. record q { cpu = cpu_answered start_site status.Ok [] q.cpu })
        by_steps =
            sym (update_twice (update (map process_entry ps) named.koid child_after) p.pid (process_without h)
            (λ q. record q { cpu = cpu_answered start_site status.Ok [] q.cpu }))
            ∙ ap (λ (x : Map ProcessValue). update x p.pid (λ q. record q { cpu = cpu_answered start_site status.Ok [] q.cpu }))
            (sym (update_apart (map process_entry ps) p.pid named.koid (process_without h) child_after apart)
            ∙ sym (update_twice (update (map process_entry ps) p.pid (process_without h)) named.koid (started_with (value ∷ []) word) (process_with value e)))

    pub start_calls : start_refusal lib ps p.table.entries process h ≡ None → (after : List Process) (k : ℕ)
        → map process_entry after ≡ update (update (map process_entry ps) named.koid child_after) p.pid caller_after
        → (c : PlainCalls lib w p.pid start_site (outcome.Answered status.Ok) (world_value after (starting r k))) × (c.0 ≡ Values (value ∷ []))
    unfolding effect gives_ok new_handles taken_handles handle_operands
    start_calls unrefused after k written = (
      (
        Values (value ∷ []),
        rw (start_refused, unrefused)
            (start_chosen, refl, rw (table_there, named_there, given_there) (start_ends after k written)),
      ),
      refl,
    )
