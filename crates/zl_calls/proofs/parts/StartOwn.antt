-- Which value the handle of a process that starts gets: that which its table offers.
use Rattle.zl_calls.proofs.Common.{Entry, Free, Handles, Inserts, List, Map, Objects, Ok, Process, Ready, Some, TRANSFER, Values, WRITE, [], ap, cases_Bool}
use Rattle.zl_calls.proofs.Common.{coming, entered_free, eq-eqb, eqb-true, false, false≢true, free_at, free_entry, free_of, get, get-update, handle_operands}
use Rattle.zl_calls.proofs.Common.{inl, inr, is_process, lives, looked_up, map, ne_eqb, new_handles, process_start, refl, state_value, subst, sym, taken_all}
use Rattle.zl_calls.proofs.Common.{taken_handles, true, without_handle, world_value, ℕ, ◌==◌, ◌∙◌, ◌∷◌, ◌≡◌}
use Rattle.zl_rights.specs.Values.{taken}
use Rattle.zl_rights.specs.declared.kind.Kind.TheVariants as kind
use Rattle.zl_calls.proofs.calls.Answered.{IsWrite, table_is}
use Rattle.zl_calls.proofs.calls.Owned.{IsOwn, mine, own_in}
use Rattle.zl_calls.proofs.calls.Refused.{is_found}
use Rattle.zl_calls.proofs.processes.Freed.{free_written}

module _ {ps there_still mid after : List Process} {p p2 child begun : Process} (stands : IsWrite ps there_still p p) (child_write : IsWrite ps mid child begun)
    (caller_write : IsWrite mid after p p2) (r : Objects) (process h word : ℕ) (named e : Entry)
    (is_named : looked_up p.table.entries process (kind.Process ∷ []) WRITE ≡ Ok named) (is_given : looked_up p.table.entries h [] TRANSFER ≡ Ok e)
    (pid : child.pid ≡ named.koid) (apart : (p.pid == named.koid) ≡ false) (alive : lives (state_value child.state) ≡ true)
    (runs : state_value begun.state ≡ Ready) (value : ℕ) (inserts : Inserts child.table e value begun.table)
    (table : p2.table ≡ without_handle p.table h) (living : is_process (world_value ps r) lives p.pid ≡ true) where
  abbrev at_first : Map Free
  at_first = map free_entry ps

  -- the child's values before and after
  child_free : free_at at_first named.koid ≡ child.table.free
  child_free = rw (← pid, child_write.free_there, alive) refl

  begun_free : free_at (map free_entry mid) named.koid ≡ taken child.table.free
  begun_free = rw (
    child_write.frees,
    get-update at_first child.pid
        (λ _. free_of begun) named.koid,
    pid,
    eq-eqb named.koid named.koid refl,
    ← pid,
    child_write.free_there,
    runs,
  )
      inserts.free

  named_there : get p.table.entries process ≡ Some named
  named_there = is_found (get p.table.entries process) (kind.Process ∷ []) WRITE named is_named

  given_there : get p.table.entries h ≡ Some e
  given_there = is_found (get p.table.entries h) [] TRANSFER e is_given

  other_free : (k : ℕ) → (named.koid == k) ≡ false → free_at (map free_entry mid) k ≡ free_at at_first k
  other_free k other = rw (child_write.frees, get-update at_first child.pid (λ _. free_of begun) k, pid, other) refl

  flipped : (named.koid == p.pid) ≡ false
  flipped = ne_eqb named.koid p.pid (λ e. absurd (false≢true (sym apart ∙ eq-eqb p.pid named.koid (sym e))))

  -- the caller is left without the handle
  caller_free : p2.table.free ≡ entered_free (own_in ps r) p.pid (process_start process h word) p.pid
  unfolding new_handles taken_all taken_handles handle_operands
  caller_free = rw (table_is stands r, named_there, flipped) (ap (λ (t : Handles). t.free) table ∙ sym (mine stands r living (process_start process h word)))

  begins_free : entered_free (own_in ps r) p.pid (process_start process h word) named.koid ≡ free_at (map free_entry mid) named.koid
  unfolding new_handles taken_all
  begins_free = rw (table_is stands r, named_there, eq-eqb named.koid named.koid refl, given_there, apart, child_free) (sym begun_free)

  others : (k : ℕ) → (p.pid == k) ≡ false → entered_free (own_in ps r) p.pid (process_start process h word) k ≡ free_at (map free_entry mid) k
  unfolding new_handles
  others k away = elim (cases_Bool (named.koid == k)) as
      (λ _. entered_free (own_in ps r) p.pid (process_start process h word) k ≡ free_at (map free_entry mid) k) [
        | inl is ↦ subst (λ j. entered_free (own_in ps r) p.pid (process_start process h word) j ≡ free_at (map free_entry mid) j)
            (eqb-true named.koid k is) begins_free
        | inr other ↦ rw (table_is stands r, named_there, other, away) (sym (other_free k other))
      ]

  pub start_own : IsOwn ps after r p.pid (process_start process h word) (Values (value ∷ []))
  unfolding new_handles coming taken_all
  start_own = (
    rw (table_is stands r, named_there, given_there, apart, child_free, inserts.offered) refl,
    free_written caller_write (entered_free (own_in ps r) p.pid (process_start process h word)) (λ goes. caller_free) others,
  )
