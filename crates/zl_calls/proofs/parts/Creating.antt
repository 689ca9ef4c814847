-- What process_create does where memory is wanted, from what its parts do.
use Rattle.zl_calls.proofs.Common.{Body, Bool, Entry, Err, Handles, IsRefusedBy, IsTrue, Library, List, MANAGE_PROCESS, MakeDoes, Map, None, Objects, Ok}
use Rattle.zl_calls.proofs.Common.{Option, Process, ProcessCreateDoes, Result, Some, Status, [], action_here, ap, create_refusal, create_refusal_of, false}
use Rattle.zl_calls.proofs.Common.{get_or, get_or_from_slice_get, is_dead_here, is_some, job_at, looked_up, needs_more, none-some, not, option_or, parts}
use Rattle.zl_calls.proofs.Common.{room_refusal, slice_get, slice_set, subst, sym, then_some, true, wants_memory, ℕ, ◌∙◌, ◌∷◌, ◌≡◌}
use Rattle.zl_rights.specs.declared.status.Status.TheVariants as status
use Rattle.zl_rights.specs.declared.kind.Kind.TheVariants as kind
use Rattle.zl_calls.proofs.lists.Updates.{set_read}

-- what nothing refuses has room
room_is_left : (lib : Library) (entries : Map Entry) (r : Objects) (job program : ℕ) → create_refusal lib entries r job program ≡ None
    → room_refusal entries r.next_koid ≡ None
room_is_left lib entries r job program unrefused = by_job (looked_up entries job (kind.Job ∷ []) MANAGE_PROCESS) unrefused
  where
    by_tests : (a b c : Bool) (o : Option Status) → option_or (then_some a status.InvalidArgs)
        (option_or (then_some b status.BadState) (option_or (then_some c status.NotSupported) o)) ≡ None → o ≡ None
    by_tests true b c o h = absurd (none-some _ (sym h))
    by_tests false true c o h = absurd (none-some _ (sym h))
    by_tests false false true o h = absurd (none-some _ (sym h))
    by_tests false false false o h = h

    by_job : (x : Result Entry Status) → create_refusal_of lib entries r program x ≡ None → room_refusal entries r.next_koid ≡ None
    by_job (Err s) h = absurd (none-some s (sym h))
    by_job (Ok e) h = by_tests (not (is_some (slice_get lib program))) (is_dead_here (job_at r.objects e.koid))
        (needs_more (action_here (job_at r.objects e.koid)) (slice_get lib program)) (room_refusal entries r.next_koid) h

module _ (lib : Library) (ps ps2 : List Process) (r : Objects) (blocked blocked2 : List ℕ) (place job program : ℕ) (same_ps : ps2 ≡ ps)
    (same_blocked : blocked2 ≡ blocked)
    (read : Process) (is_read : read ≡ get_or ps place read) (passes : None ≡ create_refusal lib read.table.entries r job program) (caller : Process)
    (there : slice_get ps place ≡ Some caller) where
  is_caller : read ≡ caller
  is_caller = is_read ∙ get_or_from_slice_get ps place caller read there

  unrefused : create_refusal lib caller.table.entries r job program ≡ None
  unrefused = ap (λ (p : Process). create_refusal lib p.table.entries r job program) (sym is_caller) ∙ sym passes

  -- there is a want, and nothing has changed
  pub wanting : (s : Status) → IsTrue (wants_memory s) → (r2 : Objects) → r2 ≡ r → (ps3 : List Process) → ps3 ≡ ps2
      → ProcessCreateDoes lib place job program caller (parts ps r blocked) (Err s) (parts ps3 r2 blocked2)
  wanting s want r2 same_objects ps3 same = record {
    ok = tt;
    err = subst (λ (o : Option Status). IsRefusedBy wants_memory o s) (sym unrefused) want;
    refused = λ i. parts ((same ∙ same_ps) i) (same_objects i) (same_blocked i);
  }

  -- the object or its handle is wanting
  pub not_made : (written : Process) → written ≡ get_or ps2 place written → (b : Body) (table : Handles) (r2 : Objects) (s : Status)
      → MakeDoes b written.table r (Err s) table r2
      → ProcessCreateDoes lib place job program caller (parts ps r blocked) (Err s) (parts (slice_set ps2 place (record written { table = table })) r2 blocked2)
  not_made written is_written b table r2 s does =
      wanting s want r2 does.same_objects (slice_set ps2 place (record written { table = table }))
      (ap (λ (t : Handles). slice_set ps2 place (record written { table = t })) does.same_table ∙ set_read ps2 place written is_written)
    where
      same : written ≡ caller
      same = is_written ∙ (ap (λ (qs : List Process). get_or qs place written) same_ps ∙ get_or_from_slice_get ps place caller written there)

      want : IsTrue (wants_memory s)
      want = subst (λ (o : Option Status). IsRefusedBy wants_memory o s)
          (ap (λ (p : Process). room_refusal p.table.entries r.next_koid) same ∙ room_is_left lib caller.table.entries r job program unrefused) does.err
