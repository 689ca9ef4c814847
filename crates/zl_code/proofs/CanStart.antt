-- What is known of the process of a statement that has no fault, and how it gets its handles.
use Rattle.zl_code.proofs.Common.{Bool, BootCause, Entry, Grant, IsTrue, Library, List, MOST_GRANTS, MOST_KOIDS, MOST_PROCESSES, Map, None, Object, Option}
use Rattle.zl_code.proofs.Common.{Process, Some, World, [], all_known, and_parts, are_misfits, arith, body_in, boot_fault, false, first_some, get, handle_given}
use Rattle.zl_code.proofs.Common.{handles_given, has_default_rights, is_job, is_some, lacks_koids, lacks_need, length, list_all, may_get, may_get_all}
use Rattle.zl_code.proofs.Common.{may_start_with, nat_le, nat_lt, nat_tests, none-some, not, not-false, option_to_list, or_parts, process_with}
use Rattle.zl_code.proofs.Common.{process_with_all, refl, slice_get, started_with, sym, then_some, true, ℕ, ◌&&◌, ◌++◌, ◌+◌, ◌<◌, ◌||◌, ◌∷◌, ◌≡◌, ◌≤◌}
use Rattle.zl_code.specs.declared.boot.Statement.TheVariants as statement
use Rattle.zl_code.specs.declared.boot.BootCause.TheVariants as cause

-- the process can start with its handles
pub record CanStart (lib : Library) (w : World) (job program : ℕ) (handles : List Grant) : Type 0 where
  pub in_job : IsTrue (is_job w job)
  pub known : IsTrue (all_known w.objects handles)
  pub few : length handles ≤ MOST_GRANTS
  pub rights : IsTrue (list_all has_default_rights (handles_given w.objects handles))
  pub declared : are_misfits (slice_get lib program) (handles_given w.objects handles) ≡ false
  pub needs : lacks_need w job (slice_get lib program) ≡ false
  pub place : length w.processes < MOST_PROCESSES
  pub koid : w.next_koid ≤ MOST_KOIDS

pub none_first : (b : Bool) (c : BootCause) (rest : List (Option BootCause)) → first_some (then_some b c ∷ rest) ≡ None → (b ≡ false) × (first_some rest ≡ None)
none_first true c rest fine = absurd (none-some c (sym fine))
none_first false c rest fine = (refl, fine)

pub can_start : (lib : Library) (w : World) (job program word : ℕ) (handles : List Grant) → boot_fault lib w (statement.Process job program word handles) ≡ None
    → CanStart lib w job program handles
unfolding boot_fault
can_start lib w job program word handles fine =
    let first = none_first (not (is_job w job && (is_some (slice_get lib program) && all_known w.objects handles))) cause.Unknown _ fine in
    let second = none_first (not (may_start_with handles (handles_given w.objects handles))) cause.BadHandleList _ first.1 in
    let third = none_first (are_misfits (slice_get lib program) (handles_given w.objects handles)) cause.BadHandleList _ second.1 in
    let fourth = none_first (lacks_need w job (slice_get lib program)) cause.NeedDenied _ third.1 in
    let fifth = none_first (nat_le MOST_PROCESSES (length w.processes) || lacks_koids w (statement.Process job program word handles)) cause.Limit _ fourth.1 in
    let left = or_parts (nat_le MOST_PROCESSES (length w.processes)) _ fifth.0 in
    let enough : nat_lt (MOST_KOIDS + 1) (w.next_koid + 1) ≡ false = left.1 in
    let there = and_parts (is_job w job) _ (not-false _ first.0) in
    let start = and_parts (nat_le (length handles) MOST_GRANTS) _ (not-false _ second.0) in
    record {
      in_job = there.0;
      known = (and_parts (is_some (slice_get lib program)) _ there.1).1;
      few = grind (arith, nat_tests, start.0);
      rights = start.1;
      declared = third.0;
      needs = fourth.0;
      place = grind (arith, nat_tests, left.0);
      koid = grind (arith, nat_tests, enough);
    }

pub handles_at_most : (objects : Map Object) (gs : List Grant) → length (handles_given objects gs) ≤ length gs
handles_at_most objects [] = omega arith
handles_at_most objects (g ∷ gs) =
    elim (handle_given g (body_in (get objects g.koid))) as (λ o. length (option_to_list o ++ handles_given objects gs) ≤ length (g ∷ gs)) [
      | None ↦ omega (arith, handles_at_most objects gs)
      | Some e ↦ omega (arith, handles_at_most objects gs)
    ]

-- ---- its start, and its handles

-- a process gets its handles after its start as before
pub started_with_all : (es : List Entry) (vs xs : List ℕ) (word : ℕ) (q : Process)
    → process_with_all es vs (started_with xs word q) ≡ started_with xs word (process_with_all es vs q)
started_with_all [] vs xs word q = refl
started_with_all (e ∷ es) [] xs word q = refl
started_with_all (e ∷ es) (v ∷ vs) xs word q = started_with_all es vs xs word (process_with v e q)

pub started_may_get : (es : List Entry) (vs xs : List ℕ) (word : ℕ) (q : Process) → may_get_all (started_with xs word q) es vs ≡ may_get_all q es vs
started_may_get [] [] xs word q = refl
started_may_get [] (v ∷ vs) xs word q = refl
started_may_get (e ∷ es) [] xs word q = refl
started_may_get (e ∷ es) (v ∷ vs) xs word q = rw (same_values, started_may_get es vs xs word (process_with v e q)) refl
  where
    same_values : may_get (started_with xs word q) v ≡ may_get q v
    same_values =
        elim q.last as (λ o. may_get (record (started_with xs word q) { last = o }) v ≡ may_get (record q { last = o }) v) [ None ↦ refl | Some l ↦ refl ]
