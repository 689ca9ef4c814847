-- A process whose start is answered OK wasn't ready, and is.
use Rattle.zl_sched.proofs.Common.{Bool, Calls, Library, List, None, Outcome, Process, Ready, Request, Site, Some, Status, World, [], after_ok, answer_if}
use Rattle.zl_sched.proofs.Common.{ap, call_ends, child_of, effect, entry_at, eq-eqb, examined, false, false≢true, first_some, get, get-update, gives_ok}
use Rattle.zl_sched.proofs.Common.{handle_operands, is_created, is_ok, is_process, is_ready, listed, may_want, new_handles, none-some, not, object_at}
use Rattle.zl_sched.proofs.Common.{on_process, operand, option_to_list, process_start, program_of, refl, refusal, row_of, same_Some, started_with, subst}
use Rattle.zl_sched.proofs.Common.{sym, taken, taken_handles, true, true≢false, with_effect, ℕ, ◌∙◌, ◌∷◌, ◌≡◌}
use Rattle.zl_rights.specs.declared.status.Status.TheVariants as status
use Rattle.zl_code.specs.declared.history.Outcome.TheVariants as outcome
use Rattle.zl_code.specs.Jobs.{misfits}
use Rattle.zl_code.proofs.TaskLaws.{child_apart, child_of as child_found, leave_other}
use Rattle.zl_sched.proofs.StillReady.{answers, entered, left_then}
use Rattle.zl_code.proofs.Waiters.{first_refuses, operand_refuses, refuses}

-- ---- a refusal isn't OK

module _ (w : World) (p : ℕ) where
  start_refuses : (lib : Library) (process h word : ℕ) → refuses (refusal lib w p (process_start process h word)) ≡ true
  unfolding row_of refusal handle_operands examined operand listed
  start_refuses lib process h word =
      first_refuses _ _
      (first_refuses _ _ (operand_refuses lib w p _ _ (entry_at w p process))
      (first_refuses _ [] (first_refuses _ (None ∷ []) (operand_refuses lib w p _ _ (entry_at w p h)) refl) refl))
      (first_refuses None (listed lib w p (process_start process h word)) refl
      (by_tests (not (is_process w is_created (object_at w p process))) (misfits (program_of lib w (object_at w p process)) (entry_at w p h))))
    where
      by_tests : (started misfits : Bool) → refuses (first_some (answer_if started status.BadState ∷ answer_if misfits status.InvalidArgs ∷ [])) ≡ true
      by_tests true misfits = refl
      by_tests false true = refl
      by_tests false false = refl

ok_refuses : (o : Outcome) → is_ok o ≡ true → refuses (Some o) ≡ false
ok_refuses (outcome.Answered status.Ok) ok = refl
ok_refuses _ ok = absurd (false≢true ok)

-- ---- the start

module _ (lib : Library) (w : World) (p : ℕ) (caller : Process) (there : get w.processes p ≡ Some caller) (ready : caller.state ≡ Ready) where
  -- the child is ready behind it, and wasn't
  abbrev IsBegun : ℕ → World → Type 0
  IsBegun k v = (is_process v is_ready k ≡ true) × (is_process w is_ready k ≡ false)

  module _ (process h word : ℕ) (base : Site) where
    abbrev start : Site
    start = record base { request = process_start process h word }

    begins : refusal lib w p (process_start process h word) ≡ None → (vs : List ℕ)
        → IsBegun (object_at w p process) (after_ok lib w p start vs (outcome.Answered status.Ok))
    unfolding effect is_process on_process new_handles gives_ok
    begins passes vs =
        let child = child_found lib w p caller there ready process h word passes in
        let k : ℕ = object_at w p process in
        let at : get (taken w p start).processes k ≡ Some child.0
        = leave_other lib w p caller there ready w k (taken_handles (process_start process h word))
        (child_apart lib w p caller there ready process h word passes) ∙ child.1 in (
          left_then k (after_ok lib w p start vs (outcome.Answered status.Ok)) (with_effect lib w (taken w p start) p (process_start process h word) vs)
              (on_process (taken w p start) k (started_with vs word)) (answers k _ p start status.Ok [])
              (entered k (on_process (taken w p start) k (started_with vs word)) k (option_to_list (entry_at w p h)) vs) is_ready refl refl
              ∙ rw (get-update (taken w p start).processes k (started_with vs word) k, eq-eqb k k refl, at) refl,
          rw (child.1, child.2) refl,
        )

    wants_no_ok : (want : Status) → is_ok (outcome.Answered want) ≡ true → may_want (process_start process h word) want ≡ true → ⊥
    wants_no_ok status.Ok ok may = false≢true may
    wants_no_ok _ ok may = false≢true ok

    ends_so : (o : Outcome) (v : World) → Calls lib w p start o v → is_ok o ≡ true → IsBegun (object_at w p process) v
    ends_so =
        call_ends lib w p start (λ o v. is_ok o ≡ true → IsBegun (object_at w p process) v)
        (λ o is ok. absurd (true≢false (sym (start_refuses w p lib process h word) ∙ (ap refuses is ∙ ok_refuses o ok))))
        (λ want may ok. absurd (wants_no_ok want ok may)) (λ passes vs may ok. begins passes vs)

  pub child_ready : (s : Site) (q : ℕ) → child_of caller.handles s.request ≡ Some q → (o : Outcome) (v : World) → Calls lib w p s o v → is_ok o ≡ true
      → (is_process v is_ready q ≡ true) × (is_process w is_ready q ≡ false)
  child_ready s q = by_request s.request refl
    where
      by_request : (r : Request) → s.request ≡ r → child_of caller.handles r ≡ Some q → (o : Outcome) (v : World) → Calls lib w p s o v → is_ok o ≡ true
          → IsBegun q v
      by_request (process_start process h word) asked is o v calls ok =
          subst (λ (k : ℕ). IsBegun k v) (rw there (same_Some _ q is))
          (ends_so process h word s o v (subst (λ r. Calls lib w p (record s { request = r }) o v) asked calls) ok)
      by_request _ asked is o v calls ok = absurd (none-some q is)
