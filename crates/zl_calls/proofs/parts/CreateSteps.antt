-- The call process_create in the midst of all processes: from what it did to a step, up to where processes wake.
use Rattle.zl_calls.proofs.Common.{AreBlocked, AtCall, CallName, CreatesProcess, Entry, Err, IsActed, IsAnsweredIn, IsConsistent, IsRefusedBy, IsToldIn}
use Rattle.zl_calls.proofs.Common.{Library, List, MANAGE_PROCESS, MakesOne, None, Objects, Ok, Outcome, Reach, PlainCalls, Process, ProcessCreateDoes, Replies}
use Rattle.zl_calls.proofs.Common.{Result, Site, Some, Status, [], ap, cpu_answered, create_refusal, gives_refused, handle_operands, is_process, lives}
use Rattle.zl_calls.proofs.Common.{looked_up, next_for, next_looks, none-some, one_value, parts, plain_refusal, process_create, process_value, refl, remove_all}
use Rattle.zl_calls.proofs.Common.{same_Some, set, slice_get, slice_set, status_of, subst, suc, sym, taken_handles, told_by, true, wants_memory, with_new}
use Rattle.zl_calls.proofs.Common.{world_value, zero, ℕ, ◌++◌, ◌∙◌, ◌∷◌, ◌≡◌}
use Rattle.zl_code.specs.declared.history.Outcome.TheVariants as outcome
use Rattle.zl_code.specs.declared.history.TraceItem.TheVariants as item
use Rattle.zl_rights.specs.declared.kind.Kind.TheVariants as kind
use Rattle.zl_rights.specs.declared.status.Status.TheVariants as status
use Rattle.zl_objects.specs.declared.object.Body.TheVariants as body
use Rattle.zl_objects.specs.declared.object.Life.TheVariants as life
use Rattle.zl_calls.proofs.calls.Answered.{IsWrite, asking, same_world}
use Rattle.zl_calls.proofs.processes.Departed.{settled_world}
use Rattle.zl_calls.proofs.calls.DoneCalls.{IsCalled, IsDone, called_done}
use Rattle.zl_calls.proofs.step.OwnCalls.{call_beside}
use Rattle.zl_calls.proofs.step.FromConsistent.{IsFree, call_settles}
use Rattle.zl_calls.proofs.step.Performing.{AtTurn, HasLeft, acted_so, is_caller, itself, key, left_as, left_with, ready, unblocked, write_of}
use Rattle.zl_calls.proofs.calls.Owned.{IsOwn, IsOwnCall, own_call_of, own_refused}
use Rattle.zl_calls.proofs.calls.Refused.{answers, refused_calls, refused_own}
use Rattle.zl_calls.proofs.objects.Settled.{still_settles}
use Rattle.zl_calls.proofs.processes.Written.{refusal_keeps}
use Rattle.zl_calls.proofs.calls.MakeCalls.{has_left}
use Rattle.zl_calls.proofs.parts.CreateCalls.{create_refused, created_blocked, created_calls, created_keeps}

-- ---- lists

-- an element that is written twice, before others
set_again : {X : Type 0} (xs ys : List X) (i : ℕ) (x y c : X) → slice_get xs i ≡ Some c → slice_set (slice_set xs i x ++ ys) i y ≡ slice_set xs i y ++ ys
set_again [] ys i x y c at = absurd (none-some c at)
set_again (a ∷ xs) ys zero x y c at = refl
set_again (a ∷ xs) ys (suc i) x y c at = ap (λ rest. a ∷ rest) (set_again xs ys i x y c at)

get_again : {X : Type 0} (xs ys : List X) (i : ℕ) (x c : X) → slice_get xs i ≡ Some c → slice_get (slice_set xs i x ++ ys) i ≡ Some x
get_again [] ys i x c at = absurd (none-some c at)
get_again (a ∷ xs) ys zero x c at = refl
get_again (a ∷ xs) ys (suc i) x c at = get_again xs ys i x c at

-- ---- the step

-- the process p stands at the place, under the pid, and is at the call
module _ {ps : List Process} {r : Objects} {blocked : List ℕ} {pid place : ℕ} {p : Process} (turn : AtTurn ps r blocked pid place p) (lib : Library)
    (name : CallName) (free : IsFree lib (world_value ps r) p.pid name) (job program : ℕ) (base : Site)
    (next : next_for lib (process_value p) ≡ AtCall name (asking (process_create job program) base)) (all2 : Reach) where
  abbrev s : Site
  s = asking (process_create job program) base

  -- the step ends so
  abbrev Left : Outcome → Type 0
  Left o = HasLeft lib ps all2.processes r all2.objects blocked all2.blocked pid (item.Call pid name o)

  refused_here : plain_refusal lib (world_value ps r) p.pid (process_create job program) ≡ answers (create_refusal lib p.table.entries r job program)
  refused_here = create_refused lib ps r turn.consistent p (itself turn).there job program

  -- ---- it is refused

  module _ (answer : Status) (refuses : IsRefusedBy wants_memory (create_refusal lib p.table.entries r job program) answer) where
    abbrev told : Process
    told = record p { cpu = cpu_answered s answer [] p.cpu }

    abbrev after_it : List Process
    after_it = set ps place told

    write_told : IsWrite ps after_it p told
    write_told = write_of turn told refl

    refused_called : IsCalled lib ps after_it r r p.pid s (outcome.Answered answer)
    unfolding taken_handles handle_operands remove_all gives_refused
    refused_called = record {
      calls =
          refused_calls lib (world_value ps r) p.pid s wants_memory (create_refusal lib p.table.entries r job program) answer (world_value after_it r)
          (λ a. refl) refused_here refl refuses
          (same_world write_told r r s answer [] refl refl refl);
      own = λ living. refused_own lib (world_value ps r) p.pid s ps after_it r wants_memory (create_refusal lib p.table.entries r job program) answer
          (world_value after_it r)
          (λ a. refl) refused_here refl refuses (same_world write_told r r s answer [] refl refl refl) (own_refused write_told r living s.request refl);
      keeps = refusal_keeps write_told r turn.consistent refl refl;
    }

    refused_so : HasLeft lib ps after_it r r blocked blocked pid (item.Call pid name (outcome.Answered answer))
    refused_so =
        let done : IsDone lib ps after_it r r p.pid name (outcome.Answered answer) =
        called_done lib r turn.consistent write_told (ready turn) name s next (outcome.Answered answer) refused_called in
        acted_so turn lib after_it told r (item.Call pid name (outcome.Answered answer)) write_told (unblocked turn) refl refl (ap next_looks next)
        done.consistent (rw (← key turn) (done.step free)) (rw next (record { waits = λ test h. refl; made = refl; asleep = (refl, refl) }))
        (λ did no. rw (← key turn) (call_beside lib ps after_it r r blocked p.pid turn.sound (process_value p) (itself turn).there (ready turn) turn.are name
        (outcome.Answered answer) done.own free (ap next_looks next) refl (rw next (record { waits = λ test h. refl; made = refl; asleep = (refl, refl) })) no))

  -- ---- a process is made

  module _ (made : ℕ) (between : Reach) (done : CreatesProcess lib (parts ps r blocked) place job program made between) where
    handed_is : done.after ≡ record p { table = done.after.table }
    handed_is = done.is_caller.same ∙ (λ i. record (is_caller turn done.caller done.is_caller.is_there i) { table = done.after.table })

    abbrev given : Process
    given = record (done.after) { cpu = cpu_answered s status.Ok (made ∷ []) done.after.cpu }

    abbrev mid : List Process
    mid = set ps place given

    abbrev above : Entry
    above = done.above

    found_above : looked_up p.table.entries job (kind.Job ∷ []) MANAGE_PROCESS ≡ Ok above
    found_above =
        ap (λ (c : Process). looked_up c.table.entries job (kind.Job ∷ []) MANAGE_PROCESS) (sym (is_caller turn done.caller done.is_caller.is_there)) ∙
        done.is_above

    unrefused : create_refusal lib p.table.entries r job program ≡ None
    unrefused = ap (λ (c : Process). create_refusal lib c.table.entries r job program) (sym (is_caller turn done.caller done.is_caller.is_there)) ∙
        done.unrefused

    makes : MakesOne (body.Process above.koid life.Created) p.table r made given.table between.objects
    makes = subst (λ (c : Process). MakesOne (body.Process above.koid life.Created) c.table r made given.table between.objects)
        (is_caller turn done.caller done.is_caller.is_there) done.makes

    write_mid : IsWrite ps mid p given
    write_mid = write_of turn given (ap (λ (c : Process). c.pid) handed_is)

    same_state : given.state ≡ p.state
    same_state = ap (λ (c : Process). c.state) handed_is

    replies : Replies s status.Ok (made ∷ []) p given
    replies = λ i. record (handed_is i) { cpu = cpu_answered s status.Ok (made ∷ []) (handed_is i).cpu }

    abbrev made_all : List Process
    made_all = mid ++ done.new ∷ []

    abbrev made_grown : Objects
    made_grown = with_new r (body.Process above.koid life.Created) 1

    made_keeps : IsConsistent made_all made_grown
    made_keeps = created_keeps lib ps mid r turn.consistent p given write_mid same_state job program made above found_above unrefused makes.inserts
        (has_left p.table.entries r.next_koid makes.unrefused) done.new done.pid done.created

    made_blocked : AreBlocked made_all blocked
    made_blocked = created_blocked lib ps mid r turn.consistent p given write_mid same_state job program made above found_above unrefused makes.inserts
        (has_left p.table.entries r.next_koid makes.unrefused) done.new done.pid done.created
        (unblocked turn) blocked turn.are

    made_calls : (c : PlainCalls lib (world_value ps r) p.pid s (outcome.Answered status.Ok) (world_value made_all made_grown))
        × (is_process (world_value ps r) lives p.pid ≡ true → IsOwn ps made_all r p.pid s.request c.0)
    made_calls = created_calls lib ps mid r turn.consistent p given write_mid same_state job program made above found_above unrefused makes.inserts
        (has_left p.table.entries r.next_koid makes.unrefused) done.new done.pid done.created base replies done.fresh

    made_own : IsOwnCall lib ps made_all r made_grown p.pid name (outcome.Answered status.Ok)
    made_own = own_call_of lib ps made_all r made_grown p name s (outcome.Answered status.Ok) (itself turn).there next (world_value made_all made_grown)
        made_calls.0 made_calls.1 (still_settles made_all made_grown made_keeps)

    made_step : IsActed lib (world_value ps r) p.pid (item.Call p.pid name (outcome.Answered status.Ok)) (settled_world made_all made_grown)
    made_step =
        call_settles lib ps made_all r made_grown made_grown p name s (outcome.Answered status.Ok) write_mid.there
        (ready turn) next made_calls.0 (still_settles made_all made_grown made_keeps) free

    made_so : HasLeft lib ps made_all r made_grown blocked blocked pid (item.Call pid name (outcome.Answered status.Ok))
    made_so =
        left_with turn lib made_all made_grown (item.Call pid name (outcome.Answered status.Ok)) refl refl (ap next_looks next) made_keeps made_blocked
        (rw (← key turn) made_step) (rw next (record { waits = λ test h. refl; made = refl; asleep = (refl, refl) }))
        (λ did no. rw (← key turn) (call_beside lib ps made_all r made_grown blocked p.pid turn.sound (process_value p) (itself turn).there
        (ready turn) turn.are
        name (outcome.Answered status.Ok) made_own free (ap next_looks next) refl
        (rw next (record { waits = λ test h. refl; made = refl; asleep = (refl, refl) })) no))

  -- ---- either

  by_answer : (answer : Result ℕ Status) (between : Reach) → ProcessCreateDoes lib place job program p (parts ps r blocked) answer between
      → IsToldIn s place (told_by one_value answer) between all2 → Left (outcome.Answered (status_of answer))
  by_answer (Err answer) between does is_told =
      let before : between.processes ≡ ps = ap (λ (all : Reach). all.processes) does.refused in
      let same : is_told.caller ≡ p = is_caller turn is_told.caller (ap (λ (qs : List Process). slice_get qs place) (sym before) ∙ is_told.is_there) in
      left_as all2 (set ps place (record p { cpu = cpu_answered s answer [] p.cpu })) r blocked
      (is_told.processes ∙ (λ i. slice_set (before i) place (record (same i) { cpu = cpu_answered s answer [] (same i).cpu })))
      (is_told.objects ∙ ap (λ (all : Reach). all.objects) does.refused) (is_told.blocked ∙ ap (λ (all : Reach). all.blocked) does.refused)
      (refused_so answer does.err)
  by_answer (Ok made) between does is_told =
      let done : CreatesProcess lib (parts ps r blocked) place job program made between = does.ok in
      let same : is_told.caller ≡ done.after =
      sym (same_Some done.after is_told.caller (sym (get_again ps (done.new ∷ []) place done.after done.caller done.is_caller.is_there)
      ∙ (ap (λ (qs : List Process). slice_get qs place) (sym done.processes) ∙ is_told.is_there))) in
      left_as all2 (set ps place (record (done.after) { cpu = cpu_answered s status.Ok (made ∷ []) done.after.cpu }) ++ done.new ∷ [])
      (with_new r (body.Process done.above.koid life.Created) 1) blocked (is_told.processes
      ∙ ((λ i. slice_set (done.processes i) place (record (same i) { cpu = cpu_answered s status.Ok (made ∷ []) (same i).cpu }))
      ∙ set_again ps (done.new ∷ []) place done.after (record (done.after) { cpu = cpu_answered s status.Ok (made ∷ []) done.after.cpu }) done.caller
      done.is_caller.is_there))
      (is_told.objects ∙ done.makes.objects) (is_told.blocked ∙ done.blocked)
      (made_so made between done)

  pub create_so : (o : Outcome) → IsAnsweredIn (told_by one_value) (ProcessCreateDoes lib place job program p) s place (parts ps r blocked) o all2 → Left o
  create_so o does = subst Left (sym does.ends) (by_answer does.answer does.between does.does does.is_told)
