-- The call process_start in the midst of all processes: from what it did to a step, up to where processes wake.
use Rattle.zl_calls.proofs.Common.{AreBlocked, AtCall, CallName, ClosesEach, ClosesHandle, Err, Handles, IsActed, IsAnsweredIn, IsConsistent, IsNamed}
use Rattle.zl_calls.proofs.Common.{IsRefusedBy, IsToldIn, Kind, Library, List, Objects, Ok, Outcome, Reach, PlainCalls, Process, ProcessStartDoes, Result, Site}
use Rattle.zl_calls.proofs.Common.{Some, StartsProcess, Status, TRANSFER, Values, WRITE, World, [], ap, cpu_answered, false≢true, get, gives_refused}
use Rattle.zl_calls.proofs.Common.{handle_operands, lives, looked_up, next_for, next_looks, no_value, parts, process_start, process_value, refl, same_Some, set}
use Rattle.zl_calls.proofs.Common.{slice_get, slice_set, start_refusal, starting, state_value, status_of, subst, sym, taken_handles, takes, told_by, true}
use Rattle.zl_calls.proofs.Common.{wants_memory, without_handle, world_value, ℕ, ⊤, ◌∙◌, ◌∷◌, ◌≡◌}
use Rattle.zl_code.specs.declared.history.Outcome.TheVariants as outcome
use Rattle.zl_code.specs.declared.history.TraceItem.TheVariants as item
use Rattle.zl_rights.specs.declared.kind.Kind.TheVariants as kind
use Rattle.zl_rights.specs.declared.status.Status.TheVariants as status
use Rattle.zl_calls.specs.declared.process.State.TheVariants as state
use Rattle.zl_calls.proofs.calls.Answered.{IsWrite, asking}
use Rattle.zl_calls.proofs.processes.Departed.{left_all, settled_world}
use Rattle.zl_calls.proofs.waits.LeftWaits.{lists_kept}
use Rattle.zl_calls.proofs.calls.DoneCalls.{IsDone}
use Rattle.zl_calls.proofs.processes.Idle.{are_bare}
use Rattle.zl_calls.proofs.calls.Owned.{IsOwn, IsOwnCall, own_call_of}
use Rattle.zl_calls.proofs.parts.StartOwn.{start_own}
use Rattle.zl_calls.proofs.step.OwnCalls.{call_beside}
use Rattle.zl_calls.proofs.step.FromConsistent.{IsFree, call_settles}
use Rattle.zl_calls.proofs.step.Performing.{AtTurn, HasLeft, acted_so, is_caller, itself, key, left_as, left_with, ready, unblocked, write_of}
use Rattle.zl_calls.proofs.objects.Settled.{still_settles}
use Rattle.zl_calls.proofs.parts.StartCalls.{start_refused}
use Rattle.zl_calls.proofs.parts.StartParts.{get_set, set_twice}
use Rattle.zl_calls.proofs.parts.StartSound.{created_state, start_blocked, start_keeps}
use Rattle.zl_calls.proofs.parts.StartSteps.{all_is, caller_write, child_write, is_given, is_named, other_pid, start_relates}
use Rattle.zl_calls.proofs.calls.TakenCalls.{taking_done}
use Rattle.zl_calls.proofs.calls.Refused.{is_found, is_of_kind}

-- a handle that is taken for a process is one
task_taken : (k : Kind) → takes (kind.Process ∷ []) k ≡ true → k ≡ kind.Process
task_taken kind.Process h = refl
task_taken _ h = absurd (false≢true h)

-- the process p stands at the place, under the pid, and is at the call
module _ {ps : List Process} {r : Objects} {blocked : List ℕ} {pid place : ℕ} {p : Process} (turn : AtTurn ps r blocked pid place p) (lib : Library)
    (name : CallName) (free : IsFree lib (world_value ps r) p.pid name) (process h word : ℕ) (base : Site)
    (next : next_for lib (process_value p) ≡ AtCall name (asking (process_start process h word) base)) (all2 : Reach) where
  abbrev s : Site
  s = asking (process_start process h word) base

  -- the step ends so
  abbrev Left : Outcome → Type 0
  Left o = HasLeft lib ps all2.processes r all2.objects blocked all2.blocked pid (item.Call pid name o)

  -- ---- it is refused

  module _ (answer : Status) (refuses : IsRefusedBy wants_memory (start_refusal lib ps p.table.entries process h) answer) (t : Handles) (r2 : Objects)
      (closes : ClosesEach (h ∷ []) p.table r t r2) where
    abbrev told : Process
    told = record p { table = t; cpu = cpu_answered s answer [] p.cpu }

    abbrev after_it : List Process
    after_it = set ps place told

    write_told : IsWrite ps after_it p told
    write_told = write_of turn told refl

    refused_done : IsDone lib ps after_it r r2 p.pid name (outcome.Answered answer)
    unfolding taken_handles handle_operands gives_refused
    refused_done =
        taking_done lib r2 turn.consistent write_told
        (ready turn) name s next (h ∷ []) refl no_value (λ done t2 x. ⊥) wants_memory (start_refusal lib ps p.table.entries process h) (start_refused lib ps r p
        (itself turn).there process h word) refl (λ a. refl) (λ done never replies. absurd never)
        (outcome.Answered answer) (Err answer) (record { ok = tt; err = refuses; closed = closes }) refl refl

    refused_so : HasLeft lib ps after_it r r2 blocked blocked pid (item.Call pid name (outcome.Answered answer))
    refused_so =
        acted_so turn lib after_it told r2 (item.Call pid name (outcome.Answered answer)) write_told (unblocked turn) refl refl (ap next_looks next)
        refused_done.consistent (rw (← key turn) (refused_done.step free))
        (rw next (lists_kept (left_all after_it r2) r r2 r.waits r.waits_made closes.listed.listed))
        (λ did no. rw (← key turn) (call_beside lib ps after_it r r2 blocked p.pid turn.sound (process_value p) (itself turn).there (ready turn) turn.are name
        (outcome.Answered answer) refused_done.own free (ap next_looks next) refl
        (rw next (lists_kept (left_all after_it r2) r r2 r.waits r.waits_made closes.listed.listed)) no))

  -- ---- it is done

  module _ (between : Reach) (does : StartsProcess lib (parts ps r blocked) place process h word between)
      (tells : IsToldIn s place (told_by no_value (Ok tt)) between all2) where
    at_place : slice_get ps place ≡ Some p
    at_place = does.is_caller.is_there ∙ ap Some (is_caller turn does.caller does.is_caller.is_there)

    abbrev begun : Objects
    begun = starting r does.child.pid

    -- the caller, as it is in the end
    abbrev answered : Process
    answered = record p { table = without_handle p.table h; cpu = cpu_answered s status.Ok [] p.cpu }

    abbrev mid : List Process
    mid = slice_set ps does.at_place does.started

    abbrev after : List Process
    after = slice_set mid place answered

    write_child : IsWrite ps mid does.child does.started
    write_child = child_write base at_place turn.ready turn.consistent.processes_in_order does tells

    write_caller : IsWrite mid after p answered
    write_caller = caller_write base at_place turn.ready turn.consistent.processes_in_order does tells

    named_is : looked_up p.table.entries process (kind.Process ∷ []) WRITE ≡ Ok does.named
    named_is = is_named base at_place turn.ready turn.consistent.processes_in_order does tells

    given_is : looked_up p.table.entries h [] TRANSFER ≡ Ok does.given
    given_is = is_given base at_place turn.ready turn.consistent.processes_in_order does tells

    names_it : IsNamed r.objects does.named
    names_it =
        turn.consistent.named p.pid (process_value p) process does.named (itself turn).there
        (is_found (get p.table.entries process) (kind.Process ∷ []) WRITE does.named named_is)

    is_task : does.named.kind ≡ kind.Process
    is_task = task_taken does.named.kind (is_of_kind (get p.table.entries process) (kind.Process ∷ []) WRITE does.named named_is)

    is_bare : does.child.table.entries ≡ []
    is_bare = are_bare ps r blocked turn.consistent.processes_in_order turn.sound does.at_place does.child does.is_child does.is_created

    is_ready_now : state_value does.started.state ≡ state_value state.Ready
    is_ready_now = ap (λ (q : Process). state_value q.state) does.starts

    keeps : IsConsistent after begun
    keeps = start_keeps ps mid after does.child does.started p answered write_child write_caller (itself turn).there r turn.consistent does.named names_it
        is_task does.pid (created_state does.child.state does.is_created) is_bare is_ready_now refl h does.value does.given
        (is_found (get p.table.entries h) [] TRANSFER does.given given_is) does.inserts refl

    list : AreBlocked after blocked
    list = start_blocked ps mid after does.child does.started p answered write_child write_caller (itself turn).there r turn.consistent does.named names_it
        is_task does.pid (created_state does.child.state does.is_created) is_bare is_ready_now refl h does.value does.given
        (is_found (get p.table.entries h) [] TRANSFER does.given given_is) does.inserts refl
        (unblocked turn) blocked turn.are

    processes_are : all2.processes ≡ after
    processes_are = all_is base at_place turn.ready turn.consistent.processes_in_order does tells

    objects_are : all2.objects ≡ begun
    objects_are = tells.objects ∙ does.objects

    relates : (c : PlainCalls lib (world_value ps r) p.pid s (outcome.Answered status.Ok) (world_value after begun)) × (c.0 ≡ Values (does.value ∷ []))
    relates = subst (λ (w : World). (c : PlainCalls lib (world_value ps r) p.pid s (outcome.Answered status.Ok) w) × (c.0 ≡ Values (does.value ∷ [])))
        (λ i. world_value (processes_are i) (objects_are i)) (start_relates base at_place turn.ready turn.consistent.processes_in_order does tells)

    begun_own : IsOwnCall lib ps after r begun p.pid name (outcome.Answered status.Ok)
    begun_own = own_call_of lib ps after r begun p name s (outcome.Answered status.Ok) (itself turn).there next (world_value after begun) relates.0
        (λ living. subst (IsOwn ps after r p.pid s.request) (sym relates.1)
        (start_own (itself turn) write_child write_caller r process h word does.named does.given named_is given_is does.pid
        (other_pid base at_place turn.ready turn.consistent.processes_in_order does tells)
        (ap lives (created_state does.child.state does.is_created)) is_ready_now does.value does.inserts refl living)) (still_settles after begun keeps)

    step : IsActed lib (world_value ps r) p.pid (item.Call p.pid name (outcome.Answered status.Ok)) (settled_world after begun)
    step =
        call_settles lib ps after r begun begun p name s (outcome.Answered status.Ok) (itself turn).there
        (ready turn) next relates.0 (still_settles after begun keeps) free

    begun_so : HasLeft lib ps after r begun blocked blocked pid (item.Call pid name (outcome.Answered status.Ok))
    begun_so =
        left_with turn lib after begun (item.Call pid name (outcome.Answered status.Ok)) refl refl (ap next_looks next) keeps list (rw (← key turn) step)
        (rw next (record { waits = λ test h. refl; made = refl; asleep = (refl, refl) }))
        (λ did no. rw (← key turn) (call_beside lib ps after r begun blocked p.pid turn.sound (process_value p) (itself turn).there (ready turn) turn.are name
        (outcome.Answered status.Ok) begun_own free (ap next_looks next) refl
        (rw next (record { waits = λ test h. refl; made = refl; asleep = (refl, refl) })) no))

  -- ---- either

  by_answer : (answer : Result ⊤ Status) (between : Reach) → ProcessStartDoes lib place process h word p (parts ps r blocked) answer between
      → IsToldIn s place (told_by no_value answer) between all2 → Left (outcome.Answered (status_of answer))
  by_answer (Err answer) between does tells =
      let it : ClosesHandle (parts ps r blocked) place h between = does.refused in
      let one : it.caller ≡ p = is_caller turn it.caller it.is_caller.is_there in
      let there_now : slice_get between.processes place ≡ Some it.after =
      ap (λ (qs : List Process). slice_get qs place) it.processes ∙ get_set ps place it.caller it.after it.is_caller.is_there in
      let same : tells.caller ≡ record p { table = it.after.table } =
      same_Some tells.caller it.after (sym tells.is_there ∙ there_now) ∙ (it.is_caller.same ∙ (λ i. record (one i) { table = it.after.table })) in
      left_as all2 (set ps place (record p { table = it.after.table; cpu = cpu_answered s answer [] p.cpu })) between.objects blocked
      (tells.processes
      ∙ ((λ i. slice_set (it.processes i) place (record (same i) { cpu = cpu_answered s answer [] (same i).cpu }))
      ∙ set_twice ps place it.after (record p { table = it.after.table; cpu = cpu_answered s answer [] p.cpu })))
      tells.objects (tells.blocked ∙ it.blocked)
      (refused_so answer does.err it.after.table between.objects
      (subst (λ (q : Process). ClosesEach (h ∷ []) q.table r it.after.table between.objects) one it.closes))
  by_answer (Ok tt) between does tells =
      let it : StartsProcess lib (parts ps r blocked) place process h word between = does.ok in
      left_as all2 (after between it tells) (begun between it tells) blocked (processes_are between it tells) (objects_are between it tells)
      (tells.blocked ∙ it.blocked)
      (begun_so between it tells)

  pub start_so : (o : Outcome) → IsAnsweredIn (told_by no_value) (ProcessStartDoes lib place process h word p) s place (parts ps r blocked) o all2 → Left o
  start_so o does = subst Left (sym does.ends) (by_answer does.answer does.between does.does does.is_told)
