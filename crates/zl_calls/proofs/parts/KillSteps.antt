-- The call task_kill as a step: refused, done, or with the end of its caller.
use Rattle.zl_calls.proofs.Common.{AtCall, CallName, Calls, Err, IsAnsweredIn, IsConsistent, IsRefusedBy, IsToldIn, KillsNamed, Library, List, Objects, Ok}
use Rattle.zl_calls.proofs.Common.{Outcome, Reach, Process, Ready, Result, Site, Status, TaskKillDoes, [], ap, cpu_answered, false, gives_refused}
use Rattle.zl_calls.proofs.Common.{handle_operands, is_blocked, is_process, kill_refusal, next_for, no_value, parts, plain_refusal, process_value, refl}
use Rattle.zl_calls.proofs.Common.{refusal, remove_all, set, slice_get, slice_set, state_value, status_of, subst, sym, taken_handles, task_kill, told_by}
use Rattle.zl_calls.proofs.Common.{wants_nothing, world_blocked, world_value, ℕ, ℤ, ⊤, ◌∙◌, ◌≡◌}
use Rattle.zl_rights.specs.declared.status.Status.TheVariants as status
use Rattle.zl_code.specs.declared.history.Outcome.TheVariants as outcome
use Rattle.zl_code.specs.declared.history.TraceItem.TheVariants as item
use Rattle.zl_calls.specs.Reaching.{EndsCaller}
use Rattle.zl_calls.specs.declared.process.State.TheVariants as state
use Rattle.zl_calls.proofs.parts.KillCalls.{dies_so, kill_refused, leaves_so, lives_so}
use Rattle.zl_calls.proofs.step.FromConsistent.{IsFree, freely_so}
use Rattle.zl_calls.proofs.calls.Answered.{IsWrite, asking, same_world, table_is}
use Rattle.zl_calls.proofs.calls.AmongWaits.{ends_among}
use Rattle.zl_calls.proofs.waking.BlockedLists.{still_blocked}
use Rattle.zl_calls.proofs.objects.Settled.{still_settles}
use Rattle.zl_calls.proofs.step.Performing.{AtTurn, HasLeft, here, is_caller, itself, key, left_as, ready, unblocked, write_of}
use Rattle.zl_calls.proofs.calls.Owned.{IsOwn, own_refused}
use Rattle.zl_calls.proofs.calls.Refused.{refused_calls, refused_own}
use Rattle.zl_calls.proofs.processes.Written.{refusal_keeps}

-- the process p stands at the place, under the pid, and is at the call
module _ {ps : List Process} {r : Objects} {blocked : List ℕ} {pid place : ℕ} {p : Process} (turn : AtTurn ps r blocked pid place p) (lib : Library)
    (name : CallName) (free : IsFree lib (world_value ps r) p.pid name) (free_beside : IsFree lib (world_blocked ps r blocked) p.pid name) (task : ℕ)
    (base : Site)
    (next : next_for lib (process_value p) ≡ AtCall name (asking (task_kill task) base)) (all2 : Reach) where
  abbrev s : Site
  s = asking (task_kill task) base

  -- the step ends so
  abbrev Left : Outcome → Type 0
  Left o = HasLeft lib ps all2.processes r all2.objects blocked all2.blocked pid (item.Call pid name o)

  is_ready_process : state_value p.state ≡ Ready
  is_ready_process = ready turn

  free_there : refusal lib (world_blocked ps r blocked) p.pid (task_kill task) ≡ plain_refusal lib (world_blocked ps r blocked) p.pid (task_kill task)
  free_there = free_beside (process_value p) s (itself turn).there next

  -- with the pid that the step names
  under_pid : (o : Outcome) (after : List Process) (r2 : Objects) (blocked2 : List ℕ)
      → HasLeft lib ps after r r2 blocked blocked2 p.pid (item.Call p.pid name o) → HasLeft lib ps after r r2 blocked blocked2 pid (item.Call pid name o)
  under_pid o after r2 blocked2 left = subst (λ (k : ℕ). HasLeft lib ps after r r2 blocked blocked2 k (item.Call k name o)) (key turn) left

  -- ---- it is refused

  module _ (answer : Status) (refuses : IsRefusedBy wants_nothing (kill_refusal p.table.entries task) answer) where
    abbrev told : Process
    told = record p { cpu = cpu_answered s answer [] p.cpu }

    abbrev after_it : List Process
    after_it = set ps place told

    write_told : IsWrite ps after_it p told
    write_told = write_of turn told refl

    refused_calls_so : (c : Calls lib (world_blocked ps r blocked) p.pid s (outcome.Answered answer) (world_blocked after_it r blocked))
        × IsOwn ps after_it r p.pid s.request c.0
    unfolding taken_handles handle_operands remove_all gives_refused is_process
    refused_calls_so =
        let refused = kill_refused lib (world_blocked ps r blocked) p.pid p.table.entries (table_is (itself turn) r) task in
        let ends = ends_among lib r turn.consistent write_told s blocked (world_value ps r) r.waits r.waits_made answer []
        (same_world write_told r r s answer [] refl refl refl) refl refl in
        freely_so (IsOwn ps after_it r p.pid s.request) lib (world_blocked ps r blocked) p.pid s (outcome.Answered answer) (world_blocked after_it r blocked)
        free_there
        (refused_calls lib (world_blocked ps r blocked) p.pid s wants_nothing (kill_refusal p.table.entries task) answer
        (world_blocked after_it r blocked) (λ a. refl) refused refl refuses ends)
        (refused_own lib (world_blocked ps r blocked) p.pid s ps after_it r wants_nothing (kill_refusal p.table.entries task) answer
        (world_blocked after_it r blocked) (λ a. refl) refused refl refuses ends
        (own_refused write_told r (rw ((itself turn).there, ready turn) refl) s.request refl))

    keeps : IsConsistent after_it r
    keeps = refusal_keeps write_told r turn.consistent refl refl

    refused_so : HasLeft lib ps after_it r r blocked blocked pid (item.Call pid name (outcome.Answered answer))
    refused_so =
        let still : is_blocked (state_value p.state) ≡ false = unblocked turn in
        under_pid (outcome.Answered answer) after_it r blocked
        (leaves_so lib ps r blocked turn.sound p (itself turn).there is_ready_process name s next after_it r r blocked (outcome.Answered answer) refl
        (record { consistent = keeps; settles = still_settles after_it r keeps }) (still_blocked write_told still still blocked turn.are)
        (λ test there. refl) refused_calls_so.0 refused_calls_so.1 (record { waits = λ test h. refl; made = refl; asleep = (refl, refl) }))

  -- ---- it is done

  by_answer : (answer : Result ⊤ Status) (between : Reach) → TaskKillDoes task p (parts ps r blocked) answer between
      → (is_told : IsToldIn s place (told_by no_value answer) between all2)
      → ((code : ℤ) → is_told.caller.state ≡ state.Ended code → ⊥) → Left (outcome.Answered (status_of answer))
  by_answer (Err answer) between does is_told alive =
      let before : between.processes ≡ ps = ap (λ (all : Reach). all.processes) does.refused in
      let same : is_told.caller ≡ p = is_caller turn is_told.caller (ap (λ (qs : List Process). slice_get qs place) (sym before) ∙ is_told.is_there) in
      left_as all2 (set ps place (record p { cpu = cpu_answered s answer [] p.cpu })) r blocked
      (is_told.processes ∙ (λ i. slice_set (before i) place (record (same i) { cpu = cpu_answered s answer [] (same i).cpu })))
      (is_told.objects ∙ ap (λ (all : Reach). all.objects) does.refused) (is_told.blocked ∙ ap (λ (all : Reach). all.blocked) does.refused)
      (refused_so answer does.err)
  by_answer (Ok tt) between does is_told alive =
      let done : KillsNamed (parts ps r blocked) p task between = does.ok in
      left_as all2
      (slice_set between.processes place (record (is_told.caller) { cpu = cpu_answered s status.Ok [] is_told.caller.cpu })) between.objects between.blocked
      is_told.processes is_told.objects is_told.blocked
      (under_pid (outcome.Answered status.Ok)
      (slice_set between.processes place (record (is_told.caller) { cpu = cpu_answered s status.Ok [] is_told.caller.cpu })) between.objects between.blocked
      (lives_so lib ps r turn.consistent blocked turn.are turn.sound place p (here ps pid place p turn.found turn.read) (itself turn).there is_ready_process
      name task base next free_there between done.named done.is_named done.kills is_told.caller is_told.is_there alive))

  pub kill_so : (o : Outcome) → (a : IsAnsweredIn (told_by no_value) (TaskKillDoes task p) s place (parts ps r blocked) o all2)
      → ((code : ℤ) → a.is_told.caller.state ≡ state.Ended code → ⊥) → Left o
  kill_so o a alive = subst Left (sym a.ends) (by_answer a.answer a.between a.does a.is_told alive)

  pub kill_itself_so : (o : Outcome) → EndsCaller (λ a b. TaskKillDoes task p a (Ok tt) b) place (parts ps r blocked) o all2 → Left o
  kill_itself_so o e =
      let done : KillsNamed (parts ps r blocked) p task all2 = e.does.ok in
      subst Left (sym e.ends) (under_pid (outcome.Ended e.code) all2.processes all2.objects all2.blocked
      (dies_so lib ps r turn.consistent blocked turn.are turn.sound place p (here ps pid place p turn.found turn.read) (itself turn).there is_ready_process
      name task base next free_there all2 done.named done.is_named done.kills e.caller e.code e.is_there e.is_over))
