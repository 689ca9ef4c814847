-- A call that reaches other processes: from what it did among them to a step, up to where processes wake.
use Rattle.zl_calls.proofs.Common.{AtCall, CallName, IsAnsweredIn, Library, List, None, Objects, Outcome, Reach, Process, ProcessCreateDoes, ProcessStartDoes}
use Rattle.zl_calls.proofs.Common.{Reaches, Request, Site, TaskKillDoes, ap, creates_process, kills, kills_itself, next_for, no_value, one_value, parts}
use Rattle.zl_calls.proofs.Common.{process_create, process_start, process_value, refl, starts, subst, sym, task_kill, told_by, verdict_on, world_blocked}
use Rattle.zl_calls.proofs.Common.{world_value, ℕ, ℤ, ◌∙◌, ◌≡◌}
use Rattle.zl_code.specs.declared.history.TraceItem.TheVariants as item
use Rattle.zl_calls.specs.declared.process.State.TheVariants as state
use Rattle.zl_calls.proofs.policy.Freedom.{is_free}
use Rattle.zl_calls.proofs.step.FromConsistent.{IsFree}
use Rattle.zl_calls.proofs.step.Performing.{AtTurn, HasLeft, write_of}
use Rattle.zl_calls.proofs.parts.CreateSteps.{create_so}
use Rattle.zl_calls.proofs.parts.StartWorlds.{start_so}
use Rattle.zl_calls.proofs.parts.KillSteps.{kill_itself_so, kill_so}
use Rattle.zl_calls.proofs.calls.Answered.{asking}

-- the process p stands at the place, under the pid, and is at the call
module _ {ps : List Process} {r : Objects} {blocked : List ℕ} {pid place : ℕ} {p : Process} (turn : AtTurn ps r blocked pid place p) (lib : Library)
    (name : CallName) (s : Site) (next : next_for lib (process_value p) ≡ AtCall name s)
    (none : verdict_on p.table.entries r.objects p.pid s.request ≡ None) where
  pub free : IsFree lib (world_value ps r) p.pid name
  free = is_free lib ps r turn.consistent blocked turn.sound p ((write_of turn p refl).there) turn.ready name s next none (world_value ps r) refl refl

  pub free_beside : IsFree lib (world_blocked ps r blocked) p.pid name
  free_beside =
      is_free lib ps r turn.consistent blocked turn.sound p ((write_of turn p refl).there) turn.ready name s next none (world_blocked ps r blocked) refl refl

  -- the site of the call, by its request
  site_is : (request : Request) → s.request ≡ request → s ≡ asking request s
  site_is request is = λ i. record s { request = is i }

  pub reaches_so : (o : Outcome) (all2 : Reach) → Reaches lib place p s (parts ps r blocked) o all2
      → HasLeft lib ps all2.processes r all2.objects blocked all2.blocked pid (item.Call pid name o)
  reaches_so o all2 (creates_process job program is does) =
      create_so turn lib name free job program s (next ∙ ap (AtCall name) (site_is (process_create job program) is)) all2 o
      (subst (λ (x : Site). IsAnsweredIn (told_by one_value) (ProcessCreateDoes lib place job program p) x place (parts ps r blocked) o all2)
      (site_is (process_create job program) is) does)
  reaches_so o all2 (starts process h word is does) =
      start_so turn lib name free process h word s (next ∙ ap (AtCall name) (site_is (process_start process h word) is)) all2 o
      (subst (λ (x : Site). IsAnsweredIn (told_by no_value) (ProcessStartDoes lib place process h word p) x place (parts ps r blocked) o all2)
      (site_is (process_start process h word) is) does)
  reaches_so o all2 (kills task is does alive) =
      subst (λ (x : Site). (a : IsAnsweredIn (told_by no_value) (TaskKillDoes task p) x place (parts ps r blocked) o all2)
      → ((code : ℤ) → a.is_told.caller.state ≡ state.Ended code → ⊥)
      → HasLeft lib ps all2.processes r all2.objects blocked all2.blocked pid (item.Call pid name o)) (sym (site_is (task_kill task) is))
      (kill_so turn lib name free free_beside task s (next ∙ ap (AtCall name) (site_is (task_kill task) is)) all2 o) does alive
  reaches_so o all2 (kills_itself task is does) =
      kill_itself_so turn lib name free free_beside task s (next ∙ ap (AtCall name) (site_is (task_kill task) is)) all2 o does
