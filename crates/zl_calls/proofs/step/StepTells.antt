-- What a step tells of who became ready: who woke, and whom it started.
use Rattle.zl_calls.proofs.Common.{CallName, CalledAmong, Library, List, Machine, None, NotesNextChild, NotesStarted, Objects, Option, Outcome, Reach, Process}
use Rattle.zl_calls.proofs.Common.{ProcessValue, Some, StepsAndTells, StepsAndWakes, Taken, TraceItem, Woke, ap, calls_at, child_next, get, get_or, if_started}
use Rattle.zl_calls.proofs.Common.{is_local, next_for, position, process_value, refl, same_Some, subst, sym, true, world_blocked, ℕ, ◌==◌, ◌∙◌}
use Rattle.zl_calls.proofs.Common.{◌≡◌}
use Rattle.zl_code.specs.declared.history.CallName.TheVariants as name
use Rattle.zl_code.specs.declared.history.TraceItem.TheVariants as item
use Rattle.zl_calls.proofs.step.Performing.{stands_there}
use Rattle.zl_calls.proofs.step.StepItems.{asked_next}
use Rattle.zl_calls.proofs.Common.{AtCall, Entry, IfSome, IsStuck, Map, Moves, Next, Request, World, map, name_of, none-some, process_entry, slice_get}
use Rattle.zl_calls.proofs.Common.{NotesNextTask, TellsKilled, stands_next, task_next, task_of}
use Rattle.zl_code.specs.CallTable.{task_kill}
use Rattle.zl_interp.specs.Common.{call_here}
use Rattle.zl_objects.specs.declared.below.TaskList.{TaskList}
use Rattle.zl_calls.proofs.Common.{Bool, Effect, Fits, FitsItem, HaveLeft, IsEffect, if◌then◌else◌, is_started}
use Rattle.zl_calls.specs.declared.told.Told.{Told}
use Rattle.zl_calls.specs.declared.told.Told.TheVariants as told

-- what is so of a start is so of the item
same_started : (pid : ℕ) (n : CallName) (o : Outcome) (a b : Option ℕ) → (n ≡ name.ProcessStart → a ≡ b)
    → if_started (item.Call pid n o) a ≡ if_started (item.Call pid n o) b
same_started pid name.ProcessStart o a b same = rw (same refl) refl
same_started pid _ o a b same = refl

-- a call that was done notes whom it started
pub call_notes : (lib : Library) (ps : List Process) (r : Objects) (blocked : List ℕ) (pid place : ℕ) (p : Process)
    → Some place ≡ position (λ q. q.pid == pid) ps → p ≡ get_or ps place p → (all all2 : Reach) (n : CallName) (o : Outcome) (t : Taken)
    → CalledAmong lib place p all n o all2 → NotesNextChild lib p n t → NotesStarted lib (world_blocked ps r blocked) pid (item.Call pid n o) t
call_notes lib ps r blocked pid place p found read all all2 n o t called noted q at =
    subst (λ (x : ProcessValue). if_started (item.Call pid n o) (child_next x.handles (next_for lib x)) ≡ if_started (item.Call pid n o) (Some t.started))
    (same_Some (process_value p) q (sym (stands_there ps pid place p found read) ∙ at))
    (same_started pid n o (child_next p.table.entries (next_for lib (process_value p))) (Some t.started)
    (λ is. ap (child_next p.table.entries) next ∙ noted (Some called.site) next is))
  where
    next : next_for lib (process_value p) ≡ calls_at n (Some called.site)
    next = called.next ∙ (λ i. calls_at (sym called.named i) (called.at_site i))

-- ---- what it was to kill

task_asked : (handles : Map Entry) (r : Request) (task : ℕ) → task_of handles r ≡ Some task → name_of r ≡ name.TaskKill
task_asked handles (task_kill t) task is = refl
task_asked handles _ task is = absurd (none-some task is)

no_task : (handles : Map Entry) (n : Next) → call_here n ≡ None → task_next handles n ≡ None
no_task handles (AtCall call s) none = absurd (none-some call (sym none))
no_task handles (Moves c) none = refl
no_task handles IsStuck none = refl

module _ (lib : Library) (ps : List Process) (r : Objects) (blocked : List ℕ) (pid place : ℕ) (p : Process)
    (found : Some place ≡ position (λ q. q.pid == pid) ps) (read : p ≡ get_or ps place p) where
  task_here : (q : ProcessValue) → get (map process_entry ps) pid ≡ Some q → (task : ℕ) → task_next q.handles (next_for lib q) ≡ Some task
      → task_next p.table.entries (next_for lib (process_value p)) ≡ Some task
  task_here q at task = subst (λ (x : ProcessValue). task_next x.handles (next_for lib x) ≡ Some task)
      (sym (same_Some (process_value p) q (sym (stands_there ps pid place p found read) ∙ at)))

  -- a call that was done lists it
  pub kill_notes : (all all2 : Reach) (n : CallName) (o : Outcome) (t : Taken) → CalledAmong lib place p all n o all2 → NotesNextTask lib p r n t
      → TellsKilled lib (world_blocked ps r blocked) pid (Some t.killed)
  kill_notes all all2 n o t called noted q at task is =
      noted (Some called.site) next
      (sym (asked_next p.cpu n called.site (slice_get lib p.program) next) ∙ task_asked p.table.entries called.site.request task asked) task asked
    where
      next : next_for lib (process_value p) ≡ calls_at n (Some called.site)
      next = called.next ∙ (λ i. calls_at (sym called.named i) (called.at_site i))

      asked : task_of p.table.entries called.site.request ≡ Some task
      asked = sym (ap (task_next p.table.entries) next) ∙ task_here q at task is

  -- where no call stands next nothing is killed
  pub kills_none : call_here (stands_next lib p) ≡ None → (list : TaskList) → TellsKilled lib (world_blocked ps r blocked) pid (Some list)
  kills_none none list q at task is =
      absurd (none-some task (sym (no_task p.table.entries (next_for lib (process_value p)) none) ∙ task_here q at task is))

-- what was noted is told, or nothing is
pub told_killed : (lib : Library) (w : World) (p : ℕ) (told : Option TaskList) (list : TaskList) → IfSome told (λ t. t ≡ list) → TellsKilled lib w p (Some list)
    → TellsKilled lib w p told
told_killed lib w p None list is tells = tt
told_killed lib w p (Some t) list is tells = subst (λ (x : TaskList). TellsKilled lib w p (Some x)) (sym is) tells

-- what fits the effect fits the item
pub fits_item : (x : TraceItem) (e : Effect) (told : Told) → IsEffect x e → Fits e told → FitsItem x told
fits_item x e told.Same is fits = sym is.stays ∙ fits
fits_item x e (told.Woke who) is fits = sym is.spares ∙ fits
fits_item x e (told.Killed killed) is fits = sym is.spares ∙ fits

-- behind a local instruction the same are ready
pub local_fits : (x : TraceItem) → is_local x ≡ true → FitsItem x told.Same
local_fits (item.Run pid count) local = refl
local_fits (item.Call pid n o) local = absurd (cc)
local_fits (item.Stuck pid) local = absurd (cc)

-- a local instruction starts nobody
pub local_starts : (x : TraceItem) (child : Option ℕ) → is_local x ≡ true → if_started x child ≡ None
local_starts (item.Run pid count) child local = refl
local_starts (item.Call pid n o) child local = absurd (cc)
local_starts (item.Stuck pid) child local = refl

-- the step of a process that was noted to start this one, behind which these woke
module _ (m : Machine) (pid : ℕ) (m2 : Machine) (x : TraceItem) (started : Option ℕ) (woke : Woke) (did : StepsAndWakes m pid m2 x started woke) where
  tells_by : if_started x (child_next did.takes.steps.step.process.handles (next_for m.programs did.takes.steps.step.process)) ≡ started
      → StepsAndTells m pid m2 x woke
  tells_by same = record {
    takes = did.takes;
    tells = subst (λ (c : Option ℕ). HaveLeft did.takes.steps.step.settled.blocked c woke m2.world.blocked) (sym same) did.left;
  }

  pub tells_step : (t : Taken) → NotesStarted m.programs m.world pid x t → (e : Effect) → IsEffect x e
      → started ≡ (if is_started e then Some t.started else None) → StepsAndTells m pid m2 x woke
  tells_step t noted e effect is = tells_by (noted did.takes.steps.step.process
      (subst (λ (k : ℕ). get m.world.processes k ≡ Some did.takes.steps.step.process) did.takes.pid_is did.takes.steps.step.is_there)
      ∙ sym (is ∙ ap (λ (b : Bool). if b then Some t.started else None) effect.started))

  pub tells_local : is_local x ≡ true → started ≡ None → StepsAndTells m pid m2 x woke
  tells_local local none = tells_by (local_starts x _ local ∙ sym none)
