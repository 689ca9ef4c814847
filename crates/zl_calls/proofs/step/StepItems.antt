-- What the item of a step tells of the process: which call it did, that it ran, or that it was stuck.
use Rattle.zl_calls.proofs.Common.{Acts, AtCall, CallInstr, CallName, Cpu, DoesNext, EndsUnheld, HaveLeft, HavePrograms, IfNone, IfSome, IsSound, IsStuck}
use Rattle.zl_calls.proofs.Common.{IsTrue, Library, List, Machine, Moves, Next, None, Objects, Option, Outcome, Performs, Process, ProcessValue, Program, Site}
use Rattle.zl_calls.proofs.Common.{Some, Step, StepsAndWakes, StepsTo, TakesStep, TraceItem, Woke, World, ap, asks_again, call_for, call_here, call_of}
use Rattle.zl_calls.proofs.Common.{call_row, calls_at, false, false≢true, fired, fold, free_entry, get, instr_at, is_local, is_process, is_ready, is_ready_in}
use Rattle.zl_calls.proofs.Common.{local_effect, map, name_of, next_at, next_for, pid_of, process_entry, refl, site_of, slice_get, state_passes, step_awake}
use Rattle.zl_calls.proofs.Common.{step_programs, step_sound, subst, sym, takes_memory, then_blocked, true, wakes, woken, world_blocked, world_left, ℕ, ◌∙◌}
use Rattle.zl_calls.proofs.Common.{◌≡◌}
use Rattle.zl_rights.specs.declared.status.Status.TheVariants as status
use Rattle.zl_code.specs.declared.history.Outcome.TheVariants as outcome
use Rattle.zl_code.specs.declared.history.TraceItem.TheVariants as item
use Rattle.zl_code.specs.declared.instr.Instr.{Instr}
use Rattle.zl_code.specs.declared.instr.Instr.TheVariants as instr
use Rattle.zl_code.specs.Steps.{moves, next_of, next_in}
use Rattle.zl_code.proofs.Stepping.{wanting_step}
use Rattle.zl_calls.specs.declared.told.Woke.TheVariants as woke
use Rattle.zl_calls.proofs.Common.{HaveLeft, option_to_list, pids_told, times_among, Option, None, List, arith, ap, subst, sym}

-- ---- the process that acts, and the item

module _ (lib : Library) (w w2 : World) (pid at : ℕ) where
  called : (name : CallName) (o : Outcome) (next : Next) → Acts lib w pid next (item.Call at name o) w2 → call_here next ≡ Some name
  called name o (Moves c) (is, moved) = cc
  called name o (AtCall call s) (o2, is, calls) = cc
  called name o IsStuck (is, over) = cc

-- ---- the call that stands next has the name of its request

module _ (c : Cpu) (name : CallName) (s : Site) where
  by_site : (i : CallInstr) (found : Option Site) → site_of i c ≡ found → calls_at i.name found ≡ AtCall name s → name_of s.request ≡ name
  by_site i None is e = cc
  by_site i (Some t) is e = let again : name_of t.request ≡ i.name = asks_again i c t is in cc

  by_effect : (o : Option Cpu) → moves o ≡ AtCall name s → name_of s.request ≡ name
  by_effect None e = cc
  by_effect (Some to) e = cc

  by_instr : (o : Option Instr) → next_of o c ≡ AtCall name s → name_of s.request ≡ name
  by_instr None e = cc
  by_instr (Some (instr.Local i)) e = by_effect (local_effect i c) e
  by_instr (Some (instr.Call i)) e = by_site i (site_of i c) refl e
  by_instr (Some (instr.Unknown bytes)) e = cc

  pub asked_next : (o : Option Program) → next_in o c ≡ AtCall name s → name_of s.request ≡ name
  unfolding next_at
  asked_next None e = cc
  asked_next (Some g) e = by_instr (instr_at g.image c.counter) e

-- memory is refused only to a call that takes it
takes_where_wanting : (lib : Library) (w w2 : World) (pid : ℕ) (q : ProcessValue) (name : CallName) (s : Site) → get w.processes pid ≡ Some q
    → next_for lib q ≡ AtCall name s → Step lib w pid (item.Call pid name (outcome.Answered status.NoMemory)) w2 → IsTrue (takes_memory name)
takes_where_wanting lib w w2 pid q name s there next step =
    subst (λ (x : CallName). IsTrue (call_row x).grows) (asked_next q.cpu name s (slice_get lib q.program) next)
    (wanting_step lib w pid q name s w2 there next step)

-- ---- a step from one machine to another

module _ (m m2 : Machine) (pid at : ℕ) where
  stands : (x : TraceItem) (step : Step m.programs m.world at x m2.world) → call_for m at ≡ call_here (next_for m.programs step.process)
  stands x step = rw (step.is_there, step.is_ready) refl

  call_is : (name : CallName) (o : Outcome) → TakesStep m pid m2 (item.Call at name o) → call_for m pid ≡ Some name
  call_is name o takes =
      let step = takes.steps.step in
      subst (λ (k : ℕ). call_for m k ≡ Some name) takes.pid_is
      (stands (item.Call at name o) step ∙ called m.programs m.world step.acted at at name o (next_for m.programs step.process) step.acts)

  pub performs : (name : CallName) (o : Outcome) → TakesStep m pid m2 (item.Call at name o) → Performs m pid o m2
  performs name o takes = record {
    call = name;
    at_call = call_is name o takes;
    steps = subst (λ (k : ℕ). StepsTo m (item.Call k name o) m2) takes.pid_is takes.steps;
  }

  pub wants_memory : (name : CallName) (o : Outcome) → TakesStep m pid m2 (item.Call at name o) → o ≡ outcome.Answered status.NoMemory
      → IfSome (call_for m pid) (λ call. IsTrue (takes_memory call))
  wants_memory name o takes wants =
      let step = subst (λ (x : Outcome). Step m.programs m.world at (item.Call at name x) m2.world) wants takes.steps.step in
      rw (call_is name o takes) (by_next step (next_for m.programs step.process) refl step.acts)
    where
      by_next : (step : Step m.programs m.world at (item.Call at name (outcome.Answered status.NoMemory)) m2.world) (next : Next)
          → next_for m.programs step.process ≡ next
          → Acts m.programs m.world at next (item.Call at name (outcome.Answered status.NoMemory)) step.acted → IsTrue (takes_memory name)
      by_next step (Moves c) is (same, moved) = absurd (called_moves c same)
        where
          called_moves : (c : Cpu) → item.Call at name (outcome.Answered status.NoMemory) ≡ item.Run at 1 → ⊥
          called_moves c e = cc
      by_next step (AtCall call s) is (o2, same, calls) =
          let same_name : name ≡ call = cc in
          takes_where_wanting m.programs m.world m2.world at step.process name s step.is_there (is ∙ ap (λ (x : CallName). AtCall x s) (sym same_name)) step
      by_next step IsStuck is (same, over) = absurd (called_stuck same)
        where
          called_stuck : item.Call at name (outcome.Answered status.NoMemory) ≡ item.Stuck at → ⊥
          called_stuck e = cc

-- ---- a step, once processes woke

-- nobody blocks by a local instruction
pub local_list : (pid : ℕ) (x : TraceItem) (blocked : List ℕ) → is_local x ≡ true → then_blocked pid x blocked ≡ blocked
local_list pid (item.Run at count) blocked local = refl
local_list pid (item.Call at call o) blocked local = absurd (false≢true local)
local_list pid (item.Stuck at) blocked local = absurd (false≢true local)

-- nothing is due behind one
pub local_awake : (pid : ℕ) (ps : List Process) (r : Objects) (blocked : List ℕ) (x : TraceItem) → is_local x ≡ true
    → wakes (world_left ps r blocked) ≡ world_blocked ps r blocked → world_blocked ps r blocked ≡ wakes (world_left ps r (then_blocked pid x blocked))
local_awake pid ps r blocked x local quiet = sym quiet ∙ ap (λ (b : List ℕ). wakes (world_left ps r b)) (sym (local_list pid x blocked local))

-- waits have ended with their handles, fired, and then these woke
pub woken_to : (ps2 ps3 : List Process) (r2 left fires r3 : Objects) (blocked2 blocked3 : List ℕ) → EndsUnheld ps2 r2 left
    → world_blocked ps2 fires blocked2 ≡ fired (world_blocked ps2 left blocked2)
    → world_blocked ps3 r3 blocked3 ≡ fold woken (world_blocked ps2 fires blocked2) blocked2
    → world_blocked ps3 r3 blocked3 ≡ wakes (world_left ps2 r2 blocked2)
unfolding wakes fired
woken_to ps2 ps3 r2 left fires r3 blocked2 blocked3 unheld fired_so awake =
    awake ∙ ap (λ (w : World). fold woken w blocked2) (fired_so ∙ ap fired (unheld.world blocked2))

abbrev pub machine_value : Library → List Process → Objects → List ℕ → Machine
machine_value lib ps r blocked = record { programs = lib; world = world_blocked ps r blocked; free = map free_entry ps }

-- nobody woke
pub just_started : (blocked : List ℕ) (started : Option ℕ) (who : Woke) → pids_told who ≡ option_to_list started → HaveLeft blocked started who blocked
just_started blocked started who told all k = omega (arith, ap (times_among k) told)

-- the process acted up to where processes wake, and then these did
does_step : (m : Machine) (pid : ℕ) (m2 : Machine) (x : TraceItem) (started : Option ℕ) (who : Woke) (settled : World) → m2.programs ≡ m.programs
    → DoesNext m.programs m.world pid x settled → m2.world ≡ wakes settled → HaveLeft settled.blocked started who m2.world.blocked
    → StepsAndWakes m pid m2 x started who
unfolding is_process
does_step m pid m2 x started who settled programs does awake told = record {
  takes = record {
    pid_is = does.pid_is;
    ready = rw (does.acted.is_there, does.acted.is_ready) refl;
    steps = record {
      programs = programs;
      step = record {
        process = does.acted.process;
        is_there = subst (λ (k : ℕ). get m.world.processes k ≡ Some does.acted.process) (sym does.pid_is) does.acted.is_there;
        is_ready = does.acted.is_ready;
        acted = does.acted.acted;
        acts = subst (λ (k : ℕ). Acts m.programs m.world k (next_for m.programs does.acted.process) x does.acted.acted) (sym does.pid_is) does.acted.acts;
        settled = settled;
        settles = does.acted.settles;
        ends_awake = awake;
      };
    };
  };
  left = told;
}

module _ (lib : Library) (ps : List Process) (r : Objects) (blocked : List ℕ) (pid : ℕ) where
  pub not_ready_in : {A : Type 0} (o : Option A) → state_passes is_ready (get (map process_entry ps) pid) ≡ false
      → IfNone o (is_ready_in (machine_value lib ps r blocked) pid ≡ false)
  unfolding is_process
  not_ready_in None unready = unready
  not_ready_in (Some x) unready = tt

  pub takes_step : (ps2 ps3 : List Process) (r2 r3 : Objects) (blocked2 blocked3 : List ℕ) (x : TraceItem) (started : Option ℕ) (who : Woke)
      → DoesNext lib (world_blocked ps r blocked) pid x (world_left ps2 r2 blocked2)
      → world_blocked ps3 r3 blocked3 ≡ wakes (world_left ps2 r2 blocked2) → HaveLeft blocked2 started who blocked3
      → StepsAndWakes (machine_value lib ps r blocked) pid (machine_value lib ps3 r3 blocked3) x started who
  takes_step ps2 ps3 r2 r3 blocked2 blocked3 x started who does awake told =
      does_step (machine_value lib ps r blocked) pid (machine_value lib ps3 r3 blocked3) x started who (world_left ps2 r2 blocked2) refl does awake told

  -- the same of a local instruction, behind which nothing is due
  pub takes_local : (ps2 : List Process) (r2 : Objects) (blocked2 : List ℕ) (x : TraceItem) → is_local x ≡ true
      → DoesNext lib (world_blocked ps r blocked) pid x (world_left ps2 r2 (then_blocked pid x blocked2))
      → wakes (world_left ps2 r2 blocked2) ≡ world_blocked ps2 r2 blocked2
      → StepsAndWakes (machine_value lib ps r blocked) pid (machine_value lib ps2 r2 blocked2) x None woke.Nobody
  takes_local ps2 r2 blocked2 x local does quiet = takes_step ps2 ps2 r2 r2 (then_blocked pid x blocked2) blocked2 x None woke.Nobody does
      (local_awake pid ps2 r2 blocked2 x local quiet)
      (subst (λ (b : List ℕ). HaveLeft b None woke.Nobody blocked2) (sym (local_list pid x blocked2 local)) (just_started blocked2 None woke.Nobody refl))

-- behind such a step nothing is due
pub stepped_awake : (lib : Library) (ps ps2 : List Process) (r r2 : Objects) (blocked blocked2 : List ℕ) (pid : ℕ) (x : TraceItem)
    → TakesStep (machine_value lib ps r blocked) pid (machine_value lib ps2 r2 blocked2) x
    → wakes (world_blocked ps2 r2 blocked2) ≡ world_blocked ps2 r2 blocked2
stepped_awake lib ps ps2 r r2 blocked blocked2 pid x takes =
    step_awake lib (world_blocked ps r blocked) (pid_of x) x (world_blocked ps2 r2 blocked2) takes.steps.step

-- it leaves each process a program of the library
pub stepped_programs : (lib : Library) (ps ps2 : List Process) (r r2 : Objects) (blocked blocked2 : List ℕ) (pid : ℕ) (x : TraceItem)
    → TakesStep (machine_value lib ps r blocked) pid (machine_value lib ps2 r2 blocked2) x
    → HavePrograms lib (world_blocked ps r blocked) → HavePrograms lib (world_blocked ps2 r2 blocked2)
stepped_programs lib ps ps2 r r2 blocked blocked2 pid x takes all =
    step_programs lib (world_blocked ps r blocked) (pid_of x) x (world_blocked ps2 r2 blocked2) all takes.steps.step

-- such a step leads from a sound world to a sound one
pub stepped_sound : (lib : Library) (ps ps2 : List Process) (r r2 : Objects) (blocked blocked2 : List ℕ) (pid : ℕ) (x : TraceItem)
    → TakesStep (machine_value lib ps r blocked) pid (machine_value lib ps2 r2 blocked2) x
    → IsSound (world_blocked ps r blocked) → IsSound (world_blocked ps2 r2 blocked2)
stepped_sound lib ps ps2 r r2 blocked blocked2 pid x takes sound =
    step_sound lib (world_blocked ps r blocked) (pid_of x) x (world_blocked ps2 r2 blocked2) sound takes.steps.step

-- one that isn't ready is at no call
pub unready_no_call : (m : Machine) (pid : ℕ) → is_ready_in m pid ≡ false → call_for m pid ≡ None
unfolding is_process
unready_no_call m pid unready = by_process (get m.world.processes pid) unready
  where
    by_process : (o : Option ProcessValue) → state_passes is_ready o ≡ false → call_of m.programs o ≡ None
    by_process None unready = refl
    by_process (Some p) unready = rw unready refl
