-- A turn of a ready process that isn't out: the list that the code makes after it is that of the definitions, has room, and keeps the system whole.
use Rattle.zl_sched.proofs.Common.{IsSound, IsTold, IsWhole, List, Machine, Step, System, TakesStep, Tells, TraceItem, [], arith, false, is_in}
use Rattle.zl_sched.proofs.Common.{length, pid_of, queued_after, requeued, run_sound, step_sound, subst, sym, times_in, ℕ, ◌++◌, ◌+◌, ◌<◌, ◌∙◌, ◌∷◌, ◌≡◌, ◌≤◌}
use Rattle.zl_calls.specs.Own.{StepsOwn}
use Rattle.zl_calls.specs.World.{own_here}
use Rattle.zl_sched.proofs.Common.{FitsItem, killed_of, woke_of}
use Rattle.zl_sched.proofs.ReadyChange.{IsChanged, changed}
use Rattle.zl_sched.proofs.Fresh.{made_not_ready}
use Rattle.zl_sched.proofs.Common.{TellsKilled, Told}
use Rattle.zl_sched.proofs.Legal.{legal_more}
use Rattle.zl_sched.proofs.Marked.{listed_once, no_mark}
use Rattle.zl_sched.proofs.MarksMoved.{OthersStay, all_left, step_stays, before, after_listed, after_room}
use Rattle.zl_sched.proofs.Queued.{Before, requeued_is, told}
use Rattle.zl_sched.proofs.TurnTold.{step_told}

module _ (s : System) (whole : IsWhole s) (pid : ℕ) (unmarked : is_in pid s.out ≡ false) (m2 : Machine) (x : TraceItem)
    (taken : TakesStep s.machine pid m2 x) where
  sound : IsSound s.machine.world
  sound = run_sound s.machine.programs s.statements whole.legal.boot s.machine.world _ whole.legal.boots.boots whole.legal.history.run

  step : Step s.machine.programs s.machine.world pid x m2.world
  step = rw taken.pid_is at taken.steps.step

  after_sound : IsSound m2.world
  after_sound = step_sound s.machine.programs s.machine.world pid x m2.world sound step

  others : OthersStay s.machine.world pid m2.world
  others = step_stays s.machine.programs s.machine.world pid x m2.world sound step

  so : Before s.machine.world m2.world pid s.ready s.out
  so = before s.machine.world m2.world pid s.ready s.out s.out whole.listed taken.ready (all_left pid s.out unmarked) others

  pub each_once : (k : ℕ) → times_in k s.ready ≤ 1
  each_once = listed_once s.machine.world s.ready s.out whole.listed

  pub once : times_in pid s.ready ≡ 1
  once = omega (arith, whole.listed.once pid taken.ready, no_mark pid s.out unmarked)

  pub queue_room : length (queued_after s.machine.world pid m2.world s.ready) + length s.out ≤ length s.machine.world.processes
  queue_room = after_room s.machine.world m2.world pid s.ready s.out s.out whole.listed taken.ready (all_left pid s.out unmarked) others after_sound
      (λ q free. made_not_ready s.machine.programs s.machine.world pid x m2.world step q free)

  pub places : length (requeued m2.world pid s.out s.ready) ≤ length s.machine.world.processes
  places = subst (λ (ys : List ℕ). length ys ≤ length s.machine.world.processes) (sym (requeued_is s.machine.world m2.world pid s.ready s.out so))
      (omega (arith, queue_room))

  pub by_requeue : (ready2 : List ℕ) → ready2 ≡ requeued m2.world pid s.out s.ready → ready2 ≡ queued_after s.machine.world pid m2.world s.ready
  by_requeue ready2 is = is ∙ requeued_is s.machine.world m2.world pid s.ready s.out so

  pub told_so : (who : Told) → Tells s.machine.programs s.machine.world (pid_of x) x m2.world taken.steps.step (woke_of who)
      → TellsKilled s.machine.programs s.machine.world pid (killed_of who) → FitsItem x who → IsTold m2.world pid s.out s.ready who
  told_so who tells killed fits = told s.machine.world m2.world pid s.ready s.out so after_sound who
      (subst (λ (k : ℕ). IsChanged s.machine.world k m2.world who) taken.pid_is
      (changed s.machine.programs s.machine.world (pid_of x) x m2.world sound taken.steps.step who tells
      (subst (λ (k : ℕ). TellsKilled s.machine.programs s.machine.world k (killed_of who)) (sym taken.pid_is) killed) fits))

  pub still_whole : StepsOwn s.machine.programs (own_here s.machine) pid x (own_here m2) → (items2 : _) (ready2 : List ℕ) → items2 ≡ s.items ++ (x ∷ [])
      → length s.items < s.limit
      → ready2 ≡ queued_after s.machine.world pid m2.world s.ready → IsWhole (record s { machine = m2; items = items2; ready = ready2 })
  still_whole own items2 ready2 added room is = record {
    legal = legal_more s pid (record s { machine = m2; items = items2; ready = ready2 }) whole.legal
        (step_told s pid unmarked m2 items2 ready2 x taken own added room is);
    listed = rw is (after_listed s.machine.world m2.world pid s.ready s.out s.out whole.listed taken.ready (all_left pid s.out unmarked) others after_sound);
  }
