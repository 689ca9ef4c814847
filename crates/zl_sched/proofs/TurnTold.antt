-- What a turn does that has a step, and what one is answered for which the trace has no room.
use Rattle.zl_sched.proofs.Common.{Bool, List, Machine, RunsHere, System, TakesStep, TraceItem, Turns, [], cases_Bool, false, if◌then◌else◌, inl, inr, is_in}
use Rattle.zl_sched.proofs.Common.{length, may_step, queued_after, refl, ℕ, ◌++◌, ◌<◌, ◌∷◌, ◌≡◌, ◌≤◌}
use Rattle.zl_calls.specs.Own.{StepsOwn}
use Rattle.zl_calls.specs.World.{own_here}
use Rattle.zl_sched.specs.declared.system.Stepped.{Stepped}
use Rattle.zl_sched.specs.declared.system.Stepped.TheVariants as stepped

-- the answer by whether the process may step
abbrev pub answer_by : Bool → Stepped → Stepped
answer_by ready answer = if ready then answer else stepped.NotReady

module _ (s : System) (pid : ℕ) where
  pub limit_told : s.limit ≤ length s.items → Turns s pid (answer_by (may_step s pid) stepped.Limit) s
  limit_told full = elim (cases_Bool (may_step s pid)) as (λ _. Turns s pid (answer_by (may_step s pid) stepped.Limit) s) [
    | inl ready ↦ rw ready (refl, ready, full)
    | inr other ↦ rw other (refl, other)
  ]

  pub step_told : is_in pid s.out ≡ false → (m2 : Machine) (items2 : List TraceItem) (ready2 : List ℕ) (x : TraceItem) → TakesStep s.machine pid m2 x
      → StepsOwn s.machine.programs (own_here s.machine) pid x (own_here m2)
      → items2 ≡ s.items ++ (x ∷ []) → length s.items < s.limit
      → ready2 ≡ queued_after s.machine.world pid m2.world s.ready → RunsHere s pid (record s { machine = m2; items = items2; ready = ready2 })
  step_told hand m2 items2 ready2 x taken own added room queue = record {
    item = x;
    adds = record { programs = taken.steps.programs; items = added; statements = refl; limit = refl; out = refl };
    step = rw taken.pid_is at taken.steps.step;
    own = own;
    ready = rw (taken.ready, hand) refl;
    room = room;
    queue = queue;
  }
