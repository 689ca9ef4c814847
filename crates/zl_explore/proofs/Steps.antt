-- A turn of the machine is the own step of its process.
use Rattle.zl_code.proofs.Common.{Library, None, Option, Process, Some, ap, false, get, is_process, is_ready, option_map, refl, state_passes, sym, ℕ}
use Rattle.zl_code.proofs.Common.{◌∙◌, ◌≡◌}
use Rattle.zl_code.specs.declared.history.TraceItem.{TraceItem}
use Rattle.zl_code.specs.Own.{OwnWorld}
use Rattle.zl_code.specs.OwnSteps.{own_of, own_step}
use Rattle.zl_calls.specs.World.{Machine, own_here}
use Rattle.zl_explore.specs.Ordered.{IsOrdered}
use Rattle.zl_explore.specs.Orders.{behind}
use Rattle.zl_explore.specs.Running.{rested_machine, told_at, turned, with_own}
use Rattle.zl_explore.proofs.Resting.{rested_steps}
use Rattle.zl_explore.proofs.Turns.{next_is, process_rested}

pub no_step : (lib : Library) (o : OwnWorld) (p : ℕ) → is_process o.world is_ready p ≡ false → own_step lib o p ≡ None
unfolding is_process
no_step lib o p unready = by_found (get o.world.processes p) unready
  where
    by_found : (found : Option Process) → state_passes is_ready found ≡ false → own_of lib o p found ≡ None
    by_found None unready = refl
    by_found (Some q) unready = rw unready refl

-- who isn't ready has no turn
pub no_turn : (m : Machine) (p : ℕ) → is_process m.world is_ready p ≡ false → turned (rested_machine m) p ≡ rested_machine m
no_turn m p unready =
    ap (λ r. with_own (rested_machine m) (behind (own_here (rested_machine m)) r))
    (no_step m.programs (own_here (rested_machine m)) p (process_rested m.world is_ready p ∙ unready))

-- and each other its own step
pub one_turn : (m m2 : Machine) (p : ℕ) (x : TraceItem) → IsOrdered m.world → m2.programs ≡ m.programs
    → own_step m.programs (own_here m) p ≡ Some (own_here m2, x) → turned (rested_machine m) p ≡ rested_machine m2
one_turn m m2 p x ordered programs step =
    ap (with_own (rested_machine m)) (next_is m.programs (own_here m) (own_here m2) p x ordered step)
    ∙ λ i. record (rested_machine m2) { programs = sym programs i }

-- nothing is told of who isn't ready
pub told_none : (m : Machine) (p : ℕ) → is_process m.world is_ready p ≡ false → told_at (rested_machine m) p ≡ None
told_none m p unready =
    ap (option_map (λ (y : OwnWorld × TraceItem). y.1))
    (no_step m.programs (own_here (rested_machine m)) p (process_rested m.world is_ready p ∙ unready))

-- and of each other the item of its own step
pub told_one : (m : Machine) (o : OwnWorld) (p : ℕ) (x : TraceItem) → IsOrdered m.world → own_step m.programs (own_here m) p ≡ Some (o, x)
    → told_at (rested_machine m) p ≡ Some x
told_one m o p x ordered step =
    ap (option_map (λ (y : OwnWorld × TraceItem). y.1)) (rested_steps m.programs (own_here m) o p x ordered step).1
