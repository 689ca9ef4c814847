use Rattle.zl_calls.proofs.Common.{AreBlocked, List, Seeks, TakesStep, arith, false, false≢true, held, is_local, length, refl, subst, sym, fell_asleep, None}
use Rattle.zl_calls.proofs.Common.{then_blocked, true, vec_capacity, ℕ, ◌∙◌, ◌≡◌, ◌≤◌}
use Rattle.zl_objects.specs.declared.awaited.Awaited.{Awaited}
use Rattle.zl_calls.proofs.Common.{ap, killed_of, world_blocked}
use Rattle.zl_calls.specs.Calling.{left_in}
use Rattle.zl_calls.specs.declared.told.Woke.TheVariants as woke
use Rattle.zl_calls.proofs.waking.BlockedLists.{no_more}
use Rattle.zl_calls.proofs.waking.StillBlocked.{acted_ordered, acted_sought, same_seeks, silent, then_asleep}
use Rattle.zl_calls.proofs.step.OwnStep.{own_stepped, same_length}
use Rattle.zl_calls.proofs.step.StepItems.{local_awake, machine_value, local_list, not_ready_in, takes_local}
use Rattle.zl_calls.proofs.step.StepTells.{fits_item, local_fits, tells_local, tells_step, told_killed}
use Rattle.zl_calls.proofs.step.Whole.{asleep_consistent, fired_known, fired_ordered, nothing_holds, quiet_own, quiet_step, quiet_whole, stepped_whole}
use Rattle.zl_calls.proofs.step.Whole.{woken_own, woken_step, woken_whole}
use Rattle.zl_calls.proofs.world.World.step.Goals as goal

pub returns-in_err-item-clause-not_ready : goal.returns-in_err-item-clause-not_ready
returns-in_err-item-clause-not_ready c =
    rw (← c.self.view_is)
    (not_ready_in c.self.inside.library c.self.inside.parts.processes.list.items c.self.inside.parts.objects c.self.inside.parts.blocked.items c.args.pid
    c.from_residual.result c.in_err-item.ensures.not_ready)

-- ---- something waits at an object that the call touched

pub fire_waits-requires : goal.fire_waits-requires
fire_waits-requires c =
    asleep_consistent _ _ _ _ _ c.args.pid c.in_ok-item.item c.self.invariant
    c.act.new.self.processes.list.items c.act.new.self.objects c.act.new.self.objects c.fall_asleep.new.objects
    c.act.new.self.blocked.items c.in_ok-item.ensures.acts c.in_ok-item.ensures.list c.in_ok-item.ensures.fewer c.in_ok-item.ensures.asleep
    (c.in_ok-item.ensures.unheld (sym c.is_local.ensures ∙ c.if-is_local.false)) (rw c.effect_of-effect.ensures.asleep at c.fall_asleep.ensures)

pub wake-woke-requires-clause-sought : goal.wake-woke-requires-clause-sought
wake-woke-requires-clause-sought c =
    fired_known _ _ _ _ _ c.args.pid c.in_ok-item.item c.self.invariant c.act.new.self.processes.list.items c.act.new.self.objects c.act.new.self.objects
    c.fall_asleep.new.objects
    c.act.new.self.blocked.items c.in_ok-item.ensures.acts c.in_ok-item.ensures.list c.in_ok-item.ensures.fewer c.in_ok-item.ensures.asleep
    (c.in_ok-item.ensures.unheld (sym c.is_local.ensures ∙ c.if-is_local.false))
    (rw c.effect_of-effect.ensures.asleep at c.fall_asleep.ensures) c.fire_waits.new.objects c.fire_waits.ensures

pub wake-woke-requires-clause-ordered : goal.wake-woke-requires-clause-ordered
wake-woke-requires-clause-ordered c =
    rw (
      c.add_blocked.ensures.items,
      then_asleep c.args.pid c.in_ok-item.item c.effect_of-effect.result c.effect_of-effect.ensures c.act.new.self.blocked.items,
    ) (fired_ordered _ _ _ _ _ c.args.pid c.in_ok-item.item c.self.invariant
    c.act.new.self.processes.list.items c.act.new.self.objects c.act.new.self.objects c.fall_asleep.new.objects
    c.act.new.self.blocked.items c.in_ok-item.ensures.acts c.in_ok-item.ensures.list c.in_ok-item.ensures.fewer c.in_ok-item.ensures.asleep
    (c.in_ok-item.ensures.unheld (sym c.is_local.ensures ∙ c.if-is_local.false))
    (rw c.effect_of-effect.ensures.asleep at c.fall_asleep.ensures) c.fire_waits.new.objects c.fire_waits.ensures)

pub calm-requires-clause-waits : goal.calm-requires-clause-waits
calm-requires-clause-waits c =
    nothing_holds _ _ _ _ _ c.args.pid c.in_ok-item.item c.self.invariant
    c.act.new.self.processes.list.items c.act.new.self.objects c.act.new.self.objects c.fall_asleep.new.objects
    c.act.new.self.blocked.items c.in_ok-item.ensures.acts c.in_ok-item.ensures.list c.in_ok-item.ensures.fewer c.in_ok-item.ensures.asleep
    (c.in_ok-item.ensures.unheld (sym c.is_local.ensures ∙ c.if-is_local.false)) (rw c.effect_of-effect.ensures.asleep at c.fall_asleep.ensures)
    c.fire_waits.new.objects c.fire_waits.ensures c.wake-woke.new.processes.list.items c.wake-woke.new.objects c.wake-woke.new.blocked.items
    c.started-started.result c.wake-woke.result (rw (
      c.add_blocked.ensures.items,
      then_asleep c.args.pid c.in_ok-item.item c.effect_of-effect.result c.effect_of-effect.ensures
          c.act.new.self.blocked.items,
    ) at c.wake-woke.ensures.turns)

pub calm-requires-clause-sleepers : goal.calm-requires-clause-sleepers
calm-requires-clause-sleepers c = c.wake-woke.ensures.turns.none_due

pub returns-clause-ran : goal.returns-clause-ran
returns-clause-ran c = rw (← c.self.view_is, c.calm.ensures, c.of-told-2.ensures.woke)
    (tells_step
    (machine_value c.self.inside.library c.self.inside.parts.processes.list.items c.self.inside.parts.objects c.self.inside.parts.blocked.items) c.args.pid _
    c.in_ok-item.item c.started-started.result c.wake-woke.result
    (woken_step _ _ _ _ _ c.args.pid c.in_ok-item.item c.self.invariant
    c.act.new.self.processes.list.items c.act.new.self.objects c.act.new.self.objects c.fall_asleep.new.objects
    c.act.new.self.blocked.items c.in_ok-item.ensures.acts c.in_ok-item.ensures.list c.in_ok-item.ensures.fewer c.in_ok-item.ensures.asleep
    (c.in_ok-item.ensures.unheld (sym c.is_local.ensures ∙ c.if-is_local.false)) (rw c.effect_of-effect.ensures.asleep at c.fall_asleep.ensures)
    c.fire_waits.new.objects c.fire_waits.ensures c.wake-woke.new.processes.list.items c.wake-woke.new.objects c.wake-woke.new.blocked.items
    c.started-started.result c.wake-woke.result (rw (
      c.add_blocked.ensures.items,
      then_asleep c.args.pid c.in_ok-item.item c.effect_of-effect.result c.effect_of-effect.ensures
          c.act.new.self.blocked.items,
    ) at c.wake-woke.ensures.turns))
    c.act.new.self.taken c.in_ok-item.ensures.child c.effect_of-effect.result c.effect_of-effect.ensures c.started-started.ensures)

pub returns-clause-own : goal.returns-clause-own
returns-clause-own c = rw (← c.self.view_is, c.calm.ensures)
    (woken_own _ _ _ _ _ c.args.pid c.in_ok-item.item c.self.invariant
    c.act.new.self.processes.list.items c.act.new.self.objects c.act.new.self.objects c.fall_asleep.new.objects
    c.act.new.self.blocked.items c.in_ok-item.ensures.acts c.in_ok-item.ensures.list c.in_ok-item.ensures.fewer c.in_ok-item.ensures.asleep
    (c.in_ok-item.ensures.unheld (sym c.is_local.ensures ∙ c.if-is_local.false)) (rw c.effect_of-effect.ensures.asleep at c.fall_asleep.ensures)
    c.fire_waits.new.objects c.fire_waits.ensures c.wake-woke.new.processes.list.items c.wake-woke.new.objects c.wake-woke.new.blocked.items
    c.started-started.result c.wake-woke.result (rw (
      c.add_blocked.ensures.items,
      then_asleep c.args.pid c.in_ok-item.item c.effect_of-effect.result c.effect_of-effect.ensures
          c.act.new.self.blocked.items,
    ) at c.wake-woke.ensures.turns) c.in_ok-item.ensures.own)

pub add_blocked-requires : goal.add_blocked-requires
add_blocked-requires c =
    let few : length (then_blocked c.args.pid c.in_ok-item.item c.act.new.self.blocked.items) ≤ length c.act.new.self.processes.list.items =
    no_more c.act.new.self.processes.list.items _ c.in_ok-item.ensures.list in
    omega (
      arith,
      few,
      ap length (then_asleep c.args.pid c.in_ok-item.item c.effect_of-effect.result c.effect_of-effect.ensures c.act.new.self.blocked.items),
      c.act.ensures.room,
    )

pub invariant_of-self-2 : goal.invariant_of-self-2
invariant_of-self-2 c = rw c.calm.ensures
    (woken_whole _ _ _ _ _ c.args.pid c.in_ok-item.item c.self.invariant
    c.act.new.self.processes.list.items c.act.new.self.objects c.act.new.self.objects c.fall_asleep.new.objects
    c.act.new.self.blocked.items c.in_ok-item.ensures.acts c.in_ok-item.ensures.list c.in_ok-item.ensures.fewer c.in_ok-item.ensures.asleep
    (c.in_ok-item.ensures.unheld (sym c.is_local.ensures ∙ c.if-is_local.false)) (rw c.effect_of-effect.ensures.asleep at c.fall_asleep.ensures)
    c.fire_waits.new.objects c.fire_waits.ensures c.wake-woke.new.processes.list.items c.wake-woke.new.objects c.wake-woke.new.blocked.items
    c.started-started.result c.wake-woke.result (rw (
      c.add_blocked.ensures.items,
      then_asleep c.args.pid c.in_ok-item.item c.effect_of-effect.result c.effect_of-effect.ensures
          c.act.new.self.blocked.items,
    ) at c.wake-woke.ensures.turns) (vec_capacity c.wake-woke.new.blocked)
    (omega (arith, same_length held _ _ c.wake-woke.ensures.turns.held, c.wake-woke.ensures.capacity, c.add_blocked.ensures.capacity, c.act.ensures.room)))

-- ---- nothing waits there

pub returns-then-is_quiet-clause-ran : goal.returns-then-is_quiet-clause-ran
returns-then-is_quiet-clause-ran c = rw (
  ← c.self.view_is,
  c.of-told.ensures.woke,
  c.add_blocked.ensures.items,
  then_asleep c.args.pid c.in_ok-item.item c.effect_of-effect.result c.effect_of-effect.ensures c.act.new.self.blocked.items,
)
    (tells_step
    (machine_value c.self.inside.library c.self.inside.parts.processes.list.items c.self.inside.parts.objects c.self.inside.parts.blocked.items) c.args.pid _
    c.in_ok-item.item c.started-started.result c.of-woke.result
    (quiet_step _ _ _ _ _ c.args.pid c.in_ok-item.item c.self.invariant
    c.act.new.self.processes.list.items c.act.new.self.objects c.act.new.self.objects c.fall_asleep.new.objects
    c.act.new.self.blocked.items c.in_ok-item.ensures.acts c.in_ok-item.ensures.list c.in_ok-item.ensures.fewer c.in_ok-item.ensures.asleep
    (c.in_ok-item.ensures.unheld (sym c.is_local.ensures ∙ c.if-is_local.false)) (rw c.effect_of-effect.ensures.asleep at c.fall_asleep.ensures)
    (c.is_quiet.ensures.waits c.if-is_quiet.true) (c.is_quiet.ensures.sleepers c.if-is_quiet.true) c.started-started.result c.of-woke.result
    c.of-woke.ensures.told) c.act.new.self.taken c.in_ok-item.ensures.child c.effect_of-effect.result c.effect_of-effect.ensures c.started-started.ensures)

pub returns-then-is_quiet-clause-own : goal.returns-then-is_quiet-clause-own
returns-then-is_quiet-clause-own c = rw (
  ← c.self.view_is,
  c.add_blocked.ensures.items,
  then_asleep c.args.pid c.in_ok-item.item c.effect_of-effect.result c.effect_of-effect.ensures c.act.new.self.blocked.items,
)
    (quiet_own _ _ _ _ _ c.args.pid c.in_ok-item.item c.self.invariant
    c.act.new.self.processes.list.items c.act.new.self.objects c.act.new.self.objects c.fall_asleep.new.objects
    c.act.new.self.blocked.items c.in_ok-item.ensures.acts c.in_ok-item.ensures.list c.in_ok-item.ensures.fewer c.in_ok-item.ensures.asleep
    (c.in_ok-item.ensures.unheld (sym c.is_local.ensures ∙ c.if-is_local.false)) (rw c.effect_of-effect.ensures.asleep at c.fall_asleep.ensures)
    (c.is_quiet.ensures.waits c.if-is_quiet.true) (c.is_quiet.ensures.sleepers c.if-is_quiet.true) c.in_ok-item.ensures.own)

pub invariant_of-self-then-is_quiet : goal.invariant_of-self-then-is_quiet
invariant_of-self-then-is_quiet c =
    rw (
      c.add_blocked.ensures.items,
      then_asleep c.args.pid c.in_ok-item.item c.effect_of-effect.result c.effect_of-effect.ensures c.act.new.self.blocked.items,
    ) (quiet_whole _ _ _ _ _ c.args.pid c.in_ok-item.item c.self.invariant
    c.act.new.self.processes.list.items c.act.new.self.objects c.act.new.self.objects c.fall_asleep.new.objects
    c.act.new.self.blocked.items c.in_ok-item.ensures.acts c.in_ok-item.ensures.list c.in_ok-item.ensures.fewer c.in_ok-item.ensures.asleep
    (c.in_ok-item.ensures.unheld (sym c.is_local.ensures ∙ c.if-is_local.false)) (rw c.effect_of-effect.ensures.asleep at c.fall_asleep.ensures)
    (c.is_quiet.ensures.waits c.if-is_quiet.true) (c.is_quiet.ensures.sleepers c.if-is_quiet.true) (vec_capacity c.add_blocked.new.blocked)
    (omega (arith, c.add_blocked.ensures.capacity, c.act.ensures.room)))

-- ---- a local instruction, behind which nothing is due

pub returns-then-is_local-clause-ran : goal.returns-then-is_local-clause-ran
returns-then-is_local-clause-ran c =
    let local : is_local c.in_ok-item.item ≡ true = sym c.is_local.ensures ∙ c.if-is_local.true in
    rw (← c.self.view_is) (tells_local
    (machine_value c.self.inside.library c.self.inside.parts.processes.list.items c.self.inside.parts.objects c.self.inside.parts.blocked.items) c.args.pid _
    c.in_ok-item.item None woke.Nobody
    (takes_local c.self.inside.library c.self.inside.parts.processes.list.items c.self.inside.parts.objects c.self.inside.parts.blocked.items c.args.pid
    c.act.new.self.processes.list.items c.act.new.self.objects c.act.new.self.blocked.items c.in_ok-item.item local
    c.in_ok-item.ensures.acts (c.in_ok-item.ensures.quiet local c.self.invariant.awake)) local refl)

pub returns-then-is_local-clause-own : goal.returns-then-is_local-clause-own
returns-then-is_local-clause-own c =
    let local : is_local c.in_ok-item.item ≡ true = sym c.is_local.ensures ∙ c.if-is_local.true in
    rw (← c.self.view_is)
    (own_stepped c.self.inside.library c.self.inside.parts.processes.list.items c.self.inside.parts.objects c.self.inside.parts.blocked.items c.args.pid
    c.in_ok-item.item c.act.new.self.processes.list.items c.act.new.self.processes.list.items c.act.new.self.objects c.act.new.self.blocked.items
    (left_in c.act.new.self (then_blocked c.args.pid c.in_ok-item.item c.act.new.self.blocked.items))
    c.act.ensures.consistent.processes_in_order refl c.in_ok-item.ensures.acts
    (local_awake c.args.pid c.act.new.self.processes.list.items c.act.new.self.objects c.act.new.self.blocked.items c.in_ok-item.item local
    (c.in_ok-item.ensures.quiet local c.self.invariant.awake)) c.in_ok-item.ensures.own)

pub invariant_of-self-then-is_local : goal.invariant_of-self-then-is_local
invariant_of-self-then-is_local c =
    let local : is_local c.in_ok-item.item ≡ true = sym c.is_local.ensures ∙ c.if-is_local.true in
    let taken : TakesStep (machine_value c.self.inside.library c.self.inside.parts.processes.list.items c.self.inside.parts.objects
    c.self.inside.parts.blocked.items) c.args.pid
    (machine_value c.self.inside.library c.act.new.self.processes.list.items c.act.new.self.objects c.act.new.self.blocked.items) c.in_ok-item.item
    = (takes_local c.self.inside.library c.self.inside.parts.processes.list.items c.self.inside.parts.objects c.self.inside.parts.blocked.items c.args.pid
    c.act.new.self.processes.list.items c.act.new.self.objects c.act.new.self.blocked.items c.in_ok-item.item local
    c.in_ok-item.ensures.acts (c.in_ok-item.ensures.quiet local c.self.invariant.awake)).takes in
    let list : AreBlocked c.act.new.self.processes.list.items c.act.new.self.blocked.items =
    subst (λ (ks : List ℕ). AreBlocked c.act.new.self.processes.list.items ks)
    (local_list c.args.pid c.in_ok-item.item c.act.new.self.blocked.items local) c.in_ok-item.ensures.list in
    let known : (k : ℕ) (a : Awaited) → Seeks c.self.inside.parts.objects k a → Seeks c.act.new.self.objects k a =
    λ k a there. same_seeks c.self.inside.parts.objects c.act.new.self.objects c.in_ok-item.ensures.asleep k a there in
    let none : fell_asleep c.in_ok-item.item ≡ false = silent c.in_ok-item.item local in
    stepped_whole _ _ _ _ _ c.args.pid c.in_ok-item.item c.self.invariant
    c.act.new.self.processes.list.items c.act.new.self.objects c.act.new.self.blocked.items (vec_capacity c.act.new.self.blocked) taken
    c.act.ensures.consistent list
    (acted_sought c.self.inside.library c.self.inside.parts.processes.list.items c.act.new.self.processes.list.items c.self.inside.parts.objects
    c.act.new.self.objects
    c.act.new.self.objects c.self.inside.parts.blocked.items c.act.new.self.blocked.items c.args.pid c.in_ok-item.item c.self.invariant.sound
    c.in_ok-item.ensures.acts c.self.invariant.are_blocked c.in_ok-item.ensures.list c.in_ok-item.ensures.fewer c.self.invariant.sought
    known (λ told. absurd (false≢true (sym none ∙ told)))) (rw (local_list c.args.pid c.in_ok-item.item c.act.new.self.blocked.items local) at
    (acted_ordered c.self.inside.library c.self.inside.parts.processes.list.items c.act.new.self.processes.list.items c.self.inside.parts.objects
    c.act.new.self.objects
    c.act.new.self.objects c.self.inside.parts.blocked.items c.act.new.self.blocked.items c.args.pid c.in_ok-item.item c.self.invariant.sound
    c.in_ok-item.ensures.acts c.self.invariant.are_blocked c.in_ok-item.ensures.list c.in_ok-item.ensures.fewer c.self.invariant.sought
    known (λ told. absurd (false≢true (sym none ∙ told))) c.self.invariant.ordered (λ silent_so. c.in_ok-item.ensures.asleep)
    (λ told. absurd (false≢true (sym none ∙ told))))) c.act.ensures.room

-- ---- whom it may have killed

pub returns-then-is_quiet-clause-killed : goal.returns-then-is_quiet-clause-killed
returns-then-is_quiet-clause-killed c = rw (← c.self.view_is)
    (told_killed c.self.inside.library (world_blocked c.self.inside.parts.processes.list.items c.self.inside.parts.objects c.self.inside.parts.blocked.items)
    c.args.pid (killed_of c.of-told.result) c.act.new.self.taken.killed c.of-told.ensures.killed c.in_ok-item.ensures.task)

pub returns-clause-killed : goal.returns-clause-killed
returns-clause-killed c = rw (← c.self.view_is)
    (told_killed c.self.inside.library (world_blocked c.self.inside.parts.processes.list.items c.self.inside.parts.objects c.self.inside.parts.blocked.items)
    c.args.pid (killed_of c.of-told-2.result) c.act.new.self.taken.killed c.of-told-2.ensures.killed c.in_ok-item.ensures.task)

-- ---- what is told fits the item

pub returns-then-is_local-clause-told : goal.returns-then-is_local-clause-told
returns-then-is_local-clause-told c = local_fits c.in_ok-item.item (sym c.is_local.ensures ∙ c.if-is_local.true)

pub returns-then-is_quiet-clause-told : goal.returns-then-is_quiet-clause-told
returns-then-is_quiet-clause-told c =
    fits_item c.in_ok-item.item c.effect_of-effect.result c.of-told.result c.effect_of-effect.ensures c.of-told.ensures.fits

pub returns-clause-told : goal.returns-clause-told
returns-clause-told c = fits_item c.in_ok-item.item c.effect_of-effect.result c.of-told-2.result c.effect_of-effect.ensures c.of-told-2.ensures.fits
