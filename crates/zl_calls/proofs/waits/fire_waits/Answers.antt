use Rattle.zl_calls.proofs.Common.{refl}
use Rattle.zl_calls.proofs.waits.FiringWorlds.{all_fired, fewer_left, turn_fired}
use Rattle.zl_calls.proofs.waits.fire_waits.Goals as goal

pub loop-due-init : goal.loop-due-init
loop-due-init c = record { before = refl; consistent = c.requires; so_far = λ blocked. refl; asleep = (refl, refl) }

pub earliest_due-requires : goal.earliest_due-requires
earliest_due-requires c = c.loop-due.invariant.before

pub loop-due-smaller : goal.loop-due-smaller
loop-due-smaller c =
    rw (c.fire.ensures.rest)
    (fewer_left c.args.processes.now.list.items c.args.objects.now c.loop-due.place c.loop-due.objects c.loop-due.invariant c.in-Some.due.koid
    c.in-Some.due.active.0 (c.in-Some.ensures {u = tt}).active (c.in-Some.ensures {u = tt}).object)

pub loop-due-preserved : goal.loop-due-preserved
loop-due-preserved c =
    rw (c.fire.ensures.rest)
    (turn_fired c.args.processes.now.list.items c.args.objects.now c.loop-due.place c.loop-due.objects c.loop-due.invariant c.in-Some.due.koid
    c.in-Some.due.active.0 (c.in-Some.ensures {u = tt}).active (c.in-Some.ensures {u = tt}).object c.fire.result c.fire.ensures.earliest
    c.fire.ensures.listed c.in-Some.due.place (c.in-Some.ensures {u = tt}).before)

pub returns : goal.returns
returns c =
    all_fired c.args.processes.now.list.items c.args.objects.now c.loop-due.place c.loop-due.objects c.loop-due.invariant (c.in_default.ensures {u = tt}).object
