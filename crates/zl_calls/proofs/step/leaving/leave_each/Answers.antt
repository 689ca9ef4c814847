use Rattle.zl_calls.proofs.Common.{arith, drop, get_or, slice_get_past, suc, ◌+◌, ◌∷◌, ◌≡◌}
use Rattle.std.proofs.lemmas.List.{drop_all}
use Rattle.zl_calls.proofs.lists.FilterInPlace.{drop_here}
use Rattle.zl_calls.proofs.processes.Started.{all_leaving, none_leaving, none_there, one_leaving}
use Rattle.zl_calls.proofs.step.leaving.leave_each.Goals.{in-Some, in_default}
use Rattle.zl_calls.proofs.step.leaving.leave_each.Goals as goal

pub loop-place-init : goal.loop-place-init
loop-place-init c = none_leaving c.args.objects.now c.args.processes.now.items c.args.processes.now.items c.args.places.now c.requires

pub loop-place-preserved : goal.loop-place-preserved
loop-place-preserved c =
    let places : drop c.loop-place.place-index c.args.places.now
    ≡ get_or c.args.places.now c.loop-place.place-index 0 ∷ drop (suc c.loop-place.place-index) c.args.places.now
    = drop_here c.args.places.now c.loop-place.place-index 0 c.loop-place-test.true in
    let next : suc c.loop-place.place-index ≡ c.loop-place.place-index + 1 = omega arith in
    elim c.match-get_mut.branch [
      | in-Some w ↦ rw (w.processes-is, ← next)
          (one_leaving c.args.objects.now c.args.processes.now.items c.loop-place.processes.items (get_or c.args.places.now c.loop-place.place-index 0)
          (drop (suc c.loop-place.place-index) c.args.places.now) (rw places at c.loop-place.invariant) w.in-Some.process.now w.leave_one.new.process
          ((w.in-Some.ensures {u = tt}).value) w.leave_one.ensures)
      | in_default w ↦ rw (w.processes-is, ← next)
          (none_there c.args.objects.now c.args.processes.now.items c.loop-place.processes.items (get_or c.args.places.now c.loop-place.place-index 0)
          (drop (suc c.loop-place.place-index) c.args.places.now) (rw places at c.loop-place.invariant)
          (slice_get_past c.loop-place.processes.items (get_or c.args.places.now c.loop-place.place-index 0)
          (w.in_default.ensures {u = tt}).item.3))
    ]

pub returns : goal.returns
returns c =
    all_leaving c.args.objects.now c.args.processes.now.items c.loop-place.processes.items (drop c.loop-place.place-index c.args.places.now)
    (drop_all c.loop-place.place-index c.args.places.now (omega (arith, c.loop-place-test.false))) c.loop-place.invariant
