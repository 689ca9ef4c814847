use Rattle.zl_objects.proofs.Common.{arith}
use Rattle.zl_objects.proofs.Walks.{kill_begins, kill_ends, kill_goes_on, there_before}
use Rattle.zl_objects.proofs.killing.kill_all.Goals as goal

pub loop-koid-init : goal.loop-koid-init
loop-koid-init c = record { killed = kill_begins c.args.by_koid.now.entries c.args.task; calm = λ next sleepers calm. calm }

pub loop-koid-preserved : goal.loop-koid-preserved
loop-koid-preserved c = record {
  killed = kill_goes_on c.args.by_koid.now.entries c.loop-koid.by_koid.entries c.kill_if.new.by_koid.entries c.args.task c.loop-koid.from c.in-Some.koid
      c.is_within-kills.result c.loop-koid.invariant.killed c.next_from.ensures.ordered (c.in-Some.ensures {u = tt}).next c.is_within-kills.ensures
      c.kill_if.ensures.killed;
  calm = λ next sleepers calm. c.kill_if.ensures.calm next sleepers (c.loop-koid.invariant.calm next sleepers calm);
}

pub returns-clause-killed : goal.returns-clause-killed
returns-clause-killed c =
    kill_ends c.args.by_koid.now.entries c.loop-koid.by_koid.entries c.args.task c.loop-koid.from c.loop-koid.invariant.killed
    (c.in_default.ensures {u = tt}).next

-- each koid lies below the end
pub overflow_add-from : goal.overflow_add-from
overflow_add-from c = omega (
  arith,
  c.ranges.end.fits,
  c.requires.below c.in-Some.koid
      (there_before c.args.by_koid.now.entries c.loop-koid.by_koid.entries c.args.task c.loop-koid.from c.in-Some.koid c.loop-koid.invariant.killed
      (c.in-Some.ensures {u = tt}).next.there),
)
