use Rattle.zl_objects.proofs.Common.{List, ap, arith, killed_among, sym, take_all, take_more, ℕ, ◌∙◌}
use Rattle.zl_objects.proofs.Descending.{none_among, one_among}
use Rattle.zl_objects.proofs.killing.kill_each.Goals as goal

pub loop-koid-init : goal.loop-koid-init
loop-koid-init c = record { killed = none_among c.args.by_koid.now.entries c.args.task c.requires.in_order; calm = λ next sleepers calm. calm }

pub loop-koid-preserved : goal.loop-koid-preserved
loop-koid-preserved c = record {
  killed = one_among c.args.by_koid.now.entries c.args.task c.requires.in_order c.loop-koid.by_koid.entries c.kill_if.new.by_koid.entries _ _
      c.is_within-kills.result c.loop-koid.invariant.killed c.is_within-kills.ensures c.kill_if.ensures.killed
      ∙ ap (λ (ks : List ℕ). killed_among c.args.by_koid.now.entries c.args.task ks)
      (sym (take_more c.args.koids.now c.loop-koid.koid-index 0 c.loop-koid-test.true));
  calm = λ next sleepers calm. c.kill_if.ensures.calm next sleepers (c.loop-koid.invariant.calm next sleepers calm);
}

pub returns-clause-killed : goal.returns-clause-killed
returns-clause-killed c =
    c.loop-koid.invariant.killed ∙ ap (λ (ks : List ℕ). killed_among c.args.by_koid.now.entries c.args.task ks)
    (take_all c.loop-koid.koid-index c.args.koids.now (omega (arith, c.loop-koid-test.false)))
