use Rattle.zl_objects.proofs.Common.{All-more, All-same, NoneDueAt, sym, take_all, ◌∙◌}
use Rattle.zl_objects.proofs.sleepers.Sleepers.due_among.Goals as goal

pub loop-koid-preserved : goal.loop-koid-preserved
loop-koid-preserved c = record {
  list = c.due_at.ensures.list ∙ c.loop-koid.invariant.list;
  crowded = c.due_at.ensures.crowded ∙ c.loop-koid.invariant.crowded;
  none = All-more (λ k. NoneDueAt c.args.by_koid.now.entries k c.args.self.now.list.items) c.args.koids.now c.loop-koid.koid-index 0 c.loop-koid-test.true
      c.loop-koid.invariant.none (rw c.loop-koid.invariant.list at c.in_default.ensures.none);
}

pub returns-clause-none : goal.returns-clause-none
returns-clause-none c = All-same (λ k. NoneDueAt c.args.by_koid.now.entries k c.args.self.now.list.items) _ _
    (sym (take_all c.loop-koid.koid-index c.args.koids.now c.loop-koid-test.false)) c.loop-koid.invariant.none
