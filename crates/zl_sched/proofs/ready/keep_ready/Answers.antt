use Rattle.zl_sched.proofs.Common.{filter_same, rules}
use Rattle.zl_sched.proofs.ready.keep_ready.Goals as goal

pub returns-clause-items : goal.returns-clause-items
returns-clause-items c = filter_same _ _ _ (λ x b f' k. search rules) _ _ c.retain.ensures.filtered
