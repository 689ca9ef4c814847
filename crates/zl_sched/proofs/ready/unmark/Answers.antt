use Rattle.zl_sched.proofs.Common.{filter_same, rules}
use Rattle.zl_sched.proofs.ready.unmark.Goals as goal

pub returns : goal.returns
returns c = record { items = filter_same _ _ _ (λ x b f' k. search rules) _ _ c.retain.ensures.filtered }
