use Rattle.zl_trace.proofs.Common.{sym, true≢false, ◌∙◌}
use Rattle.zl_trace.proofs.Replayed.{differs_by}
use Rattle.zl_trace.proofs.replaying.repeat_step.Goals as goal

pub returns-clause-other : goal.returns-clause-other
returns-clause-other c other =
    differs_by c.args.world.now c.args.pid c.args.item c.in-Some.own c.step.new.self c.requires.pid (c.in-Some.ensures {u = tt}).ran.takes
    (c.in-Some.ensures {u = tt}).own
    (λ same. true≢false (sym (c.is_same.ensures.1 same) ∙ other))
