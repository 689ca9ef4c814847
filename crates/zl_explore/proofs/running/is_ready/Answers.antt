use Rattle.zl_code.proofs.Common.{sym, ◌∙◌}
use Rattle.zl_explore.proofs.ReadyProcess.{busy_by, ready_by}
use Rattle.zl_explore.proofs.running.is_ready.Goals as goal

pub returns-in-Ready : goal.returns-in-Ready
returns-in-Ready c = sym (ready_by c.args.world.now c.args.pid (sym c.state_of.ensures ∙ c.in-Ready.is))

pub returns-in_default : goal.returns-in_default
returns-in_default c = sym (busy_by c.args.world.now c.args.pid (λ is. c.in_default.not-Ready (c.state_of.ensures ∙ is)))
