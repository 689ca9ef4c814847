use Rattle.zl_calls.proofs.Common.{TakesStep, TraceItem, false≢true, subst}
use Rattle.zl_calls.proofs.step.StepItems.{performs, unready_no_call, wants_memory}
use Rattle.zl_calls.proofs.world.World.perform.Goals as goal

pub unreachable-requires : goal.unreachable-requires
unreachable-requires c = false≢true (rw (unready_no_call c.args.self.now c.args.pid ((c.in_default.ensures {u = tt}).not_ready)) at c.requires)

pub returns-clause-steps : goal.returns-clause-steps
returns-clause-steps c = rw c.put_back.ensures (performs c.args.self.now c.step.new.self c.args.pid c.in-Call.pid c.in-Call.call c.in-Call.outcome
    (subst (λ (x : TraceItem). TakesStep c.args.self.now c.args.pid c.step.new.self x) c.in-Call.is ((c.in-Some.ensures {u = tt}).ran.takes)))

pub returns-clause-no_memory : goal.returns-clause-no_memory
returns-clause-no_memory c = wants_memory c.args.self.now c.step.new.self c.args.pid c.in-Call.pid c.in-Call.call c.in-Call.outcome
    (subst (λ (x : TraceItem). TakesStep c.args.self.now c.args.pid c.step.new.self x) c.in-Call.is ((c.in-Some.ensures {u = tt}).ran.takes))
