use Rattle.zl_trace.proofs.Common.{arith}
use Rattle.zl_trace.proofs.KnownOutput.{on_err}
use Rattle.zl_trace.proofs.States.{one_more_state, begun_state, all_states}
use Rattle.zl_trace.proofs.writing.write_states.Goals as goal

pub returns-in_err-write_state-clause-err : goal.returns-in_err-write_state-clause-err
returns-in_err-write_state-clause-err g c =
    on_err c.from_residual.result
    (begun_state c.args.world.now c.loop-n.n c.in-Some.pid c.state_of.result c.process_at.ensures.in_order (c.in-Some.ensures {u = tt}).koid c.state_of.ensures
    _ _ _ _ _ c.loop-n.invariant (c.in_err-write_state.ensures).err)

pub loop-n-preserved : goal.loop-n-preserved
loop-n-preserved g c =
    one_more_state c.args.world.now c.loop-n.n c.in-Some.pid c.state_of.result c.process_at.ensures.in_order
    (c.in-Some.ensures {u = tt}).koid c.state_of.ensures _ _ _ _ _ c.loop-n.invariant _ (c.in_ok-write_state.ensures).ok

pub returns-clause-ok : goal.returns-clause-ok
returns-clause-ok g c = all_states c.args.world.now c.loop-n.n _ _ _ _ c.loop-n.invariant (omega arith)
