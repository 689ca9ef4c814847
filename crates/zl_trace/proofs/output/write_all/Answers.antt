use Rattle.zl_trace.proofs.Common.{Appends-kept, arith, ◌+◌}
use Rattle.zl_trace.proofs.KnownOutput.{appended_more, begun_by_front}
use Rattle.zl_trace.proofs.output.write_all.Goals as goal

pub loop-done-preserved : goal.loop-done-preserved
loop-done-preserved g c = record {
  within = omega (arith, c.in-Ok.ensures.bound);
  appended = appended_more _ _ _ c.args.bytes.now c.loop-done.done c.in-Ok.count c.loop-done.invariant.appended c.in-Ok.ensures.bytes;
}

pub returns-in-Ok-eq0-clause-err : goal.returns-in-Ok-eq0-clause-err
returns-in-Ok-eq0-clause-err g c =
    begun_by_front _ _ c.args.bytes.now (c.loop-done.done + c.in-Ok-eq0.field-0)
    (appended_more _ _ _ c.args.bytes.now c.loop-done.done c.in-Ok-eq0.field-0 c.loop-done.invariant.appended c.in-Ok-eq0.ensures.bytes)

pub returns-in-Err-clause-err : goal.returns-in-Err-clause-err
returns-in-Err-clause-err g c =
    begun_by_front _ _ c.args.bytes.now c.loop-done.done (Appends-kept _ _ _ _ c.loop-done.invariant.appended c.in-Err.ensures.bytes)
