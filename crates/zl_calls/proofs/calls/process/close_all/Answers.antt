use Rattle.zl_calls.proofs.Common.{[]}
use Rattle.zl_calls.proofs.waits.OwnWaits.{beside_releases, own_ended, own_ends, own_starts}
use Rattle.zl_calls.proofs.tables.Tables.{drained_is_shorter, drained_closes, all_closed}
use Rattle.zl_calls.proofs.calls.process.close_all.Goals as goal

pub loop-value-init : goal.loop-value-init
loop-value-init c = record { closes = λ r2 rest. rest; waits = own_starts c.args.pid c.args.table.entries c.args.objects.now }

pub loop-value-smaller : goal.loop-value-smaller
loop-value-smaller c = drained_is_shorter _ c.in-Some.value _ _ c.in-Some.ensures.some

pub loop-value-preserved : goal.loop-value-preserved
loop-value-preserved c = record {
  closes = λ r2 rest.
      c.loop-value.invariant.closes r2 (drained_closes _ c.in-Some.value _ _ c.loop-value.objects c.release.new.self r2 c.in-Some.ensures.some
      (beside_releases _ [] c.loop-value.objects c.end_made_at.new.objects c.release.new.self c.end_made_at.ensures.beside c.release.ensures.releases) rest);
  waits = own_ends c.args.pid c.args.table.entries c.args.objects.now c.loop-value.table c.in-Some.value c.in-Some.entry c.drain.new.self
      c.loop-value.objects c.end_made_at.new.objects c.release.new.self c.loop-value.invariant.waits c.in-Some.ensures.some c.end_made_at.ensures
      c.release.ensures.releases c.release.ensures.listed;
}

pub returns-clause-closes : goal.returns-clause-closes
returns-clause-closes c =
    c.loop-value.invariant.closes c.loop-value.objects (all_closed c.loop-value.table c.loop-value.objects (c.in_default.ensures {u = tt}).empty)

pub returns-clause-waits : goal.returns-clause-waits
returns-clause-waits c =
    own_ended c.args.pid c.args.table.entries c.args.objects.now c.loop-value.table c.loop-value.objects (c.in_default.ensures {u = tt}).empty
    c.loop-value.invariant.waits
