use Rattle.zl_calls.proofs.Common.{refl}
use Rattle.zl_calls.proofs.waits.WaitsLost.{listed_same}
use Rattle.zl_calls.proofs.tables.Taking.{none_goes, closes_more}
use Rattle.zl_calls.proofs.calls.handle.close_each.Goals as goal

pub loop-value-init : goal.loop-value-init
loop-value-init c = record { closes = record { table = refl; objects = none_goes c.args.objects.now; listed = listed_same c.args.objects.now } }

pub loop-value-preserved : goal.loop-value-preserved
loop-value-preserved c = record {
  closes =
      closes_more c.args.values.now c.loop-value.value-index _ c.loop-value-test.true c.args.table.now c.loop-value.table c.close.new.table c.args.objects.now
      c.loop-value.objects c.close.new.objects c.loop-value.invariant.closes c.close.ensures.table c.close.ensures.objects c.close.ensures.listed;
}
