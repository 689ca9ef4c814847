use Rattle.zl_calls.proofs.Common.{[]}
use Rattle.zl_calls.proofs.waits.WaitsLost.{listed_gone, listed_same, listed_then}
use Rattle.zl_calls.proofs.tables.Taking.{none_goes, released_more}
use Rattle.zl_calls.proofs.calls.channel.writing.release_each.Goals as goal

pub loop-handle-init : goal.loop-handle-init
loop-handle-init c = record { releases = none_goes c.args.objects.now; listed = listed_same c.args.objects.now }

pub loop-handle-preserved : goal.loop-handle-preserved
loop-handle-preserved c = record {
  releases = released_more c.args.handles.now c.loop-handle.handle-index _ c.loop-handle-test.true c.args.objects.now c.loop-handle.objects c.release.new.self
      c.loop-handle.invariant.releases c.release.ensures.releases;
  listed = listed_then c.args.objects.now c.loop-handle.objects c.release.new.self c.loop-handle.invariant.listed
      (listed_gone _ [] c.loop-handle.objects c.release.new.self c.release.ensures.releases c.release.ensures.listed);
}
