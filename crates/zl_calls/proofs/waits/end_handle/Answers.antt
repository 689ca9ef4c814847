use Rattle.zl_calls.proofs.Common.{is_by_handle}
use Rattle.zl_calls.proofs.waits.TakenEnds.{all_at}
use Rattle.zl_calls.proofs.waits.end_handle.Goals as goal

pub returns : goal.returns
returns c = all_at c.args.koid (is_by_handle c.args.pid c.args.value) c.args.objects.now c.requires c.end_made_at.new.objects c.end_made_at.ensures
