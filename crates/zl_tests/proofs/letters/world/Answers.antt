use Rattle.zl_calls.specs.World.{own_here}
use Rattle.zl_explore.proofs.Still.{still_boot}
use Rattle.zl_tests.proofs.letters.world.Goals as goal

pub returns-in-Ok : goal.returns-in-Ok
returns-in-Ok c = still_boot _ _ (own_here c.in-Ok.world) (c.in-Ok.ensures {u = tt}).ok (c.in-Ok.ensures {u = tt}).own
