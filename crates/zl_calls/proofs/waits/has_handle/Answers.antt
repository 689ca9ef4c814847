use Rattle.zl_calls.proofs.waits.Ending.{has_at}
use Rattle.zl_calls.proofs.waits.has_handle.Goals as goal

pub returns-in-Some : goal.returns-in-Some
returns-in-Some c =
    rw (c.is_some.ensures, c.get.ensures) (has_at c.args.processes.now.list.items c.args.pid c.in-Some.place c.args.value c.index.result.now
    (c.in-Some.ensures {u = tt}).found c.index.ensures)
