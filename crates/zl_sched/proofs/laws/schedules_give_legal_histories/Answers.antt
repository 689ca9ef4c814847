use Rattle.zl_sched.proofs.Legal.{ends_legal}
use Rattle.zl_sched.proofs.laws.schedules_give_legal_histories.Goals as goal

pub returns : goal.returns
returns c = ends_legal
