use Rattle.zl_explore.specs.Bad.{FitsState}
use Rattle.zl_explore.proofs.Lists.{NoneHolds}
use Rattle.zl_explore.proofs.bad.names_one.Given as goal

abbrev pub invariant-loop-pid : goal.invariant-loop-pid
invariant-loop-pid l = NoneHolds l.states (FitsState l.fn.bad) l.pid-index
