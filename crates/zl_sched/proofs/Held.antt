-- The system that a struct holds, by what its fields hold.
use Rattle.zl_sched.proofs.Common.{System}
use Rattle.zl_sched.specs.declared.system.System.TheInside.{Inside}

abbrev pub held : Inside → System
held i =
    record { machine = i.world; items = i.items.items; statements = i.boot.statements.items; limit = i.boot.limit; ready = i.ready.items; out = i.out.items }
