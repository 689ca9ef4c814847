-- What counts of a world for what comes: of a process that is over, not what it computed with.
use Rattle.std.specs.Prelude.{[], if◌then◌else◌}
use Rattle.zl_rights.specs.Common.{each, lives, World, Process, Cpu}
use Rattle.zl_code.specs.Own.{OwnWorld}

-- a Cpu of which nothing is left
abbrev pub no_cpu : Cpu
no_cpu = record { counter = 0; registers = []; memory = []; slots = []; counters = [] }

-- the process; of one that is over, its Cpu doesn't count
abbrev pub rested_process : Process → Process
rested_process q = record q { cpu = if lives q.state then q.cpu else no_cpu }

-- so it is of each
abbrev pub rested : World → World
rested w = record w { processes = each (λ k q. rested_process q) w.processes }

abbrev pub own_rested : OwnWorld → OwnWorld
own_rested o = record o { world = rested o.world }
