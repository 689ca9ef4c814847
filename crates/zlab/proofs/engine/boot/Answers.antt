use Rattle.zlab.proofs.Common.{Starts, reading_value, refl}
use Rattle.zlab.proofs.Booting.{statement_fault, reading_fault, is_start}
use Rattle.zlab.proofs.engine.boot.Goals.{in-Some, in-None}
use Rattle.zlab.proofs.engine.boot.Goals as goal

pub returns-in-Err-clause-ok : goal.returns-in-Err-clause-ok
returns-in-Err-clause-ok c =
    let made = c.in_ok-scenario.field-0 in
    let read = c.in_ok-scenario.ensures in
    let refused = c.in-Err.ensures {u = tt} in
    let told = c.in_ok-fault_of_boot-in-Err.ensures in
    statement_fault c.args.text.now c.requires.fits made.scenario (reading_value made) read.read read.scenario (read.in_order (reading_value made) read.read)
    c.in-Err.refused.statement c.in-Err.refused.cause c.in_ok-fault_of_boot-in-Err.field-0
    refused.err told.cause (rw c.as_slice.ensures.value at told.line)

pub returns-clause-ok : goal.returns-clause-ok
returns-clause-ok c =
    let made = c.in_ok-scenario.field-0 in
    let read = c.in_ok-scenario.ensures in
    let order = read.in_order (reading_value made) read.read in
    let booted = (c.in-Ok.ensures {u = tt}).ok in
    elim c.match-fault.branch as (λ _. Starts c.args.text.now c.match-fault.result) [
      | in-Some w ↦ rw w.result-is (reading_fault c.args.text.now c.requires.fits made.scenario (reading_value made) read.read read.scenario order
          c.in-Ok.system.machine.world w.in-Some.fault booted.boots.boots w.in-Some.is)
      | in-None w ↦ rw w.result-is
          (is_start c.args.text.now c.requires.fits made.scenario (reading_value made) read.read read.scenario order c.in-Ok.system made.scenario.schedule.items
          w.in-None.is booted.programs booted.sized booted.own booted.items booted.out booted.limit_is refl)
    ]
