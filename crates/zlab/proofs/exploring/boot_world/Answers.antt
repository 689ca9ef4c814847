use Rattle.zlab.proofs.Common.{reading_value}
use Rattle.zlab.proofs.Booting.{is_begun, reading_fault, statement_fault}
use Rattle.zlab.specs.Exploring.{Begins}
use Rattle.zlab.proofs.exploring.boot_world.Goals.{in-Some, in-None}
use Rattle.zlab.proofs.exploring.boot_world.Goals as goal

pub returns-in-Err-clause-ok : goal.returns-in-Err-clause-ok
returns-in-Err-clause-ok c =
    let made = c.in_ok-scenario.field-0 in
    let read = c.in_ok-scenario.ensures in
    let refused = c.in-Err.ensures {u = tt} in
    let told = c.in_ok-fault_of_boot-in-Err.ensures in
    statement_fault c.args.text.now c.requires made.scenario (reading_value made) read.read read.scenario (read.in_order (reading_value made) read.read)
    c.in-Err.refused.statement c.in-Err.refused.cause c.in_ok-fault_of_boot-in-Err.field-0
    refused.err told.cause (rw c.as_slice.ensures.value at told.line)

pub returns-clause-ok : goal.returns-clause-ok
returns-clause-ok c =
    let made = c.in_ok-scenario.field-0 in
    let read = c.in_ok-scenario.ensures in
    let order = read.in_order (reading_value made) read.read in
    let booted = c.in-Ok.ensures {u = tt} in
    elim c.match-fault.branch as (λ _. Begins c.args.text.now c.match-fault.result) [
      | in-Some w ↦ rw w.result-is (reading_fault c.args.text.now c.requires made.scenario (reading_value made) read.read read.scenario order
          c.in-Ok.world.world w.in-Some.fault booted.ok w.in-Some.is)
      | in-None w ↦ rw w.result-is
          (is_begun c.args.text.now c.requires made.scenario (reading_value made) read.read read.scenario order c.in-Ok.world
          w.in-None.is booted.programs booted.sized booted.own)
    ]
