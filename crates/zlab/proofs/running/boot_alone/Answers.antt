use Rattle.zlab.proofs.Common.{IsFirstFaultBy, fault_alone, reading_value, subst, sym, ◌∙◌}
use Rattle.zlab.proofs.ThreadRuns.{first_of_both, first_of_statements}
use Rattle.zlab.proofs.running.boot_alone.Goals as goal

pub returns-in-Some-clause-ok : goal.returns-in-Some-clause-ok
returns-in-Some-clause-ok c =
    let made = c.in_ok-scenario.field-0 in
    let read = c.in_ok-scenario.ensures in
    subst (IsFirstFaultBy fault_alone c.args.text.now) (sym c.unwrap_or.ensures)
    (first_of_both c.args.text.now c.requires.fits made.scenario (reading_value made) read.read read.scenario (read.in_order (reading_value made) read.read)
    c.in_ok-earlier.earlier c.in-Some.fault c.in_ok-earlier.ensures.found c.in_ok-earlier.ensures.none (sym c.alone.ensures ∙ c.in-Some.is))

pub returns-clause-ok : goal.returns-clause-ok
returns-clause-ok c =
    let made = c.in_ok-scenario.field-0 in
    let read = c.in_ok-scenario.ensures in
    let refused = c.in-Err.ensures {u = tt} in
    let told = c.in_ok-fault_of_boot-in-Err.ensures in
    first_of_statements c.args.text.now c.requires.fits made.scenario (reading_value made) read.read read.scenario
    (read.in_order (reading_value made) read.read) c.args.limit c.requires.limit c.in-Err.refused.statement c.in-Err.refused.cause
    c.in_ok-fault_of_boot-in-Err.field-0 refused.err told.cause (rw c.as_slice.ensures.value at told.line)
