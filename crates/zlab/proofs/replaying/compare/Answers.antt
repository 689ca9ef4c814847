use Rattle.zlab.proofs.Common.{reading_value, sym, ◌∙◌}
use Rattle.zlab.proofs.Answering.{mapped_ok}
use Rattle.zlab.proofs.ReplayFound.{boots_of, comes_of, fault_of_reading, fault_of_statement}
use Rattle.zlab.proofs.replaying.compare.Goals as goal

pub returns-in-Some-2-clause-ok : goal.returns-in-Some-2-clause-ok
returns-in-Some-2-clause-ok c trace is =
    let made = c.in_ok-scenario.field-0 in
    let read = c.in_ok-scenario.ensures in
    fault_of_statement c.args.text.now c.requires.fits made.scenario (reading_value made) read.read read.scenario
    (read.in_order (reading_value made) read.read) c.in-Some-2.earlier (rw c.in-Some-2.is at c.in_ok-earlier-in-Some.ensures.found)

pub returns-in-None-2-clause-ok : goal.returns-in-None-2-clause-ok
returns-in-None-2-clause-ok c trace is =
    let made = c.in_ok-scenario.field-0 in
    let read = c.in_ok-scenario.ensures in
    let booted = rw c.in-None-2.is at c.in_ok-earlier-in-Some.ensures.none in
    fault_of_reading c.args.text.now c.requires.fits made.scenario (reading_value made) read.read read.scenario
    (read.in_order (reading_value made) read.read) booted.0 c.in-Some.fault booted.1 (sym c.alone.ensures ∙ c.in-Some.is)

pub returns-in-Some-3-clause-ok : goal.returns-in-Some-3-clause-ok
returns-in-Some-3-clause-ok c trace is =
    let made = c.in_ok-scenario.field-0 in
    let read = c.in_ok-scenario.ensures in
    fault_of_statement c.args.text.now c.requires.fits made.scenario (reading_value made) read.read read.scenario
    (read.in_order (reading_value made) read.read) c.in-Some-3.first (rw c.in-Some-3.is at c.in_ok-first-in-Faulty.ensures.found)

pub returns-in-None-3-clause-ok : goal.returns-in-None-3-clause-ok
returns-in-None-3-clause-ok c trace is =
    let made = c.in_ok-scenario.field-0 in
    let read = c.in_ok-scenario.ensures in
    let booted = rw c.in-None-3.is at c.in_ok-first-in-Faulty.ensures.none in (
      boots_of c.args.text.now c.requires.fits made.scenario (reading_value made) read.read read.scenario (read.in_order (reading_value made) read.read)
          (sym c.alone.ensures ∙ c.in-None.is) booted.0 booted.1,
      rw c.in-Faulty.is at (c.in_ok-fault-in-None.ensures.ok trace is),
    )

pub returns-clause-ok : goal.returns-clause-ok
returns-clause-ok c =
    let made = c.in_ok-scenario.field-0 in
    let read = c.in_ok-scenario.ensures in
    mapped_ok c.replay_items.result _ _
    (λ found comes trace is. comes_of c.args.text.now c.requires.fits made.scenario (reading_value made) read.read read.scenario
    (read.in_order (reading_value made) read.read) (sym c.alone.ensures ∙ c.in-None.is) trace c.in-All.items.items found
    (rw c.in-All.is at (c.in_ok-fault-in-None.ensures.ok trace is)) (rw c.as_slice.ensures.value at comes))
    c.replay_items.ensures.ok
