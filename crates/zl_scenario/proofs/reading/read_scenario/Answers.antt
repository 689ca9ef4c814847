use Rattle.zl_scenario.proofs.InOrder.{text_in_order}
use Rattle.zl_scenario.proofs.ReadingOn.{as_said}
use Rattle.zl_scenario.proofs.ReadOnce.{read_once}
use Rattle.zl_scenario.proofs.WholeBlocks.{blocks_are_whole}
use Rattle.zl_scenario.proofs.reading.read_scenario.Goals as goal

pub returns-in_err-fault-clause-in_order : goal.returns-in_err-fault-clause-in_order
returns-in_err-fault-clause-in_order c reading = text_in_order c.args.text.now reading

pub returns-in_err-fault-clause-blocks : goal.returns-in_err-fault-clause-blocks
returns-in_err-fault-clause-blocks c = blocks_are_whole

pub returns-in_err-fault-clause-once : goal.returns-in_err-fault-clause-once
returns-in_err-fault-clause-once c = read_once

pub returns-in_err-fault-clause-as_said : goal.returns-in_err-fault-clause-as_said
returns-in_err-fault-clause-as_said c = as_said

pub returns-clause-in_order : goal.returns-clause-in_order
returns-clause-in_order c reading = text_in_order c.args.text.now reading

pub returns-clause-blocks : goal.returns-clause-blocks
returns-clause-blocks c = blocks_are_whole

pub returns-clause-once : goal.returns-clause-once
returns-clause-once c = read_once

pub returns-clause-as_said : goal.returns-clause-as_said
returns-clause-as_said c = as_said

pub returns-clause-read : goal.returns-clause-read
returns-clause-read c = rw (c.into_scenario-scenario.ensures.said) (rw c.new-reader.ensures at c.in_ok-fault.ensures)

pub returns-clause-scenario : goal.returns-clause-scenario
returns-clause-scenario c = rw (c.into_scenario-scenario.ensures.said) c.into_scenario-scenario.ensures.whole
