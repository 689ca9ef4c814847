use Rattle.zl_trace.specs.Reading.{item_lines_of}
use Rattle.zl_trace.proofs.OneHistory.{one_reading, one_writing, reads_back}
use Rattle.zl_trace.proofs.laws.a_text_tells_one_history.Goals as goal

pub returns-clause-read : goal.returns-clause-read
returns-clause-read c = λ text items others. one_reading (item_lines_of text) items others

pub returns-clause-back : goal.returns-clause-back
returns-clause-back c = reads_back

pub returns-clause-written : goal.returns-clause-written
returns-clause-written c = one_writing
