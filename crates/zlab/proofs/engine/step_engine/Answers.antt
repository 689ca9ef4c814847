use Rattle.zlab.proofs.Answering.{is_bounded, mapped_ok, mapped_err, source_answers, source_begins, reader_unanswered}
use Rattle.zlab.proofs.Common.{on_err}
use Rattle.zlab.proofs.engine.step_engine.Goals as goal

pub answer_input-requires : goal.answer_input-requires
answer_input-requires g c = is_bounded _ _ c.in_ok-input.ensures.ok.holds

pub returns-in_err-input-clause-err : goal.returns-in_err-input-clause-err
returns-in_err-input-clause-err g c = on_err c.from_residual.result (reader_unanswered _ _)

pub returns-clause-ok : goal.returns-clause-ok
returns-clause-ok g c =
    let is = c.in_ok-input.ensures.ok in
    mapped_ok c.answer_input.result _ _ (source_answers is.bytes _ (record { those_told = is.those_told }) is.holds _ _) c.answer_input.ensures.ok

pub returns-clause-err : goal.returns-clause-err
returns-clause-err g c =
    let is = c.in_ok-input.ensures.ok in
    mapped_err c.answer_input.result _ _ (source_begins is.bytes _ (record { those_told = is.those_told }) is.holds _ _) c.answer_input.ensures.err
