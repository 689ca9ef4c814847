use Rattle.zlab.proofs.Answering.{both_ok, mapped_err, mapped_ok, long_answers, long_begins, text_answers, text_begins}
use Rattle.zlab.proofs.engine.answer_input.Goals as goal

pub returns-in-Text-clause-ok : goal.returns-in-Text-clause-ok
returns-in-Text-clause-ok g c =
    mapped_ok c.answer.result _ _ (text_answers c.args.input c.in-Text.text.items (λ text holds. (rw c.in-Text.is at holds).0) _ _)
    (rw c.as_slice.ensures.value at c.answer.ensures.ok)

pub returns-in-Text-clause-err : goal.returns-in-Text-clause-err
returns-in-Text-clause-err g c =
    mapped_err c.answer.result _ _ (text_begins c.args.input c.in-Text.text.items (λ text holds. (rw c.in-Text.is at holds).0) _ _)
    (rw c.as_slice.ensures.value at c.answer.ensures.err)

pub returns-in-TooLong-clause-ok : goal.returns-in-TooLong-clause-ok
returns-in-TooLong-clause-ok g c =
    both_ok c.write_refusal-ended.result _ _ _ (λ v. long_answers _ _ _ v c.in-TooLong.is) c.write_refusal-ended.ensures.verdict
    (rw c.alone-fault.ensures at c.write_refusal-ended.ensures.ok)

pub returns-in-TooLong-clause-err : goal.returns-in-TooLong-clause-err
returns-in-TooLong-clause-err g c =
    mapped_err c.write_refusal-ended.result _ _ (long_begins _ _ _ c.in-TooLong.is) (rw c.alone-fault.ensures at c.write_refusal-ended.ensures.err)
