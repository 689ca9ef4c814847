use Rattle.zl_trace.proofs.Common.{ParsesUnsigned, subst, sym, true≢false, ◌∙◌, ◌≡◌}
use Rattle.zl_trace.proofs.Digits.{not_utf8, not_parsed, not_written}
use Rattle.zl_trace.proofs.item_words.number.Goals as goal

pub returns-in_default-clause-none : goal.returns-in_default-clause-none
returns-in_default-clause-none c = not_utf8 c.args.word.now (c.in_default.ensures {u = tt}).cases.0

pub returns-in_default-parse-clause-none : goal.returns-in_default-parse-clause-none
returns-in_default-parse-clause-none c =
    let same : c.in-Ok.text.now ≡ c.args.word.now = (c.in-Ok.ensures {u = tt}).cases.0 in
    not_parsed c.args.word.now c.parse.result c.in_default-parse.field-0 (subst (λ word. ParsesUnsigned 64 10 word c.parse.result) same c.parse.ensures.value.0)
    c.in_default-parse.is

pub returns-else-is-clause-none : goal.returns-else-is-clause-none
returns-else-is-clause-none c =
    let same : c.in-Ok.text.now ≡ c.args.word.now = (c.in-Ok.ensures {u = tt}).cases.0 in
    not_written c.args.word.now c.parse.result c.in-Ok-parse.number (subst (λ word. ParsesUnsigned 64 10 word c.parse.result) same c.parse.ensures.value.0)
    c.in-Ok-parse.is
    (λ is. true≢false (sym (c.is.ensures.1 (is ∙ sym (c.as_bytes.ensures.value ∙ c.format.ensures.text))) ∙ c.if-is.false))
