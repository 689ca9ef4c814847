use Rattle.zl_trace.proofs.Common.{ParsesSigned, rules, signed_decimal, subst, sym, true≢false, w32, ◌∙◌, ◌≡◌}
use Rattle.zl_trace.proofs.Digits.{not_utf8_signed, not_parsed_signed, not_written_signed}
use Rattle.zl_trace.proofs.item_words.code_of.Goals as goal

pub returns-in_default-clause-none : goal.returns-in_default-clause-none
returns-in_default-clause-none c = not_utf8_signed c.args.word.now (c.in_default.ensures {u = tt}).cases.0

pub returns-in_default-parse-clause-none : goal.returns-in_default-parse-clause-none
returns-in_default-parse-clause-none c =
    let same : c.in-Ok.text.now ≡ c.args.word.now = (c.in-Ok.ensures {u = tt}).cases.0 in
    not_parsed_signed c.args.word.now c.parse.result c.in_default-parse.field-0
    (subst (λ word. ParsesSigned w32 10 word c.parse.result) same c.parse.ensures.value.0) c.in_default-parse.is

pub returns-else-is-clause-none : goal.returns-else-is-clause-none
returns-else-is-clause-none c =
    let same : c.in-Ok.text.now ≡ c.args.word.now = (c.in-Ok.ensures {u = tt}).cases.0 in
    let text : c.format.result.now ≡ signed_decimal c.in-Ok-parse.code = search rules in
    not_written_signed c.args.word.now c.parse.result c.in-Ok-parse.code (subst (λ word. ParsesSigned w32 10 word c.parse.result) same c.parse.ensures.value.0)
    c.in-Ok-parse.is
    (λ is. true≢false (sym (c.is.ensures.1 (is ∙ sym (c.as_bytes.ensures.value ∙ text))) ∙ c.if-is.false))
