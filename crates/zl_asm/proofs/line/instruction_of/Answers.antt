use Rattle.zl_asm.proofs.Common.{List, Option, Row, ap, instruction_of, operands_of, option_map, result_ok, row_value, source_of, source_value, sym, texts}
use Rattle.zl_asm.proofs.Common.{then_with, ℕ, ◌∙◌, ◌≡◌}
use Rattle.zl_asm.specs.declared.fault.AsmCause.TheVariants.{NoMemory}
use Rattle.zl_asm.proofs.Answered.{value_if_ok, none_if_err}
use Rattle.zl_asm.proofs.LineOperands.{Text}
use Rattle.zl_asm.proofs.line.instruction_of.Goals as goal

whole : (c : goal.After-source_of) → instruction_of c.args.version c.args.name.now (texts c.args.words.now)
    ≡ option_map source_value (result_ok c.source_of.result)
whole c =
    let row = row_value c.in-Some.row in
    ap (λ (o : Option Row). then_with o (λ r. then_with (operands_of (texts c.args.words.now)) (source_of r))) (sym c.in-Some.ensures.row)
    ∙ ap (λ (o : Option (List (List ℕ))). then_with o (source_of row)) c.in_ok-split_operands.ensures.ok
    ∙ ap (λ (ws : List Text). source_of row (texts ws)) (sym c.deref.ensures.value)
    ∙ sym c.source_of.ensures

pub returns-clause-ok : goal.returns-clause-ok
returns-clause-ok c = value_if_ok c.source_of.result source_value _ (whole c)

pub returns-clause-err : goal.returns-clause-err
returns-clause-err c = none_if_err c.source_of.result source_value _ (λ cause. cause ≡ NoMemory) (whole c)
