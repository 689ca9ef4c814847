use Rattle.zl_asm.proofs.Common.{ap, option_map, tail_value, ◌∙◌}
use Rattle.zl_asm.proofs.LineOperands.{too_many, no_handles, handles_placed}
use Rattle.zl_asm.proofs.Answered.{no_answer}
use Rattle.zl_asm.proofs.operands.handles.Goals as goal

pub returns-then-words-gt-MOST : goal.returns-then-words-gt-MOST
returns-then-words-gt-MOST c = too_many c.args.words.now c.if-words-gt-MOST.true

pub returns-in_err-put_registers : goal.returns-in_err-put_registers
returns-in_err-put_registers c =
    ap (option_map tail_value) (no_answer c.from_residual.result c.from_residual.ensures.0)
    ∙ no_handles c.args.words.now _ (c.in_err-put_registers.ensures {u = tt})

pub returns : goal.returns
returns c = handles_placed c.args.words.now c.put_registers.new.places c.if-words-gt-MOST.false (c.in_ok-put_registers.ensures {u = tt})
