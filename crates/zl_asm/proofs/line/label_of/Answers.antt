use Rattle.zl_asm.proofs.Common.{ap, option_map, sym, ◌∙◌}
use Rattle.zl_asm.proofs.LineNames.{with_colon, no_colon, no_byte, as_name, as_none}
use Rattle.zl_asm.proofs.line.label_of.Goals as goal
use Rattle.zl_asm.proofs.line.label_of.Goals.{else-last-eq58-via-then-last-eq58+else-is_name, else-last-eq58-via-else-last-eq58}

pub returns-in_err-last : goal.returns-in_err-last
returns-in_err-last c = ap (option_map (λ name. name.now)) c.from_residual.ensures ∙ no_byte c.args.word.now (c.in_err-last.ensures {u = tt}).cases

pub returns-then-is_name : goal.returns-then-is_name
returns-then-is_name c =
    let name = c.in_ok-last.name.now in
    sym (with_colon c.args.word.now name c.in_ok-last.last.now (c.in_ok-last.ensures {u = tt}).cases.0 c.if-last-eq58.true
    ∙ as_name name (sym c.if-is_name.ensures))

pub returns-else-last-eq58 : goal.returns-else-last-eq58
returns-else-last-eq58 c =
    let name = c.in_ok-last.name.now in
    let last = c.in_ok-last.last.now in
    let whole = (c.in_ok-last.ensures {u = tt}).cases.0 in
    elim c.else-last-eq58.branch [
      | else-last-eq58-via-then-last-eq58+else-is_name w ↦
          sym (with_colon c.args.word.now name last whole w.if-last-eq58.true ∙ as_none name (sym w.if-is_name.ensures))
      | else-last-eq58-via-else-last-eq58 w ↦ no_colon c.args.word.now name last whole w.if-last-eq58.false
    ]
