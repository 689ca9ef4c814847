use Rattle.zl_scenario.proofs.Common.{sym, ◌∙◌, arith, at_drop_all, digits_of, digits_said}
use Rattle.zl_scenario.proofs.LineDigits.{after_space, after_digit, at_other, at_line_end}
use Rattle.zl_scenario.proofs.body.push_digits.Goals as goal
use Rattle.zl_scenario.proofs.body.push_digits.Goals.{then-byte-ne32+in-Some+in_ok-push, else-byte-ne32}

pub returns-in_default : goal.returns-in_default
returns-in_default c =
    rw c.alone.ensures
    (sym c.loop-byte.invariant
    ∙ at_other c.loop-byte.digits c.args.line.now c.loop-byte.byte-index c.loop-byte-test.true c.if-byte-ne32.true c.in_default.ensures)

pub loop-byte-preserved : goal.loop-byte-preserved
loop-byte-preserved c = elim c.if-byte-ne32.branch [
  | then-byte-ne32+in-Some+in_ok-push w ↦
      rw (w.digits-is, (w.in_ok-push.ensures {u = tt}).ok) (
      sym (after_digit c.loop-byte.digits c.args.line.now c.loop-byte.byte-index w.in-Some.digit c.loop-byte-test.true w.if-byte-ne32.true w.in-Some.ensures)
      ∙ c.loop-byte.invariant)
  | else-byte-ne32 w ↦
      rw w.digits-is
      (sym (after_space c.loop-byte.digits c.args.line.now c.loop-byte.byte-index c.loop-byte-test.true w.if-byte-ne32.false) ∙ c.loop-byte.invariant)
]

pub returns : goal.returns
returns c =
    sym c.loop-byte.invariant ∙ at_drop_all (λ rest. digits_said c.loop-byte.digits (digits_of rest)) c.args.line.now c.loop-byte.byte-index (omega arith)
    ∙ at_line_end c.loop-byte.digits
