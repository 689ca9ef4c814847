use Rattle.zl_asm.proofs.Common.{arith, inr, map-append, nat_tests, operands_of, sym, texts}
use Rattle.zl_asm.proofs.LineOperands.{no_words, at_first, one_more, at_comma, at_words, at_last, at_last_comma, at_end}
use Rattle.zl_asm.proofs.operands.split_operands.Goals as goal
use Rattle.zl_asm.proofs.operands.split_operands.Goals.{then-is-via-then-is, then-is-via-else-is+then-not-is}
use Rattle.zl_asm.proofs.operands.split_operands.Goals.{in_default-rest-via-then-rest-lt1, in_default-rest-via-else-rest-lt1+else-rest-lt2-2}
use Rattle.zl_asm.proofs.operands.split_operands.Goals.{in_default-rest-via-in-len1+else-not-is-2}

pub returns-then-is_empty-clause-ok : goal.returns-then-is_empty-clause-ok
returns-then-is_empty-clause-ok c = rw c.clear.ensures.items (no_words c.args.words.now (grind (arith, nat_tests, c.if-is_empty.ensures)))

pub loop-rest-init : goal.loop-rest-init
loop-rest-init c = rw c.clear.ensures.items (at_first c.args.words.now (grind (arith, nat_tests, c.if-is_empty.ensures)))

pub returns-then-is-clause-err : goal.returns-then-is-clause-err
returns-then-is-clause-err c =
    let whole = operands_of (texts c.args.words.now) in
    let said = texts c.loop-rest.operands.items in
    inr (elim c.then-is.branch [
      | then-is-via-then-is w ↦ at_comma whole said c.loop-rest.rest.now _ c.in-len2-up.len_at_least (sym w.if-is.ensures) c.loop-rest.invariant
      | then-is-via-else-is+then-not-is w ↦
          at_words whole said c.loop-rest.rest.now _ c.in-len2-up.len_at_least (sym w.if-is.ensures) (sym w.if-not-is.ensures) c.loop-rest.invariant
    ])

pub loop-rest-preserved : goal.loop-rest-preserved
loop-rest-preserved c =
    let whole = operands_of (texts c.args.words.now) in
    let said = texts c.loop-rest.operands.items in
    rw (c.in_ok-push.ensures.items, map-append)
    (one_more whole said c.loop-rest.rest.now _ c.in-len2-up.len_at_least (sym c.if-is.ensures) (sym c.if-not-is.ensures) c.loop-rest.invariant)

pub returns-in_ok-push-in-len1-clause-ok : goal.returns-in_ok-push-in-len1-clause-ok
returns-in_ok-push-in-len1-clause-ok c =
    let whole = operands_of (texts c.args.words.now) in
    let said = texts c.loop-rest.operands.items in
    rw (c.in_ok-push-in-len1.ensures.items, map-append)
    (at_last whole said c.loop-rest.rest.now _ c.in-len1.len_at_least c.in_default.len_below (sym c.if-not-is-2.ensures) c.loop-rest.invariant)

pub returns-in_default-rest-clause-err : goal.returns-in_default-rest-clause-err
returns-in_default-rest-clause-err c =
    let whole = operands_of (texts c.args.words.now) in
    let said = texts c.loop-rest.operands.items in
    inr (elim c.in_default-rest.branch [
      | in_default-rest-via-then-rest-lt1 w ↦ at_end whole said c.loop-rest.rest.now (grind (arith, nat_tests)) c.loop-rest.invariant
      | in_default-rest-via-else-rest-lt1+else-rest-lt2-2 w ↦
          absurd (grind (arith, nat_tests))
      | in_default-rest-via-in-len1+else-not-is-2 w ↦
          at_last_comma whole said c.loop-rest.rest.now _ w.in-len1.len_at_least c.in_default.len_below (sym w.if-not-is-2.ensures) c.loop-rest.invariant
    ])
