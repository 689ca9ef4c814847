use Rattle.zl_abs.proofs.Common.{AbsVal, List, ap, arith, is_result, sym, ℕ, ◌+◌, ◌∙◌}
use Rattle.zl_abs.proofs.CallSteps.{distinct_end, distinct_stop, distinct_more, rest_of}
use Rattle.zl_abs.proofs.call_tests.are_distinct.Goals as goal

pub returns-then-is_result : goal.returns-then-is_result
returns-then-is_result c =
    let x = c.index-results-i.result in
    let e = ap (λ (xs : List (ℕ × AbsVal)). is_result xs (x.0)) (rest_of c.args.results.now (c.loop-i.i + 1)) in
    sym (c.loop-i.invariant
    ∙ distinct_stop c.args.results.now c.loop-i.i x (omega arith) c.index-results-i.is (sym e ∙ (sym c.is_result.ensures ∙ c.if-is_result.true)))

pub loop-i-preserved : goal.loop-i-preserved
loop-i-preserved c =
    let x = c.index-results-i.result in
    let e = ap (λ (xs : List (ℕ × AbsVal)). is_result xs (x.0)) (rest_of c.args.results.now (c.loop-i.i + 1)) in
    c.loop-i.invariant
    ∙ distinct_more c.args.results.now c.loop-i.i x (omega arith) c.index-results-i.is (sym e ∙ (sym c.is_result.ensures ∙ c.if-is_result.false))

pub returns : goal.returns
returns c = sym (c.loop-i.invariant ∙ distinct_end _ c.loop-i.i (omega arith))
