use Rattle.zl_trace.proofs.Common.{arith, decimal, decimal_injective, sym, ◌∙◌, ◌≡◌}
use Rattle.zl_trace.proofs.item_words.count_of.Goals.{then-count-eq0-via-then-count-eq0, then-count-eq0-via-else-count-eq0+then-count-from}
use Rattle.zl_trace.proofs.item_words.count_of.Goals as goal

pub returns-then-count-eq0-clause-none : goal.returns-then-count-eq0-clause-none
returns-then-count-eq0-clause-none c n some below is =
    let told : c.args.word.now ≡ decimal c.in_ok-count.count = (c.in_ok-count.ensures {u = tt}).some in
    let same : c.in_ok-count.count ≡ n = decimal_injective c.in_ok-count.count n (omega arith) (omega arith) (sym told ∙ is) in
    elim c.then-count-eq0.branch [
      | then-count-eq0-via-then-count-eq0 w ↦ omega (arith, w.if-count-eq0.true)
      | then-count-eq0-via-else-count-eq0+then-count-from w ↦ omega (arith, w.if-count-from.true, w.from.ensures)
    ]
