use Rattle.zl_verify.proofs.Common.{out_from, turned_over, ◌≡◌}
use Rattle.zl_verify.proofs.search.Search.run.Given as goal

abbrev pub invariant-loop-place : goal.invariant-loop-place
invariant-loop-place l =
    turned_over l.initial.self (out_from l.stretches.numbers l.image l.initial.first l.initial.state)
    ≡ turned_over l.self (out_from l.stretches.numbers l.image l.place l.state)
