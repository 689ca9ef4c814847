use Rattle.zl_abs.proofs.Common.{◌≡◌}
use Rattle.zl_abs.proofs.CallSteps.{are_words_from}
use Rattle.zl_abs.proofs.call_tests.first_without_word.Given as goal

abbrev pub invariant-loop-place : goal.invariant-loop-place
invariant-loop-place l = are_words_from l.state l.fields l.registers 0 ≡ are_words_from l.state l.fields l.registers l.place
