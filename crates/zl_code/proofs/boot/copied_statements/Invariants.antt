use Rattle.zl_code.proofs.Common.{take, ◌≡◌}
use Rattle.zl_code.proofs.boot.copied_statements.Given as goal

abbrev pub invariant-loop-statement : goal.invariant-loop-statement
invariant-loop-statement l = l.copied.items ≡ take l.statement-index l.statements
