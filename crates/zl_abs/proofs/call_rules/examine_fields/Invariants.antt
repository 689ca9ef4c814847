use Rattle.zl_abs.proofs.Common.{◌≡◌}
use Rattle.zl_abs.proofs.CallSteps.{examined_from}
use Rattle.zl_abs.proofs.call_rules.examine_fields.Given as goal

abbrev pub invariant-loop-place : goal.invariant-loop-place
invariant-loop-place l = examined_from l.fields l.registers l.initial.after 0 ≡ examined_from l.fields l.registers l.after l.place
