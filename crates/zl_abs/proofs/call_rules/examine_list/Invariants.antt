use Rattle.zl_abs.proofs.Common.{drop, field_of, ◌≡◌}
use Rattle.zl_abs.proofs.ListSteps.{listed}
use Rattle.zl_abs.proofs.call_rules.examine_list.Given as goal

abbrev pub invariant-loop-place : goal.invariant-loop-place
invariant-loop-place l = listed (field_of l.field) l.initial.after l.handles.places ≡ listed (field_of l.field) l.after (drop l.place l.handles.places)
