use Rattle.zl_abs.proofs.Common.{field_of, is_written, map, those, zip}
use Rattle.zl_abs.proofs.WrittenSteps.{IsBegun}
use Rattle.zl_abs.proofs.call_results.written.Given as goal

abbrev pub invariant-loop-place : goal.invariant-loop-place
invariant-loop-place g l = IsBegun l.fields l.registers l.values (zip (those is_written (map field_of l.fields) 0 l.registers) l.values) l.place l.results
