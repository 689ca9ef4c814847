use Rattle.zl_code.proofs.Common.{Row, Some, row_named, ◌≡◌, ◌≤◌}
use Rattle.zl_code.proofs.layout.Row.named.Given as goal

-- no opcode so far has the name
abbrev pub invariant-loop-opcode : goal.invariant-loop-opcode
invariant-loop-opcode l = (r : Row) → row_named l.name ≡ Some r → l.opcode ≤ r.opcode
