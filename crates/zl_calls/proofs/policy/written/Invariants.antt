use Rattle.zl_calls.proofs.Common.{drop, field_of, is_written, length, map, take, those, ◌++◌, ◌≡◌, ◌≤◌}
use Rattle.zl_calls.proofs.policy.written.Given as goal

abbrev pub invariant-loop-n : goal.invariant-loop-n
invariant-loop-n l =
    let left = those is_written (map field_of (drop l.n l.fields)) l.n l.registers in
    (l.count ≤ l.n) × (length l.destinations ≡ 7) × (take l.count l.destinations ++ left ≡ those is_written (map field_of l.fields) 0 l.registers)
