use Rattle.zl_code.proofs.Common.{flat_map, start_bytes, take, ◌++◌, ◌≡◌}
use Rattle.zl_code.proofs.encoding.put_starts.Given as goal

abbrev pub invariant-loop-start : goal.invariant-loop-start
invariant-loop-start l = l.out.items ≡ l.fn.out.items ++ flat_map start_bytes (take l.start-index l.starts)
