use Rattle.zl_code.proofs.Common.{None, first_some, is_start_in_range, list_all, map, start_bytes, start_fault, take, true, ◌≡◌}
use Rattle.zl_code.proofs.declarations.starts_of.Given as goal

abbrev pub invariant-loop-piece : goal.invariant-loop-piece
invariant-loop-piece l =
    record {
      bytes : map start_bytes l.starts.items ≡ take l.piece-index l.pieces;
      in_range : list_all is_start_in_range l.starts.items ≡ true;
      none : first_some (map start_fault (take l.piece-index l.pieces)) ≡ None;
    }
