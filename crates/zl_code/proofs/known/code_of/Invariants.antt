use Rattle.zl_code.proofs.Common.{None, first_some, instr_bytes, instr_fault, is_instr_in_range, list_all, map, take, true, ◌≡◌}
use Rattle.zl_code.proofs.known.code_of.Given as goal

abbrev pub invariant-loop-piece : goal.invariant-loop-piece
invariant-loop-piece l =
    record {
      bytes : map instr_bytes l.code.items ≡ take l.piece-index l.pieces;
      in_range : list_all (is_instr_in_range l.version l.raw) l.code.items ≡ true;
      none : first_some (map (instr_fault l.version l.raw) (take l.piece-index l.pieces)) ≡ None;
    }
