use Rattle.zl_code.proofs.Common.{None, first_some, is_slot_in_range, list_all, map, slot_bytes, slot_fault, take, true, ◌≡◌}
use Rattle.zl_code.proofs.declarations.slots_of.Given as goal

abbrev pub invariant-loop-piece : goal.invariant-loop-piece
invariant-loop-piece l =
    record {
      bytes : map slot_bytes l.slots.items ≡ take l.piece-index l.pieces;
      in_range : list_all is_slot_in_range l.slots.items ≡ true;
      none : first_some (map slot_fault (take l.piece-index l.pieces)) ≡ None;
    }
