use Rattle.zl_rights.proofs.Common.{◌≡◌, ◌++◌}
use Rattle.std.specs.VecDeque.{deque_capacity}
use Rattle.std.specs.VecDeque.Iter.{deque_iter_rest}
use Rattle.zl_port.proofs.slots.copied_slots.Given as goal

abbrev pub invariant-loop-slot : goal.invariant-loop-slot
invariant-loop-slot l = record {
  items : l.copied.items ++ deque_iter_rest l.slot-iterator ≡ l.slots.items;
  capacity : deque_capacity l.copied ≡ deque_capacity l.slots;
}
