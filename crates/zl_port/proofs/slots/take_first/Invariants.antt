use Rattle.zl_rights.proofs.Common.{◌≡◌, ◌+◌, ℕ, List, length}
use Rattle.std.specs.VecDeque.{deque_capacity}
use Rattle.zl_port.specs.Chains.{AreLinked, packets_in}
use Rattle.zl_port.proofs.slots.take_first.Given as goal

abbrev pub invariant-loop-slot : goal.invariant-loop-slot
invariant-loop-slot l = record {
  packets : packets_in l.slots.items ≡ packets_in l.initial.slots.items;
  linked : (last : List ℕ) → AreLinked l.initial.slots.items l.initial.front last → AreLinked l.slots.items l.front last;
  numbers : l.front + length l.slots.items ≡ l.initial.front + length l.initial.slots.items;
  capacity : deque_capacity l.slots ≡ deque_capacity l.initial.slots;
}

abbrev pub decreases-loop-slot : goal.decreases-loop-slot
decreases-loop-slot l = length l.slots.items
