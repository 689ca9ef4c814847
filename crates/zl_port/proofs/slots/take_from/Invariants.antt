use Rattle.zl_rights.proofs.Common.{◌≡◌, ◌+◌, filter, length, not}
use Rattle.std.specs.VecDeque.{deque_capacity}
use Rattle.zl_port.specs.Chains.{packets_in}
use Rattle.zl_port.specs.Packets.{is_from}
use Rattle.zl_port.proofs.Walking.{Walks}
use Rattle.zl_port.proofs.slots.take_from.Given as goal

abbrev pub invariant-loop-next : goal.invariant-loop-next
invariant-loop-next l = record {
  walks : Walks (length l.initial.last.items) l.own l.source l.key l.front l.slots.items l.last.items l.above l.next;
  rest : filter (λ x. not (is_from l.source l.key x)) (packets_in l.slots.items)
      ≡ filter (λ x. not (is_from l.source l.key x)) (packets_in l.initial.slots.items);
  count : l.taken + length (filter (is_from l.source l.key) (packets_in l.slots.items))
      ≡ length (filter (is_from l.source l.key) (packets_in l.initial.slots.items));
  long : length l.slots.items ≡ length l.initial.slots.items;
  buckets : length l.last.items ≡ length l.initial.last.items;
  capacity : deque_capacity l.slots ≡ deque_capacity l.initial.slots;
}

abbrev pub decreases-loop-next : goal.decreases-loop-next
decreases-loop-next l = l.next
