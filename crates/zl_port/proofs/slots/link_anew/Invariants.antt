use Rattle.zl_rights.proofs.Common.{◌≡◌, length, take}
use Rattle.std.specs.VecDeque.{deque_capacity}
use Rattle.zl_port.specs.Chains.{LinkedIn, packets_in}
use Rattle.zl_port.proofs.slots.link_anew.Given as goal

abbrev pub invariant-loop-place : goal.invariant-loop-place
invariant-loop-place l = record {
  packets : packets_in l.slots.items ≡ packets_in l.initial.slots.items;
  long : length l.slots.items ≡ length l.initial.slots.items;
  linked : LinkedIn (length l.last.items) (take l.place l.slots.items) 0 l.last.items;
  buckets : length l.last.items ≡ length l.initial.last.items;
  capacity : deque_capacity l.slots ≡ deque_capacity l.initial.slots;
}
