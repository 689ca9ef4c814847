use Rattle.zl_objects.proofs.Common.{◌++◌, ◌+◌, ◌-◌, ◌≡◌, ◌≤◌}
use Rattle.std.specs.VecDeque.{deque_capacity, deque_len}
use Rattle.zl_objects.proofs.gapped.move_front.Given as goal

abbrev pub invariant-loop-after : goal.invariant-loop-after
invariant-loop-after l = record {
  high : deque_len l.before ≤ l.wanted;
  items : l.before.items ++ l.after.items ≡ l.initial.before.items ++ l.initial.after.items;
  all : deque_len l.before + deque_len l.after ≡ deque_len l.initial.before + deque_len l.initial.after;
  front : deque_capacity l.before ≡ deque_capacity l.initial.before;
  behind : deque_capacity l.after ≡ deque_capacity l.initial.after;
}

abbrev pub decreases-loop-after : goal.decreases-loop-after
decreases-loop-after l = l.wanted - deque_len l.before
