use Rattle.zl_calls.proofs.Common.{drop, told_of, triples_from, written, ◌*◌, ◌+◌, ◌-◌, ◌≡◌}
use Rattle.zl_calls.proofs.calls.channel.reading.tell.Given as goal

abbrev pub invariant-loop-n : goal.invariant-loop-n
invariant-loop-n l = record {
  left : written l.cpu.registers (triples_from (l.start + 3 * l.n) (l.places - l.n)) (told_of (drop l.n l.handles) (drop l.n l.values))
      ≡ written l.initial.cpu.registers (triples_from l.fn.first l.places) (told_of l.handles l.values);
  start : l.start ≡ l.fn.first;
  others : l.cpu ≡ record l.initial.cpu { registers = l.cpu.registers };
}
