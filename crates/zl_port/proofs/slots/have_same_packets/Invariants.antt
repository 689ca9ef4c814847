use Rattle.zl_rights.proofs.Common.{◌≡◌, ◌+◌, ◌-◌, drop, length}
use Rattle.std.specs.Prelude.{◌↔◌}
use Rattle.zl_port.specs.Chains.{packets_in}
use Rattle.zl_port.proofs.slots.have_same_packets.Given as goal

abbrev pub invariant-loop-place : goal.invariant-loop-place
invariant-loop-place l = record {
  same : packets_in (drop l.place l.one.items) ≡ packets_in (drop l.opposite l.other.items) ↔ packets_in l.one.items ≡ packets_in l.other.items;
  as_many : length (packets_in (drop l.place l.one.items)) ≡ length (packets_in (drop l.opposite l.other.items));
}

abbrev pub decreases-loop-place : goal.decreases-loop-place
decreases-loop-place l = (length l.one.items - l.place) + (length l.other.items - l.opposite)
