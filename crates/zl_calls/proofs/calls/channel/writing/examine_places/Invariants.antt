use Rattle.zl_calls.proofs.Common.{[], drop, filled, list_refusal, take, ◌≡◌}
use Rattle.zl_calls.proofs.calls.channel.writing.examine_places.Given as goal

abbrev pub invariant-loop-n : goal.invariant-loop-n
invariant-loop-n l = record {
  so_far : list_refusal l.table.entries (filled (take l.n l.places)) (filled (drop l.n l.places)) ≡ list_refusal l.table.entries [] (filled l.places);
}
