use Rattle.zl_interp.proofs.Common.{Some, drop, length, take, ◌≡◌, ◌≤◌}
use Rattle.zl_code.specs.Asked.{filled_among}
use Rattle.zl_interp.proofs.packing.pack.Given as goal

abbrev pub invariant-loop-n : goal.invariant-loop-n
invariant-loop-n l = record {
  packed : take l.packed l.places ≡ filled_among l.n (Some l.initial.places);
  within : l.packed ≤ l.n;
  others : drop l.n l.places ≡ drop l.n l.initial.places;
  same_length : length l.places ≡ length l.initial.places;
}
