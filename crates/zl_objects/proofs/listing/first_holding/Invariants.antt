use Rattle.zl_objects.proofs.Common.{false, is_entry_due, length, list_any, take, ◌-◌, ◌≡◌}
use Rattle.zl_objects.proofs.listing.first_holding.Given as goal

abbrev pub invariant-loop-listed : goal.invariant-loop-listed
invariant-loop-listed l = list_any (is_entry_due l.by_koid.entries) (take l.place l.waits.entries.items) ≡ false

abbrev pub decreases-loop-listed : goal.decreases-loop-listed
decreases-loop-listed l = length l.waits.entries.items - l.place
