use Rattle.zl_objects.proofs.PortWaits.{left_below}
use Rattle.zl_objects.proofs.listing.WaitList.take_back.Goals as goal

pub invariant_of-self : goal.invariant_of-self
invariant_of-self c = record {
  rising = c.unlist.new.waits.rising;
  below = rw c.unlist.ensures.entries (left_below c.args.order c.args.self.now.entries.items c.requires.last);
  found = c.unlist.new.waits.found;
}
