use Rattle.zl_objects.proofs.Common.{All-push, All-weaker, arith, entry_of, ◌+◌, ◌<◌}
use Rattle.zl_objects.proofs.PortWaits.{pushed_found}
use Rattle.zl_objects.proofs.Rising.{rises_last}
use Rattle.zl_objects.proofs.listing.WaitList.push.Goals as goal

pub invariant_of-self-2 : goal.invariant_of-self-2
invariant_of-self-2 c =
    let made = c.args.self.now.made in
    let xs = c.args.self.now.entries.items in
    rw (c.push_back_reserved.ensures, c.reserve_one.ensures.items) record {
      rising = rises_last made c.args.wait xs c.args.self.now.rising c.args.self.now.below;
      below = All-push (λ x. x.order < made + 1) xs (entry_of made c.args.wait)
          (All-weaker (λ x. x.order < made) (λ x. x.order < made + 1) (λ x less. omega (arith, less)) xs c.args.self.now.below) (omega arith);
      found = pushed_found c.args.self.now.by_port xs c.args.self.now.found c.add.new.self made c.args.wait c.in_ok-add.ensures.added;
    }
