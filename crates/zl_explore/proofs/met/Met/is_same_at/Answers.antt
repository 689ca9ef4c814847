use Rattle.zl_explore.proofs.Meeting.{stands_there}
use Rattle.zl_explore.proofs.met.Met.is_same_at.Goals as goal

pub returns-in-Some : goal.returns-in-Some
returns-in-Some g c same =
    stands_there _ _ c.args.self.now.items c.args.place c.in-Some.at.now c.args.other.now c.requires.within
    (c.in-Some.ensures {u = tt}) (c.is_same.ensures same)

pub returns-in_ok-again-in-None : goal.returns-in_ok-again-in-None
returns-in_ok-again-in-None g c same =
    stands_there _ _ c.args.self.now.items c.args.place c.in_ok-again-in-None.field-0 c.args.other.now c.requires.within
    (c.in_ok-again-in-None.ensures {u = tt}) (c.is_same-in-None.ensures same)
