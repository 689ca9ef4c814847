use Rattle.zl_interp.proofs.Common.{rules, ◌∙◌}
use Rattle.std.proofs.Common.{tests, ◌==◌}
use Rattle.std.proofs.lemmas.Iterator.{YieldsList-from_slice, YieldsList-from_take}
use Rattle.std.proofs.lemmas.Iterator.Consumers.{count_from_yields_List}
use Rattle.std.proofs.lemmas.Iterator.Search.{YieldsList-from_take_while}
use Rattle.zl_interp.proofs.Room.{room_counted}
use Rattle.zl_interp.proofs.arrays.room_for_handles.Goals as goal

pub returns : goal.returns
returns c =
    count_from_yields_List c.take.result _ c.count.ensures.ran
    (YieldsList-from_take 64
    (YieldsList-from_take_while _ (λ v. v == 0) (YieldsList-from_slice c.args.places.now cc)
    (rw (← c.take.ensures.source) at c.take_while.ensures.closure) (rw (← c.take.ensures.source) at c.take_while.ensures.done)
    (λ x b q k. search (rules, tests)))
    c.take.ensures.count)
    ∙ room_counted c.args.places.now
