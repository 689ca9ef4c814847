use Rattle.zl_objects.proofs.Unlisted.{giving_listed, giving_sorted}
use Rattle.zl_objects.proofs.releasing.end_waits.Goals as goal

pub end_port-requires-clause-in_order : goal.end_port-requires-clause-in_order
end_port-requires-clause-in_order c = rw c.give_all_back.ensures.places (giving_sorted c.args.signals.waits c.args.by_koid.now.entries c.requires.in_order)

pub end_port-requires-clause-listed : goal.end_port-requires-clause-listed
end_port-requires-clause-listed c =
    rw (c.give_all_back.ensures.places, c.give_all_back.ensures.entries c.args.koid c.requires.own)
    (giving_listed c.args.signals.waits _ c.args.by_koid.now.entries c.requires.listed)
