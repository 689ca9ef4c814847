use Rattle.zl_objects.proofs.Common.{ap, koid_of, sym, ◌==◌, ◌∙◌}
use Rattle.zl_objects.proofs.Sleeping.{at_port, look_ends, none_listed}
use Rattle.zl_objects.proofs.sleepers.Sleepers.is_listed.Goals as goal

pub returns : goal.returns
returns c = λ none port its.
    none_listed c.args.sleeper.now.pid port c.args.self.now.list.items
    (λ i d inside here. look_ends (λ s. s.pid == c.args.sleeper.now.pid) c.in-PacketAt.port c.args.self.now.list.items c.loop-place.place c.loop-place.invariant
    c.place_behind-place-end.result c.place_behind-place-end.ensures c.loop-place-test.false i d inside
    (here ∙ ap koid_of (sym (at_port port c.args.sleeper.now.awaited its) ∙ c.in-PacketAt.is)))
