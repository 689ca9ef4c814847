use Rattle.zl_objects.proofs.Parts.{room_left}
use Rattle.zl_objects.proofs.gapped.Gapped.remove.Goals as goal

pub invariant_of-self : goal.invariant_of-self
invariant_of-self c =
    room_left c.self.inside.before.items c.self.inside.after.items c.take_out.new.before.items c.take_out.new.after.items c.args.place _ _
    c.self.inside.room _ _ c.take_out.result c.self.invariant (rw (← c.self.view_is) at c.requires.inside) c.take_out.ensures.taken
    c.take_out.ensures.front c.take_out.ensures.behind

pub invariant_of-self-2 : goal.invariant_of-self-2
invariant_of-self-2 c =
    room_left c.self.inside.before.items c.self.inside.after.items c.take_at_gap.new.before.items c.take_at_gap.new.after.items c.args.place _ _
    c.self.inside.room _ _ c.take_at_gap.result c.self.invariant (rw (← c.self.view_is) at c.requires.inside) c.take_at_gap.ensures.taken
    c.take_at_gap.ensures.front c.take_at_gap.ensures.behind
