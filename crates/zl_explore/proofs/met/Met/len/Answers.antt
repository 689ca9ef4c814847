use Rattle.std.proofs.Common.{length, sym, ◌∙◌}
use Rattle.zl_explore.proofs.Meeting.{as_many}
use Rattle.zl_explore.proofs.met.Met.len.Goals as goal

pub returns : goal.returns
returns g c =
    c.len.ensures
    ∙ (c.self.inside.slots.ok.0
    ∙ (sym (as_many g.M.Machine.next c.self.inside.start c.self.inside.slots.items) ∙ (λ i. length (c.self.view_is i).items)))
