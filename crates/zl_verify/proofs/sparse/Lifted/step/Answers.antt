use Rattle.zl_verify.proofs.Common.{ap, sym, ◌∙◌}
use Rattle.zl_abs.specs.Changes.{step_in, steps_told}
use Rattle.zl_verify.proofs.Lifting.{first_low, second_low}
use Rattle.zl_verify.proofs.sparse.Lifted.step.Goals as goal

pub follow-requires-clause-known : goal.follow-requires-clause-known
follow-requires-clause-known c =
    first_low _ _ c.in-Some.state (step_in c.edges_at.new.state c.in-Ok.edges.jump) (step_in c.edges_at.new.state c.in-Ok.edges.next) c.requires.low.range
    (c.requires.low.each _ _ (sym c.known_at.ensures ∙ c.in-Some.is)) (sym (ap (steps_told c.edges_at.new.state) c.in-Ok.is) ∙ c.edges_at.ensures)

pub follow-requires-2-clause-known : goal.follow-requires-2-clause-known
follow-requires-2-clause-known c =
    second_low _ _ c.in-Some.state (step_in c.edges_at.new.state c.in-Ok.edges.jump) (step_in c.edges_at.new.state c.in-Ok.edges.next) c.requires.low.range
    (c.requires.low.each _ _ (sym c.known_at.ensures ∙ c.in-Some.is)) (sym (ap (steps_told c.edges_at.new.state) c.in-Ok.is) ∙ c.edges_at.ensures)
