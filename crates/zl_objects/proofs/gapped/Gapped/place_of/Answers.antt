use Rattle.zl_objects.proofs.Common.{None, Some, ap, sym, ℕ, ◌+◌, ◌==◌, ◌∙◌}
use Rattle.zl_objects.proofs.Parts.{after_rises, before_rises, place_before, place_behind}
use Rattle.zl_objects.proofs.gapped.Gapped.place_of.Goals as goal

pub place_in-requires : goal.place_in-requires
place_in-requires c = before_rises c.self.inside.before.items c.self.inside.after.items (rw (← c.self.view_is) at c.requires.rising)

pub place_in-requires-2 : goal.place_in-requires-2
place_in-requires-2 c = after_rises c.self.inside.before.items c.self.inside.after.items (rw (← c.self.view_is) at c.requires.rising)

pub returns-in-Some : goal.returns-in-Some
returns-in-Some c = rw (← c.self.view_is)
    (place_before (λ x. x.order == c.args.order) c.self.inside.before.items c.self.inside.after.items c.in-Some.place (sym c.place_in.ensures ∙ c.in-Some.is))

pub returns-in_err-place_in : goal.returns-in_err-place_in
returns-in_err-place_in c = c.from_residual.ensures ∙ rw (← c.self.view_is)
    (place_behind (λ x. x.order == c.args.order) c.self.inside.before.items c.self.inside.after.items None
    (sym (c.in_default.ensures {u = tt})) (sym (c.in_err-place_in.was {u = tt}) ∙ c.place_in-2.ensures))

pub returns : goal.returns
returns c =
    ap (λ (n : ℕ). Some (n + c.in_ok-place_in.field-0)) (c.len.ensures ∙ c.self.inside.before.ok.0)
    ∙ rw (← c.self.view_is)
    (place_behind (λ x. x.order == c.args.order) c.self.inside.before.items c.self.inside.after.items (Some c.in_ok-place_in.field-0)
    (sym (c.in_default.ensures {u = tt})) (sym (c.in_ok-place_in.was {u = tt}) ∙ c.place_in-2.ensures))
