use Rattle.zl_code.proofs.Common.{IfNone, IfSome, ap, map, subst, sym, ◌∙◌}
use Rattle.zl_calls.specs.World.{own_here}
use Rattle.zl_explore.specs.Paths.{IsIn}
use Rattle.zl_explore.specs.Sights.{AreSeen, IsClear, Sights, sights_in}
use Rattle.zl_explore.proofs.Seeing.{sights_same}
use Rattle.zl_explore.proofs.running.Running.seen_at_once.Goals as goal

pub returns-clause-some : goal.returns-clause-some
returns-clause-some c =
    subst (λ (sights : Sights). IfSome c.seen_at_once.result (λ together. IsIn (map (λ one. one.items) c.args.never.now) together.now.items
    × AreSeen together.now.items sights))
    (sym (sights_same (own_here c.self.inside.world)) ∙ ap (λ m. sights_in (own_here m)) c.self.view_is) c.seen_at_once.ensures.some

pub returns-clause-none : goal.returns-clause-none
returns-clause-none c =
    subst (λ (sights : Sights). IfNone c.seen_at_once.result (IsClear (map (λ one. one.items) c.args.never.now) sights))
    (sym (sights_same (own_here c.self.inside.world)) ∙ ap (λ m. sights_in (own_here m)) c.self.view_is) c.seen_at_once.ensures.none
