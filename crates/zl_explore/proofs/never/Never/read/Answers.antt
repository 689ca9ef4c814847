use Rattle.zl_code.proofs.Common.{ap, map, map-append, refl, ◌∙◌, ◌∷◌, []}
use Rattle.zl_explore.specs.Facts.{at_once, one}
use Rattle.zl_explore.proofs.never.Never.read.Goals as goal

pub returns-in-Some-lone_bad-clause-yes : goal.returns-in-Some-lone_bad-clause-yes
returns-in-Some-lone_bad-clause-yes c =
    one c.in-Some-lone_bad.bad
    ((rw c.in-Some.is at (c.in_ok-together.ensures {u = tt})) ∙ (rw c.deref.ensures.value at (c.in-Some-lone_bad.ensures {u = tt})))
    (c.in_ok-push.ensures {u = tt}).items refl

pub returns-clause-yes : goal.returns-clause-yes
returns-clause-yes c =
    at_once c.in-Some.together.items (rw c.in-Some.is at (c.in_ok-together.ensures {u = tt}))
    (ap (map (λ one. one.items)) (c.in_ok-push-2.ensures {u = tt}).items
    ∙ map-append (λ one. one.items) c.args.self.now.together.items (c.in-Some.together ∷ []))
    refl
