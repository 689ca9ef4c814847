use Rattle.zl_verify.proofs.Common.{Some, ap, arith, not, ◌∙◌}
use Rattle.zl_verify.proofs.Raising.{raised_none, raised_same, raised_up, there}
use Rattle.zl_verify.proofs.search.Search.raise.Goals as goal

pub returns-in-None : goal.returns-in-None
returns-in-None c =
    rw (← c.self.view_is) (raised_none (record { states = c.self.inside.states.items; waiting = c.self.inside.waiting.items; from = c.self.inside.from })
    c.args.place _ _ (there c.self.inside.states.items c.args.place _ _ (omega arith) c.index.ensures c.in-Some.is) c.in-None.ensures.none)

pub returns-in-Some-true : goal.returns-in-Some-true
returns-in-Some-true c =
    ap Some c.put-in-Some-true.ensures
    ∙ rw (← c.self.view_is) (raised_up _ _ _ _ _ (there c.self.inside.states.items c.args.place _ _ (omega arith) c.index.ensures c.in-Some.is)
    (c.in-Some-true.ensures.rose ∙ ap not c.in-Some-true.field-0-test) c.in-Some-true.ensures.joined)

pub returns-in-Some-false : goal.returns-in-Some-false
returns-in-Some-false c =
    rw (← c.self.view_is) (raised_same _ _ _ _ (there c.self.inside.states.items c.args.place _ _ (omega arith) c.index.ensures c.in-Some.is)
    (c.in-Some-false.ensures.rose ∙ ap not c.in-Some-false.field-0-test))
