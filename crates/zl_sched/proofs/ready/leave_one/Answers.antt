use Rattle.zl_sched.proofs.Common.{eqb-true, none_filtered, removed_one, sym, ◌==◌, ◌∙◌}
use Rattle.std.proofs.lemmas.List.Quantifiers.{position-Some}
use Rattle.zl_sched.proofs.Queued.{not_found}
use Rattle.zl_sched.proofs.ready.leave_one.Goals as goal

pub returns-in_default-clause-items : goal.returns-in_default-clause-items
returns-in_default-clause-items c =
    sym (none_filtered c.args.pid c.args.ready.now.items
    (not_found c.args.pid c.args.ready.now.items (rw c.deref.ensures.value at (sym c.place_of.ensures ∙ c.in_default.is))))

pub returns-clause-items : goal.returns-clause-items
returns-clause-items c =
    let first = position-Some (λ q. q == c.args.pid) c.args.ready.now.items c.in-Some.place 0
    (rw c.deref.ensures.value at (sym c.place_of.ensures ∙ c.in-Some.is)) in
    c.remove.ensures.items
    ∙ sym (removed_one c.args.ready.now.items c.in-Some.place 0 c.args.pid first.0 (eqb-true _ c.args.pid first.1) c.requires)
