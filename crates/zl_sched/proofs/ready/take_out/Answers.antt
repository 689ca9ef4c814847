use Rattle.zl_sched.proofs.Common.{arith, eqb-true, get_or, length, removed_one, subst, sym, ℕ, ◌-◌, ◌<◌, ◌==◌, ◌∙◌, ◌≡◌}
use Rattle.std.proofs.lemmas.List.Quantifiers.{position-Some}
use Rattle.zl_sched.proofs.Queued.{not_found}
use Rattle.zl_sched.proofs.ready.take_out.Goals as goal

pub returns-then-index-pid-clause-items : goal.returns-then-index-pid-clause-items
returns-then-index-pid-clause-items c =
    let last : get_or c.args.ready.now.items (c.len-len.result - 1) c.args.pid ≡ c.args.pid
    = subst (λ (q : ℕ). get_or c.args.ready.now.items (c.len-len.result - 1) q ≡ q) c.if-index-pid.true (sym c.index.ensures) in
    let within : c.len-len.result - 1 < length c.args.ready.now.items
    = omega (arith, c.if-len-gt0.true, c.len-len.ensures, c.args.ready.now.ok.0) in
    c.remove.ensures.items
    ∙ sym (removed_one c.args.ready.now.items (c.len-len.result - 1) c.args.pid c.args.pid within last (omega (arith, c.requires)))

pub returns-in_default-clause-items : goal.returns-in_default-clause-items
returns-in_default-clause-items c =
    let none = not_found c.args.pid c.args.ready.now.items (rw c.deref.ensures.value at (sym c.place_of.ensures ∙ c.in_default.is)) in
    absurd (omega (arith, c.requires, none))

pub returns-clause-items : goal.returns-clause-items
returns-clause-items c =
    let first = position-Some (λ q. q == c.args.pid) c.args.ready.now.items c.in-Some.place 0
    (rw c.deref.ensures.value at (sym c.place_of.ensures ∙ c.in-Some.is)) in
    c.remove-2.ensures.items
    ∙ sym (removed_one c.args.ready.now.items c.in-Some.place 0 c.args.pid first.0 (eqb-true _ c.args.pid first.1) (omega (arith, c.requires)))
