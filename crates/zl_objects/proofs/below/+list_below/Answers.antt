use Rattle.zl_objects.proofs.Common.{HasBelow, arith, subst, suc, ℕ, ◌-◌, ◌≡◌}
use Rattle.zl_objects.proofs.Descending.{no_levels, until_all}
use Rattle.zl_objects.proofs.below.+list_below.Goals as goal

pub returns-then-levels-eq0-clause-below : goal.returns-then-levels-eq0-clause-below
returns-then-levels-eq0-clause-below t c = λ done. rw (c.if-levels-eq0.true) (no_levels c.args.children.now c.args.job c.args.found.now.items)

pub returns-clause-below : goal.returns-clause-below
returns-clause-below t c =
    let levels : suc (c.args.levels - 1) ≡ c.args.levels = omega (arith, c.if-levels-eq0.false) in
    λ done. subst (λ (n : ℕ). HasBelow c.args.children.now c.args.job n c.loop-koid.found.items) levels
    (until_all c.args.children.now c.args.job (c.args.levels - 1) c.loop-koid.last c.loop-koid.found.items c.loop-koid.invariant.until
    (rw (c.in_default.is) at c.next_listed.ensures))
