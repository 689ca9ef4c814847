use Rattle.zl_abs.proofs.Common.{rules, ◌≡◌, ◌≤◌}
use Rattle.zl_abs.proofs.SortedBounds.{found_bound, next_bound, no_bound}
use Rattle.zl_abs.proofs.bounds.Bounds.round_up.Goals as goal

pub returns-in-Ok : goal.returns-in-Ok
returns-in-Ok c =
    let same : c.args.self.now ≡ c.deref.result.now = search rules in
    let most : c.args.number ≤ 0xffff_ffff_ffff_ffff = search rules in
    rw same (found_bound c.deref.result.now c.args.number c.in-Ok.field-0 most c.in-Ok.ensures.bound c.in-Ok.ensures.ok)

pub returns-in-Some : goal.returns-in-Some
returns-in-Some c =
    let same : c.args.self.now ≡ c.deref.result.now = search rules in
    let again : c.deref-in-Err.result.now ≡ c.deref.result.now = search rules in
    let sorted = rw (← c.deref.ensures.value) at c.self.invariant in
    let most : c.in-Some.bound.now ≤ 0xffff_ffff_ffff_ffff = search rules in
    rw same (next_bound c.deref.result.now c.args.number c.in-Err.place sorted c.in-Err.ensures.position c.in-Some.bound.now most (search rules) (search rules))

pub returns-in-None : goal.returns-in-None
returns-in-None c =
    let same : c.args.self.now ≡ c.deref.result.now = search rules in
    let sorted = rw (← c.deref.ensures.value) at c.self.invariant in
    rw same (no_bound c.deref.result.now c.args.number c.in-Err.place sorted c.in-Err.ensures.position (search rules))
