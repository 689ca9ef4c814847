use Rattle.zl_objects.proofs.Common.{IsSome, None, Some, false≢true, get, keeper_of, rules, ◌≡◌}
use Rattle.zl_objects.proofs.ByKoid.{by_koid}
use Rattle.zl_objects.proofs.Index.{buried_indexed}
use Rattle.zl_objects.proofs.children.bury.Goals as goal

pub returns-in_default-clause-buried : goal.returns-in_default-clause-buried
returns-in_default-clause-buried c =
    let none : get c.args.by_koid.now.entries c.args.koid ≡ None = search (rules, by_koid) in
    rw none tt

pub returns-then-is_none-clause-indexed : goal.returns-then-is_none-clause-indexed
returns-then-is_none-clause-indexed c =
    let there : get c.args.by_koid.now.entries c.args.koid ≡ Some c.in-Some.object.now = search (rules, by_koid) in
    let dead : keeper_of c.in-Some.object.now.body ≡ None = search rules in
    buried_indexed c.args.koid c.in-Some.object.now c.requires c.bury.ensures.others c.bury.ensures.all there dead

pub returns-then-is_none-clause-buried : goal.returns-then-is_none-clause-buried
returns-then-is_none-clause-buried c =
    let there : get c.args.by_koid.now.entries c.args.koid ≡ Some c.in-Some.object.now = search (rules, by_koid) in
    rw there (λ dead. rw (c.parent.ensures) at c.bury.ensures.out)

pub returns-else-is_none-clause-buried : goal.returns-else-is_none-clause-buried
returns-else-is_none-clause-buried c =
    let there : get c.args.by_koid.now.entries c.args.koid ≡ Some c.in-Some.object.now = search (rules, by_koid) in
    let living : IsSome (keeper_of c.in-Some.object.now.body) = search rules in
    rw there (λ dead. absurd (false≢true (rw dead at living)))
