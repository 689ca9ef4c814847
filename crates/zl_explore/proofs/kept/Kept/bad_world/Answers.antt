use Rattle.zl_code.proofs.Common.{IfSome, List, None, Option, Some, subst, sym, ◌∙◌, ◌≡◌}
use Rattle.zl_calls.specs.World.{Machine}
use Rattle.zl_explore.specs.Kept.{SeesNext, never_of, sights_of}
use Rattle.zl_explore.specs.Sights.{Sees}
use Rattle.zl_explore.specs.declared.fact.Fact.{Fact}
use Rattle.zl_explore.specs.declared.met.Node.{Node}
use Rattle.zl_explore.specs.declared.part.Parted.{Parted}
use Rattle.zl_explore.proofs.Keeping.{sees_by}
use Rattle.zl_explore.proofs.Lists.{there_is}
use Rattle.zl_explore.proofs.kept.Kept.bad_world.Goals as goal

pub returns-in-Some : goal.returns-in-Some
returns-in-Some c =
    let k = c.args.self.now in
    let (n, there) = there_is k.nodes.items k.widened c.requires.within in
    let at : c.in_ok-next.next ≡ n.at =
    subst (λ (o : Option (Node (Parted Machine))). IfSome o (λ n. c.in_ok-next.next ≡ n.at)) there (c.in_ok-next.ensures {u = tt}) in
    let items : c.in_ok-to_vec-in-Some.field-0.items ≡ c.in-Some.together.now.items =
    (c.in_ok-to_vec-in-Some.ensures {u = tt}).items_if_clones_equal (λ x y h. h) ∙ c.deref-in-Some.ensures.value in
    subst (λ (xs : List Fact). SeesNext k (Some xs)) (sym items) (sees_by k (Some c.in-Some.together.now.items) n there
    (subst (λ (s : Parted Machine). Sees (never_of k) (sights_of s.at) (Some c.in-Some.together.now.items)) at
    (rw c.deref.ensures.value at (c.in-Some.ensures {u = tt}).some)))

pub returns : goal.returns
returns c =
    let k = c.args.self.now in
    let (n, there) = there_is k.nodes.items k.widened c.requires.within in
    let at : c.in_ok-next.next ≡ n.at =
    subst (λ (o : Option (Node (Parted Machine))). IfSome o (λ n. c.in_ok-next.next ≡ n.at)) there (c.in_ok-next.ensures {u = tt}) in
    sees_by k None n there (subst (λ (s : Parted Machine). Sees (never_of k) (sights_of s.at) None) at
    (rw c.deref.ensures.value at (c.in-None.ensures {u = tt}).none))
