use Rattle.std.proofs.Common.{[], ◌<◌, ◌∙◌, ◌∷◌, ◌≡◌, ℕ, List, ap, arith, length, reverse, subst, sym}
use Rattle.std.proofs.lemmas.List.{reverse-append}
use Rattle.zl_explore.specs.Nodes.{LeadsTo}
use Rattle.zl_explore.proofs.Leading.{leads_more, leads_none}
use Rattle.zl_explore.proofs.Meeting.{as_many_here, way_here}
use Rattle.zl_explore.proofs.met.Met.turns_to.Goals as goal

pub loop-at-init : goal.loop-at-init
loop-at-init g c =
    (leads_none _ _ c.args.self.now.items c.args.place _ c.requires.within (ap reverse c.new-turns.ensures.items), c.requires.within)

pub index-slot-requires : goal.index-slot-requires
index-slot-requires g c =
    let many = as_many_here g.M.Machine.next c.self.inside.start c.self.inside.slots.items c.args.self.now.items (λ i. (c.self.view_is i).items) in
    omega (arith, c.loop-at.invariant.1, many, c.self.inside.slots.ok.0)

pub loop-at-smaller : goal.loop-at-smaller
loop-at-smaller g c =
    let at = c.loop-at.at in
    let (n, there, from, by) = way_here g.M.Machine.next c.self.inside.start c.self.inside.slots.items c.args.self.now.items
    (λ i. (c.self.view_is i).items) at c.index-slot.result.now c.index-slot.ensures c.loop-at.invariant.1 in
    subst (λ (k : ℕ). k < at) from (c.requires.tree.1.others at n c.loop-at-test.true there).earlier

pub loop-at-preserved : goal.loop-at-preserved
loop-at-preserved g c =
    let nodes = c.args.self.now.items in
    let at = c.loop-at.at in
    let s = c.index-slot.result.now in
    let below : at < length nodes = c.loop-at.invariant.1 in
    let (n, there, from, by) = way_here g.M.Machine.next c.self.inside.start c.self.inside.slots.items nodes
    (λ i. (c.self.view_is i).items) at s c.index-slot.ensures below in
    let turned : reverse c.push.new.self.items ≡ n.by ∷ reverse c.loop-at.turns.items =
    ap reverse c.in_ok-push.ensures.items ∙ (reverse-append c.loop-at.turns.items (s.by ∷ [])
    ∙ ap (λ (k : ℕ). k ∷ reverse c.loop-at.turns.items) (sym by)) in
    let earlier : n.from < at = (c.requires.tree.1.others at n c.loop-at-test.true there).earlier in (
      subst (λ (k : ℕ). LeadsTo g.M.Machine.ready g.M.Machine.next nodes k c.args.place (reverse c.push.new.self.items)) from
          (subst (λ (turns : List ℕ). LeadsTo g.M.Machine.ready g.M.Machine.next nodes n.from c.args.place turns) (sym turned)
          (leads_more _ _ nodes c.requires.tree.0 c.requires.tree.1 at c.args.place n _ c.loop-at-test.true there c.loop-at.invariant.0)),
      subst (λ (k : ℕ). k < length nodes) from (omega (arith, earlier, below)),
    )

pub returns : goal.returns
returns g c =
    let nodes = c.args.self.now.items in
    let none : c.loop-at.at ≡ 0 = omega (arith, c.loop-at-test.false) in
    subst (λ (turns : List ℕ). LeadsTo g.M.Machine.ready g.M.Machine.next nodes 0 c.args.place turns) (sym c.reverse.ensures.items)
    (subst (λ k. LeadsTo g.M.Machine.ready g.M.Machine.next nodes k c.args.place (reverse c.loop-at.turns.items)) none c.loop-at.invariant.0)
