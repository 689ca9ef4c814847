use Rattle.std.proofs.Common.{List, Some, [], ap, ◌≡◌, refl, subst, sym, ◌++◌, ◌∙◌, ◌∷◌}
use Rattle.zl_explore.specs.Met.{AreLive, Came, met}
use Rattle.zl_explore.specs.declared.met.Node.{Node}
use Rattle.zl_explore.specs.declared.met.Slot.{Slot}
use Rattle.zl_explore.proofs.Meeting.{pushed, pushed_live}
use Rattle.zl_explore.proofs.met.Met.push.Goals as goal

pub invariant_of-self-2 : goal.invariant_of-self-2
invariant_of-self-2 g c =
    let next = g.M.Machine.next in
    let start = c.self.inside.start in
    let old = c.self.inside.slots.items in
    let slot : Slot _ = record { live = Some c.in_ok-new.field-0; from = c.args.node.from; by = c.args.node.by } in
    let came : Came next (met next start old) c.args.node =
    subst (λ (nodes : List (Node _)). Came next nodes c.args.node) (λ i. (sym c.self.view_is i).items) c.requires in
    let is : met next start c.push.new.self.items ≡ met next start old ++ (c.args.node ∷ []) =
    ap (met next start) c.in_ok-push.ensures.items ∙ pushed next start old c.args.node slot came refl refl in
    subst (λ (nodes : List (Node _)). AreLive nodes c.push.new.self.items) (sym is)
    (subst (AreLive (met next start old ++ (c.args.node ∷ []))) (sym c.in_ok-push.ensures.items)
    (pushed_live next start old c.args.node slot (sym c.in_ok-new.ensures.ok) c.self.invariant))

pub returns-clause-ok : goal.returns-clause-ok
returns-clause-ok g c =
    let next = g.M.Machine.next in
    let slot : Slot _ = record { live = Some c.in_ok-new.field-0; from = c.args.node.from; by = c.args.node.by } in
    let came : Came next (met next c.self.inside.start c.self.inside.slots.items) c.args.node =
    subst (λ (nodes : List (Node _)). Came next nodes c.args.node) (λ i. (sym c.self.view_is i).items) c.requires in
    ap (met next c.self.inside.start) c.in_ok-push.ensures.items
    ∙ (pushed next c.self.inside.start c.self.inside.slots.items c.args.node slot came refl refl
    ∙ (λ i. (c.self.view_is i).items ++ (c.args.node ∷ [])))
