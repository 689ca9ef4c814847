use Rattle.std.proofs.Common.{List, arith, slice_set, subst, sym, ◌∙◌}
use Rattle.zl_explore.specs.Met.{AreLive}
use Rattle.zl_explore.specs.declared.met.Node.{Node}
use Rattle.zl_explore.proofs.Meeting.{let_go_live, let_go_met}
use Rattle.zl_explore.proofs.met.Met.let_go.Goals as goal

pub invariant_of-self : goal.invariant_of-self
invariant_of-self g c =
    let slots = c.self.inside.slots.items in
    subst (λ (nodes : List (Node _)). AreLive nodes (slice_set slots c.args.place c.let_go.new.self))
    (sym (let_go_met g.M.Machine.next c.self.inside.start slots c.args.place c.index_mut.result.now c.let_go.new.self
    (omega (arith, c.if-place-len.true, c.len.ensures, c.self.inside.slots.ok.0)) c.index_mut.ensures.value c.let_go.ensures))
    (let_go_live _ slots c.self.invariant c.args.place c.let_go.new.self (λ i. (c.let_go.ensures i).live))

pub returns-then-place-len : goal.returns-then-place-len
returns-then-place-len g c =
    let_go_met g.M.Machine.next c.self.inside.start c.self.inside.slots.items c.args.place c.index_mut.result.now c.let_go.new.self
    (omega (arith, c.if-place-len.true, c.len.ensures, c.self.inside.slots.ok.0)) c.index_mut.ensures.value c.let_go.ensures
    ∙ (λ i. (c.self.view_is i).items)
