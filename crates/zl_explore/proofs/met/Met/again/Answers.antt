use Rattle.std.proofs.Common.{IfSome, ap, get_or, sym, take, ◌∙◌, ◌≡◌, slice_get, subst, refl}
use Rattle.std.proofs.lemmas.List.{take_more, take_all}
use Rattle.zl_explore.specs.Paths.{after}
use Rattle.zl_explore.proofs.Leading.{after_more}
use Rattle.zl_explore.proofs.Meeting.{leads_there}
use Rattle.zl_explore.proofs.met.Met.again.Goals as goal

pub loop-pid-init : goal.loop-pid-init
unfolding after
loop-pid-init g c = refl

pub loop-pid-preserved : goal.loop-pid-preserved
loop-pid-preserved g c =
    let ready = g.M.Machine.ready in
    let next = g.M.Machine.next in
    let turns = c.deref-pid-items.result.now in
    let i = c.loop-pid.pid-index in
    let pid = get_or turns i 0 in
    (c.in_ok-at-2.ensures {u = tt}).next
    ∙ (ap (λ s. next s pid) c.loop-pid.invariant
    ∙ sym (ap (after ready next c.in_ok-at.at) (take_more turns i 0 c.loop-pid-test.true) ∙ after_more ready next (take i turns) c.in_ok-at.at pid))

pub returns : goal.returns
returns g c =
    let ready = g.M.Machine.ready in
    let next = g.M.Machine.next in
    let nodes = c.args.self.now.items in
    let turns = c.deref-pid-items.result.now in
    let all : c.loop-pid.at ≡ after ready next c.self.inside.start c.in_ok-turns.turns.items =
    c.loop-pid.invariant
    ∙ (ap (after ready next c.in_ok-at.at) (take_all c.loop-pid.pid-index turns c.loop-pid-test.false ∙ c.deref-pid-items.ensures.value)
    ∙ ap (λ s. after ready next s c.in_ok-turns.turns.items) (c.in_ok-at.ensures {u = tt})) in
    subst (λ s. IfSome (slice_get nodes c.args.place) (λ n. s ≡ n.at)) (sym all)
    (leads_there ready next c.self.inside.start c.self.inside.slots.items nodes (λ i. (c.self.view_is i).items) c.args.place
    c.in_ok-turns.turns.items (c.in_ok-turns.ensures {u = tt}))
