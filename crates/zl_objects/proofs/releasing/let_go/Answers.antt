use Rattle.zl_objects.proofs.Common.{arith, length, sym, vec_capacity, ◌<◌, ◌∙◌}
use Rattle.zl_objects.proofs.Budget.{has_room, last_went, other_went}
use Rattle.zl_objects.proofs.releasing.let_go.Goals as goal

pub push_reserved-requires : goal.push_reserved-requires
push_reserved-requires c =
    let room : length c.args.dying.now.items < vec_capacity c.args.dying.now =
    has_room c.args.by_koid.now.entries c.args.dying.now.items c.args.koid (vec_capacity c.args.dying.now) c.requires.fits
    (sym c.hold_less.ensures.last ∙ c.if-hold_less.true) in
    omega (arith, room, c.args.dying.now.ok.0)

pub returns-then-hold_less-clause-goes : goal.returns-then-hold_less-clause-goes
returns-then-hold_less-clause-goes c =
    rw (c.hold_less.ensures.objects, c.push_reserved.ensures.items)
    (last_went c.args.by_koid.now.entries c.args.dying.now.items c.args.koid (sym c.hold_less.ensures.last ∙ c.if-hold_less.true))

pub returns-else-hold_less-clause-goes : goal.returns-else-hold_less-clause-goes
returns-else-hold_less-clause-goes c =
    rw c.hold_less.ensures.objects
    (other_went c.args.by_koid.now.entries c.args.dying.now.items c.args.koid (sym c.hold_less.ensures.last ∙ c.if-hold_less.false))
