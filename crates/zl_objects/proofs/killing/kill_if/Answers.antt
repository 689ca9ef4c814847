use Rattle.zl_objects.proofs.Common.{false, killed_if, refl, rules, true, ◌≡◌}
use Rattle.zl_objects.proofs.ByKoid.{by_koid, written}
use Rattle.zl_objects.proofs.CalmEnds.{ended_calm, spared_calm}
use Rattle.zl_objects.proofs.Index.{killed_none}
use Rattle.zl_objects.proofs.killing.kill_if.Goals as goal

pub returns-then-not-kills-clause-calm : goal.returns-then-not-kills-clause-calm
returns-then-not-kills-clause-calm c =
    spared_calm c.args.kills c.if-not-kills.true c.args.by_koid.now.entries (c.get_mut.follows.lender c.kill_if.new.self).entries c.args.koid
    (search (rules, by_koid))

pub returns-clause-calm : goal.returns-clause-calm
returns-clause-calm c =
    ended_calm (killed_if c.args.kills) (killed_none c.args.kills)
    (λ o. elim c.args.kills as (λ b. (killed_if b o).asleep ≡ o.asleep) [ true ↦ refl | false ↦ refl ])
    c.mark_watched.ensures.more c.mark_watched-2.ensures.more c.args.by_koid.now.entries (c.get_mut.follows.lender c.kill_if.new.self).entries c.args.koid
    (written c.args.by_koid.now.entries _ c.args.koid (killed_if c.args.kills) c.in-Some.object.now c.kill_if.new.self (search (rules, by_koid))
    c.kill_if.ensures (search (rules, by_koid))) c.mark_watched.ensures.wanted c.in-Some.object.now (search (rules, by_koid))
    (rw c.keeper-keeper.ensures at c.mark_watched-2.ensures.wanted)
