use Rattle.zl_code.proofs.Common.{List, subst, sym}
use Rattle.zl_calls.specs.World.{own_here}
use Rattle.zl_explore.specs.Sights.{AreSeen, sights_in}
use Rattle.zl_explore.specs.declared.fact.Fact.{Fact}
use Rattle.zl_explore.proofs.Lists.{in_map, none_at_all}
use Rattle.zl_explore.proofs.sights.seen_at_once.Goals as goal

pub returns-clause-none : goal.returns-clause-none
returns-clause-none c = λ together is_in seen.
    let it = in_map (λ one. one.items) c.args.never.now together is_in in
    none_at_all c.args.never.now (λ one. AreSeen one.items (sights_in (own_here c.args.world.now))) c.loop-together.together-index c.loop-together-test.false
    c.loop-together.invariant it.0 it.1 (subst (λ (xs : List Fact). AreSeen xs (sights_in (own_here c.args.world.now))) (sym it.2) seen)
