use Rattle.zl_code.proofs.Common.{None, ap, arith, length, nat_tests, refl, subst, sym, ◌<◌, ◌∙◌}
use Rattle.zl_explore.specs.Kept.{Goes, goes_of, next_of}
use Rattle.zl_explore.proofs.Growing.{ready_there}
use Rattle.zl_explore.proofs.Hearing.{bad_grown}
use Rattle.zl_explore.proofs.Keeping.{bad_goes, end_is, whole_grown, whole_widened}
use Rattle.zl_explore.proofs.kept.Kept.widen_one.Goals as goal

pub end_here-requires-clause-end : goal.end_here-requires-clause-end
end_here-requires-clause-end c =
    end_is c.args.self.now.nodes.items c.args.self.now.widened c.in-Ok.pids.items c.requires.more (c.in-Ok.ensures {u = tt})
    (grind (arith, nat_tests, c.if-is_empty.true, c.is_empty.ensures))

pub returns-in-Ok-All : goal.returns-in-Ok-All
returns-in-Ok-All c =
    let old = c.args.self.now in
    let told = c.in-Ok-All.ensures {u = tt} in
    let widens = rw (c.in-Ok-All.field-0-is, c.deref-2.ensures.value) at told.widens in
    let (n, there, ready) = ready_there goes_of next_of old.nodes.items old.widened c.in-Ok.pids.items c.requires.more (c.in-Ok.ensures {u = tt}) in
    let filled : 0 < length c.in-Ok.pids.items = grind (arith, nat_tests, c.if-is_empty.false, c.is_empty.ensures) in
    subst (λ new. Goes old None new) (sym c.move_on.ensures) (record {
      whole = whole_widened _ _ c.requires.whole refl refl refl c.widen.ensures.tree c.widen.ensures.edges c.widen.ensures.more_edges
          c.widen.ensures.extends refl refl
          widens.0 widens.1 (rw c.in-Ok-All.field-0-is at told.have_edges)
          (rw c.in-Ok-None.field-0-is at (c.in-Ok-None.ensures {u = tt})) n there
          (λ none. omega (arith, filled, ap length (ready ∙ none)));
      root = refl;
      part = refl;
      told = refl;
      leads = tt;
      moves = refl;
      most = refl;
      cut = tt;
      never = refl;
    })

pub returns-in-Ok-Full : goal.returns-in-Ok-Full
returns-in-Ok-Full c = record {
  whole = whole_grown _ _ c.requires.whole refl refl refl c.widen.ensures.tree c.widen.ensures.edges c.widen.ensures.more_edges
      c.widen.ensures.extends refl refl;
  root = refl;
  part = refl;
  told = refl;
  leads = tt;
  moves = tt;
  most = refl;
  cut = (c.in-Ok-Full.ensures {u = tt}).full c.in-Ok-Full.field-0-is;
  never = refl;
}

pub returns : goal.returns
returns c = record {
  whole = whole_grown _ _ c.requires.whole refl refl refl c.widen.ensures.tree c.widen.ensures.edges c.widen.ensures.more_edges
      c.widen.ensures.extends refl refl;
  root = refl;
  part = refl;
  told = refl;
  leads = tt;
  moves = tt;
  most = refl;
  cut = tt;
  never = refl;
}

pub bad_turn-requires-clause-whole : goal.bad_turn-requires-clause-whole
bad_turn-requires-clause-whole c =
    whole_grown _ _ c.requires.whole refl refl refl c.widen.ensures.tree c.widen.ensures.edges c.widen.ensures.more_edges c.widen.ensures.extends refl refl

pub bad_turn-requires-clause-names : goal.bad_turn-requires-clause-names
bad_turn-requires-clause-names c =
    bad_grown _ _ _ _ _ _ _ _ c.widen.ensures.extends (rw (c.in-Ok-Bad.field-0-is, c.deref-2.ensures.value) at (c.in-Ok-Bad.ensures {u = tt}).widens)

pub returns-in-Ok-Bad : goal.returns-in-Ok-Bad
returns-in-Ok-Bad c = bad_goes c.args.self.now _ c.bad_turn.result c.bad_turn.ensures.which
    (whole_grown _ _ c.requires.whole refl refl refl c.widen.ensures.tree c.widen.ensures.edges c.widen.ensures.more_edges c.widen.ensures.extends refl refl)
    refl refl refl refl refl c.bad_turn.ensures.leads
