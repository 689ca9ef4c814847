use Rattle.zl_abs.proofs.Common.{ap, is_has, is_some, rules, sym, value_at, ◌∙◌}
use Rattle.std.proofs.lemmas.Iterator.Search.{find_from_yields_List}
use Rattle.std.proofs.lemmas.Iterator.{YieldsList-from_slice}
use Rattle.zl_abs.proofs.CallSteps.{found_any}
use Rattle.zl_abs.proofs.call_tests.first_handle.Goals as goal

pub returns-in-Some : goal.returns-in-Some
returns-in-Some c =
    let is = find_from_yields_List {all = c.args.results.now} (λ x. is_has (value_at c.args.state.now x.0)) _ _ _ c.find-found.ensures.ran
    (YieldsList-from_slice _ c.iter.ensures.rest) (λ x b q k. search rules) in
    ap is_some (rw c.in-Some.is at is) ∙ found_any _ c.args.results.now

pub returns-in-None : goal.returns-in-None
returns-in-None c =
    let is = find_from_yields_List {all = c.args.results.now} (λ x. is_has (value_at c.args.state.now x.0)) _ _ _ c.find-found.ensures.ran
    (YieldsList-from_slice _ c.iter.ensures.rest) (λ x b q k. search rules) in
    ap is_some (rw c.in-None.is at is) ∙ found_any _ c.args.results.now
