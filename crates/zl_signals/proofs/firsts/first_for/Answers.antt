use Rattle.zl_rights.proofs.Common.{option_map, rules}
use Rattle.std.proofs.lemmas.Iterator.Consumers.{YieldsList-from_rest}
use Rattle.std.proofs.lemmas.Iterator.Search.{find_from_yields_List}
use Rattle.std.specs.Map.Iter.{deref_pair}
use Rattle.zl_signals.specs.Numbered.{is_for, IsFirstFrom}
use Rattle.zl_signals.proofs.Entries.{first_in}
use Rattle.zl_signals.proofs.Numbered.{shown}
use Rattle.zl_signals.proofs.firsts.first_for.Goals.{After-find}
use Rattle.zl_signals.proofs.firsts.first_for.Goals as goal

first : (c : After-find) → IsFirstFrom c.args.from (is_for c.args.signals.0) c.args.waits.now
    (option_map (λ e. e.0) (option_map deref_pair c.find.result))
first c =
    first_in c.args.from (is_for c.args.signals.0) c.args.waits.now.entries c.range-later.ensures.ordered (option_map deref_pair c.find.result)
    (find_from_yields_List (λ e. is_for c.args.signals.0 e.1) _ _ c.find.result c.find.ensures.ran
    (YieldsList-from_rest _ (c.range-later.ensures.between tt)) (λ x b q k. search rules))

pub returns-in-Some : goal.returns-in-Some
returns-in-Some c = shown (is_for c.args.signals.0) c.args.waits.now c.args.from c.requires c.in-Some.number.now (rw c.in-Some.is at (first c.before.before))

pub returns-in-None : goal.returns-in-None
returns-in-None c = rw c.in-None.is at (first c.before)
