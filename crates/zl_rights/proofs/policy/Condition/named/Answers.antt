-- The first condition with the name.
use Rattle.std.proofs.Common.{rules, nat_eq}
use Rattle.std.specs.Cmp.Lexicographic.{pointwise}
use Rattle.std.proofs.lemmas.Iterator.Search.{find_from_yields_List}
use Rattle.std.proofs.lemmas.Iterator.{YieldsList-from_slice}
use Rattle.zl_rights.specs.Numbers.{all_conditions}
use Rattle.zl_rights.specs.Names.{condition_name, condition_named}
use Rattle.zl_rights.proofs.policy.Condition.named.Goals as goal

pub returns : goal.returns
unfolding condition_named
returns c =
    rw c.copied.ensures (find_from_yields_List {all = all_conditions} (λ k. pointwise nat_eq (condition_name k) c.args.name.now) _ _ _
    c.find.ensures.ran (YieldsList-from_slice _ cc) (λ x b q k. search rules))
