-- The first kind with the name.
use Rattle.std.proofs.Common.{rules, nat_eq}
use Rattle.std.specs.Cmp.Lexicographic.{pointwise}
use Rattle.std.proofs.lemmas.Iterator.Search.{find_from_yields_List}
use Rattle.std.proofs.lemmas.Iterator.{YieldsList-from_slice}
use Rattle.zl_rights.specs.Numbers.{all_kinds}
use Rattle.zl_rights.specs.Names.{kind_name, kind_named}
use Rattle.zl_rights.proofs.kind.Kind.named.Goals as goal

pub returns : goal.returns
unfolding kind_named
returns c =
    rw c.copied.ensures (find_from_yields_List {all = all_kinds} (λ k. pointwise nat_eq (kind_name k) c.args.name.now) _ _ _
    c.find.ensures.ran (YieldsList-from_slice _ cc) (λ x b q k. search rules))
