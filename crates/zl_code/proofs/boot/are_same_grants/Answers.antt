use Rattle.zl_code.proofs.Common.{rules, slice_eq-Decides}
use Rattle.zl_code.proofs.boot.are_same_grants.Goals as goal

pub returns : goal.returns
returns c = slice_eq-Decides (λ a b. search rules) c.args.one.now c.args.other.now c.eq.result c.eq.ensures
