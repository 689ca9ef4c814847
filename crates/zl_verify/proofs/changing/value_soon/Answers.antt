use Rattle.zl_verify.proofs.Common.{length-set, sym, ◌∙◌}
use Rattle.zl_abs.proofs.FineStates.{with_long}
use Rattle.zl_verify.proofs.Behind.{plain_behind}
use Rattle.zl_verify.proofs.changing.value_soon.Goals as goal

pub returns-in-Written : goal.returns-in-Written
returns-in-Written c = rw c.in-Written.is (plain_behind _ _ _ _ _ _ c.value_set.ensures c.unless_tag.ensures)

pub value_set-requires : goal.value_set-requires
value_set-requires c = sym (with_long c.args.state.now c.in-Written.written c.in-Written.value) ∙ (rw c.in-Written.is at c.requires)
