use Rattle.zl_verify.proofs.Common.{ap, length-map, sym, ◌∙◌}
use Rattle.zl_code.specs.Instructions.{Row}
use Rattle.zl_verify.proofs.NamedByCalls.{unnamed}
use Rattle.zl_verify.proofs.naming.is_named_in_call.Goals as goal

pub returns : goal.returns
returns c =
    λ h. unnamed _ _ _ _ _ (ap (λ (r : Row). r.fields) (sym c.row.ensures.row)) (ap (λ (r : Row). r.ending) (sym c.row.ensures.row)) (length-map _ _)
    (sym c.goes_on.ensures ∙ c.if-not-goes_on.false) c.is_named_by.ensures.wide (sym c.is_named_by.ensures.value ∙ h)
