use Rattle.zl_code.proofs.Common.{ap, same_Some, sym, ◌∙◌}
use Rattle.zl_code.specs.Own.{OwnWorld}
use Rattle.zl_code.specs.declared.history.TraceItem.{TraceItem}
use Rattle.zl_code.proofs.own_laws.the_own_step_is_one.Goals as goal

pub returns : goal.returns
returns c = λ lib o u v p x y first second.
    let same = same_Some (u, x) (v, y) (sym first ∙ second) in
    (ap (λ (z : OwnWorld × TraceItem). z.0) same, ap (λ (z : OwnWorld × TraceItem). z.1) same)
