use Rattle.zl_abs.proofs.Common.{ap, bounds_in, call_row, is_written, number_at, slice_index, sym, those, value_at, values_of, zip, ◌∙◌, ◌∷◌}
use Rattle.zl_abs.proofs.GivenValues.{status_alone, unless_alone}
use Rattle.zl_abs.specs.declared.value.AbsVal.TheVariants.{Word}
use Rattle.zl_abs.proofs.call_results.values_of.Goals as goal

pub returns-in-Status : goal.returns-in-Status
returns-in-Status c =
    let i = c.args.instr.now in
    let places = those is_written (call_row i.name).fields 0 i.registers in
    let values = Word 30 ∷ values_of (bounds_in c.args.bounds) c.args.state.now i in
    ap (zip places) c.status_and.ensures ∙ ap (λ g. zip places (unless_alone values g)) (sym c.in-Status.is ∙ c.row.ensures.gives)
    ∙ status_alone i.name i.registers _ (slice_index i.registers 1) (value_at c.args.state.now (slice_index i.registers 1)) (number_at i.last 0 4)
