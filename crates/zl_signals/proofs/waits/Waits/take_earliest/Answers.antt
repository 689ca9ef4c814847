use Rattle.zl_rights.proofs.Common.{true, ◌∙◌}
use Rattle.std.specs.BTreeMap.{values}
use Rattle.zl_signals.proofs.Entries.{any_found, any_goes}
use Rattle.zl_signals.proofs.Numbered.{earliest}
use Rattle.zl_signals.proofs.waits.Waits.take_earliest.Goals.{After-take}
use Rattle.zl_signals.proofs.waits.Waits.take_earliest.Goals as goal

pub returns-clause-first : goal.returns-clause-first
returns-clause-first c =
    let least = c.in_ok-number.ensures {u = tt} in
    c.take.ensures.earliest (λ x. true) (earliest c.args.self.now.by_number c.in_ok-number.number.now c.in_ok-number.field-0-1.now least.value least.least)
    ∙ any_found (values c.args.self.now.by_number)

pub returns-clause-rest : goal.returns-clause-rest
returns-clause-rest c =
    let least = c.in_ok-number.ensures {u = tt} in
    c.take.ensures.rest (λ x. true) (earliest c.args.self.now.by_number c.in_ok-number.number.now c.in_ok-number.field-0-1.now least.value least.least)
    ∙ any_goes (values c.args.self.now.by_number)
