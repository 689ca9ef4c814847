use Rattle.zl_rights.proofs.Common.{ap, option_map, sym, ◌∙◌}
use Rattle.zl_signals.specs.Waits.{watch_holds}
use Rattle.zl_signals.specs.declared.watch.Watch.{Watch}
use Rattle.zl_signals.proofs.Numbered.{found_first, none_found}
use Rattle.zl_signals.proofs.waits.Waits.next_order.Goals as goal

pub returns-in_err-number : goal.returns-in_err-number
returns-in_err-number c =
    let waits = c.args.self.now in
    c.from_residual.ensures ∙ sym (ap (option_map (λ (x : Watch). x.order)) (none_found (watch_holds c.args.active.0) waits.by_number waits.ordered
    (c.in_err-number.ensures {u = tt})))

pub returns : goal.returns
returns c =
    let waits = c.args.self.now in
    ap (option_map (λ (x : Watch). x.order)) ((c.in_ok-get.ensures {u = tt}).value
    ∙ found_first (watch_holds c.args.active.0) waits.by_number waits.ordered c.in_ok-number.number (c.in_ok-number.ensures {u = tt}))
