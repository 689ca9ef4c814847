use Rattle.zl_rights.proofs.Common.{ap, arith, filter, List, not, ◌∙◌}
use Rattle.zl_signals.specs.Numbered.{is_before}
use Rattle.zl_signals.specs.Waits.{is_at_port}
use Rattle.zl_signals.specs.declared.watch.Watch.{Watch}
use Rattle.zl_signals.proofs.Entries.{filtered_out}
use Rattle.zl_signals.proofs.Numbered.{all_fail, fewer_left}
use Rattle.zl_signals.proofs.waits.Waits.end_port.Goals as goal

pub loop-number-smaller : goal.loop-number-smaller
loop-number-smaller c =
    let waits = c.loop-number.self in
    let p = is_at_port c.args.port in
    rw (c.take.ensures.rest p (c.in-Some.ensures {u = tt})) (fewer_left p waits.by_number waits.ordered c.in-Some.number (c.in-Some.ensures {u = tt}))

pub loop-number-preserved : goal.loop-number-preserved
loop-number-preserved c =
    let p = is_at_port c.args.port in
    ap (λ (xs : List Watch). filter (λ x. not (p x)) xs) (c.take.ensures.rest p (c.in-Some.ensures {u = tt})) ∙ (filtered_out p _ ∙ c.loop-number.invariant)

pub returns : goal.returns
returns c =
    let waits = c.loop-number.self in
    let none = c.first_at_port.ensures in
    all_fail (is_at_port c.args.port) waits.by_number waits.ordered (λ n x at. none.0 n x at (omega arith) (ap (is_before n) c.in_default.is))
    ∙ c.loop-number.invariant
