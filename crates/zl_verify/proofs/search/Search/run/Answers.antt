use Rattle.zl_verify.proofs.Common.{arith, sym, ◌∙◌}
use Rattle.zl_verify.proofs.Leaving.{ran_on, ran_out, ran_none, ran_past}
use Rattle.zl_verify.proofs.search.Search.run.Goals as goal

pub returns-in-Ok-false-clause-turned : goal.returns-in-Ok-false-clause-turned
returns-in-Ok-false-clause-turned c =
    ran_out c.args.stretches.now.numbers c.args.image.now c.loop-place.self c.loop-place.place c.loop-place.state c.step.new.self (omega arith)
    (rw (c.in-Ok-false.is, c.in-Ok-false.field-0-test) at c.step.ensures.told) ∙ sym c.loop-place.invariant

pub returns-in-Err-clause-turned : goal.returns-in-Err-clause-turned
returns-in-Err-clause-turned c =
    ran_none c.args.stretches.now.numbers c.args.image.now c.loop-place.self c.loop-place.place c.loop-place.state (omega arith)
    (rw c.in-Err.is at c.step.ensures.told) ∙ sym c.loop-place.invariant

pub loop-place-preserved : goal.loop-place-preserved
loop-place-preserved c =
    c.loop-place.invariant
    ∙ ran_on c.args.stretches.now.numbers c.args.image.now c.loop-place.self c.loop-place.place c.loop-place.state c.step.new.self c.step.new.state
    (omega arith) (rw (c.in-Ok-true.is, c.in-Ok-true.field-0-test) at c.step.ensures.told)

pub returns-clause-turned : goal.returns-clause-turned
returns-clause-turned c =
    ran_past c.args.stretches.now.numbers c.args.image.now c.loop-place.self c.loop-place.place c.loop-place.state (omega arith) ∙ sym c.loop-place.invariant
