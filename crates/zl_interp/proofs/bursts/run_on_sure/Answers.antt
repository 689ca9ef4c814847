use Rattle.zl_interp.proofs.Common.{ap, arith, goes_to, length, refl, rules, ◌∙◌}
use Rattle.zl_interp.proofs.Going.{able_then, goes, leads_on, leads_still, next_alike}
use Rattle.zl_interp.proofs.bursts.run_on_sure.Goals as goal

pub step_sure-requires-clause-sure : goal.step_sure-requires-clause-sure
step_sure-requires-clause-sure c =
    goes c.args.image.now c.code-code.result.now (goes_to c.loop-ran.cpu c.loop-ran.counter) c.code-code.ensures.value c.code-code.ensures.in_range
    c.loop-ran.invariant.2

pub loop-ran-preserved : goal.loop-ran-preserved
loop-ran-preserved c = (
  c.mark.ensures.long ∙ ap length c.code-code.ensures.value,
  leads_on c.args.image.now c.code-code.result.now c.code-code.ensures.value c.loop-ran.marks c.mark.new.marks c.loop-ran.ran c.args.cpu.now
      (goes_to c.loop-ran.cpu c.loop-ran.counter) c.loop-ran.invariant.1 c.mark.ensures.filled
      (goes_to c.step_sure.new.cpu c.in-Some.next) c.in-Some.ensures.moves,
  able_then c.args.image.now c.code-code.result.now (goes_to c.loop-ran.cpu c.loop-ran.counter) c.code-code.ensures.value c.code-code.ensures.in_range
      c.loop-ran.invariant.2 (goes_to c.step_sure.new.cpu c.in-Some.next) c.in-Some.ensures.moves,
)

pub returns-in_default-clause-leads : goal.returns-in_default-clause-leads
returns-in_default-clause-leads c =
    leads_still c.args.image.now c.code-code.result.now c.code-code.ensures.value c.loop-ran.marks c.mark.new.marks c.loop-ran.ran c.args.cpu.now
    (goes_to c.loop-ran.cpu c.loop-ran.counter) c.loop-ran.invariant.1 c.mark.ensures.filled c.loop-ran.ran _ refl (search rules)

pub returns-in_default-clause-next : goal.returns-in_default-clause-next
returns-in_default-clause-next c =
    next_alike c.args.image.now c.code-code.result.now c.code-code.ensures.value c.loop-ran.marks c.mark.new.marks c.loop-ran.ran c.args.cpu.now
    (goes_to c.loop-ran.cpu c.loop-ran.counter) c.loop-ran.invariant.1 c.mark.ensures.filled _ (search rules)

pub returns-clause-leads : goal.returns-clause-leads
returns-clause-leads c =
    leads_still c.args.image.now c.code-code.result.now c.code-code.ensures.value c.loop-ran.marks c.mark-2.new.marks c.loop-ran.ran c.args.cpu.now
    (goes_to c.loop-ran.cpu c.loop-ran.counter) c.loop-ran.invariant.1 c.mark-2.ensures.filled c.args.most _
    (omega (arith, c.loop-ran-test.false, c.loop-ran.auto.ran-end)) (search rules)

pub returns-clause-next : goal.returns-clause-next
returns-clause-next c =
    next_alike c.args.image.now c.code-code.result.now c.code-code.ensures.value c.loop-ran.marks c.mark-2.new.marks c.loop-ran.ran c.args.cpu.now
    (goes_to c.loop-ran.cpu c.loop-ran.counter) c.loop-ran.invariant.1 c.mark-2.ensures.filled _ (search rules)
