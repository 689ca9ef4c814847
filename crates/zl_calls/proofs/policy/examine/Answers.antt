use Rattle.zl_calls.proofs.Common.{ap, arith, common_steps, reg, result_err, slice_index, suc, sym, ◌+◌, ◌∙◌, ◌≡◌}
use Rattle.zl_code.specs.declared.layout.Ending.TheVariants as ending
use Rattle.zl_calls.proofs.policy.Examining.{behind_all, one_examined}
use Rattle.zl_calls.proofs.policy.examine.Goals as goal

pub loop-n-preserved : goal.loop-n-preserved
loop-n-preserved c =
    let next : suc c.loop-n.n ≡ c.loop-n.n + 1 = omega arith in
    let value : c.register.result ≡ reg c.args.cpu.now (slice_index c.args.call.now.registers c.loop-n.n) = grind (arith, common_steps) in
    rw (← next) (c.loop-n.invariant
    ∙ one_examined c.args.table.now.entries c.args.cpu.now c.args.call.now.registers _ _ c.args.columns.now.fields.now c.loop-n.n c.loop-n.n c.loop-n-test.true
    (rw value at (sym c.examine_one.ensures ∙ ap result_err (c.in_ok-examine_one.was {u = tt}))))

pub returns-in-Handles : goal.returns-in-Handles
returns-in-Handles c =
    c.examine_list.ensures
    ∙ behind_all c.args.table.now.entries c.args.cpu.now c.args.call.now c.args.columns.now.fields.now c.loop-n.n c.args.columns.now.ending ending.Handles _
    (omega (arith, c.loop-n-test.false)) c.in-Handles.is (rw c.handles.ensures at c.listed-count.ensures.values) c.loop-n.invariant

pub returns-in-FromSlots : goal.returns-in-FromSlots
returns-in-FromSlots c =
    c.examine_places.ensures
    ∙ behind_all c.args.table.now.entries c.args.cpu.now c.args.call.now c.args.columns.now.fields.now c.loop-n.n c.args.columns.now.ending ending.FromSlots _
    (omega (arith, c.loop-n-test.false)) c.in-FromSlots.is c.sent_places.ensures c.loop-n.invariant
