use Rattle.zl_calls.proofs.Common.{sym, ◌∙◌}
use Rattle.std.proofs.lemmas.Result.{err_from_is_err_and}
use Rattle.zl_calls.proofs.calls.SentSlots.{at_fault, passes_on, there_twice}
use Rattle.zl_calls.proofs.calls.channel.writing.examine_places.Goals as goal

pub returns-then-contains : goal.returns-then-contains
returns-then-contains c =
    there_twice c.args.table.now.entries c.args.places.now c.loop-n.n 0 c.loop-n-test.true c.if-handle-eq0.false c.loop-n.invariant.so_far
    (sym c.contains.ensures.value ∙ c.if-contains.true)

pub returns-in_err-look_up : goal.returns-in_err-look_up
returns-in_err-look_up c =
    let told = err_from_is_err_and c.from_residual.result c.from_residual.ensures.1 in
    rw (told.1, told.2)
    (at_fault c.args.table.now.entries c.args.places.now c.loop-n.n 0 c.loop-n-test.true c.if-handle-eq0.false c.loop-n.invariant.so_far
    (sym c.contains.ensures.value ∙ c.if-contains.false) c.in_err-look_up.field-0.0 (sym c.look_up.ensures ∙ c.in_err-look_up.was {u = tt}))

pub loop-n-preserved : goal.loop-n-preserved
loop-n-preserved c = record {
  so_far = passes_on c.args.table.now.entries c.args.places.now c.loop-n.n 0 c.loop-n-test.true c.if-handle-eq0.false c.loop-n.invariant.so_far
      (sym c.contains.ensures.value ∙ c.if-contains.false) c.in_ok-look_up.field-0 (sym c.look_up.ensures ∙ c.in_ok-look_up.was {u = tt});
}
