use Rattle.zl_calls.proofs.Common.{sym, ◌∙◌}
use Rattle.zl_calls.proofs.calls.ReaderTold.{one_told, set_keeps}
use Rattle.zl_calls.proofs.calls.channel.reading.tell.Goals as goal

pub loop-n-preserved : goal.loop-n-preserved
loop-n-preserved c = record {
  left = rw (c.set_number-in-loop-n-2.ensures, c.set_number-in-loop-n.ensures, c.set_number.ensures, c.triple.ensures)
      (sym (one_told c.from-start.result c.loop-n.n c.args.places c.loop-n-test.true c.args.handles.now c.args.values.now c.loop-n.cpu.registers)
      ∙ c.loop-n.invariant.left);
  start = c.loop-n.invariant.start;
  others = set_keeps c.args.cpu.now c.set_number-in-loop-n.new.self c.set_number-in-loop-n-2.new.self _ _
      (set_keeps c.args.cpu.now c.set_number.new.self c.set_number-in-loop-n.new.self _ _
      (set_keeps c.args.cpu.now c.loop-n.cpu c.set_number.new.self _ _ c.loop-n.invariant.others c.set_number.ensures) c.set_number-in-loop-n.ensures)
      c.set_number-in-loop-n-2.ensures;
}
