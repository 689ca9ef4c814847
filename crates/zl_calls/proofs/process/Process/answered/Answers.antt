use Rattle.zl_calls.proofs.Common.{ap, status_magnitude, ◌∙◌, ◌∷◌}
use Rattle.zl_calls.proofs.processes.Answering.{one_written}
use Rattle.zl_calls.proofs.process.Process.answered.Goals as goal

pub loop-n-preserved : goal.loop-n-preserved
loop-n-preserved c = rw (c.set.ensures, c.value_at.ensures)
    (c.loop-n.invariant ∙ ap (λ rs. record c.loop-n.self { cpu = record c.loop-n.self.cpu { registers = rs } })
    (one_written c.loop-n.n c.args.destinations.now (status_magnitude c.args.status ∷ c.args.values.now) c.loop-n.self.cpu.registers
    c.index-destinations-n.result c.loop-n-test.true c.index-destinations-n.is))
