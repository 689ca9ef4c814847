use Rattle.zl_objects.proofs.PortWaits.{added_finds}
use Rattle.zl_objects.proofs.port_waits.PortWaits.add.Goals as goal

pub returns-clause-added : goal.returns-clause-added
returns-clause-added c = added_finds c.args.self.now (record { pairs = c.insert.new.self }) c.args.port c.args.order c.in_ok-insert.ensures.updates
