use Rattle.zl_objects.proofs.PortWaits.{removed_finds}
use Rattle.zl_objects.proofs.port_waits.PortWaits.remove.Goals as goal

pub returns : goal.returns
returns c = removed_finds c.args.self.now (record { pairs = c.remove.new.self }) c.args.port c.args.order c.remove.ensures.updates
