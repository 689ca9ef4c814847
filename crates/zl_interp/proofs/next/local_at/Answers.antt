use Rattle.zl_interp.proofs.Common.{program_value}
use Rattle.zl_interp.proofs.Standing.{local_moves, no_local}
use Rattle.zl_interp.proofs.next.local_at.Goals as goal

pub returns-clause-found : goal.returns-clause-found
returns-clause-found c = rw (c.local_at.ensures.value, c.image.ensures, c.counter.ensures) (local_moves (program_value c.args.program.now).image c.args.cpu.now)

pub returns-clause-missing : goal.returns-clause-missing
returns-clause-missing c = rw (c.local_at.ensures.value, c.image.ensures, c.counter.ensures) (no_local (program_value c.args.program.now).image c.args.cpu.now)
