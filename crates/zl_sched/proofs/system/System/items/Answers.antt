use Rattle.zl_verify.proofs.CoveredRuns.{covered_go_well}
use Rattle.zl_sched.proofs.system.System.items.Goals as goal

pub returns-clause-safe : goal.returns-clause-safe
returns-clause-safe c =
    let legal = c.self.invariant.0.legal in
    rw (← c.self.view_is) (record {
      legal = legal;
      covered = covered_go_well c.self.inside.world.programs c.self.inside.boot.statements.items legal.boot
          (rw c.programs.ensures at c.len.ensures.verified) legal.sized c.self.inside.items.items;
    })
