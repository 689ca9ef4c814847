use Rattle.zl_scenario.proofs.Programs.{program_pushed}
use Rattle.zl_scenario.proofs.draft.Draft.push_program.Goals as goal

pub invariant_of-self-2 : goal.invariant_of-self-2
invariant_of-self-2 c =
    rw c.in_ok-push-2.ensures.added (program_pushed c.self.inside.scenario.library _ c.self.invariant c.requires.in_range c.requires.accepted)
