use Rattle.zl_scenario.proofs.Common.{refl}
use Rattle.zl_scenario.proofs.Programs.{lists_all}
use Rattle.zl_scenario.proofs.draft.Draft.into_scenario.Goals as goal

pub returns-clause-whole : goal.returns-clause-whole
returns-clause-whole c = rw (← c.self.view_is) (record {
  programs = lists_all c.self.inside.scenario.library c.self.invariant.ranges;
  statements = refl;
  lines = refl;
  limit = refl;
  schedule_line = refl;
  schedule = refl;
  accepted = c.self.invariant.accepted;
})
