use Rattle.zlab.proofs.Common.{refl, joined_files}
use Rattle.zlab.proofs.files.read_files.Goals as goal

pub returns-clause-ok : goal.returns-clause-ok
returns-clause-ok g c =
    let first = c.in_ok-first.ensures.ok in
    let second = c.in_ok-second.ensures.ok in
    record {
      text = joined_files first.bytes second.bytes;
      are_joined = record {
        scenario = first.bytes;
        schedule = second.bytes;
        is_scenario = record { those_told = first.those_told };
        is_schedule = record { those_told = second.those_told };
        is_joined = refl;
      };
      holds = c.in_ok-join.ensures first.bytes second.bytes first.holds second.holds;
    }
