use Rattle.std.proofs.Common.{string_bytes, take, ◌++◌, ◌≡◌}
use Rattle.std.specs.List.{flat_map}
use Rattle.zlab.specs.Ends.{turn_line}
use Rattle.zlab.proofs.ends.push_schedule.Given as goal

abbrev pub invariant-loop-pid : goal.invariant-loop-pid
invariant-loop-pid l = string_bytes l.text ≡ string_bytes l.initial.text ++ flat_map turn_line (take l.pid-index l.schedule)
