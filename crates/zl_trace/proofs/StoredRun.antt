-- The stored run: its history follows its schedule, and has its text, by computation.
use Rattle.zl_trace.proofs.Common.{Choice, Follows, List, Refused, [], boot_effect, codes, digits, history_text, pos, refl, replicate, turns_of, ℕ, ◌++◌, ◌∷◌}
use Rattle.zl_trace.proofs.Common.{◌≡◌}
use Rattle.zl_code.specs.declared.history.ProcState.TheVariants as seen
use Rattle.zl_code.proofs.Running.{computing, world_after}
use Rattle.zl_code.proofs.Stored.{library, boot, history, turns}
use Rattle.zl_sched.specs.declared.system.End.TheVariants as end
use Rattle.zl_sched.proofs.Following.{follow_by, Follows-by}

-- eight turns with a choice each, and twelve more, in which the process has ended
abbrev all_turns : List (ℕ × Choice)
all_turns = turns ++ replicate 12 (2, Refused)

-- The eight items follow the schedule of twenty turns of process 2.
follows_its_schedule : Follows library boot (turns_of ((2, 20) ∷ [])) history (world_after boot (follow_by library boot all_turns))
unfolding computing boot_effect
follows_its_schedule = Follows-by library boot all_turns history refl refl

-- They have this text.
has_its_text : history_text history ((2, seen.Ended (pos 0)) ∷ []) end.Schedule
    ≡ codes "2 event_create OK\n2 run 1\n2 signal OK\n2 dup OK\n2 close OK\n2 close OK\n2 close OK\n2 process_exit ended 0\nprocess 2 ended 0\nend schedule\n"
unfolding history_text digits
has_its_text = refl

-- Run on threads it has the same, but for its last line.
has_its_quiet_text : history_text history ((2, seen.Ended (pos 0)) ∷ []) end.Quiet
    ≡ codes "2 event_create OK\n2 run 1\n2 signal OK\n2 dup OK\n2 close OK\n2 close OK\n2 close OK\n2 process_exit ended 0\nprocess 2 ended 0\nend quiet\n"
unfolding history_text digits
has_its_quiet_text = refl
