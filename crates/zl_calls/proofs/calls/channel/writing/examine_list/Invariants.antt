use Rattle.zl_calls.proofs.Common.{[], drop, list_refusal, take, ◌≡◌}
use Rattle.zl_calls.proofs.calls.channel.writing.examine_list.Given as goal

abbrev pub invariant-loop-n : goal.invariant-loop-n
invariant-loop-n l = record { so_far : list_refusal l.table.entries (take l.n l.handles) (drop l.n l.handles) ≡ list_refusal l.table.entries [] l.handles }
