use Rattle.zl_calls.proofs.Common.{get, is_blocked, map, process_entry, state_passes, vec_capacity, vec_len, ◌-◌, ◌≡◌}
use Rattle.zl_calls.proofs.lists.FilterInPlace.{IsKeeping}
use Rattle.zl_calls.proofs.calls.kill.keep_blocked.Given as goal

abbrev pub invariant-loop-place : goal.invariant-loop-place
invariant-loop-place l = record {
  left : IsKeeping (λ k. state_passes is_blocked (get (map process_entry l.processes.list.items) k)) l.fn.blocked.items l.place l.blocked.items;
  capacity : vec_capacity l.blocked ≡ vec_capacity l.fn.blocked;
}

abbrev pub decreases-loop-place : goal.decreases-loop-place
decreases-loop-place l = vec_len l.blocked - l.place
