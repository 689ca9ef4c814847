-- How many handles name an object, in tables and in queues.
use Rattle.std.specs.Prelude.{ℕ, ◌+◌, ◌==◌}
use Rattle.std.specs.List.{count_by, sum_by}
use Rattle.zl_rights.specs.World.{World, Body, ChannelEnd}

-- how many handles in the messages that wait at a channel end name the object k
abbrev pub queued_to : ℕ → Body → ℕ
queued_to k (ChannelEnd peer queue) = sum_by (λ m. count_by (λ h. h.koid == k) m.handles) queue
queued_to k _ = 0

-- how many handles, in tables and in queues, name the object k
unfoldable pub handles_to : World → ℕ → ℕ
handles_to w k =
    sum_by (λ p. count_by (λ h. h.1.koid == k) p.1.handles) w.processes
    + sum_by (λ o. queued_to k o.1.body) w.objects
