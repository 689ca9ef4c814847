-- Whether a message at an object has a handle to an object.
use Rattle.std.specs.Prelude.{ℕ, Bool}
use Rattle.std.specs.List.{list_any}
use Rattle.zl_rights.specs.Map.{Map}
use Rattle.zl_channel.specs.Named.{has_queued_here}
use Rattle.zl_objects.specs.Objects.{queue_held}
use Rattle.zl_objects.specs.declared.object.Object.{Object}

-- a handle in a message that is to be read at one of these objects names the object, and has these rights at least
abbrev pub has_queued_at : Map Object → (koid rights : ℕ) → Bool
has_queued_at objects koid rights = list_any (λ o. has_queued_here (queue_held o.1.body) koid rights) objects
