-- What is seen of the objects of a world, and of the handles in its messages.
use Rattle.std.specs.Prelude.{ℕ, Bool, Option}
use Rattle.std.specs.List.{list_any}
use Rattle.std.specs.Option.{option_map}
use Rattle.zl_rights.specs.declared.kind.Kind.{Kind}
use Rattle.zl_code.specs.Common.{World, get, kind_of, queue_of}
use Rattle.zl_channel.specs.Named.{has_queued_here}

-- a handle in a message that is queued names the object, and has these rights at least
abbrev pub has_queued_in : World → (koid rights : ℕ) → Bool
has_queued_in w koid rights = list_any (λ o. has_queued_here (queue_of o.1.body) koid rights) w.objects

-- the kind of the object, if it is there
abbrev pub kind_there : World → ℕ → Option Kind
kind_there w koid = option_map (λ o. kind_of o.body) (get w.objects koid)
