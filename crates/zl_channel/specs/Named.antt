-- Whether a message that is to be read has a handle to an object.
use Rattle.std.specs.Prelude.{ℕ, ◌==◌, ◌&&◌, Bool, List}
use Rattle.std.specs.List.{list_any}
use Rattle.zl_rights.specs.Common.{bits, within}
use Rattle.zl_rights.specs.World.{Message}
use Rattle.zl_rights.specs.declared.entry.Entry.{Entry}

-- one of these handles names the object, and has these rights at least
abbrev pub is_named_by : List Entry → (koid rights : ℕ) → Bool
is_named_by handles koid rights = list_any (λ e. (e.koid == koid) && within rights (bits e.rights)) handles

-- a handle in one of these messages does
abbrev pub has_queued_here : List Message → (koid rights : ℕ) → Bool
has_queued_here messages koid rights = list_any (λ m. is_named_by m.handles koid rights) messages
