-- All statuses, among which one is found by its name.
use Rattle.std.specs.Prelude.{List, [], ◌∷◌}
use Rattle.zl_rights.specs.declared.status.Status.{Status}
use Rattle.zl_rights.specs.declared.status.Status.TheVariants as status

-- all statuses, by their magnitudes
abbrev pub all_statuses : List Status
all_statuses = status.Ok ∷ status.NotSupported ∷ status.NoResources ∷ status.NoMemory ∷ status.InvalidArgs ∷ status.BadHandle
    ∷ status.WrongType ∷ status.OutOfRange ∷ status.BufferTooSmall ∷ status.BadState ∷ status.TimedOut ∷ status.ShouldWait
    ∷ status.PeerClosed ∷ status.NotFound ∷ status.AlreadyExists ∷ status.AccessDenied ∷ []
