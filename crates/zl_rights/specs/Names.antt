-- The names of statuses, kinds and conditions, as texts have them.
use Rattle.std.specs.Prelude.{ℕ, ◌==◌, List, codes, Option}
use Rattle.std.specs.List.{find}
use Rattle.std.specs.Cmp.Lexicographic.{pointwise}
use Rattle.zl_rights.specs.declared.kind.Kind.{Kind}
use Rattle.zl_rights.specs.declared.kind.Kind.TheVariants as kind
use Rattle.zl_rights.specs.Numbers.{all_conditions, all_kinds}
use Rattle.zl_rights.specs.declared.policy.Condition.{Condition}
use Rattle.zl_rights.specs.declared.policy.Condition.TheVariants as condition
use Rattle.zl_rights.specs.declared.status.Status.{Status}
use Rattle.zl_rights.specs.declared.status.Status.TheVariants as status

-- the name of a status, as traces print it
abbrev pub status_name : Status → List ℕ
status_name status.Ok = codes "OK"
status_name status.NotSupported = codes "NOT_SUPPORTED"
status_name status.NoResources = codes "NO_RESOURCES"
status_name status.NoMemory = codes "NO_MEMORY"
status_name status.InvalidArgs = codes "INVALID_ARGS"
status_name status.BadHandle = codes "BAD_HANDLE"
status_name status.WrongType = codes "WRONG_TYPE"
status_name status.OutOfRange = codes "OUT_OF_RANGE"
status_name status.BufferTooSmall = codes "BUFFER_TOO_SMALL"
status_name status.BadState = codes "BAD_STATE"
status_name status.TimedOut = codes "TIMED_OUT"
status_name status.ShouldWait = codes "SHOULD_WAIT"
status_name status.PeerClosed = codes "PEER_CLOSED"
status_name status.NotFound = codes "NOT_FOUND"
status_name status.AlreadyExists = codes "ALREADY_EXISTS"
status_name status.AccessDenied = codes "ACCESS_DENIED"

-- the name of a kind, as the texts of programs spell it
abbrev pub kind_name : Kind → List ℕ
kind_name kind.Process = codes "process"
kind_name kind.Channel = codes "channel"
kind_name kind.Event = codes "event"
kind_name kind.Port = codes "port"
kind_name kind.Eventpair = codes "eventpair"
kind_name kind.Job = codes "job"

-- the kind of this name
unfoldable pub kind_named : List ℕ → Option Kind
kind_named name = find (λ k. pointwise ◌==◌ (kind_name k) name) all_kinds

-- the name of a condition, as the texts of programs spell it
abbrev pub condition_name : Condition → List ℕ
condition_name condition.BadHandle = codes "BAD_HANDLE"
condition_name condition.WrongObject = codes "WRONG_OBJECT"
condition_name condition.NewAny = codes "NEW_ANY"
condition_name condition.NewChannel = codes "NEW_CHANNEL"
condition_name condition.NewEvent = codes "NEW_EVENT"
condition_name condition.NewEventpair = codes "NEW_EVENTPAIR"
condition_name condition.NewPort = codes "NEW_PORT"
condition_name condition.NewProcess = codes "NEW_PROCESS"

-- the condition of this name
unfoldable pub condition_named : List ℕ → Option Condition
condition_named name = find (λ c. pointwise ◌==◌ (condition_name c) name) all_conditions
