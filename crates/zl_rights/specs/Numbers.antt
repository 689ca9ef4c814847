-- The numbers of rights, signals, kinds, statuses, conditions, actions and modes.
use Rattle.std.specs.Prelude.{ℕ, ◌+◌, ◌^◌, ℤ, pos, negsuc, Bool, not, ◌||◌, ◌==◌, List, [], ◌∷◌, length, bit_and, bit_or, bit_xor, Option, Some, None, if◌then◌else◌}
use Rattle.std.specs.List.{list_any}
use Rattle.zl_rights.specs.declared.rights.Rights.{Rights}
use Rattle.zl_rights.specs.declared.kind.Kind.{Kind}
use Rattle.zl_rights.specs.declared.kind.Kind.TheVariants as kind
use Rattle.zl_rights.specs.declared.status.Status.{Status}
use Rattle.zl_rights.specs.declared.status.Status.TheVariants as status
use Rattle.zl_rights.specs.declared.policy.Condition.{Condition}
use Rattle.zl_rights.specs.declared.policy.Condition.TheVariants as condition
use Rattle.zl_rights.specs.declared.policy.Action.{Action}
use Rattle.zl_rights.specs.declared.policy.Action.TheVariants as action
use Rattle.zl_rights.specs.declared.policy.Mode.{Mode}
use Rattle.zl_rights.specs.declared.policy.Mode.TheVariants as mode

-- ---- sets of bits: a set is the number that has its bits

-- each bit of part is in whole
abbrev pub within : ℕ → ℕ → Bool
within part whole = bit_and whole part == part

-- some bit is in both
abbrev pub meets : ℕ → ℕ → Bool
meets a b = not (bit_and a b == 0)

-- the signals without clear, and then with set
abbrev pub changed : ℕ → ℕ → ℕ → ℕ
changed signals clear set = bit_or (bit_and signals (bit_xor clear 0xffff_ffff)) set

-- ---- rights

-- the set of rights as a number
abbrev pub bits : Rights → ℕ
bits r = r.0

-- the set of rights that is this number
abbrev pub rights_of : ℕ → Rights
rights_of n = record { 0 = n }

-- dup may copy the handle
abbrev pub DUPLICATE : ℕ
DUPLICATE = 0x1

-- the handle may go into a message, or to a process that starts
abbrev pub TRANSFER : ℕ
TRANSFER = 0x2

-- messages and packets may be received by it
abbrev pub READ : ℕ
READ = 0x4

-- messages, packets and waits may be sent by it, and a process started
abbrev pub WRITE : ℕ
WRITE = 0x8

-- its process or job may be killed
abbrev pub DESTROY : ℕ
DESTROY = 0x200

-- policies of its job may be set
abbrev pub SET_POLICY : ℕ
SET_POLICY = 0x400

-- signals of its object may be changed
abbrev pub SIGNAL : ℕ
SIGNAL = 0x1000

-- signals of the other end may be changed
abbrev pub SIGNAL_PEER : ℕ
SIGNAL_PEER = 0x2000

-- one may wait for its signals
abbrev pub WAIT : ℕ
WAIT = 0x4000

-- part of the default rights of every kind; no call needs it
abbrev pub INSPECT : ℕ
INSPECT = 0x8000

-- jobs may be made in its job
abbrev pub MANAGE_JOB : ℕ
MANAGE_JOB = 0x1_0000

-- processes may be made in its job
abbrev pub MANAGE_PROCESS : ℕ
MANAGE_PROCESS = 0x2_0000

-- the twelve known rights
abbrev pub KNOWN_RIGHTS : ℕ
KNOWN_RIGHTS = 0x3_f60f

-- the number that asks for just the rights that a handle has
abbrev pub SAME_RIGHTS : ℕ
SAME_RIGHTS = 0x8000_0000

-- the rights that a copy gets: those of the handle, or a part of them, or none where that may not be
abbrev pub narrowed : Rights → ℕ → Option Rights
narrowed have asked =
    if asked == SAME_RIGHTS then Some have
    else (if within asked (bits have) then Some (rights_of asked) else None)

-- ---- signals

-- at an end of a channel: a message is queued there
abbrev pub READABLE : ℕ
READABLE = 0x1

-- at an end of a channel: the other end is there
abbrev pub WRITABLE : ℕ
WRITABLE = 0x2

-- at an end of a channel or of an event pair: the other end is gone
abbrev pub PEER_CLOSED : ℕ
PEER_CLOSED = 0x4

-- at an event or an end of a pair, where calls alone set and clear it
abbrev pub SIGNALED : ℕ
SIGNALED = 0x8

-- at a process or a job: it has come to its end
abbrev pub TERMINATED : ℕ
TERMINATED = 0x8

-- at a job: no job directly below it lives
abbrev pub NO_JOBS : ℕ
NO_JOBS = 0x10

-- at a job: no process directly below it lives
abbrev pub NO_PROCESSES : ℕ
NO_PROCESSES = 0x20

-- the user signal n, from 0 to 7
abbrev pub user_signal : ℕ → ℕ
user_signal n = 2 ^ (24 + n)

-- the eight signals that calls may set and clear at every kind but ports
abbrev pub USER_SIGNALS : ℕ
USER_SIGNALS = 0xff00_0000

-- ---- kinds

-- the number of a kind, as images and answers have it
abbrev pub kind_number : Kind → ℕ
kind_number kind.Process = 1
kind_number kind.Channel = 4
kind_number kind.Event = 5
kind_number kind.Port = 6
kind_number kind.Eventpair = 16
kind_number kind.Job = 17

-- all kinds, in the order of their numbers
abbrev pub all_kinds : List Kind
all_kinds = kind.Process ∷ kind.Channel ∷ kind.Event ∷ kind.Port ∷ kind.Eventpair ∷ kind.Job ∷ []

-- the two are one kind
abbrev pub same_kind : Kind → Kind → Bool
same_kind a b = kind_number a == kind_number b

-- a handle of this kind will do; no kinds stand for any
abbrev pub takes : List Kind → Kind → Bool
takes kinds k = length kinds == 0 || list_any (same_kind k) kinds

-- the rights of the first handle to a new object
abbrev pub default_rights_of : Kind → ℕ
default_rights_of kind.Process = DUPLICATE + TRANSFER + READ + WRITE + DESTROY + SIGNAL + WAIT + INSPECT + MANAGE_PROCESS
default_rights_of kind.Channel = TRANSFER + READ + WRITE + SIGNAL + SIGNAL_PEER + WAIT + INSPECT
default_rights_of kind.Event = DUPLICATE + TRANSFER + SIGNAL + WAIT + INSPECT
default_rights_of kind.Port = DUPLICATE + TRANSFER + READ + WRITE + INSPECT
default_rights_of kind.Eventpair = DUPLICATE + TRANSFER + SIGNAL + SIGNAL_PEER + WAIT + INSPECT
default_rights_of kind.Job = DUPLICATE + TRANSFER + READ + WRITE + DESTROY + SET_POLICY + SIGNAL + WAIT + INSPECT + MANAGE_JOB + MANAGE_PROCESS

-- ---- statuses

-- the number without its sign, as a status register holds it
abbrev pub status_magnitude : Status → ℕ
status_magnitude status.Ok = 0
status_magnitude status.NotSupported = 2
status_magnitude status.NoResources = 3
status_magnitude status.NoMemory = 4
status_magnitude status.InvalidArgs = 10
status_magnitude status.BadHandle = 11
status_magnitude status.WrongType = 12
status_magnitude status.OutOfRange = 14
status_magnitude status.BufferTooSmall = 15
status_magnitude status.BadState = 20
status_magnitude status.TimedOut = 21
status_magnitude status.ShouldWait = 22
status_magnitude status.PeerClosed = 24
status_magnitude status.NotFound = 25
status_magnitude status.AlreadyExists = 26
status_magnitude status.AccessDenied = 30

-- the number of a status; all but that of OK are negative
abbrev pub status_number : Status → ℤ
status_number status.Ok = pos 0
status_number status.NotSupported = negsuc 1
status_number status.NoResources = negsuc 2
status_number status.NoMemory = negsuc 3
status_number status.InvalidArgs = negsuc 9
status_number status.BadHandle = negsuc 10
status_number status.WrongType = negsuc 11
status_number status.OutOfRange = negsuc 13
status_number status.BufferTooSmall = negsuc 14
status_number status.BadState = negsuc 19
status_number status.TimedOut = negsuc 20
status_number status.ShouldWait = negsuc 21
status_number status.PeerClosed = negsuc 23
status_number status.NotFound = negsuc 24
status_number status.AlreadyExists = negsuc 25
status_number status.AccessDenied = negsuc 29

-- ---- policy

-- the number of a condition, as calls and the policies of jobs have it
abbrev pub condition_number : Condition → ℕ
condition_number condition.BadHandle = 0
condition_number condition.WrongObject = 1
condition_number condition.NewAny = 2
condition_number condition.NewChannel = 3
condition_number condition.NewEvent = 4
condition_number condition.NewEventpair = 5
condition_number condition.NewPort = 6
condition_number condition.NewProcess = 7

-- the conditions of making an object of one kind, in the order of their numbers
abbrev pub all_makings : List Condition
all_makings = condition.NewChannel ∷ condition.NewEvent ∷ condition.NewEventpair ∷ condition.NewPort ∷ condition.NewProcess ∷ []

-- all conditions, in the order of their numbers
abbrev pub all_conditions : List Condition
all_conditions = condition.BadHandle ∷ condition.WrongObject ∷ condition.NewAny ∷ all_makings

-- the number of an action, as job_set_policy takes it
abbrev pub action_number : Action → ℕ
action_number action.Allow = 0
action_number action.Deny = 1
action_number action.Kill = 2

-- the number of a mode, as job_set_policy takes it
abbrev pub mode_number : Mode → ℕ
mode_number mode.Relative = 0
mode_number mode.Absolute = 1

-- ---- codes of an end

-- of a process that was killed
abbrev pub KILLED : ℤ
KILLED = negsuc 1023

-- of a process that its policy ended
abbrev pub BY_POLICY : ℤ
BY_POLICY = negsuc 1025

-- of a process that was stuck
abbrev pub STUCK : ℤ
STUCK = negsuc 1027
