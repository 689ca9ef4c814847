-- What is active at an object.
use Rattle.std.specs.Prelude.{ℕ, Bool, true, false, ◌&&◌, not, ◌==◌, List, [], ◌∷◌, Option, Some, None, if◌then◌else◌, bit_or}
use Rattle.std.specs.List.{list_any}
use Rattle.zl_rights.specs.Numbers.{READABLE, WRITABLE, PEER_CLOSED, TERMINATED, NO_JOBS, NO_PROCESSES}
use Rattle.zl_rights.specs.Map.{get, has_key}
use Rattle.zl_rights.specs.World.{World, Process, State, Created, Ready, Blocked, Ended, Gone, Object, Body, ChannelEnd, EventBody, PairEnd, PortBody, JobBody, ProcessBody}

-- ---- states of a process

-- created, ready or blocked
abbrev pub lives : State → Bool
lives Created = true
lives Ready = true
lives (Blocked awaited destinations) = true
lives (Ended code) = false
lives Gone = false

-- started, and not over yet
abbrev pub runs : State → Bool
runs Ready = true
runs (Blocked awaited destinations) = true
runs _ = false

-- over, whatever its code
abbrev pub has_ended : State → Bool
has_ended (Ended code) = true
has_ended _ = false

-- may take its next step
abbrev pub is_ready : State → Bool
is_ready Ready = true
is_ready _ = false

-- there is a process, and its state passes
abbrev pub state_passes : (State → Bool) → Option Process → Bool
state_passes test None = false
state_passes test (Some p) = test p.state

-- the process with this koid is there, and its state passes
unfoldable pub is_process : World → (State → Bool) → ℕ → Bool
is_process w test k = state_passes test (get w.processes k)

-- ---- children of a job

-- a living job below this one
abbrev pub is_job_below : ℕ → Body → Bool
is_job_below job (JobBody parent depth policy killed) = parent == job && not killed
is_job_below job _ = false

-- a process of this job
abbrev pub is_process_of : ℕ → Body → Bool
is_process_of job (ProcessBody of) = of == job
is_process_of job _ = false

-- a living job stands directly below this one
unfoldable pub has_child_job : World → ℕ → Bool
has_child_job w job = list_any (λ e. is_job_below job e.1.body) w.objects

-- a living process stands directly below this job
unfoldable pub has_child_process : World → ℕ → Bool
has_child_process w job = list_any (λ e. is_process_of job e.1.body && is_process w lives e.0) w.objects

-- ---- active signals

-- nothing stands in the list
abbrev pub is_empty : {A : Type 0} → List A → Bool
is_empty [] = true
is_empty (x ∷ xs) = false

-- the signal where the test passes
abbrev pub signal_if : ℕ → Bool → ℕ
signal_if s b = if b then s else 0

-- the signals of the object k that follow from the world
abbrev pub implied : World → ℕ → Body → ℕ
implied w k (ChannelEnd peer queue) =
    bit_or (signal_if READABLE (not (is_empty queue))) (if has_key w.objects peer then WRITABLE else PEER_CLOSED)
implied w k EventBody = 0
implied w k (PairEnd peer) = signal_if PEER_CLOSED (not (has_key w.objects peer))
implied w k (PortBody packets) = 0
implied w k (JobBody parent depth policy killed) =
    bit_or (signal_if TERMINATED killed)
    (bit_or (signal_if NO_JOBS (not (has_child_job w k))) (signal_if NO_PROCESSES (not (has_child_process w k))))
implied w k (ProcessBody job) = signal_if TERMINATED (is_process w has_ended k)

-- the signals that calls raised at the object and those that follow from the world, none where it isn't there
abbrev pub active_of : World → ℕ → Option Object → ℕ
active_of w k None = 0
active_of w k (Some o) = bit_or o.raised (implied w k o.body)

-- the active signals of the object k
unfoldable pub active : World → ℕ → ℕ
active w k = active_of w k (get w.objects k)
