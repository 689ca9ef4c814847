-- What is active at an object, by the objects alone.
use Rattle.std.specs.Prelude.{ℕ, ◌≡◌, ◌<◌, IsTrue, not, Option, Some, None, if◌then◌else◌, bit_or}
use Rattle.std.specs.Ordering.{nat_cmp}
use Rattle.std.specs.FinMap.Entries.{is_sorted}
use Rattle.zl_rights.specs.Map.{Map, get, has_key}
use Rattle.zl_rights.specs.Numbers.{READABLE, WRITABLE, PEER_CLOSED, TERMINATED, NO_JOBS, NO_PROCESSES}
use Rattle.zl_rights.specs.Signals.{active, has_ended, is_empty, is_process, lives, signal_if}
use Rattle.zl_rights.specs.World.{World}
use Rattle.zl_objects.specs.declared.object.Body.{Body}
use Rattle.zl_objects.specs.declared.object.Body.TheVariants as body
use Rattle.zl_objects.specs.declared.object.Life.{Life}
use Rattle.zl_objects.specs.declared.object.Object.{Object}
use Rattle.zl_objects.specs.Objects.{is_alive}
use Rattle.zl_objects.specs.Jobs.{has_job_below, has_process_below}
use Rattle.zl_objects.specs.Seen.{with_objects}

-- the signals of the object k that follow from the objects
abbrev pub implied_here : Map Object → ℕ → Body → ℕ
implied_here m k (body.Job job) =
    bit_or (signal_if TERMINATED job.killed)
    (bit_or (signal_if NO_JOBS (not (has_job_below m k))) (signal_if NO_PROCESSES (not (has_process_below m k))))
implied_here m k (body.Process job l) = signal_if TERMINATED (not (is_alive l))
implied_here m k body.Event = 0
implied_here m k (body.Port port) = 0
implied_here m k (body.PairEnd peer) = signal_if PEER_CLOSED (not (has_key m peer))
implied_here m k (body.ChannelEnd peer queue) =
    bit_or (signal_if READABLE (not (is_empty queue))) (if has_key m peer then WRITABLE else PEER_CLOSED)

-- the signals that calls raised at the object that was found, and those that follow
abbrev pub signals_in : Map Object → ℕ → Option Object → ℕ
signals_in m k None = 0
signals_in m k (Some o) = bit_or o.signals.raised (implied_here m k o.body)

-- the signals of the object k, none where it isn't there
abbrev pub signals_at : Map Object → ℕ → ℕ
signals_at m k = signals_in m k (get m k)

-- the object of a process says whether the process lives, and else it has ended
pub record ShowsState (w : World) (k : ℕ) (l : Life) : Type 0 where
  pub living : is_alive l ≡ is_process w lives k
  pub over : not (is_alive l) ≡ is_process w has_ended k

abbrev pub Shows : World → ℕ → Body → Type 0
Shows w k (body.Process job l) = ShowsState w k l
Shows w k _ = Unit {0}

-- the objects show the states of the processes
pub record ShowStates (w : World) (m : Map Object) : Type 0 where
  pub in_order : IsTrue (is_sorted nat_cmp m)
  pub no_zero : (k : ℕ) → IsTrue (has_key m k) → 0 < k
  pub shown : (k : ℕ) (o : Object) → get m k ≡ Some o → Shows w k o.body

-- in each world whose processes the objects show, these signals are active at the object k
abbrev pub AreActive : Map Object → ℕ → ℕ → Type 0
AreActive m k signals = (w : World) → ShowStates w m → signals ≡ active (with_objects w m) k
