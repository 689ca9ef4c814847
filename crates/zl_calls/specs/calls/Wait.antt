-- What calls do that look at signals: wait_one and wait_poll. No public clause cites this module.
use Rattle.std.specs.Prelude.{ℕ, ◌≡◌, Bool, true, false, List, [], ◌∷◌, None, Result, Ok, Err, if◌then◌else◌}
use Rattle.std.specs.Result.{result_err}
use Rattle.zl_code.specs.Common.{Map}
use Rattle.zl_code.specs.Waiting.{is_mask}
use Rattle.zl_rights.specs.declared.status.Status.{Status}
use Rattle.zl_rights.specs.declared.status.Status.TheVariants as status
use Rattle.zl_rights.specs.declared.entry.Entry.{Entry}
use Rattle.zl_rights.specs.declared.signals.Signals.{Signals}
use Rattle.zl_rights.specs.LookUp.{looked_up}
use Rattle.zl_rights.specs.Numbers.{WAIT, meets}
use Rattle.zl_rights.specs.World.{Awaited, SignalOf}
use Rattle.zl_table.specs.Table.{Handles}
use Rattle.zl_objects.specs.declared.object.Object.{Object}
use Rattle.zl_objects.specs.Objects.{Objects}
use Rattle.zl_objects.specs.Signals.{signals_at}
use Rattle.zl_calls.specs.declared.calls.wait.Watched.{Watched}
use Rattle.zl_calls.specs.declared.calls.wait.PollFault.{PollFault}
use Rattle.zl_calls.specs.declared.calls.wait.PollFault.TheVariants as fault
use Rattle.zl_calls.specs.calls.Answer.{Does, Told, wants_nothing}

-- ---- what is looked at

-- the object with the mask and its active signals, where this look-up found the handle
abbrev pub watched_of : Map Object → ℕ → Result Entry Status → Result Watched Status
watched_of objects mask (Err s) = Err s
watched_of objects mask (Ok e) =
    if is_mask mask then Ok (record { koid = e.koid; mask = record { 0 = mask }; active = record { 0 = signals_at objects e.koid } })
    else Err status.InvalidArgs

-- the same of the handle at the value, or why its signals can't be looked at
abbrev pub watched_at : Map Entry → Map Object → (value mask : ℕ) → Result Watched Status
watched_at entries objects value mask = watched_of objects mask (looked_up entries value [] WAIT)

-- a signal of the mask is active there
abbrev pub is_seen : Watched → Bool
is_seen w = meets w.active.0 w.mask.0

-- ---- wait_one

-- a signal of the mask is active at the object of the handle at the value; it changes nothing
pub record SeesActive (t : Handles) (r : Objects) (value mask : ℕ) (watched : Watched) (t2 : Handles) (r2 : Objects) : Type 0 where
  pub seen : watched_at t.entries r.objects value mask ≡ Ok watched
  pub active : is_seen watched ≡ true
  pub table : t2 ≡ t
  pub objects : r2 ≡ r

-- wait_one by the handle at the value, with this mask, where it is answered; it never wants memory
abbrev pub WaitOneDoes : (value mask : ℕ) → Handles → Objects → Result Watched Status → Handles → Objects → Type 0
WaitOneDoes value mask t r = Does (SeesActive t r value mask) wants_nothing (result_err (watched_at t.entries r.objects value mask)) t r

-- what it gives behind the status: the active signals
abbrev pub watched_values : Watched → List ℕ
watched_values w = w.active.0 ∷ []

-- where it blocks: none of the mask is active at the object of the handle, at which it waits for one
pub record WaitsForSignal (value mask : ℕ) (t : Handles) (r : Objects) (awaited : Awaited) : Type 0 where
  pub watched : Watched
  pub seen : watched_at t.entries r.objects value mask ≡ Ok watched
  pub inactive : is_seen watched ≡ false
  pub is_awaited : awaited ≡ SignalOf watched.koid mask

-- ---- wait_poll

-- the active signals, where one of the mask is among them
abbrev pub polled_by : Result Watched Status → Result Signals PollFault
polled_by (Err s) = Err (fault.Refused s)
polled_by (Ok w) = if is_seen w then Ok w.active else Err (fault.TimedOut w.active)

-- the answer of wait_poll
abbrev pub polled_at : Map Entry → Map Object → (value mask : ℕ) → Result Signals PollFault
polled_at entries objects value mask = polled_by (watched_at entries objects value mask)

-- wait_poll by the handle at the value, with this mask; it changes nothing
pub record WaitPollDoes (value mask : ℕ) (t : Handles) (r : Objects) (answer : Result Signals PollFault) (t2 : Handles) (r2 : Objects) : Type 0 where
  pub answered : answer ≡ polled_at t.entries r.objects value mask
  pub table : t2 ≡ t
  pub objects : r2 ≡ r

-- the status that the caller gets
abbrev pub polled_status : Result Signals PollFault → Status
polled_status (Ok active) = status.Ok
polled_status (Err (fault.TimedOut active)) = status.TimedOut
polled_status (Err (fault.Refused s)) = s

-- the active signals, on OK and on TIMED_OUT
abbrev pub polled_values : Result Signals PollFault → List ℕ
polled_values (Ok active) = active.0 ∷ []
polled_values (Err (fault.TimedOut active)) = active.0 ∷ []
polled_values (Err (fault.Refused s)) = []

-- what the caller is told: the status, and behind it the active signals
abbrev pub told_polled : Result Signals PollFault → Told
told_polled answer = record { status = polled_status answer; values = polled_values answer; stored = (0, []); kept = None }
