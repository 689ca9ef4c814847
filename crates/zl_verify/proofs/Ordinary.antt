-- The listed answers of a call are answers, neither OK nor faults.
use Rattle.zl_verify.proofs.Common.{AllByRecursion, Bool, Library, List, None, Option, Outcome, Request, Some, Status, World, [], answer_if, chan_read_etc}
use Rattle.zl_verify.proofs.Common.{chan_read_slots, chan_write, chan_write_slots, dup, false, first_some, handle_info, is_fault, job_create, job_set_policy}
use Rattle.zl_verify.proofs.Common.{listed, port_wait, process_create, process_exit, process_start, refl, signal_peer, task_kill, true, wait_async, wait_poll}
use Rattle.zl_verify.proofs.Common.{ℕ, ◌∷◌, ◌≡◌}
use Rattle.zl_code.specs.CallTable.{close}
use Rattle.zl_rights.specs.declared.status.Status.TheVariants as status
use Rattle.zl_code.specs.declared.history.Outcome.TheVariants as outcome

abbrev pub is_good : Status → Bool
is_good status.Ok = true
is_good _ = false

-- if it is one, it is a plain answer
abbrev pub IsOrdinary : Option Outcome → Type 0
IsOrdinary None = Unit {0}
IsOrdinary (Some (outcome.Answered s)) = (is_fault s ≡ false) × (is_good s ≡ false)
IsOrdinary (Some o) = ⊥

abbrev pub AreOrdinary : List (Option Outcome) → Type 0
AreOrdinary os = AllByRecursion IsOrdinary os

if_so : (b : Bool) (s : Status) → is_fault s ≡ false → is_good s ≡ false → IsOrdinary (answer_if b s)
if_so true s e o = (e, o)
if_so false s e o = tt

pub first_ordinary : (os : List (Option Outcome)) → AreOrdinary os → IsOrdinary (first_some os)
first_ordinary [] h = tt
first_ordinary (None ∷ os) h = first_ordinary os h.1
first_ordinary (Some o ∷ os) h = h.0

pub listed_ordinary : (lib : Library) (w : World) (p : ℕ) (r : Request) → AreOrdinary (listed lib w p r)
unfolding listed
listed_ordinary lib w p (close h) = tt
listed_ordinary lib w p (dup h rights) = (if_so _ _ refl refl, (if_so _ _ refl refl, tt))
listed_ordinary lib w p (chan_write c bytes hs) = (if_so _ _ refl refl, (if_so _ _ refl refl, (if_so _ _ refl refl, tt)))
listed_ordinary lib w p (chan_read_etc c address room places) = (if_so _ _ refl refl, (if_so _ _ refl refl, (if_so _ _ refl refl, (if_so _ _ refl refl, tt))))
listed_ordinary lib w p (chan_write_slots c bytes hs) = (if_so _ _ refl refl, (if_so _ _ refl refl, (if_so _ _ refl refl, tt)))
listed_ordinary lib w p (chan_read_slots c address room array places) =
    (if_so _ _ refl refl, (if_so _ _ refl refl, (if_so _ _ refl refl, (if_so _ _ refl refl, tt))))
listed_ordinary lib w p (handle_info h) = tt
listed_ordinary lib w p (signal_peer h clear set) = (if_so _ _ refl refl, (if_so _ _ refl refl, tt))
listed_ordinary lib w p (wait_poll h mask) = (if_so _ _ refl refl, (if_so _ _ refl refl, tt))
listed_ordinary lib w p (wait_async h port key mask) = (if_so _ _ refl refl, (if_so _ _ refl refl, tt))
listed_ordinary lib w p (port_wait port) = tt
listed_ordinary lib w p (process_create job program) = (if_so _ _ refl refl, (if_so _ _ refl refl, (if_so _ _ refl refl, (if_so _ _ refl refl, tt))))
listed_ordinary lib w p (process_start process h word) = (if_so _ _ refl refl, (if_so _ _ refl refl, tt))
listed_ordinary lib w p (process_exit code) = tt
listed_ordinary lib w p (task_kill task) = tt
listed_ordinary lib w p (job_create j) = (if_so _ _ refl refl, (if_so _ _ refl refl, (if_so _ _ refl refl, tt)))
listed_ordinary lib w p (job_set_policy j mode condition action) = (if_so _ _ refl refl, (if_so _ _ refl refl, (if_so _ _ refl refl, tt)))
listed_ordinary lib w p _ = (if_so _ _ refl refl, tt)
