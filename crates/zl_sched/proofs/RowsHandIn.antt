-- Worked examples: what is counted of a burst, and the list with its marks after it was handed in.
use Rattle.zl_code.specs.declared.image.Version.TheVariants as version
use Rattle.zl_sched.proofs.Common.{Blocked, Created, Done, Ended, None, PacketAt, Process, Ready, State, System, World, [], false, get, is_in, is_process}
use Rattle.zl_sched.proofs.Common.{is_ready_or_over, others_of, put_back, queued_after, refl, requeued, run_items, times_in, true, unmarked, ℕ, ◌∷◌, ◌≡◌}
use Rattle.zl_rights.specs.Common.{STUCK, Cpu}
use Rattle.zl_code.specs.declared.history.TraceItem.TheVariants as item
use Rattle.zl_interp.specs.declared.bursts.Stop.{Stop}
use Rattle.zl_interp.specs.declared.bursts.Stop.TheVariants as stop
use Rattle.zl_sched.specs.HandIn.{items_of}

-- ---- items

module _ (c : Cpu) where
  abbrev did : ℕ → Stop → Done
  did ran stop = record { pid = 2; from = c; to = c; ran = ran; stop = stop; version = version.One; places = [] }

  a_call_alone : items_of (did 0 stop.AtCall) ≡ 1
  a_call_alone = refl

  local_instructions_and_a_call : items_of (did 5 stop.AtCall) ≡ 2
  local_instructions_and_a_call = refl

  local_instructions_alone : items_of (did 5 stop.More) ≡ 1
  local_instructions_alone = refl

  stuck_behind_them : items_of (did 5 stop.Stuck) ≡ 2
  stuck_behind_them = refl

  nothing : items_of (did 0 stop.More) ≡ 0
  nothing = refl

one_run : run_items 2 5 ≡ item.Run 2 5 ∷ []
one_run = refl

no_run : run_items 2 0 ≡ []
no_run = refl

-- ---- the list and the marks

module _ (s : System) where
  abbrev before : System
  before = record s { ready = 4 ∷ []; out = 2 ∷ 3 ∷ [] }

  comes_back_last : (put_back before 2).ready ≡ 4 ∷ 2 ∷ []
  comes_back_last = refl

  others_stay_out : (put_back before 2).out ≡ 3 ∷ []
  others_stay_out = refl

  forgotten : (unmarked before 3).out ≡ 2 ∷ []
  forgotten = refl

-- 2 and 5 are out, 3 waits, and 4 was made and isn't started; then 2 did something by which 3 and 4 became ready
module _ (c : Cpu) where
  abbrev process : State → Process
  process state = record { program = 0; cpu = c; state = state; handles = []; last = None }

  abbrev world : State → State → World
  world third fourth = record {
    processes = (2, process Ready) ∷ (3, process third) ∷ (4, process fourth) ∷ (5, process Ready) ∷ (6, process (Ended STUCK)) ∷ [];
    objects = [];
    waits = [];
    blocked = [];
    next_koid = 7;
    waits_made = 0;
  }

  abbrev was : World
  was = world (Blocked (PacketAt 1) []) Created

  abbrev now : World
  now = world Ready Ready

  by_koid_and_then_itself : queued_after was 2 now [] ≡ 3 ∷ 4 ∷ 2 ∷ []
  unfolding is_process get
  by_koid_and_then_itself = refl

  so_does_the_code : requeued now 2 (5 ∷ []) [] ≡ 3 ∷ 4 ∷ 2 ∷ []
  unfolding is_process get
  so_does_the_code = refl

  who_is_out_has_a_mark : is_in 5 (others_of 2 (5 ∷ 2 ∷ [])) ≡ true
  who_is_out_has_a_mark = refl

  one_mark_each : times_in 5 (5 ∷ 2 ∷ []) ≡ 1
  one_mark_each = refl

  may_be_out : is_process was is_ready_or_over 6 ≡ true
  unfolding is_process get
  may_be_out = refl

  may_not_be_out : is_process was is_ready_or_over 3 ≡ false
  unfolding is_process get
  may_not_be_out = refl
