-- What a worker finds and gives, and how a run ends.
use Rattle.std.specs.Prelude.{◌<◌, ◌⊎◌, Bool, true, false}
use Rattle.zl_interp.specs.Bursts.{Done}
use Rattle.zl_sched.specs.declared.hand_in.HandIn.TheVariants as hand
use Rattle.zl_sched.specs.HandIn.{TakesOne, TakesNone, LacksTurn, HandsIn}
use Rattle.zl_sched.specs.Opening.{Opening, GoesOn}
use Rattle.zl_sched.specs.System.{System, IsIdle, room_of}
use Rattle.zl_pool.specs.declared.worker.Found.{Found}
use Rattle.zl_pool.specs.declared.worker.Found.TheVariants as found
use Rattle.zl_pool.specs.declared.pool.RunEnd.{RunEnd}
use Rattle.zl_pool.specs.declared.pool.RunEnd.TheVariants as end

-- a turn; or the list is empty, and the system idle or not; or memory for the turn was refused
abbrev pub Finds : System → Found → System → Type 0
Finds s (found.Turn t) s2 = TakesOne s t s2
Finds s found.Waits s2 = TakesNone s s2 × (IsIdle s → ⊥)
Finds s found.Idle s2 = TakesNone s s2 × IsIdle s
Finds s found.NoMemory s2 = LacksTurn s s2

-- a worker goes on unless the items have no room or memory was refused
abbrev pub Gives : System → Done → Bool → System → Type 0
Gives s d true s2 = HandsIn s d hand.Taken s2 ⊎ (HandsIn s d hand.Gone s2 ⊎ HandsIn s d hand.Stranger s2)
Gives s d false s2 = HandsIn s d hand.Limit s2 ⊎ HandsIn s d hand.NoMemory s2

-- Mixed just where the system doesn't go on from what was handed in: each other end says that it does. Quiet only where it
-- is idle, Limit only where it has less than two free places.
abbrev pub EndsRun : Opening → RunEnd → System → Type 0
EndsRun o end.Quiet s = GoesOn o s × IsIdle s
EndsRun o end.Limit s = GoesOn o s × (room_of s < 2)
EndsRun o end.NoMemory s = GoesOn o s
EndsRun o end.Mixed s = GoesOn o s → ⊥
