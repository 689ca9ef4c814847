-- A process that is taken out to go on by itself, and what it did handed in.
use Rattle.std.specs.Prelude.{ℕ, ◌≡◌, ◌≢◌, ◌<◌, ◌≤◌, ◌+◌, ◌==◌, ◌⊎◌, Bool, true, false, List, [], ◌∷◌, ◌++◌, length, IsTrue, if◌then◌else◌}
use Rattle.zl_code.specs.Common.{is_process, lives}
use Rattle.zl_code.specs.Steps.{Runs, pid_of}
use Rattle.zl_code.specs.declared.history.TraceItem.{TraceItem}
use Rattle.zl_code.specs.declared.history.TraceItem.TheVariants as item
use Rattle.zl_interp.specs.Bursts.{Turn, Done}
use Rattle.zl_interp.specs.declared.bursts.Stop.{Stop}
use Rattle.zl_interp.specs.declared.bursts.Stop.TheVariants as stop
use Rattle.zl_calls.specs.Own.{StepsOwn}
use Rattle.zl_calls.specs.World.{Machine, is_ready_in, own_here}
use Rattle.zl_calls.specs.Steps.{TakesStep}
use Rattle.zl_calls.specs.Turns.{IsTurn, Fits, advanced, steps_done}
use Rattle.zl_calls.specs.Started.{Tells}
use Rattle.zl_calls.specs.declared.told.Told.{Told}
use Rattle.zl_calls.specs.Killed.{TellsKilled}
use Rattle.zl_sched.specs.declared.hand_in.HandIn.{HandIn}
use Rattle.zl_sched.specs.declared.hand_in.HandIn.TheVariants as hand
use Rattle.zl_sched.specs.declared.hand_in.Judged.{Judged}
use Rattle.zl_sched.specs.declared.hand_in.Judged.TheVariants as judged
use Rattle.zl_sched.specs.Ready.{is_in, others_of, queued_after}
use Rattle.zl_calls.specs.Told.{FitsItem, killed_of, woke_of}
use Rattle.zl_calls.specs.declared.told.Told.TheVariants as told
use Rattle.zl_sched.specs.System.{System}

-- ---- taken out

-- the first of the list is out, with its program and its Cpu as they stand; nothing else changes
pub record TakesOne (s : System) (t : Turn) (s2 : System) : Type 0 where
  pub rest : List ℕ
  pub first : s.ready ≡ t.pid ∷ rest
  pub turn : IsTurn s.machine t.pid t
  pub after : s2 ≡ record s { ready = rest; out = s.out ++ (t.pid ∷ []) }

-- the list is empty
abbrev pub TakesNone : System → System → Type 0
TakesNone s s2 = (s.ready ≡ []) × (s2 ≡ s)

-- memory for a turn was refused
abbrev pub LacksTurn : System → System → Type 0
LacksTurn s s2 = (s.ready ≢ []) × (s2 ≡ s)

-- ---- what was done, with its items

abbrev pub is_more : Stop → Bool
is_more stop.More = true
is_more stop.AtCall = false
is_more stop.Stuck = false

-- how many items tell of it
abbrev pub items_of : Done → ℕ
items_of d = (if d.ran == 0 then 0 else 1) + (if is_more d.stop then 0 else 1)

-- the item of so many local instructions, if there were any
abbrev pub run_items : ℕ → ℕ → List TraceItem
run_items p n = if n == 0 then [] else (item.Run p n ∷ [])

-- what comes behind them: nothing, or one step of the process, which is the lab's own, with its item
abbrev pub Ends : Bool → Machine → ℕ → List TraceItem → Machine → Type 0
Ends true m p last m2 = (last ≡ []) × (m2 ≡ m)
Ends false m p last m2 = (x : TraceItem) × (last ≡ x ∷ []) × TakesStep m p m2 x × StepsOwn m.programs (own_here m) p x (own_here m2)

-- ---- handed in

-- out and ready, and what was done fits: by instructions of the program that stands here, from the Cpu that does
pub record IsAwaited (s : System) (d : Done) : Type 0 where
  pub out : is_in d.pid s.out ≡ true
  pub ready : IsTrue (is_ready_in s.machine d.pid)
  pub fits : Fits s.machine d

abbrev pub HasRoom : System → Done → Type 0
HasRoom s d = length s.items + items_of d ≤ s.limit

abbrev pub LacksRoom : System → Done → Type 0
LacksRoom s d = s.limit < length s.items + items_of d

-- out, and it lives no more
abbrev pub IsGone : System → Done → Type 0
IsGone s d = (is_in d.pid s.out ≡ true) × (is_process s.machine.world lives d.pid ≡ false)

-- out and ready, and it stands here with another Cpu, or with a program that hasn't these instructions
abbrev pub IsOther : System → Done → Type 0
IsOther s d = (is_in d.pid s.out ≡ true) × IsTrue (is_ready_in s.machine d.pid) × (Fits s.machine d → ⊥)

-- the process isn't out any more
abbrev pub unmarked : System → ℕ → System
unmarked s p = record s { out = others_of p s.out }

-- nor is this one, which is last in the list
abbrev pub put_back : System → ℕ → System
put_back s p = record s { ready = s.ready ++ (p ∷ []); out = others_of p s.out }

-- the local instructions are steps of the world, what comes behind them is one more, both are in the trace, and the
-- process isn't out any more
pub record Accepts (s : System) (d : Done) (s2 : System) : Type 0 where
  pub awaited : IsAwaited s d
  pub room : HasRoom s d
  pub steps : Runs s.machine.programs s.machine.world (steps_done d) (advanced s.machine d).world
  pub last : List TraceItem
  pub ends : Ends (is_more d.stop) (advanced s.machine d) d.pid last s2.machine
  pub after : s2 ≡ record s {
    machine = s2.machine;
    items = s.items ++ (run_items d.pid d.ran ++ last);
    ready = queued_after s.machine.world d.pid s2.machine.world s.ready;
    out = others_of d.pid s.out;
  }

-- Each answer with all that it says. Their conditions exclude one another, so that each comes just where it is said.
abbrev pub HandsIn : System → Done → HandIn → System → Type 0
HandsIn s d hand.Taken s2 = Accepts s d s2
HandsIn s d hand.Stranger s2 = ((is_in d.pid s.out ≡ false) × (s2 ≡ s)) ⊎ (IsOther s d × (s2 ≡ put_back s d.pid))
HandsIn s d hand.Gone s2 = IsGone s d × (s2 ≡ unmarked s d.pid)
HandsIn s d hand.Limit s2 = IsAwaited s d × LacksRoom s d × (s2 ≡ put_back s d.pid)
HandsIn s d hand.NoMemory s2 = IsAwaited s d × HasRoom s d × (s2 ≡ put_back s d.pid)

-- ---- how the code gets there; no public clause cites what follows

-- what is found before anything changes
abbrev pub Judges : System → Done → Judged → Type 0
Judges s d judged.NotOut = is_in d.pid s.out ≡ false
Judges s d judged.Gone = IsGone s d
Judges s d judged.Other = IsOther s d
Judges s d judged.Full = IsAwaited s d × LacksRoom s d
Judges s d judged.Fits = IsAwaited s d × HasRoom s d

-- what comes behind the local instructions tells this of who is ready
abbrev pub Changes : (more : Bool) (m : Machine) (p : ℕ) (last : List TraceItem) (m2 : Machine) → Ends more m p last m2 → Told → Type 0
Changes true m p last m2 ends c = c ≡ told.Same
Changes false m p last m2 (x, is, taken, own) c = Tells m.programs m.world (pid_of x) x m2.world taken.steps.step (woke_of c)
    × TellsKilled m.programs m.world p (killed_of c) × FitsItem x c

-- what comes behind the local instructions, with the trace, and what it tells of who is ready
pub record EndsFrom (more : Bool) (m : Machine) (items : List TraceItem) (p : ℕ) (c : Told) (m2 : Machine) (items2 : List TraceItem) : Type 0 where
  pub last : List TraceItem
  pub items_are : items2 ≡ items ++ last
  pub ends : Ends more m p last m2
  pub changes : Changes more m p last m2 ends c

-- the same with the local instructions before it
pub record GoesFrom (m : Machine) (items : List TraceItem) (d : Done) (c : Told) (m2 : Machine) (items2 : List TraceItem) : Type 0 where
  pub steps : Runs m.programs m.world (steps_done d) (advanced m d).world
  pub last : List TraceItem
  pub items_are : items2 ≡ items ++ (run_items d.pid d.ran ++ last)
  pub ends : Ends (is_more d.stop) (advanced m d) d.pid last m2
  pub changes : Changes (is_more d.stop) (advanced m d) d.pid last m2 ends c
