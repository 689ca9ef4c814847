-- A checked program that goes through each of the 24 calls: its process starts properly, each call but its exit is answered OK, it waits
-- for a checked child that it starts, and wakes. Both are covered, one by the boot and one by a call, so the headline speaks of something.
use Rattle.std.proofs.lemmas.Option.{none-some, same_Some}
use Rattle.zl_code.proofs.Common.{◌≡◌, ℕ, zero, suc, subst, slice_get, arith, true, false, List, [], ◌∷◌, ◌++◌, refl, map, replicate, pos, Some, None, World}
use Rattle.zl_code.proofs.Common.{Process, Library, Choice, Values, IsBoot, IsLegalHistory, boot_fault, boot_effect, origin, settled_in, Settles-by}
use Rattle.zl_code.proofs.Common.{started_process, creates, rights_of, Option, get, flat_map, is_some, process_start, single, unwrap_or}
use Rattle.zl_rights.specs.declared.kind.Kind.{Kind}
use Rattle.zl_rights.specs.declared.kind.Kind.TheVariants as kind
use Rattle.zl_rights.specs.declared.policy.Condition.{Condition}
use Rattle.zl_rights.specs.declared.policy.Condition.TheVariants as condition
use Rattle.zl_rights.specs.declared.entry.Entry.{Entry}
use Rattle.zl_rights.specs.declared.status.Status.TheVariants as status
use Rattle.zl_code.specs.declared.boot.Grant.{Grant}
use Rattle.zl_code.specs.declared.boot.Statement.{Statement}
use Rattle.zl_code.specs.declared.boot.Statement.TheVariants as statement
use Rattle.zl_code.specs.declared.history.CallName.{CallName}
use Rattle.zl_code.specs.declared.history.CallName.TheVariants as name
use Rattle.zl_code.specs.declared.history.Outcome.TheVariants as outcome
use Rattle.zl_code.specs.declared.history.TraceItem.{TraceItem}
use Rattle.zl_code.specs.declared.history.TraceItem.TheVariants as item
use Rattle.zl_code.specs.declared.image.Start.{Start}
use Rattle.zl_code.specs.declared.instr.Instr.TheVariants as instr
use Rattle.zl_code.specs.declared.instr.LocalInstr.TheVariants as local
use Rattle.zl_code.specs.Blocks.{all_nest, all_stay, blocks_at}
use Rattle.zl_code.specs.Image.{Image, Program, blank_image}
use Rattle.zl_code.specs.Spells.{local_parts}
use Rattle.zl_code.specs.Headline.{GoesWell, IsNeverRefused, IsStarted, IsSizedBoot, IsProperStart, IsCoveredFrom, CoveredGoWell, StartsChild, by_boot}
use Rattle.zl_code.specs.Starting.{created_process, program_of}
use Rattle.zl_code.proofs.JoinedItems.{joined_go_well}
use Rattle.zl_code.proofs.Running.{run_by, IsLegalHistory-by, computing, world_after}
use Rattle.zl_code.proofs.RowsHeadline.{covered_by_call}
use Rattle.zl_verify.specs.Lists.{at}
use Rattle.zl_verify.specs.Checks.{HasStepBound}
use Rattle.zl_verify.specs.Covered.{IsVerified}
use Rattle.zl_verify.proofs.CoveredRuns.{covered_go_well}
use Rattle.zl_tests.proofs.Typed.{found, numbers, IsTyping-by, IsStepBound-by, typing}
use Rattle.zl_code.proofs.Called.{called, sending}

-- ---- the program

abbrev start : Kind → ℕ → Start
start k rights = record { kind = Some k; rights = rights_of rights }

-- Register 0 has one end of a channel and 2 the other, 3 an event, 4 a port, 5 a job, 6 the event once more, to be sent.
-- 16 stays 0, and 31 has the status.
abbrev pub image : Image
image = record blank_image {
  budget = 40;
  needs = condition.NewChannel ∷ condition.NewEvent ∷ condition.NewEventpair ∷ condition.NewPort ∷ condition.NewProcess ∷ [];
  starts =
      start kind.Channel 8200
      ∷ start kind.Channel 4
      ∷ start kind.Event 20483
      ∷ start kind.Port 12
      ∷ start kind.Job 198144
      ∷ start kind.Event 2
      ∷ [];
  slots = [];
  code =
      instr.Local (local.Const 7 8)
      ∷ instr.Call (called name.Signal (31 ∷ 3 ∷ 16 ∷ 7 ∷ []) 0)
      ∷ instr.Call (called name.WaitOne (31 ∷ 3 ∷ 7 ∷ 30 ∷ []) 0)
      ∷ instr.Call (called name.WaitPoll (31 ∷ 3 ∷ 7 ∷ 30 ∷ []) 0)
      ∷ instr.Call (called name.WaitAsync (31 ∷ 3 ∷ 4 ∷ 7 ∷ 7 ∷ []) 0)
      ∷ instr.Call (called name.PortWait (31 ∷ 4 ∷ 26 ∷ 27 ∷ 28 ∷ 29 ∷ []) 0)
      ∷ instr.Call (called name.PortQueue (31 ∷ 4 ∷ 7 ∷ 7 ∷ []) 0)
      ∷ instr.Call (called name.PortPoll (31 ∷ 4 ∷ 26 ∷ 27 ∷ 28 ∷ 29 ∷ []) 0)
      ∷ instr.Call (called name.WaitAsync (31 ∷ 3 ∷ 4 ∷ 7 ∷ 7 ∷ []) 0)
      ∷ instr.Call (called name.PortCancel (31 ∷ 4 ∷ 3 ∷ 7 ∷ []) 0)
      ∷ instr.Local (local.Const 8 16777216)
      ∷ instr.Call (called name.SignalPeer (31 ∷ 0 ∷ 16 ∷ 8 ∷ []) 0)
      ∷ instr.Call (sending (31 ∷ 0 ∷ 16 ∷ 16 ∷ []) (6 ∷ []))
      ∷ instr.Call (called name.ChanReadEtc (31 ∷ 2 ∷ 16 ∷ 16 ∷ 26 ∷ 27 ∷ 9 ∷ []) 1)
      ∷ instr.Call (called name.Close (31 ∷ 9 ∷ []) 0)
      ∷ instr.Call (called name.Dup (31 ∷ 3 ∷ 12 ∷ []) 4096)
      ∷ instr.Call (called name.Close (31 ∷ 12 ∷ []) 0)
      ∷ instr.Call (called name.ChanCreate (31 ∷ 12 ∷ 13 ∷ []) 0)
      ∷ instr.Call (called name.Close (31 ∷ 12 ∷ []) 0)
      ∷ instr.Call (called name.Close (31 ∷ 13 ∷ []) 0)
      ∷ instr.Call (called name.EventCreate (31 ∷ 12 ∷ []) 0)
      ∷ instr.Call (called name.Close (31 ∷ 12 ∷ []) 0)
      ∷ instr.Call (called name.EventpairCreate (31 ∷ 12 ∷ 13 ∷ []) 0)
      ∷ instr.Call (called name.Close (31 ∷ 12 ∷ []) 0)
      ∷ instr.Call (called name.Close (31 ∷ 13 ∷ []) 0)
      ∷ instr.Call (called name.PortCreate (31 ∷ 12 ∷ []) 0)
      ∷ instr.Call (called name.Close (31 ∷ 12 ∷ []) 0)
      ∷ instr.Local (local.Const 14 6)
      ∷ instr.Call (called name.JobSetPolicy (31 ∷ 5 ∷ 16 ∷ 14 ∷ 16 ∷ []) 0)
      ∷ instr.Call (called name.JobCreate (31 ∷ 5 ∷ 12 ∷ []) 0)
      ∷ instr.Call (called name.Close (31 ∷ 12 ∷ []) 0)
      ∷ instr.Local (local.Const 18 1)
      ∷ instr.Call (called name.ProcessCreate (31 ∷ 5 ∷ 18 ∷ 12 ∷ []) 0)
      ∷ instr.Local (local.JumpZero 12 40)
      ∷ instr.Call (called name.ProcessStart (31 ∷ 12 ∷ 3 ∷ 16 ∷ []) 0)
      ∷ instr.Call (called name.WaitOne (31 ∷ 12 ∷ 7 ∷ 30 ∷ []) 0)
      ∷ instr.Call (called name.TaskKill (31 ∷ 5 ∷ []) 0)
      ∷ instr.Call (called name.Close (31 ∷ 12 ∷ []) 0)
      ∷ instr.Call (called name.Replace (31 ∷ 4 ∷ 13 ∷ []) 4)
      ∷ instr.Call (called name.ProcessExit (31 ∷ []) 0)
      ∷ instr.Call (called name.ProcessExit (16 ∷ []) 0)
      ∷ [];
}

-- the child gets an event that it may signal, does three instructions by itself, and exits with its word
abbrev child_image : Image
child_image = record blank_image {
  budget = 3;
  starts = start kind.Event 4096 ∷ [];
  code =
      instr.Local (local.Const 2 1)
      ∷ instr.Local (local.Const 3 2)
      ∷ instr.Local (local.Const 4 3)
      ∷ instr.Call (called name.ProcessExit (1 ∷ []) 0)
      ∷ [];
}

-- program 0 is the first, program 1 that of the child, both checked
abbrev library : Library
library = record { checked = true; image = image } ∷ record { checked = true; image = child_image } ∷ []

-- The image has a typing, and a step bound of it.
accepted : HasStepBound image
unfolding typing
accepted = record {
  states = at (found image);
  typing = IsTyping-by image (found image) refl;
  steps = numbers image;
  bound = IsStepBound-by image (found image) refl;
}

-- So has that of the child.
accepted_child : HasStepBound child_image
unfolding typing
accepted_child = record {
  states = at (found child_image);
  typing = IsTyping-by child_image (found child_image) refl;
  steps = numbers child_image;
  bound = IsStepBound-by child_image (found child_image) refl;
}

-- ---- the boot

-- KOID:*
abbrev with_default : ℕ → Grant
with_default k = record { koid = k; rights = None }

-- an event 2, a port 3, a channel with the ends 4 and 5, a job 6, and process 7
abbrev statements : List Statement
statements =
    statement.Event ∷ statement.Port ∷ statement.Channel ∷ statement.Job 1
    ∷ statement.Process 1 0 0 (with_default 4 ∷ with_default 5 ∷ with_default 2 ∷ with_default 3 ∷ with_default 6 ∷ with_default 2 ∷ []) ∷ []

-- the values of its handles
abbrev values : List ℕ
values = 11 ∷ 12 ∷ 13 ∷ 14 ∷ 15 ∷ 16 ∷ []

abbrev entry : ℕ → Kind → ℕ → Entry
entry koid k rights = record { koid = koid; kind = k; rights = rights_of rights }

abbrev handles : List Entry
handles =
    entry 4 kind.Channel 61454 ∷ entry 5 kind.Channel 61454 ∷ entry 2 kind.Event 53251 ∷ entry 3 kind.Port 32783 ∷ entry 6 kind.Job 251407
    ∷ entry 2 kind.Event 53251 ∷ []

abbrev booted : World → List Statement → World
booted w [] = w
booted w (s ∷ []) = boot_effect library w s values
booted w (s ∷ ss) = booted (boot_effect library w s []) ss

abbrev made : World
made = booted origin statements

abbrev boot : World
boot = settled_in made 1

boots : IsBoot library statements boot
unfolding computing boot_fault boot_effect
boots = record {
  made = made;
  boots = ([], refl, refl, ([], refl, refl, ([], refl, refl, ([], refl, refl, (values, refl, refl, refl)))));
  settles = Settles-by made 1 refl;
}

sized : IsSizedBoot library statements boot
unfolding computing local_parts boot_effect all_nest all_stay blocks_at
sized = record { images = (refl, (refl, tt)); words = (omega arith, (omega arith, (omega arith, (omega arith, (omega arith, tt))))); boots = boots }

-- ---- the start

abbrev process : Process
process = started_process library 0 handles values 0

allowed : (c : Condition) → creates boot 7 c ≡ None
unfolding computing boot_effect
allowed condition.BadHandle = refl
allowed condition.WrongObject = refl
allowed condition.NewAny = refl
allowed condition.NewChannel = refl
allowed condition.NewEvent = refl
allowed condition.NewEventpair = refl
allowed condition.NewPort = refl
allowed condition.NewProcess = refl

starts_properly : IsProperStart library image boot 7 process
unfolding computing boot_effect
starts_properly = record {
  checked = true;
  running = refl;
  handles = handles;
  values = values;
  word = 0;
  made = refl;
  free = refl;
  declared = refl;
  small = omega arith;
  allowed = λ c among. allowed c;
}

starts : IsStarted library image boot 7
unfolding computing boot_effect
starts = record { process = process; there = refl; proper = starts_properly }

-- ---- the run

-- turns of process 7, in which new handles get these values; the one removed last comes first
abbrev own_turns : List (List ℕ) → List (ℕ × Choice)
own_turns values = map (λ vs. (7, Values vs)) values

-- up to the start of the child, which is process 15
abbrev first_turns : List (ℕ × Choice)
first_turns = own_turns (
    replicate 13 []
    ++ ((16 ∷ []) ∷ [] ∷ (16 ∷ []) ∷ [] ∷ (16 ∷ 20 ∷ []) ∷ [] ∷ [] ∷ (20 ∷ []) ∷ []
    ∷ (20 ∷ 21 ∷ []) ∷ [] ∷ [] ∷ (21 ∷ []) ∷ [] ∷ [] ∷ [] ∷ (21 ∷ []) ∷ [] ∷ [] ∷ (21 ∷ []) ∷ [] ∷ []))

-- the start; process 7 waits until the child has ended, and goes on to its own end
abbrev last_turns : List (ℕ × Choice)
last_turns = own_turns ((9 ∷ []) ∷ [] ∷ []) ++ (replicate 4 (15, Values []) ++ own_turns (replicate 4 []))

abbrev turns : List (ℕ × Choice)
turns = first_turns ++ last_turns

abbrev ok : CallName → TraceItem
ok call = item.Call 7 call (outcome.Answered status.Ok)

abbrev one : TraceItem
one = item.Run 7 1

-- what is told up to the start of the child
abbrev first_items : List TraceItem
first_items =
    one ∷ ok name.Signal ∷ ok name.WaitOne ∷ ok name.WaitPoll ∷ ok name.WaitAsync ∷ ok name.PortWait ∷ ok name.PortQueue ∷ ok name.PortPoll
    ∷ ok name.WaitAsync ∷ ok name.PortCancel ∷ one ∷ ok name.SignalPeer ∷ ok name.ChanWrite ∷ ok name.ChanReadEtc ∷ ok name.Close
    ∷ ok name.Dup ∷ ok name.Close ∷ ok name.ChanCreate ∷ ok name.Close ∷ ok name.Close ∷ ok name.EventCreate ∷ ok name.Close
    ∷ ok name.EventpairCreate ∷ ok name.Close ∷ ok name.Close ∷ ok name.PortCreate ∷ ok name.Close
    ∷ one ∷ ok name.JobSetPolicy ∷ ok name.JobCreate ∷ ok name.Close ∷ one ∷ ok name.ProcessCreate ∷ one ∷ []

-- and behind it: process 7 waits, the child does its three instructions, which are one item, and ends, and process 7 is awake and ends
abbrev last_items : List TraceItem
last_items =
    item.Call 7 name.WaitOne outcome.Blocked ∷ item.Run 15 3 ∷ item.Call 15 name.ProcessExit (outcome.Ended (pos 0))
    ∷ ok name.TaskKill ∷ ok name.Close ∷ ok name.Replace ∷ item.Call 7 name.ProcessExit (outcome.Ended (pos 0)) ∷ []

abbrev items : List TraceItem
items = first_items ++ (ok name.ProcessStart ∷ last_items)

abbrev end : World
end = world_after boot (run_by library boot turns)

is_legal : IsLegalHistory library boot items end
unfolding computing boot_effect
is_legal = IsLegalHistory-by library boot turns items refl refl refl

-- Where the headline holds of the image, it holds of this run.
goes_well : IsNeverRefused image → GoesWell image 7 items
unfolding computing boot_effect
goes_well never_refused =
    (joined_go_well image 7 items).1 (never_refused library statements boot boot end [] (flat_map single items) 7 sized refl starts is_legal.run)

-- ---- who is covered

-- process 7 from the boot on
covered : IsCoveredFrom library boot items image 7 0 items
unfolding computing boot_effect
covered = record { items = []; parts = refl; place = refl; world = boot; comes = refl; started = by_boot refl refl refl; after = end; goes = is_legal.run }

-- the world in which process 7 stands at process_start
abbrev at_start : World
at_start = world_after boot (run_by library boot first_turns)

abbrev starting : Process
starting = unwrap_or (get at_start.processes 7) (created_process library 0)

some_by : {A : Type 0} (o : Option A) (other : A) → is_some o ≡ true → o ≡ Some (unwrap_or o other)
some_by None other is = cc
some_by (Some a) other is = refl

-- It is there, which is computed without comparing two processes.
is_there : get at_start.processes 7 ≡ Some starting
unfolding computing boot_effect
is_there = some_by (get at_start.processes 7) (created_process library 0) refl

-- and the child is made, of the checked program 1
runs_child : program_of library at_start 15 ≡ Some (record { checked = true; image = child_image })
unfolding computing boot_effect
runs_child = refl

starts_child : StartsChild library at_start 7 starting 15
unfolding computing boot_effect
starts_child = record {
  site = record { request = process_start 21 13 0; consumed = 3 ∷ []; emptied = None; destinations = 31 ∷ [] };
  next = refl;
  process = 21;
  handle = 13;
  word = 0;
  asks = refl;
  child = refl;
}

-- its child, process 15, from behind the start on
child_covered : IsCoveredFrom library boot items child_image 15 35 last_items
unfolding computing boot_effect
child_covered =
    covered_by_call library boot at_start last first_items last_items 7 15 child_image starting first.run second.run is_there starts_child runs_child
  where
    first : IsLegalHistory library boot first_items at_start
    first = IsLegalHistory-by library boot first_turns first_items refl refl refl

    last : World
    last = world_after at_start (run_by library at_start last_turns)

    second : IsLegalHistory library at_start (ok name.ProcessStart ∷ last_items) last
    second = IsLegalHistory-by library at_start last_turns (ok name.ProcessStart ∷ last_items) refl refl refl

-- So all who are covered go well: both programs have a typing and a step bound, and no premise of the law is left.
all_go_well : CoveredGoWell library boot items
unfolding computing boot_effect
all_go_well = covered_go_well library statements boot verified sized items
  where
    verified : IsVerified library
    verified = record { images = sized.images; bounds = λ n i at. bound n i at }
      where
        bound : (n : ℕ) (i : Image) → slice_get library n ≡ Some (record { checked = true; image = i }) → HasStepBound i
        bound zero i at = subst (λ (g : Program). HasStepBound g.image) (same_Some _ _ at) accepted
        bound (suc zero) i at = subst (λ (g : Program). HasStepBound g.image) (same_Some _ _ at) accepted_child
        bound (suc (suc n)) i at = absurd (none-some _ at)

-- process 7 is one of them, from the boot to the end
process_goes_well : GoesWell image 7 items
process_goes_well = all_go_well image 7 0 items covered

-- and so is its child, from behind its start to the end
child_goes_well : GoesWell child_image 15 last_items
child_goes_well = all_go_well child_image 15 35 last_items child_covered
