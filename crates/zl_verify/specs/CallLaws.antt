-- What the law of the calls of a process says.
use Rattle.std.specs.Prelude.{ℕ, ◌≡◌, ◌≤◌, ◌<◌, ℤ, List, [], length, Option, Some, None, IsTrue, slice_index}
use Rattle.std.specs.List.{AllByRecursion}
use Rattle.zl_rights.specs.Common.{get, World, Cpu, Process, Ready, Blocked, Object, queue_of}
use Rattle.zl_rights.specs.Numbers.{KILLED}
use Rattle.zl_rights.specs.World.{Awaited, Message, Packet}
use Rattle.zl_code.specs.declared.history.CallName.{CallName}
use Rattle.zl_code.specs.declared.history.CallName.TheVariants as name
use Rattle.zl_code.specs.declared.instr.CallInstr.{CallInstr}
use Rattle.zl_code.specs.Image.{Image}
use Rattle.zl_code.specs.Spells.{is_in_range}
use Rattle.zl_code.specs.CallTable.{process_exit, task_kill}
use Rattle.zl_code.specs.Effects.{signed_word}
use Rattle.zl_code.specs.Jobs.{is_within}
use Rattle.zl_code.specs.Request.{Site}
use Rattle.zl_code.specs.Tests.{object_at}
use Rattle.zl_code.specs.Waiting.{packets_in}
use Rattle.zl_code.specs.Steps.{AtCall, next_at}
use Rattle.zl_code.specs.Sound.{IsSound}
use Rattle.zl_abs.specs.Values.{ANY}
use Rattle.zl_abs.specs.States.{State}
use Rattle.zl_abs.specs.Typing.{rule, IsTyping}
use Rattle.zl_verify.specs.Steps.{OneOf, targets_of}
use Rattle.zl_verify.specs.Conforms.{Conforms}

-- ---- what a world has to be

-- a message has bytes, and as many of them and as many handles as a message may have
pub record IsSizedMessage (m : Message) : Type 0 where
  pub few_bytes : length m.bytes ≤ 65536
  pub bytes : (k : ℕ) → slice_index m.bytes k < 256
  pub few_handles : length m.handles ≤ 64

-- the numbers of a packet fit registers, and its kind is 0 or 1
pub record IsSizedPacket (x : Packet) : Type 0 where
  pub kind : x.kind ≤ 1
  pub key : x.key ≤ ANY
  pub trigger : x.trigger ≤ ANY
  pub observed : x.observed ≤ ANY

-- Whatever is queued in w fits who receives it.
pub record QueuesAreSized (w : World) : Type 0 where
  pub messages : (k : ℕ) (o : Object) → get w.objects k ≡ Some o → AllByRecursion IsSizedMessage (queue_of o.body)
  pub packets : (k : ℕ) (o : Object) → get w.objects k ≡ Some o → AllByRecursion IsSizedPacket (packets_in (Some o.body))

-- The process p of w, which is q, stands ready at the call of this name, as a typing of its image says.
pub record StandsAtCall (i : Image) (t : ℕ → Option State) (w : World) (p : ℕ) (q : Process) (called : CallName) (s : Site) : Type 0 where
  pub range : IsTrue (is_in_range i)
  pub typing : IsTyping i t
  pub sound : IsSound w
  pub sized : QueuesAreSized w
  pub there : get w.processes p ≡ Some q
  pub ready : q.state ≡ Ready
  pub conforms : Conforms i t w p q
  pub next : next_at i q.cpu ≡ AtCall called s

-- ---- what becomes of the process

-- where the followed edges of the n-th instruction lead at this state, of a pause too
abbrev pub ends_by : Image → ℕ → Option State → List ℕ
ends_by i n None = []
ends_by i n (Some s) = targets_of (rule i n s)

-- the same in a map from instructions to states
abbrev pub ends_of : Image → (ℕ → Option State) → ℕ → List ℕ
ends_of i t n = ends_by i n (t n)

-- In w2 the process p, which was q, stands ready at the end of a followed edge, with the counters that it had, and conforms.
pub record IsAnswered (i : Image) (t : ℕ → Option State) (p : ℕ) (q : Process) (w2 : World) : Type 0 where
  pub after : Process
  pub there : get w2.processes p ≡ Some after
  pub follows : OneOf (λ n. after.cpu.counter ≡ n) (ends_of i t q.cpu.counter)
  pub counters : after.cpu.counters ≡ q.cpu.counters
  pub ready : after.state ≡ Ready
  pub program : after.program ≡ q.program
  pub conforms : Conforms i t w2 p after

-- In w2 the process p is as it was as q but that it waits, and conforms where it stands.
pub record IsWaiting (i : Image) (t : ℕ → Option State) (p : ℕ) (q : Process) (w2 : World) : Type 0 where
  pub awaited : Awaited
  pub destinations : List ℕ
  pub there : get w2.processes p ≡ Some (record q { state = Blocked awaited destinations })
  pub conforms : Conforms i t w2 p (record q { state = Blocked awaited destinations })

-- The process p of w ends itself by the call.
pub data IsOwnEnd (w : World) (p : ℕ) (called : CallName) (s : Site) (code : ℤ) : Type 0 where
  -- the call is process_exit, and this is the code that it asks for
  exits : (number : ℕ) → called ≡ name.ProcessExit → s.request ≡ process_exit number → code ≡ signed_word number → IsOwnEnd w p called s code
  -- the call is task_kill of p itself or of a job above it, and this is the code of what is killed
  kills : (task : ℕ) → called ≡ name.TaskKill → s.request ≡ task_kill task → IsTrue (is_within w.objects (object_at w p task) p)
      → code ≡ KILLED → IsOwnEnd w p called s code

-- ---- that it isn't stuck

-- At the call what it asks for can be read.
pub record CanCall (i : Image) (c : Cpu) (call : CallInstr) : Type 0 where
  pub site : Site
  pub next : next_at i c ≡ AtCall call.name site
