-- When a process is as the states of a typing say of it.
use Rattle.std.specs.Prelude.{ℕ, ◌≡◌, ◌+◌, ◌≤◌, ◌<◌, ◌⊎◌, Bool, true, false, ◌&&◌, ◌==◌, nat_lt, List, [], ◌∷◌, map, length, Option, Some, None, IsTrue}
use Rattle.std.specs.Prelude.{if◌then◌else◌, is_some, slice_get, slice_index, slice_index_or}
use Rattle.std.specs.List.{sum_by}
use Rattle.zl_rights.specs.Common.{get, World, Process, Blocked}
use Rattle.zl_rights.specs.World.{State as Life, Awaited, SignalOf, PacketAt}
use Rattle.zl_rights.specs.Numbers.{bits, within, kind_number}
use Rattle.zl_rights.specs.declared.kind.Kind.{Kind}
use Rattle.zl_rights.specs.declared.rights.Rights.{Rights}
use Rattle.zl_rights.specs.declared.entry.Entry.{Entry}
use Rattle.zl_rights.specs.declared.policy.Condition.{Condition}
use Rattle.zl_code.specs.declared.image.SlotArray.{SlotArray}
use Rattle.zl_code.specs.declared.instr.CallInstr.{CallInstr}
use Rattle.zl_code.specs.declared.history.CallName.{CallName}
use Rattle.zl_code.specs.declared.history.CallName.TheVariants as call
use Rattle.zl_code.specs.Asked.{those, is_written}
use Rattle.zl_code.specs.Instructions.{call_row}
use Rattle.zl_code.specs.Image.{Image, is_among, call_at}
use Rattle.zl_code.specs.Operands.{creates}
use Rattle.zl_abs.specs.declared.value.AbsVal.{AbsVal}
use Rattle.zl_abs.specs.declared.value.AbsVal.TheVariants.{Word, Has, KindOf, RightsOf}
use Rattle.zl_abs.specs.Values.{ANY, kind_below, is_has}
use Rattle.zl_abs.specs.States.{State, value_at}
use Rattle.zl_verify.specs.Steps.{AreCountersAt}

-- ---- what a value describes

-- a table of handles, by what stands at each value
abbrev pub Table : Type 0
Table = ℕ → Option Entry

-- the number of the handle's kind, 0 where there is none
abbrev pub kind_in : Option Entry → ℕ
kind_in None = 0
kind_in (Some e) = kind_number e.kind

-- the handle's rights as a number, 0 where there is none
abbrev pub rights_in : Option Entry → ℕ
rights_in None = 0
rights_in (Some e) = bits e.rights

-- a handle is there, of the kind, where one is named, and with these rights at least
abbrev pub IsAs : Option Kind → Rights → Option Entry → Type 0
IsAs kind rights None = ⊥
IsAs kind rights (Some e) = IsTrue (kind_below (Some e.kind) kind) × IsTrue (within (bits rights) (bits e.rights))

-- x is the value of such a handle, or 0 where that may be
abbrev pub IsHandle : Table → Bool → Option Kind → Rights → ℕ → Type 0
IsHandle f maybe kind rights x = ((maybe ≡ true) × (x ≡ 0)) ⊎ IsAs kind rights (f x)

-- the value describes the number x, beside registers that its tags name
abbrev pub Describes : Table → List ℕ → AbsVal → ℕ → Type 0
Describes f registers (Word m) x = x ≤ m
Describes f registers (Has maybe kind rights) x = IsHandle f maybe kind rights x
Describes f registers (KindOf r) x = x ≡ kind_in (f (slice_index registers r))
Describes f registers (RightsOf r) x = x ≡ rights_in (f (slice_index registers r))

-- ---- who owns a handle

abbrev pub one_if : Bool → ℕ
one_if b = if b then 1 else 0

-- x is v, and the value of a handle
abbrev pub is_it : ℕ → ℕ → Bool
is_it v x = (x == v) && nat_lt 0 x

-- a register with this value, in which x stands, owns the handle v
unfoldable pub owns : ℕ → AbsVal → ℕ → Bool
owns v a x = is_has a && is_it v x

-- how many registers own v
unfoldable pub owners : ℕ → State → List ℕ → ℕ
owners v [] xs = 0
owners v (a ∷ s) [] = 0
owners v (a ∷ s) (x ∷ xs) = one_if (owns v a x) + owners v s xs

-- how many places of slot arrays own v
unfoldable pub keepers : ℕ → List (List ℕ) → ℕ
keepers v slots = sum_by (λ places. sum_by (λ x. one_if (is_it v x)) places) slots

-- ---- what a state describes

-- the k-th place of the n-th slot array
abbrev pub place_at : List (List ℕ) → ℕ → ℕ → ℕ
place_at slots n k = slice_index (slice_index_or slots n []) k

-- The state describes registers and slot arrays beside this table: no handle leaks, and each has one owner.
pub record Holds (f : Table) (s : State) (registers : List ℕ) (arrays : List SlotArray) (slots : List (List ℕ)) : Type 0 where
  -- there is a register for each value, with a number of 64 bits as the value says
  pub width : length registers ≡ length s
  pub small : (r : ℕ) → slice_index registers r ≤ ANY
  pub described : (r : ℕ) → Describes f registers (value_at s r) (slice_index registers r)
  -- the slot arrays have their lengths, and each place has 0 or a handle as its array keeps them
  pub lengths : map length slots ≡ map (λ a. a.length) arrays
  pub narrow : (n k : ℕ) → place_at slots n k ≤ ANY
  pub stored : (n k : ℕ) (a : SlotArray) → slice_get arrays n ≡ Some a → k < a.length → IsHandle f true a.kind a.rights (place_at slots n k)
  -- each value of the table stands in one place that owns it, and no other value in any
  pub once : (v : ℕ) → owners v s registers + keepers v slots ≡ one_if (is_some (f v))

-- the data memory has the image's size, and bytes in it
pub record IsMemory (i : Image) (memory : List ℕ) : Type 0 where
  pub long : length memory ≡ i.memory
  pub bytes : (k : ℕ) → slice_index memory k < 256

-- ---- processes

-- the call waits for such
abbrev pub waits_for : Awaited → CallName → Bool
waits_for (SignalOf koid mask) call.WaitOne = true
waits_for (PacketAt koid) call.PortWait = true
waits_for _ _ = false

-- the registers of the answer of a call, the status first
abbrev pub answered_in : CallInstr → List ℕ
answered_in c = those is_written (call_row c.name).fields 0 c.registers

-- a process that is blocked stands at a wait of the kind, whose registers get the answer
abbrev pub WaitsAt : Life → Option CallInstr → Type 0
WaitsAt (Blocked awaited destinations) (Some c) = IsTrue (waits_for awaited c.name) × (destinations ≡ answered_in c)
WaitsAt (Blocked awaited destinations) None = ⊥
WaitsAt _ _ = Unit {0}

-- The process p of w, which is q, is as the typing t of its image i says at its counter.
pub record Conforms (i : Image) (t : ℕ → Option State) (w : World) (p : ℕ) (q : Process) : Type 0 where
  -- what the typing has at the counter
  pub state : State
  pub stands : t q.cpu.counter ≡ Some state
  pub holds : Holds (get q.handles) state q.cpu.registers i.slots q.cpu.slots
  pub memory : IsMemory i q.cpu.memory
  -- one counter for each block that it is in
  pub counters : AreCountersAt i q.cpu.counter q.cpu.counters
  -- the policy of its job allows what the image declares that it needs
  pub allowed : (c : Condition) → IsTrue (is_among i.needs c) → creates w p c ≡ None
  pub waits : WaitsAt q.state (call_at i q.cpu.counter)
