-- The rule of the system calls: what each reads and writes by its row of the table, and what its answer gives.
use Rattle.std.specs.Prelude.{ℕ, zero, suc, Bool, true, false, ◌&&◌, not, ◌==◌, nat_le, ◌+◌, List, [], ◌∷◌, ◌++◌, length, map, zip, Option, Some, None, Result, Ok, Err, if◌then◌else◌, is_some, slice_get, slice_index, bit_and}
use Rattle.std.specs.List.{list_all, list_any}
use Rattle.zl_rights.specs.declared.kind.Kind.{Kind}
use Rattle.zl_rights.specs.declared.kind.Kind.TheVariants as kind
use Rattle.zl_rights.specs.declared.rights.Rights.{Rights}
use Rattle.zl_rights.specs.declared.policy.Condition.{Condition}
use Rattle.zl_rights.specs.Numbers.{bits, rights_of, within, takes as takes_kind, default_rights_of, KNOWN_RIGHTS, TRANSFER, SAME_RIGHTS}
use Rattle.zl_code.specs.declared.instr.CallInstr.{CallInstr}
use Rattle.zl_code.specs.declared.history.CallName.{CallName}
use Rattle.zl_code.specs.declared.history.CallName.TheVariants as call
use Rattle.zl_code.specs.declared.image.SlotArray.{SlotArray}
use Rattle.zl_code.specs.declared.layout.Ending.{Ending}
use Rattle.zl_code.specs.declared.layout.Ending.TheVariants as ending
use Rattle.zl_code.specs.Image.{Image, is_among}
use Rattle.zl_code.specs.Instructions.{Field, reads, Row, call_row}
use Rattle.zl_code.specs.Spells.{number_at}
use Rattle.zl_code.specs.Asked.{those, is_written, listed_in}
use Rattle.zl_code.specs.Operands.{Operand}
use Rattle.zl_code.specs.Refusals.{operand_by}
pub use Rattle.zl_code.specs.Refusals.{operands_listed}
use Rattle.zl_abs.specs.declared.value.AbsVal.{AbsVal}
use Rattle.zl_abs.specs.declared.value.AbsVal.TheVariants.{Word, Has, KindOf, RightsOf}
use Rattle.zl_abs.specs.declared.cause.Cause.{Cause}
use Rattle.zl_abs.specs.declared.cause.Cause.TheVariants as cause
use Rattle.zl_abs.specs.Ways.{Ways}
use Rattle.zl_abs.specs.Values.{ANY, is_has}
use Rattle.zl_abs.specs.States.{State, value_at, bound_at, with_value, with_all}
use Rattle.zl_abs.specs.Bounds.{rounded}
use Rattle.zl_abs.specs.Rule.{and_then, passes}

-- ---- handle operands

-- a handle of which this is known of its kind will do; where nothing is known, only if any kind will
abbrev pub takes_any : List Kind → Option Kind → Bool
takes_any kinds None = length kinds == 0
takes_any kinds (Some k) = takes_kind kinds k

-- why a register with this value can't be the operand, if it can't
abbrev pub fault_of : Operand → AbsVal → Option Cause
fault_of o (Has maybe k r) =
    if maybe && not o.may_be_zero then Some cause.NotLive
    else if not (takes_any o.kinds k) then Some cause.WrongKind
    else if not (within o.needed (bits r)) then Some cause.LacksRight
    else None
fault_of o (Word m) = if o.may_be_zero && (m == 0) then None else Some cause.NotLive
fault_of o _ = Some cause.NotLive

-- a register that is taken becomes 0
abbrev pub taken_from : State → Operand → State
taken_from s o = if o.is_taken then with_value s o.value (Word 0) else s

abbrev pub examined_by : State → Operand → Option Cause → Result State Cause
examined_by s o (Some c) = Err c
examined_by s o None = Ok (taken_from s o)

-- the operand is examined, and taken where it is consumed; its value is its register
abbrev pub examined : State → Operand → Result State Cause
examined s o = examined_by s o (fault_of o (value_at s o.value))

-- from left to right
unfoldable pub examined_all : State → List Operand → Result State Cause
examined_all s [] = Ok s
examined_all s (o ∷ os) = and_then (examined s o) (λ t. examined_all t os)

-- ---- words and conditions

-- the registers hold words
abbrev pub are_words : State → List ℕ → Bool
are_words s rs = list_all (λ r. is_some (bound_at s r)) rs

-- together they are at most this
abbrev pub sum_fits : ℕ → Option ℕ → Option ℕ → Bool
sum_fits most (Some m) (Some n) = nat_le (m + n) most
sum_fits most _ _ = false

-- the address and the length in these registers lie in the memory, where the call has them
abbrev pub range_fits : Image → State → Option (ℕ × ℕ) → Bool
range_fits i s None = true
range_fits i s (Some x) = sum_fits i.memory (bound_at s x.0) (bound_at s x.1)

-- ---- slot arrays

-- what a call does with a slot array
pub data ArrayUse : Type 0 where
  -- it has none
  unused : ArrayUse
  -- it sends the handles of so many places of the array as the register says
  sends : (array count : ℕ) → ArrayUse
  -- it puts handles that it receives into the array
  keeps : (array : ℕ) → ArrayUse

-- why handles can't be sent from the array, if they can't
abbrev pub cannot_send : Option SlotArray → Option Cause
cannot_send None = Some cause.IllegalOp
cannot_send (Some a) = if within TRANSFER (bits a.rights) then None else Some cause.LacksRight

-- why handles of which nothing is known can't be put into the array, if they can't
abbrev pub cannot_keep : Option SlotArray → Option Cause
cannot_keep None = Some cause.IllegalOp
cannot_keep (Some a) = if is_some a.kind then Some cause.WrongKind else if bits a.rights == 0 then None else Some cause.LacksRight

-- why the slot array can't be that of the call, if it can't
abbrev pub array_fault : Image → ArrayUse → Option Cause
array_fault i unused = None
array_fault i (sends array count) = cannot_send (slice_get i.slots array)
array_fault i (keeps array) = cannot_keep (slice_get i.slots array)

-- the array has as many places
abbrev pub is_as_long : Option SlotArray → Option ℕ → Bool
is_as_long (Some a) (Some m) = nat_le m a.length
is_as_long _ _ = false

-- the array has as many places as the register says, where the call sends handles of them
abbrev pub count_fits : Image → State → ArrayUse → Bool
count_fits i s (sends array count) = is_as_long (slice_get i.slots array) (bound_at s count)
count_fits i s _ = true

-- ---- needs

-- the program declares that it needs to make such objects, where the call makes one
abbrev pub is_declared : Image → Option Condition → Bool
is_declared i None = true
is_declared i (Some c) = is_among i.needs c

-- ---- destinations

-- the register is one of those that get something
abbrev pub is_result : List (ℕ × AbsVal) → ℕ → Bool
is_result results r = list_any (λ x. x.0 == r) results

-- no register gets two results
unfoldable pub are_distinct : List (ℕ × AbsVal) → Bool
are_distinct [] = true
are_distinct (x ∷ xs) = not (is_result xs x.0) && are_distinct xs

-- one of the registers has a handle, or may have one
abbrev pub has_one : State → List (ℕ × AbsVal) → Bool
has_one s results = list_any (λ x. is_has (value_at s x.0)) results

-- ---- the rule over what a call reads and writes

pub record Uses : Type 0 where
  -- the registers of handles, from left to right, with what is asked of each
  pub operands : List Operand
  -- the registers of words
  pub words : List ℕ
  -- of these the address and the length of a range of the memory
  pub range : Option (ℕ × ℕ)
  -- the slot array
  pub array : ArrayUse
  -- the condition of making an object
  pub condition : Option Condition
  -- the destinations with what they get, the status first
  pub results : List (ℕ × AbsVal)

-- uses by their parts
abbrev pub uses : List Operand → List ℕ → Option (ℕ × ℕ) → ArrayUse → Option Condition → List (ℕ × AbsVal) → Uses
uses operands words range array condition results =
    record { operands = operands; words = words; range = range; array = array; condition = condition; results = results }

-- the destinations are written
abbrev pub answers : State → List (ℕ × AbsVal) → Result State Cause
answers s results =
    if not (are_distinct results) then Err cause.IllegalOp
    else if has_one s results then Err cause.Leak
    else Ok (with_all s results)

-- the tests behind those of the operands, which left t of the state s, and of the slot array: words are as they were before
abbrev pub finished : Image → State → State → Uses → Result State Cause
finished i s t u =
    if not (are_words s u.words) then Err cause.NotWord
    else if not (range_fits i s u.range && count_fits i s u.array) then Err cause.MemoryRange
    else if not (is_declared i u.condition) then Err cause.UndeclaredNeed
    else answers t u.results

-- the same, unless the slot array is at fault
abbrev pub finished_unless : Option Cause → Image → State → State → Uses → Result State Cause
finished_unless (Some c) i s t u = Err c
finished_unless None i s t u = finished i s t u

-- the state after the call, in the order of its tests
abbrev pub state_after : Image → State → Uses → Result State Cause
state_after i s u = and_then (examined_all s u.operands) (λ t. finished_unless (array_fault i u.array) i s t u)

-- ---- the columns of the table

-- the handle operands among fields, where the first field is that of the n-th register
abbrev pub operands_at : List Field → (n : ℕ) → List ℕ → List Operand
operands_at [] n rs = []
operands_at (f ∷ fs) n rs = operand_by f (slice_index rs n) ++ operands_at fs (suc n) rs

-- the call reads a word there
abbrev pub is_word : Field → Bool
is_word reads = true
is_word _ = false

-- the third and the fourth register, where the call has an address and a length
abbrev pub range_in : Ending → List ℕ → Option (ℕ × ℕ)
range_in ending.Room rs = Some (slice_index rs 2, slice_index rs 3)
range_in ending.Handles rs = Some (slice_index rs 2, slice_index rs 3)
range_in ending.FromSlots rs = Some (slice_index rs 2, slice_index rs 3)
range_in ending.IntoSlots rs = Some (slice_index rs 2, slice_index rs 3)
range_in _ rs = None

-- the slot array that the last eight bytes name, where the call has one; the fifth register says how many places are sent
abbrev pub array_in : Ending → CallInstr → ArrayUse
array_in ending.FromSlots c = sends (number_at c.last 0 4) (slice_index c.registers 4)
array_in ending.IntoSlots c = keeps (number_at c.last 0 4)
array_in _ c = unused

-- ---- what an answer gives

-- a handle to a new object, if there is one
abbrev pub new : Kind → AbsVal
new k = Has true (Some k) (rights_of (default_rights_of k))

-- the rights of a copy
abbrev pub narrowed_rights : Rights → ℕ → Rights
narrowed_rights have asked = if asked == SAME_RIGHTS then have else rights_of (bit_and asked KNOWN_RIGHTS)

-- a handle made from one with this value, if there is one; nothing else can be copied
abbrev pub narrowed_value : AbsVal → ℕ → AbsVal
narrowed_value (Has maybe k r) asked = Has true k (narrowed_rights r asked)
narrowed_value _ asked = Word 0

-- handles that were received, in so many triples of registers from r on, each with its kind and its rights behind it
abbrev pub triple_results : ℕ → ℕ → List (ℕ × AbsVal)
triple_results r zero = []
triple_results r (suc n) =
    (r, Has true None (rights_of 0)) ∷ (r + 1, KindOf r) ∷ (r + 2, RightsOf r) ∷ triple_results (r + 3) n

-- those that a call receives
abbrev pub received_in : Ending → CallInstr → List (ℕ × AbsVal)
received_in ending.Room c = triple_results (slice_index c.registers 6) (number_at c.last 0 4)
received_in _ c = []

-- a packet: key, type, trigger, observed
abbrev pub packet_values : List ℕ → List AbsVal
packet_values bounds = Word ANY ∷ Word (rounded bounds 1) ∷ Word ANY ∷ Word ANY ∷ []

-- what an answer gives behind the status
pub data Gives : Type 0 where
  -- no value
  nothing : Gives
  -- handles to new objects of these kinds
  makes : (kinds : List Kind) → Gives
  -- a handle made from that of the second register
  copies : Gives
  -- how many bytes and handles a message has
  sizes : Gives
  -- active signals
  signals : Gives
  packet : Gives
  -- the kind and the rights of the handle in the second register
  tells : Gives

-- the same of each call
abbrev pub gives : CallName → Gives
gives call.Dup = copies
gives call.Replace = copies
gives call.ChanCreate = makes (kind.Channel ∷ kind.Channel ∷ [])
gives call.ChanReadEtc = sizes
gives call.EventCreate = makes (kind.Event ∷ [])
gives call.WaitOne = signals
gives call.WaitPoll = signals
gives call.PortCreate = makes (kind.Port ∷ [])
gives call.PortWait = packet
gives call.PortPoll = packet
gives call.ProcessCreate = makes (kind.Process ∷ [])
gives call.JobCreate = makes (kind.Job ∷ [])
gives call.EventpairCreate = makes (kind.Eventpair ∷ kind.Eventpair ∷ [])
gives call.ChanReadSlots = sizes
gives call.HandleInfo = tells
gives _ = nothing

-- the values of the destinations that get it, by the call's second register, the value there, and the call's number
abbrev pub values_by : List ℕ → Gives → (register : ℕ) → AbsVal → ℕ → List AbsVal
values_by bounds nothing register have number = []
values_by bounds (makes kinds) register have number = map new kinds
values_by bounds copies register have number = narrowed_value have number ∷ []
values_by bounds sizes register have number = Word 65536 ∷ Word 64 ∷ []
values_by bounds signals register have number = Word 0xffff_ffff ∷ []
values_by bounds packet register have number = packet_values bounds
values_by bounds tells register have number = KindOf register ∷ RightsOf register ∷ []

-- the same of a call in a state
abbrev pub values_of : List ℕ → State → CallInstr → List AbsVal
values_of bounds s c =
    let register = slice_index c.registers 1 in
    values_by bounds (gives c.name) register (value_at s register) (number_at c.last 0 4)

-- ---- the rule

-- what a call of the row uses, where its destinations among the registers get these values behind the status
abbrev pub uses_by : Row → CallInstr → List AbsVal → Uses
uses_by r c values = record {
  operands = operands_at r.fields 0 c.registers ++ operands_listed r.in_list (listed_in r.ending c);
  words = those is_word r.fields 0 c.registers;
  range = range_in r.ending c.registers;
  array = array_in r.ending c;
  condition = r.condition;
  results = zip (those is_written r.fields 0 c.registers) (Word 30 ∷ values) ++ received_in r.ending c;
}

-- what the call uses
unfoldable pub uses_of : List ℕ → State → CallInstr → Uses
uses_of bounds s c = uses_by (call_row c.name) c (values_of bounds s c)

-- the process goes on behind the call, if it is answered
abbrev pub goes_on : CallName → Bool
goes_on call.ProcessExit = false
goes_on _ = true

-- no edge is followed
abbrev pub stops : Ways
stops = record { jumped = None; passed = None }

-- what the rule of a call gives that uses this
abbrev pub call_rule_by : Image → State → Bool → Uses → Result Ways Cause
call_rule_by i s on u = and_then (state_after i s u) (λ t. Ok (if on then passes t else stops))

-- what the rule of a call gives, with these bounds
unfoldable pub call_rule : List ℕ → Image → CallInstr → State → Result Ways Cause
call_rule bounds i c s = call_rule_by i s (goes_on c.name) (uses_of bounds s c)
