-- The rules of the local instructions, row by row.
use Rattle.std.specs.Prelude.{ℕ, ◌+◌, ◌-◌, ◌/◌, ◌^◌, Bool, true, false, ◌&&◌, not, ◌==◌, nat_lt, nat_le, List, map, Option, Some, None, Result, Ok, Err, if◌then◌else◌, slice_get, slice_set, bit_or}
use Rattle.std.specs.Option.{option_map}
use Rattle.std.specs.Bool.{then_some}
use Rattle.zl_rights.specs.declared.kind.Kind.{Kind}
use Rattle.zl_rights.specs.Numbers.{all_kinds, bits, rights_of, within, same_kind, KNOWN_RIGHTS}
use Rattle.zl_code.specs.declared.image.SlotArray.{SlotArray}
use Rattle.zl_code.specs.declared.instr.Instr.{Instr}
use Rattle.zl_code.specs.declared.instr.LocalInstr.{LocalInstr}
use Rattle.zl_code.specs.declared.instr.LocalInstr.TheVariants as local
use Rattle.zl_code.specs.Blocks.{imm_of, marks_of}
use Rattle.zl_code.specs.Image.{Image}
use Rattle.zl_code.specs.Spells.{kind_among}
use Rattle.zl_abs.specs.declared.value.AbsVal.{AbsVal}
use Rattle.zl_abs.specs.declared.value.AbsVal.TheVariants.{Word, Has, KindOf, RightsOf}
use Rattle.zl_abs.specs.declared.cause.Cause.{Cause}
use Rattle.zl_abs.specs.declared.cause.Cause.TheVariants as cause
use Rattle.zl_abs.specs.Ways.{Ways}
use Rattle.zl_abs.specs.Values.{ANY, capped, smaller, kind_below, is_has, retagged}
use Rattle.zl_abs.specs.States.{State, value_at, with_value, refined}
use Rattle.zl_abs.specs.Bounds.{rounded}
use Rattle.zl_abs.specs.Rule.{and_then, passes, writes, word_at}

-- ---- numbers

-- register a becomes a word up to the next bound from n on
abbrev pub computes : List ℕ → State → ℕ → ℕ → Result Ways Cause
computes bounds s a n = writes s a (Word (rounded bounds n))

-- the number shifted down
abbrev pub shifted : ℕ → ℕ → ℕ
shifted m places = if nat_lt places 64 then m / 2 ^ places else 0

-- the sum of two words, and of a word and a number
abbrev pub adds : List ℕ → State → ℕ → ℕ → ℕ → Result Ways Cause
adds bounds s a b c = and_then (word_at s b) (λ m. and_then (word_at s c) (λ n. computes bounds s a (capped (m + n))))

abbrev pub adds_number : List ℕ → State → ℕ → ℕ → ℕ → Result Ways Cause
adds_number bounds s a b imm = and_then (word_at s b) (λ m. computes bounds s a (capped (m + imm)))

-- the bits that two words share
abbrev pub meets : List ℕ → State → ℕ → ℕ → ℕ → Result Ways Cause
meets bounds s a b c = and_then (word_at s b) (λ m. and_then (word_at s c) (λ n. computes bounds s a (smaller m n)))

-- the bits of a word moved up, and moved down
abbrev pub shifts_up : State → ℕ → ℕ → Result Ways Cause
shifts_up s a b = and_then (word_at s b) (λ m. writes s a (Word ANY))

abbrev pub shifts_down : List ℕ → State → ℕ → ℕ → ℕ → Result Ways Cause
shifts_down bounds s a b places = and_then (word_at s b) (λ m. computes bounds s a (shifted m places))

-- register a becomes any word, computed from two words
abbrev pub mixes : State → ℕ → ℕ → ℕ → Result Ways Cause
mixes s a b c = and_then (word_at s b) (λ m. and_then (word_at s c) (λ n. writes s a (Word ANY)))

-- the n bytes from base and offset on lie in the memory, whatever the base is up to its bound
abbrev pub in_memory : Image → ℕ → ℕ → ℕ → Bool
in_memory i base offset n = nat_le (base + (offset + n)) i.memory

-- register a becomes this word, out of n bytes of the memory
abbrev pub loads : Image → State → ℕ → ℕ → ℕ → ℕ → ℕ → Result Ways Cause
loads i s n bound a b offset =
    and_then (word_at s b) (λ base. if in_memory i base offset n then writes s a (Word bound) else Err cause.MemoryRange)

-- n bytes of register b go to the memory
abbrev pub stores : Image → State → ℕ → ℕ → ℕ → ℕ → Result Ways Cause
stores i s n a b offset =
    and_then (word_at s a) (λ base. and_then (word_at s b) (λ m.
    if in_memory i base offset n then Ok (passes s) else Err cause.MemoryRange))

-- ---- moves

-- a copy of a word or of a tag; handles can't be copied
abbrev pub copies : State → ℕ → ℕ → Result Ways Cause
copies s a b = and_then (word_at s b) (λ m. writes s a (value_at s b))

-- a handle, or 0 in its place
abbrev pub may_move : AbsVal → Bool
may_move (Word m) = m == 0
may_move (Has maybe k r) = true
may_move _ = false

-- b becomes 0, a gets what it had, tags on a are lost, and those on b follow to a
abbrev pub moved : State → ℕ → ℕ → AbsVal → State
moved s a b v = slice_set (map (retagged b a) (with_value s a v)) b (Word 0)

abbrev pub takes : State → ℕ → ℕ → Result Ways Cause
takes s a b =
    if a == b then Err cause.IllegalOp
    else if not (may_move (value_at s b)) then Err cause.NotLive
    else if is_has (value_at s a) then Err cause.Leak
    else Ok (passes (moved s a b (value_at s b)))

-- why the value can't go into the slot array, if it can't
abbrev pub slot_fault : SlotArray → AbsVal → Option Cause
slot_fault t (Word m) = if m == 0 then None else Some cause.NotLive
slot_fault t (Has maybe k r) =
    if not (kind_below k t.kind) then Some cause.WrongKind
    else if not (within (bits t.rights) (bits r)) then Some cause.LacksRight
    else None
slot_fault t _ = Some cause.NotLive

-- what may come out of a place of the slot array
abbrev pub slot_value : SlotArray → AbsVal
slot_value t = Has true t.kind t.rights

-- register a and a place of the array are exchanged, if nothing is at fault
abbrev pub swaps_by : State → ℕ → SlotArray → Option Cause → Result Ways Cause
swaps_by s a t (Some c) = Err c
swaps_by s a t None = Ok (passes (with_value s a (slot_value t)))

abbrev pub swaps_in : State → ℕ → ℕ → Option SlotArray → Result Ways Cause
swaps_in s a b None = Err cause.IllegalOp
swaps_in s a b (Some t) =
    and_then (word_at s b) (λ place.
    if nat_lt place t.length then swaps_by s a t (slot_fault t (value_at s a)) else Err cause.MemoryRange)

-- ---- what a test teaches

-- the kind of this number
abbrev pub kind_numbered : ℕ → Option Kind
kind_numbered n = kind_among all_kinds n

-- register r, with this value, turns out to be 0; nothing where it can't be
abbrev pub known_zero : State → ℕ → AbsVal → Option State
known_zero s r (Has maybe k q) = if maybe then Some (refined s r (Word 0)) else None
known_zero s r v = Some s

-- it turns out to have a handle
abbrev pub known_there : State → ℕ → AbsVal → Option State
known_there s r (Has maybe k q) = Some (refined s r (Has false k q))
known_there s r (Word m) = if m == 0 then None else Some s
known_there s r v = Some s

-- its handle turns out to be of kind k
abbrev pub known_kind : State → ℕ → Option Kind → AbsVal → Option State
known_kind s r (Some k) (Has maybe j q) = if kind_below (Some k) j then Some (refined s r (Has false (Some k) q)) else None
known_kind s r _ _ = None

-- it turns out to have no handle of kind k
abbrev pub known_other : State → Option Kind → AbsVal → Option State
known_other s (Some k) (Has maybe (Some j) q) = if not maybe && same_kind k j then None else Some s
known_other s _ _ = Some s

-- its handle turns out to have these rights
abbrev pub known_rights : State → ℕ → ℕ → AbsVal → Option State
known_rights s r imm (Has maybe k q) =
    if within imm KNOWN_RIGHTS then Some (refined s r (Has false k (rights_of (bit_or (bits q) imm)))) else None
known_rights s r imm _ = None

-- ---- jumps

-- the edges exchanged
abbrev pub turned : Ways → Ways
turned w = record { jumped = w.passed; passed = w.jumped }

-- register a becomes the number on the edge, if it is followed
abbrev pub becomes : ℕ → ℕ → Option State → Option State
becomes a imm s = option_map (λ t. refined t a (Word (capped imm))) s

-- jumps where register a, with the number of the kind of the handle in r, is equal to imm
abbrev pub kind_ways : State → ℕ → ℕ → ℕ → Ways
kind_ways s a imm r =
    if imm == 0
    then record { jumped = becomes a 0 (known_zero s r (value_at s r)); passed = known_there s r (value_at s r) }
    else record { jumped = becomes a imm (known_kind s r (kind_numbered imm) (value_at s r)); passed = known_other s (kind_numbered imm) (value_at s r) }

-- jumps where register a, with this value, is equal to imm
abbrev pub equal_ways : State → ℕ → ℕ → AbsVal → Result Ways Cause
equal_ways s a imm (Has maybe k r) = Err cause.NotWord
equal_ways s a imm (Word m) = Ok (record {
  jumped = if nat_lt m (capped imm) then None else becomes a imm (Some s);
  passed = if (m == 0) && (imm == 0) then None else Some s;
})
equal_ways s a imm (RightsOf r) = Ok (record { jumped = becomes a imm (Some s); passed = Some s })
equal_ways s a imm (KindOf r) = Ok (kind_ways s a imm r)

-- jumps where register a is 0
abbrev pub zero_ways : State → ℕ → AbsVal → Result Ways Cause
zero_ways s a (Has maybe k r) = Ok (record {
  jumped = known_zero s a (Has maybe k r);
  passed = known_there s a (Has maybe k r);
})
zero_ways s a v = equal_ways s a 0 v

-- jumps where register a is below imm
abbrev pub below_ways : State → ℕ → ℕ → Result Ways Cause
below_ways s a imm = and_then (word_at s a) (λ m. Ok (record {
  jumped = if imm == 0 then None else Some (refined s a (Word (smaller m (imm - 1))));
  passed = if nat_lt m imm then None else Some s;
}))

-- jumps where all bits of imm are in register a
abbrev pub has_ways : State → ℕ → AbsVal → Result Ways Cause
has_ways s imm (Has maybe k r) = Err cause.NotWord
has_ways s imm (RightsOf r) = Ok (record {
  jumped = if imm == 0 then Some s else known_rights s r imm (value_at s r);
  passed = Some s;
})
has_ways s imm v = Ok (record { jumped = Some s; passed = Some s })

-- the same jump where the test fails
abbrev pub unless : Result Ways Cause → Result Ways Cause
unless w = and_then w (λ x. Ok (turned x))

-- ---- counted blocks

-- the block that begins at this rep is gone round more than once
abbrev pub goes_round_again : List Instr → ℕ → Bool
goes_round_again code rep = nat_le 2 (imm_of (marks_of code) rep)

-- the block that began at this rep is left, or gone round once more
abbrev pub ends_turn : List Instr → State → ℕ → Ways
ends_turn code s rep = record { jumped = then_some (goes_round_again code rep) s; passed = Some s }

-- ---- the rows

-- what the rule of a local instruction gives, with these bounds
unfoldable pub local_rule : List ℕ → Image → LocalInstr → State → Result Ways Cause
local_rule bounds i (local.Const a imm) s = writes s a (Word (capped imm))
local_rule bounds i (local.Move a b) s = copies s a b
local_rule bounds i (local.Add a b c) s = adds bounds s a b c
local_rule bounds i (local.AddNumber a b imm) s = adds_number bounds s a b imm
local_rule bounds i (local.Subtract a b c) s = mixes s a b c
local_rule bounds i (local.And a b c) s = meets bounds s a b c
local_rule bounds i (local.Or a b c) s = mixes s a b c
local_rule bounds i (local.Xor a b c) s = mixes s a b c
local_rule bounds i (local.ShiftLeft a b imm) s = shifts_up s a b
local_rule bounds i (local.ShiftRight a b imm) s = shifts_down bounds s a b imm
local_rule bounds i (local.Take a b) s = takes s a b
local_rule bounds i (local.Swap a b imm) s = swaps_in s a b (slice_get i.slots imm)
local_rule bounds i (local.LoadByte a b imm) s = loads i s 1 255 a b imm
local_rule bounds i (local.LoadWord a b imm) s = loads i s 8 ANY a b imm
local_rule bounds i (local.StoreByte a b imm) s = stores i s 1 a b imm
local_rule bounds i (local.StoreWord a b imm) s = stores i s 8 a b imm
local_rule bounds i (local.Jump target) s = Ok (turned (passes s))
local_rule bounds i (local.JumpZero a target) s = zero_ways s a (value_at s a)
local_rule bounds i (local.JumpNotZero a target) s = unless (zero_ways s a (value_at s a))
local_rule bounds i (local.JumpEqual a imm target) s = equal_ways s a imm (value_at s a)
local_rule bounds i (local.JumpNotEqual a imm target) s = unless (equal_ways s a imm (value_at s a))
local_rule bounds i (local.JumpBelow a imm target) s = below_ways s a imm
local_rule bounds i (local.JumpNotBelow a imm target) s = unless (below_ways s a imm)
local_rule bounds i (local.JumpHas a imm target) s = has_ways s imm (value_at s a)
local_rule bounds i (local.JumpHasNot a imm target) s = unless (has_ways s imm (value_at s a))
local_rule bounds i (local.Rep imm end) s = Ok (passes s)
local_rule bounds i (local.EndRep rep) s = Ok (ends_turn i.code s rep)
