-- The effect of one local instruction on a Cpu, row by row.
use Rattle.zl_rights.specs.Common.{within, Cpu}
use Rattle.std.specs.Prelude.{ℕ, ◌+◌, ◌-◌, ◌*◌, ◌/◌, ◌%◌, ◌^◌, Bool, not, ◌==◌, nat_lt, nat_le, List, [], ◌∷◌, ◌++◌, take, drop, length, Option, Some, None, if◌then◌else◌, bit_and, slice_index, slice_set, slice_get, bit_or, bit_xor}
use Rattle.zl_code.specs.declared.instr.LocalInstr.{LocalInstr}
use Rattle.zl_code.specs.declared.instr.LocalInstr.TheVariants as local
use Rattle.zl_code.specs.Limits.{most_blocks}
use Rattle.zl_code.specs.Spells.{number_of, bytes_of}

-- ---- registers

-- register r
abbrev pub reg : Cpu → ℕ → ℕ
reg c r = slice_index c.registers r

-- register r becomes v, and the counter moves on
abbrev pub sets : Cpu → ℕ → ℕ → Cpu
sets c r v = record c { registers = slice_set c.registers r v; counter = c.counter + 1 }

-- the number as a register holds it: its low 64 bits
abbrev pub wrapped : ℕ → ℕ
wrapped n = n % 2 ^ 64

-- ---- data memory

-- the n bytes from the address on lie in the memory
abbrev pub is_in_memory : Cpu → ℕ → ℕ → Bool
is_in_memory c address n = nat_le (address + n) (length c.memory)

-- register r becomes the number of the n bytes from the address on
abbrev pub loads : Cpu → ℕ → ℕ → ℕ → Option Cpu
loads c n r address = if is_in_memory c address n then Some (sets c r (number_of (take n (drop address c.memory)))) else None

-- the memory with these bytes from the address on
abbrev pub overwritten : List ℕ → ℕ → List ℕ → List ℕ
overwritten memory address bytes = take address memory ++ (bytes ++ drop (address + length bytes) memory)

-- the n low bytes of v go to the address
abbrev pub stores : Cpu → ℕ → ℕ → ℕ → Option Cpu
stores c n address v =
    if is_in_memory c address n
    then Some (record c { memory = overwritten c.memory address (bytes_of n v); counter = c.counter + 1 })
    else None

-- ---- slot arrays

-- register a and a place of the slot array are exchanged, if both are there
abbrev pub swaps_in : Cpu → ℕ → ℕ → ℕ → Option (List ℕ) → Option Cpu
swaps_in c a place array None = None
swaps_in c a place array (Some slots) =
    if nat_lt place (length slots)
    then Some (record (sets c a (slice_index slots place)) { slots = slice_set c.slots array (slice_set slots place (reg c a)) })
    else None

-- the same by the number of the slot array
abbrev pub swaps : Cpu → ℕ → ℕ → ℕ → Option Cpu
swaps c a place array = swaps_in c a place array (slice_get c.slots array)

-- ---- jumps

-- the instruction of this number stands next
abbrev pub goes_to : Cpu → ℕ → Cpu
goes_to c target = record c { counter = target }

-- the target stands next where the test holds, else the instruction behind this
abbrev pub goes_if : Cpu → Bool → ℕ → Cpu
goes_if c test target = goes_to c (if test then target else c.counter + 1)

-- ---- counted blocks

-- a block begins with so many turns, if the process is in fewer than four
abbrev pub enters : Cpu → ℕ → Option Cpu
enters c count =
    if nat_lt (length c.counters) most_blocks then Some (record c { counters = count ∷ c.counters; counter = c.counter + 1 }) else None

-- the block goes on behind its rep, with one turn less, or is left
abbrev pub turns_by : Cpu → ℕ → List ℕ → Option Cpu
turns_by c rep [] = None
turns_by c rep (n ∷ ns) =
    if nat_lt 1 n then Some (record c { counters = (n - 1) ∷ ns; counter = rep + 1 }) else Some (record c { counters = ns; counter = c.counter + 1 })

-- the same by all its counters
abbrev pub turns : Cpu → ℕ → Option Cpu
turns c rep = turns_by c rep c.counters

-- ---- the rows

-- the Cpu after the instruction, or nothing where it is stuck
unfoldable pub local_effect : LocalInstr → Cpu → Option Cpu
local_effect (local.Const a imm) c = Some (sets c a imm)
local_effect (local.Move a b) c = Some (sets c a (reg c b))
local_effect (local.Add a b d) c = Some (sets c a (wrapped (reg c b + reg c d)))
local_effect (local.AddNumber a b imm) c = Some (sets c a (wrapped (reg c b + imm)))
local_effect (local.Subtract a b d) c = Some (sets c a (wrapped (reg c b + 2 ^ 64 - reg c d)))
local_effect (local.And a b d) c = Some (sets c a (bit_and (reg c b) (reg c d)))
local_effect (local.Or a b d) c = Some (sets c a (bit_or (reg c b) (reg c d)))
local_effect (local.Xor a b d) c = Some (sets c a (bit_xor (reg c b) (reg c d)))
local_effect (local.ShiftLeft a b imm) c = Some (sets c a (if nat_lt imm 64 then wrapped (reg c b * 2 ^ imm) else 0))
local_effect (local.ShiftRight a b imm) c = Some (sets c a (if nat_lt imm 64 then reg c b / 2 ^ imm else 0))
local_effect (local.Take a b) c = Some (record (sets c a (reg c b)) { registers = slice_set (slice_set c.registers a (reg c b)) b 0 })
local_effect (local.Swap a b imm) c = swaps c a (reg c b) imm
local_effect (local.LoadByte a b imm) c = loads c 1 a (reg c b + imm)
local_effect (local.LoadWord a b imm) c = loads c 8 a (reg c b + imm)
local_effect (local.StoreByte a b imm) c = stores c 1 (reg c a + imm) (reg c b)
local_effect (local.StoreWord a b imm) c = stores c 8 (reg c a + imm) (reg c b)
local_effect (local.Jump target) c = Some (goes_to c target)
local_effect (local.JumpZero a target) c = Some (goes_if c (reg c a == 0) target)
local_effect (local.JumpNotZero a target) c = Some (goes_if c (not (reg c a == 0)) target)
local_effect (local.JumpEqual a imm target) c = Some (goes_if c (reg c a == imm) target)
local_effect (local.JumpNotEqual a imm target) c = Some (goes_if c (not (reg c a == imm)) target)
local_effect (local.JumpBelow a imm target) c = Some (goes_if c (nat_lt (reg c a) imm) target)
local_effect (local.JumpNotBelow a imm target) c = Some (goes_if c (not (nat_lt (reg c a) imm)) target)
local_effect (local.JumpHas a imm target) c = Some (goes_if c (within imm (reg c a)) target)
local_effect (local.JumpHasNot a imm target) c = Some (goes_if c (not (within imm (reg c a))) target)
local_effect (local.Rep imm end) c = enters c imm
local_effect (local.EndRep rep) c = turns c rep
