-- Which instructions hand a register on to the next one, and where it is next named. No public clause cites this module.
use Rattle.std.specs.Prelude.{ℕ, ◌≡◌, ◌+◌, ◌-◌, ◌*◌, ◌<◌, ◌≤◌, nat_lt, nat_le, Bool, true, false, not, ◌&&◌, ◌||◌, ◌==◌, List, [], ◌∷◌, length, take, Option, Some, None, slice_index, slice_index_or}
use Rattle.std.specs.List.{list_any}
use Rattle.zl_code.specs.Image.{Image, instr_at}
use Rattle.zl_code.specs.Limits.{register_count}
use Rattle.zl_code.specs.Operands.{Operand}
use Rattle.zl_code.specs.Spells.{number_at}
use Rattle.zl_code.specs.declared.instr.CallInstr.{CallInstr}
use Rattle.zl_code.specs.declared.instr.Instr.{Instr}
use Rattle.zl_code.specs.declared.instr.Instr.TheVariants as instr
use Rattle.zl_code.specs.declared.instr.LocalInstr.{LocalInstr}
use Rattle.zl_code.specs.declared.instr.LocalInstr.TheVariants as local
use Rattle.zl_code.specs.declared.layout.Ending.{Ending}
use Rattle.zl_code.specs.declared.layout.Ending.TheVariants as ending
use Rattle.zl_abs.specs.Bounds.{bounds_of}
use Rattle.zl_abs.specs.CallRules.{Uses, goes_on, is_result, uses_of}
use Rattle.zl_abs.specs.States.{State}

-- ---- what hands a register on

-- the instruction is no jump, moves nothing, and doesn't write the register
abbrev pub hands_on : LocalInstr → ℕ → Bool
hands_on (local.Const a imm) r = not (a == r)
hands_on (local.Move a b) r = not (a == r)
hands_on (local.Add a b c) r = not (a == r)
hands_on (local.AddNumber a b imm) r = not (a == r)
hands_on (local.Subtract a b c) r = not (a == r)
hands_on (local.And a b c) r = not (a == r)
hands_on (local.Or a b c) r = not (a == r)
hands_on (local.Xor a b c) r = not (a == r)
hands_on (local.ShiftLeft a b imm) r = not (a == r)
hands_on (local.ShiftRight a b imm) r = not (a == r)
hands_on (local.Swap a b imm) r = not (a == r)
hands_on (local.LoadByte a b imm) r = not (a == r)
hands_on (local.LoadWord a b imm) r = not (a == r)
hands_on (local.StoreByte a b imm) r = true
hands_on (local.StoreWord a b imm) r = true
hands_on (local.Rep imm end) r = true
hands_on _ r = false

-- one of these registers is taken
unfoldable pub is_taken_at : List Operand → ℕ → Bool
is_taken_at [] r = false
is_taken_at (o ∷ os) r = (o.is_taken && (o.value == r)) || is_taken_at os r

-- the call goes on, and neither takes nor writes the register
abbrev pub call_hands_on : Bool → Uses → ℕ → Bool
call_hands_on on u r = on && (not (is_taken_at u.operands r) && not (is_result u.results r))

-- whatever is known, the call does
abbrev pub CallKeeps : CallInstr → ℕ → Type 0
CallKeeps x r = (bounds : List ℕ) (s : State) → call_hands_on (goes_on x.name) (uses_of bounds s x) r ≡ true

-- the instruction goes on to the next alone, and leaves the register with no less
abbrev pub keeps_by : Image → ℕ → State → Option Instr → Bool
keeps_by i r s None = false
keeps_by i r s (Some (instr.Local x)) = hands_on x r
keeps_by i r s (Some (instr.Call x)) = call_hands_on (goes_on x.name) (uses_of (bounds_of i.code) s x) r
keeps_by i r s (Some (instr.Unknown bytes)) = false

-- whatever is known there, the n-th instruction does
abbrev pub Keeps : Image → ℕ → ℕ → Type 0
Keeps i r n = (s : State) → keeps_by i r s (instr_at i n) ≡ true

-- ---- what a call names, by the code alone

abbrev pub is_one : ℕ → List ℕ → Bool
is_one r rs = list_any (λ x. x == r) rs

-- the places of the list have it, if there is one
abbrev pub is_listed : Ending → CallInstr → ℕ → Bool
is_listed ending.Handles x r = is_one r x.last
is_listed _ x r = false

-- it is one of so many triples behind this register
abbrev pub is_in_triples : ℕ → ℕ → ℕ → Bool
is_in_triples first triples r = nat_le first r && nat_lt r (first + 3 * triples)

-- handles that are received go there, with their kinds and rights
abbrev pub is_received : Ending → CallInstr → ℕ → Bool
is_received ending.Room x r = is_in_triples (slice_index x.registers 6) (number_at x.last 0 4) r
is_received _ x r = false

-- it is one of the first so many registers of the call, of its list, or of what it receives
abbrev pub is_named_by : ℕ → Ending → CallInstr → ℕ → Bool
is_named_by count end x r = is_one r (take count x.registers) || (is_listed end x r || is_received end x r)

-- ---- where a register is next named

-- each instruction from the n-th on and before the p-th hands the register on
abbrev pub AreKept : Image → ℕ → ℕ → ℕ → Type 0
AreKept i r n p = (q : ℕ) → n ≤ q → q < p → Keeps i r q

-- the register is next named there, or behind that
pub record IsNext (i : Image) (r n p : ℕ) : Type 0 where
  pub behind : n ≤ p
  pub inside : p < length i.code
  pub kept : AreKept i r n p

-- the row says of each register where it is next named
abbrev pub AreNext : Image → ℕ → List ℕ → Type 0
AreNext i n row = (r : ℕ) → r < register_count → IsNext i r n (slice_index row r)

-- a row for each instruction, from the last to the first
pub record AreNames (i : Image) (rows : List (List ℕ)) : Type 0 where
  pub long : length rows ≡ length i.code
  pub each : (k r : ℕ) → k < length i.code → r < register_count → IsNext i r (length i.code - 1 - k) (slice_index (slice_index_or rows k []) r)
