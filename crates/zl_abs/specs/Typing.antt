-- The rule of each instruction with its edges, and what a typing of an image is.
use Rattle.std.specs.Prelude.{ℕ, ◌≡◌, ◌+◌, List, [], ◌∷◌, length, Option, Some, None, Result, Ok, Err, IsTrue}
use Rattle.zl_code.specs.declared.instr.Instr.{Instr}
use Rattle.zl_code.specs.declared.instr.Instr.TheVariants as instr
use Rattle.zl_code.specs.declared.instr.LocalInstr.{LocalInstr}
use Rattle.zl_code.specs.declared.instr.LocalInstr.TheVariants as local
use Rattle.zl_code.specs.Image.{Image, instr_at}
use Rattle.zl_code.specs.Spells.{local_parts}
use Rattle.zl_abs.specs.declared.cause.Cause.{Cause}
use Rattle.zl_abs.specs.declared.cause.Cause.TheVariants as cause
use Rattle.zl_abs.specs.States.{State, all_below, IsState, start_state}
use Rattle.zl_abs.specs.Bounds.{bounds_of}
use Rattle.zl_abs.specs.Rule.{and_then, Edge, edges}
use Rattle.zl_abs.specs.LocalRules.{local_rule}
use Rattle.zl_abs.specs.CallRules.{call_rule}

-- ---- the rule of an instruction

-- where an instruction may jump: an endrep behind its rep, and a rep nowhere
abbrev pub target_of : LocalInstr → ℕ
target_of (local.Rep imm end) = 0
target_of (local.EndRep rep) = rep + 1
target_of i = (local_parts i).target

-- the edges that are followed from the instruction, which stands at this place
abbrev pub rule_by : List ℕ → Image → ℕ → State → Option Instr → Result (List Edge) Cause
rule_by bounds i n s None = Err cause.FallsOff
rule_by bounds i n s (Some (instr.Local x)) = and_then (local_rule bounds i x s) (edges (length i.code) n (target_of x))
rule_by bounds i n s (Some (instr.Call x)) = and_then (call_rule bounds i x s) (edges (length i.code) n 0)
rule_by bounds i n s (Some (instr.Unknown bytes)) = Err cause.IllegalOp

-- the edges that are followed from the n-th instruction in this state, with these bounds
unfoldable pub rule_with : List ℕ → Image → ℕ → State → Result (List Edge) Cause
rule_with bounds i n s = rule_by bounds i n s (instr_at i n)

-- the same with the bounds of the image
abbrev pub rule : Image → ℕ → State → Result (List Edge) Cause
rule i n s = rule_with (bounds_of i.code) i n s

-- ---- typings

-- something is there, and it is above
abbrev pub IsAbove : Option State → State → Type 0
IsAbove None s = ⊥
IsAbove (Some t) s = IsTrue (all_below s t)

-- each edge leads to an instruction with a state above
abbrev pub AllLead : (ℕ → Option State) → List Edge → Type 0
AllLead t [] = Unit {0}
AllLead t (e ∷ es) = IsAbove (t e.0) e.1 × AllLead t es

-- the rule holds, and its edges lead on
abbrev pub Holds : (ℕ → Option State) → Result (List Edge) Cause → Type 0
Holds t (Err c) = ⊥
Holds t (Ok es) = AllLead t es

-- a map from some instructions to states: the start state lies below that of instruction 0, the rule of
-- each mapped instruction holds at its state, and each followed edge leads to a mapped instruction whose
-- state is above what the rule gives
pub record IsTyping (i : Image) (t : ℕ → Option State) : Type 0 where
  pub begins : IsAbove (t 0) (start_state i)
  pub state : (n : ℕ) (s : State) → t n ≡ Some s → IsState s
  pub holds : (n : ℕ) (s : State) → t n ≡ Some s → Holds t (rule i n s)
