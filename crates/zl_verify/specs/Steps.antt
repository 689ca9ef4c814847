-- The step bound of a typing: how many instructions a process does at most before it waits or exits.
use Rattle.std.specs.Prelude.{ℕ, zero, suc, ◌≡◌, ◌+◌, ◌<◌, ◌≤◌, ◌==◌, ◌⊎◌, Bool, false, List, [], ◌∷◌, ◌++◌, map, Option, Some, None, Result, Ok, Err, if◌then◌else◌, slice_get}
use Rattle.zl_code.specs.declared.blocks.Mark.{Mark}
use Rattle.zl_code.specs.declared.blocks.Mark.TheVariants as mark
use Rattle.zl_code.specs.declared.instr.CallInstr.{CallInstr}
use Rattle.zl_code.specs.Blocks.{marks_of, blocks_at, AreCounters}
use Rattle.zl_code.specs.Headline.{is_pause_name}
use Rattle.zl_code.specs.Image.{Image, call_at}
use Rattle.zl_abs.specs.declared.cause.Cause.{Cause}
use Rattle.zl_abs.specs.States.{State}
use Rattle.zl_abs.specs.Rule.{Edge}
use Rattle.zl_abs.specs.Typing.{rule}

-- the count begins anew at this call: a wait, whether or not it blocks, and the exit
abbrev pub is_pause : Option CallInstr → Bool
is_pause None = false
is_pause (Some c) = is_pause_name c.name

-- the instructions to which the edges lead
abbrev pub targets_of : Result (List Edge) Cause → List ℕ
targets_of (Err c) = []
targets_of (Ok es) = map (λ e. e.0) es

-- where the followed edges of the n-th instruction lead, at this state; nowhere from a pause
abbrev pub leads_by : Image → ℕ → Option State → List ℕ
leads_by i n None = []
leads_by i n (Some s) = if is_pause (call_at i n) then [] else targets_of (rule i n s)

-- the same in a map from instructions to states
abbrev pub leads : Image → (ℕ → Option State) → ℕ → List ℕ
leads i t n = leads_by i n (t n)

-- ---- places with counters

-- an instruction, and the counters of the blocks that it is in, the innermost first
abbrev pub Spot : Type 0
Spot = ℕ × List ℕ

-- behind an endrep: on with the counter dropped, which was 1, or back with the counter one less
abbrev pub lowered : ℕ → ℕ → List ℕ → Option (List ℕ)
lowered n m [] = None
lowered n m (zero ∷ cs) = None
lowered n m (suc zero ∷ cs) = if m == n + 1 then Some cs else None
lowered n m (suc (suc c) ∷ cs) = if m == n + 1 then None else Some (suc c ∷ cs)

-- the counters behind an edge from the n-th instruction to the m-th, if it is followed with these
abbrev pub counters_at : Option Mark → ℕ → ℕ → List ℕ → Option (List ℕ)
counters_at (Some (mark.Rep imm end)) n m cs = Some (imm ∷ cs)
counters_at (Some (mark.EndRep rep)) n m cs = lowered n m cs
counters_at _ n m cs = Some cs

abbrev pub spot_at : ℕ → Option (List ℕ) → List Spot
spot_at m None = []
spot_at m (Some cs) = (m, cs) ∷ []

-- the same of edges to each of these
abbrev pub spots : Option Mark → ℕ → List ℕ → List ℕ → List Spot
spots k n cs [] = []
spots k n cs (m ∷ ms) = spot_at m (counters_at k n m cs) ++ spots k n cs ms

-- where edges to these lead from the spot
abbrev pub spots_to : Image → Spot → List ℕ → List Spot
spots_to i p ms = spots (slice_get (marks_of i.code) p.0) p.0 p.1 ms

-- where the followed edges lead from a spot
abbrev pub leads_on : Image → (ℕ → Option State) → Spot → List Spot
leads_on i t p = spots_to i p (leads i t p.0)

-- one counter for each block that the instruction is in, from 1 to the imm of its rep
abbrev pub AreCountersAt : Image → ℕ → List ℕ → Type 0
AreCountersAt i n cs = AreCounters (marks_of i.code) (blocks_at (marks_of i.code) n) cs

-- ---- the bound

-- each of these spots has a number below k
abbrev pub AllBelow : (ℕ → List ℕ → ℕ) → ℕ → List Spot → Type 0
AllBelow steps k [] = Unit {0}
AllBelow steps k (p ∷ ps) = (steps p.0 p.1 < k) × AllBelow steps k ps

-- a number for each instruction with each list of counters: from 0 to the budget where it is mapped, and but
-- at a pause at least one more than the number at each followed edge's end
pub record IsStepBound (i : Image) (t : ℕ → Option State) (steps : ℕ → List ℕ → ℕ) : Type 0 where
  pub within : (n : ℕ) (s : State) (cs : List ℕ) → t n ≡ Some s → AreCountersAt i n cs → steps n cs ≤ i.budget
  pub falls : (n : ℕ) (cs : List ℕ) → AreCountersAt i n cs → AllBelow steps (steps n cs) (leads_on i t (n, cs))

-- ---- what is over

-- one of these has it
abbrev pub OneOf : {A : Type 0} → (A → Type 0) → List A → Type 0
OneOf P [] = ⊥
OneOf P (x ∷ xs) = P x ⊎ OneOf P xs

-- so many instructions follow one another from the spot on, each led to by the one before it
abbrev pub Follow : (Spot → List Spot) → ℕ → Spot → Type 0
Follow leads zero p = Unit {0}
Follow leads (suc k) p = OneOf (λ q. Follow leads k q) (leads p)

-- so many steps can be made one after another from the n-th instruction, with some counters
pub record Follows (i : Image) (t : ℕ → Option State) (k n : ℕ) : Type 0 where
  pub counters : List ℕ
  pub are : AreCountersAt i n counters
  pub follow : Follow (leads_on i t) k (n, counters)

-- the n-th instruction is over: more than budget instructions follow one another from it, with some counters,
-- none of them a pause
abbrev pub IsOver : Image → (ℕ → Option State) → ℕ → Type 0
IsOver i t n = Follows i t (suc i.budget) n
