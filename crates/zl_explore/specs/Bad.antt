-- Patterns: of items, and of what processes are in or have.
use Rattle.std.specs.Prelude.{ℕ, ◌≡◌, ◌==◌, if◌then◌else◌, List, [], ◌++◌, codes, Option, None, Some}
use Rattle.std.specs.Fmt.{decimal, signed_decimal}
use Rattle.zl_rights.specs.Names.{status_name}
use Rattle.zl_rights.specs.Numbers.{bits}
use Rattle.zl_code.specs.Instructions.{call_name}
use Rattle.zl_code.specs.declared.history.CallName.{CallName}
use Rattle.zl_code.specs.declared.history.Outcome.{Outcome}
use Rattle.zl_code.specs.declared.history.Outcome.TheVariants as outcome
use Rattle.zl_code.specs.declared.history.ProcState.{ProcState}
use Rattle.zl_code.specs.declared.history.ProcState.TheVariants as state
use Rattle.zl_code.specs.declared.history.TraceItem.{TraceItem}
use Rattle.zl_code.specs.declared.history.TraceItem.TheVariants as item
use Rattle.zl_explore.specs.Paths.{IsIn}
use Rattle.zl_explore.specs.declared.bad.Bad.{Bad}
use Rattle.zl_explore.specs.declared.bad.What.{What}
use Rattle.zl_explore.specs.declared.bad.What.TheVariants as what

-- anything where nothing is named, and else the one that is
abbrev pub IsOne : {X : Type 0} → Option X → X → Type 0
IsOne None x = Unit {0}
IsOne (Some named) x = x ≡ named

-- ---- items

-- such a call, which ends so
abbrev pub IsCall : What → CallName → Outcome → Type 0
IsCall (what.Call call outcome) c o = IsOne call c × IsOne outcome o
IsCall _ c o = ⊥

-- the pattern names the item
abbrev pub Fits : Bad → TraceItem → Type 0
Fits b (item.Run p count) = ⊥
Fits b (item.Call p c o) = IsOne b.pid p × IsCall b.what c o
Fits b (item.Stuck p) = IsOne b.pid p × (b.what ≡ what.Stuck)

-- no pattern names what is told
abbrev pub IsQuiet : List Bad → Option TraceItem → Type 0
IsQuiet bad told = (b : Bad) (x : TraceItem) → IsIn bad b → told ≡ Some x → Fits b x → ⊥

-- the pattern is one of these, and names what is told
pub record NamesItem (bad : List Bad) (told : Option TraceItem) (b : Bad) : Type 0 where
  pub is_in : IsIn bad b
  pub told_item : TraceItem
  pub is_told : told ≡ Some told_item
  pub fits : Fits b told_item

-- ---- ends

-- this is what a process is in
abbrev pub IsState : What → ProcState → Type 0
IsState (what.Ended code) s = s ≡ state.Ended code
IsState what.Blocked s = s ≡ state.Blocked
IsState what.Created s = s ≡ state.Created
IsState what.Ready s = s ≡ state.Ready
IsState _ s = ⊥

-- the pattern names what the process is in at an end
abbrev pub FitsState : Bad → ℕ × ProcState → Type 0
FitsState b process = IsOne b.pid process.0 × IsState b.what process.1

-- the pattern names what one of these is in
pub record FitsOne (b : Bad) (states : List (ℕ × ProcState)) : Type 0 where
  pub process : ℕ × ProcState
  pub is_in : IsIn states process
  pub fits : FitsState b process

-- no pattern names what one of these is in
abbrev pub IsGoodEnd : List Bad → List (ℕ × ProcState) → Type 0
IsGoodEnd bad states = (b : Bad) → IsIn bad b → FitsOne b states → ⊥

-- the pattern is one of those, and names what one of these is in
abbrev pub NamesEnd : List Bad → List (ℕ × ProcState) → Bad → Type 0
NamesEnd bad states b = IsIn bad b × FitsOne b states

-- ---- words

-- whose: `*` for anybody's
abbrev pub who_words : Option ℕ → List ℕ
who_words None = codes "*"
who_words (Some pid) = decimal pid

-- which call: `*` for any
abbrev pub call_words : Option CallName → List ℕ
call_words None = codes "*"
call_words (Some call) = call_name call

-- how it ends, as a trace has it: `*` for anything
abbrev pub outcome_words : Option Outcome → List ℕ
outcome_words None = codes "*"
outcome_words (Some (outcome.Answered status)) = status_name status
outcome_words (Some outcome.Blocked) = codes "blocked"
outcome_words (Some (outcome.Ended code)) = codes "ended " ++ signed_decimal code

-- which rights: nothing where none is asked for
abbrev pub right_words : ℕ → List ℕ
right_words rights = if rights == 0 then [] else (codes " " ++ decimal rights)

abbrev pub what_words : What → List ℕ
what_words (what.Call call outcome) = call_words call ++ (codes " " ++ outcome_words outcome)
what_words what.Stuck = codes "stuck"
what_words (what.Ended code) = codes "ended " ++ signed_decimal code
what_words what.Blocked = codes "blocked"
what_words what.Created = codes "created"
what_words what.Ready = codes "ready"
what_words (what.Has koid rights) = codes "has " ++ (decimal koid ++ right_words (bits rights))

-- the words of a pattern
abbrev pub words_of : Bad → List ℕ
words_of b = who_words b.pid ++ (codes " " ++ what_words b.what)
