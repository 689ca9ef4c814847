-- The text of a search over all orders of turns.
use Rattle.std.specs.Prelude.{ℕ, ◌≡◌, ◌≤◌, nat_le, Bool, true, false, List, [], ◌∷◌, ◌++◌, codes, length, map, Option, None, Some, if◌then◌else◌}
use Rattle.std.specs.Fmt.{decimal}
use Rattle.std.specs.Io.KnownBytes.{Appends}
use Rattle.std.specs.List.{flat_map}
use Rattle.zl_code.specs.Common.{Library}
use Rattle.zl_code.specs.Own.{OwnWorld}
use Rattle.zl_code.specs.declared.history.ProcState.{ProcState}
use Rattle.zl_explore.specs.Bad.{FitsOne, IsGoodEnd, NamesEnd, words_of}
use Rattle.zl_explore.specs.Facts.{together_words}
use Rattle.zl_calls.specs.World.{Machine, own_here}
use Rattle.zl_explore.specs.Part.{IsOnly, Part}
use Rattle.zl_explore.specs.Paths.{IsIn}
use Rattle.zl_explore.specs.Searching.{AreAll, HasNone, IsBadOrder, IsEnd, IsEndless, IsKnown, Search}
use Rattle.zl_explore.specs.Sights.{IsBadWorld, StaysClear}
use Rattle.zl_explore.specs.declared.bad.Bad.{Bad}
use Rattle.zl_explore.specs.declared.ends.End.{End as Told}
use Rattle.zl_explore.specs.declared.fact.Fact.{Fact}
use Rattle.zl_sched.specs.Follows.{turns_of}
use Rattle.zl_trace.specs.Output.{AppendsBeginning}
use Rattle.zl_trace.specs.Text.{state_line}
use Rattle.zlab.specs.declared.ends.Sought.{Sought as Asked}
use Rattle.zlab.specs.declared.fault.Verdict.{Verdict}
use Rattle.zlab.specs.declared.fault.Verdict.TheVariants as verdict

-- an end as it is written: what each process is in, by koid, and a schedule that leads there
pub record End : Type 0 where
  pub states : List (ℕ × ProcState)
  pub schedule : List (ℕ × ℕ)

-- own steps along the schedule lead from the world to one in which nobody is ready, and everybody is in these states
abbrev pub IsEndFrom : Library → OwnWorld → End → Type 0
IsEndFrom lib o e = IsEnd lib o (turns_of e.schedule) e.states

-- what is asked of a search: what no order may have, what may not be so at once, of which part the orders are, and how many worlds there may be
pub record Sought : Type 0 where
  pub bad : List Bad
  pub never : List (List Fact)
  pub part : Part
  pub most : ℕ

-- that of the words / that of a search
abbrev pub sought_by : Asked → Sought
sought_by a = record { bad = a.never.bad.items; never = map (λ one. one.items) a.never.together.items; part = a.part; most = a.worlds }

abbrev pub sought : Search → Sought
sought s = record { bad = s.bad; never = s.never; part = s.part; most = s.most }

-- ---- lines

-- the line above a schedule; it says how many items its trace has, where they are more than the limit
abbrev pub by_line : (limit items : ℕ) → List ℕ
by_line limit items = if nat_le items limit then codes "by\n" else (codes "by " ++ (decimal items ++ codes " items\n"))

-- so many turns of a process
abbrev pub turn_line : ℕ × ℕ → List ℕ
turn_line turn = decimal turn.0 ++ (codes " " ++ (decimal turn.1 ++ codes "\n"))

-- the lines of a schedule
abbrev pub schedule_text : (limit : ℕ) → List (ℕ × ℕ) → List ℕ
schedule_text limit schedule = by_line limit (length (turns_of schedule)) ++ flat_map turn_line schedule

-- the lines of an end
abbrev pub end_text : (limit : ℕ) → End → List ℕ
end_text limit e = codes "end\n" ++ (flat_map (λ p. state_line p.0 p.1) e.states ++ schedule_text limit e.schedule)

-- the last line of a search that met what the pattern names
abbrev pub bad_line : Bad → List ℕ
bad_line b = codes "bad " ++ (words_of b ++ codes "\n")

-- the same of facts that are so at once
abbrev pub together_line : List Fact → List ℕ
together_line together = codes "bad " ++ (together_words together ++ codes "\n")

-- the last line: how far the search came, and what it counted
abbrev pub last_line : List ℕ → (worlds turns ends : ℕ) → List ℕ
last_line word worlds turns ends =
    word ++ (codes " " ++ (decimal worlds ++ (codes " worlds " ++ (decimal turns ++ (codes " turns " ++ (decimal ends ++ codes " ends\n"))))))

-- the word with which it begins
abbrev pub verdict_word : Verdict → List ℕ
verdict_word verdict.Done = codes "all"
verdict_word verdict.Cut = codes "cut"
verdict_word verdict.Memory = codes "memory"
verdict_word verdict.Bad = codes "bad"
verdict_word verdict.Refused = codes "refused"

-- ---- the text

-- the line above the last one of a search that met all: an order leads where none comes to an end any more
abbrev pub endless_line : Bool → List ℕ
endless_line true = codes "endless\n"
endless_line false = []

-- whether own steps lead to a world from which none lead to an end; a part alone can't tell that none do
abbrev pub SaysEndless : Bool → Library → OwnWorld → Part → Type 0
SaysEndless true lib o part = IsEndless lib o
SaysEndless false lib o part = IsOnly part → IsEndless lib o → ⊥

-- every order that comes to an end comes to one of these, none of which a pattern names, no order has an item that one names, and none leads
-- to a world in which what may not be so at once is; of a part that is known of its own orders
pub record SaysAll (lib : Library) (o : OwnWorld) (asked : Sought) (endless : Bool) (ends : List End) : Type 0 where
  pub all : IsOnly asked.part → AreAll lib o (map (λ e. e.states) ends)
  pub none : IsOnly asked.part → HasNone lib o asked.bad
  pub clear : IsOnly asked.part → StaysClear lib o asked.never
  pub known : (m : Machine) → m.programs ≡ lib → own_here m ≡ o → IsKnown m asked.part (map (λ e. e.states) ends) asked.bad asked.never endless
  pub good : (e : End) → IsIn ends e → IsGoodEnd asked.bad e.states

-- what a last line with counts says of the ends above it; where it is cut, as many worlds were met as there may be
abbrev pub Says : Verdict → Bool → Library → OwnWorld → Sought → (worlds : ℕ) → List End → Type 0
Says verdict.Done endless lib o asked worlds ends = SaysAll lib o asked endless ends × SaysEndless endless lib o asked.part
Says verdict.Cut false lib o asked worlds ends = asked.most ≤ worlds
Says verdict.Memory false lib o asked worlds ends = Unit {0}
Says _ _ lib o asked worlds ends = ⊥

-- what stands behind the ends: counts, or the pattern that names what an order has, which is the last of these, or an item of the last
-- turn of a schedule; or the facts that are so at once where a schedule leads
pub data Closes (lib : Library) (o : OwnWorld) (asked : Sought) (limit : ℕ) (ends : List End) : Verdict → List ℕ → Type 0 where
  counts : (v : Verdict) (endless : Bool) (worlds turns : ℕ) → Says v endless lib o asked worlds ends
      → Closes lib o asked limit ends v (endless_line endless ++ last_line (verdict_word v) worlds turns (length ends))
  bad_end : (b : Bad) → IsIn asked.bad b → (before : List End) (e : End) → ends ≡ before ++ (e ∷ []) → FitsOne b e.states
      → Closes lib o asked limit ends verdict.Bad (bad_line b)
  bad_turn : (b : Bad) → IsIn asked.bad b → (schedule : List (ℕ × ℕ)) → IsBadOrder lib o (turns_of schedule) b
      → Closes lib o asked limit ends verdict.Bad (schedule_text limit schedule ++ bad_line b)
  bad_world : (together : List Fact) → IsIn asked.never together → (schedule : List (ℕ × ℕ)) → IsBadWorld lib o (turns_of schedule) together
      → Closes lib o asked limit ends verdict.Bad (schedule_text limit schedule ++ together_line together)

-- the lines are those of a search over all orders from the world
pub record IsSearchText (lib : Library) (o : OwnWorld) (asked : Sought) (limit : ℕ) (v : Verdict) (lines : List ℕ) : Type 0 where
  pub ends : List End
  pub are_ends : (e : End) → IsIn ends e → IsEndFrom lib o e
  pub rest : List ℕ
  pub closes : Closes lib o asked limit ends v rest
  pub are : lines ≡ flat_map (end_text limit) ends ++ rest

-- the writer got them
pub record WritesEnds (lib : Library) (o : OwnWorld) (asked : Sought) (limit : ℕ) (v : Verdict) (old new : Option (List ℕ)) : Type 0 where
  pub lines : List ℕ
  pub is_text : IsSearchText lib o asked limit v lines
  pub written : Appends old new lines

-- the writer got a beginning of such lines, or nothing
pub data BeginsEnds (lib : Library) (o : OwnWorld) (asked : Sought) (limit : ℕ) (old : Option (List ℕ)) : Option (List ℕ) → Type 0 where
  no_end : BeginsEnds lib o asked limit old old
  some_ends : (v : Verdict) (lines : List ℕ) (new : Option (List ℕ)) → IsSearchText lib o asked limit v lines → AppendsBeginning old new lines
      → BeginsEnds lib o asked limit old new

-- ---- what the parts of the engine do

-- the lines of the end were added, with a schedule of its turns
pub record PushesEnd (limit : ℕ) (e : Told) (old new : List ℕ) : Type 0 where
  pub schedule : List (ℕ × ℕ)
  pub turns : turns_of schedule ≡ e.turns.items
  pub is : new ≡ old ++ end_text limit (record { states = e.states.items; schedule = schedule })

-- a schedule of the turns was added, and the last line behind it
pub record PushesTurns (limit : ℕ) (turns line old new : List ℕ) : Type 0 where
  pub schedule : List (ℕ × ℕ)
  pub are : turns_of schedule ≡ turns
  pub is : new ≡ old ++ (schedule_text limit schedule ++ line)

-- the writer got such a last line
pub record WritesLast (endless : Bool) (word : List ℕ) (worlds ends : ℕ) (old new : Option (List ℕ)) : Type 0 where
  pub turns : ℕ
  pub written : Appends old new (endless_line endless ++ last_line word worlds turns ends)

-- the writer got a beginning of such a line, or nothing
pub record BeginsLast (endless : Bool) (word : List ℕ) (worlds ends : ℕ) (old new : Option (List ℕ)) : Type 0 where
  pub turns : ℕ
  pub begun : AppendsBeginning old new (endless_line endless ++ last_line word worlds turns ends)

-- the writer got the lines of the end, or also that a pattern names what one is in there, or only that memory was refused
pub data WritesEnd (bad : List Bad) (limit : ℕ) (e : Told) (worlds ends : ℕ) (old new : Option (List ℕ)) : Option Verdict → Type 0 where
  good_end : (text : List ℕ) → PushesEnd limit e [] text → IsGoodEnd bad e.states.items → Appends old new text → WritesEnd bad limit e worlds ends old new None
  named_end : (text : List ℕ) → PushesEnd limit e [] text → (b : Bad) → NamesEnd bad e.states.items b → Appends old new (text ++ bad_line b)
      → WritesEnd bad limit e worlds ends old new (Some verdict.Bad)
  no_end_written : WritesLast false (codes "memory") worlds ends old new → WritesEnd bad limit e worlds ends old new (Some verdict.Memory)

-- the writer got a beginning of such lines, or nothing
pub data BeginsEnd (bad : List Bad) (limit : ℕ) (e : Told) (worlds ends : ℕ) (old new : Option (List ℕ)) : Type 0 where
  good_end_begun : (text : List ℕ) → PushesEnd limit e [] text → AppendsBeginning old new text → BeginsEnd bad limit e worlds ends old new
  named_end_begun : (text : List ℕ) → PushesEnd limit e [] text → (b : Bad) → NamesEnd bad e.states.items b
      → AppendsBeginning old new (text ++ bad_line b) → BeginsEnd bad limit e worlds ends old new
  no_end_begun : BeginsLast false (codes "memory") worlds ends old new → BeginsEnd bad limit e worlds ends old new

-- the writer got a schedule of the turns with the last line behind it, or only that memory was refused
pub data WritesTurns (limit : ℕ) (turns line : List ℕ) (worlds ends : ℕ) (old new : Option (List ℕ)) : Verdict → Type 0 where
  all_turns : (text : List ℕ) → PushesTurns limit turns line [] text → Appends old new text → WritesTurns limit turns line worlds ends old new verdict.Bad
  no_turns : WritesLast false (codes "memory") worlds ends old new → WritesTurns limit turns line worlds ends old new verdict.Memory

-- the writer got a beginning of such lines, or nothing
pub data BeginsTurns (limit : ℕ) (turns line : List ℕ) (worlds ends : ℕ) (old new : Option (List ℕ)) : Type 0 where
  turns_begun : (text : List ℕ) → PushesTurns limit turns line [] text → AppendsBeginning old new text → BeginsTurns limit turns line worlds ends old new
  no_turns_begun : BeginsLast false (codes "memory") worlds ends old new → BeginsTurns limit turns line worlds ends old new
