-- A history that follows a schedule, turn by turn, and how it ends.
use Rattle.std.specs.Prelude.{ℕ, ◌≡◌, ◌<◌, true, false, List, [], ◌∷◌, ◌++◌, length, replicate, IsTrue}
use Rattle.std.specs.List.{flat_map}
use Rattle.zl_code.specs.Common.{World, is_process, is_ready, Library, Step}
use Rattle.zl_code.specs.declared.history.TraceItem.{TraceItem}
use Rattle.zl_sched.specs.declared.system.End.{End}
use Rattle.zl_sched.specs.declared.system.End.TheVariants as end

-- each pair of a process and a number is so many turns of the process
abbrev pub turns_of : List (ℕ × ℕ) → List ℕ
turns_of schedule = flat_map (λ pair. replicate pair.1 pair.0) schedule

-- the turns, taken one after another in w, give the items and lead to the last world
pub data Follows (lib : Library) : World → List ℕ → List TraceItem → World → Type 0 where
  -- no turn is left
  halts : (w : World) → Follows lib w [] [] w
  -- a turn of a process that isn't ready gives nothing
  skips : (w w2 : World) (p : ℕ) (turns : List ℕ) (items : List TraceItem)
      → is_process w is_ready p ≡ false → Follows lib w turns items w2 → Follows lib w (p ∷ turns) items w2
  -- a turn of a ready process is its one step
  goes : (w mid w2 : World) (p : ℕ) (x : TraceItem) (turns : List ℕ) (items : List TraceItem)
      → is_process w is_ready p ≡ true → Step lib w p x mid → Follows lib mid turns items w2 → Follows lib w (p ∷ turns) (x ∷ items) w2

-- the items follow the turns up to a turn of a process that is ready in the last world
pub record StopsBefore (lib : Library) (w : World) (turns : List ℕ) (items : List TraceItem) (w2 : World) : Type 0 where
  pub taken : List ℕ
  pub next : ℕ
  pub left : List ℕ
  pub are_all : turns ≡ taken ++ (next ∷ left)
  pub follows : Follows lib w taken items w2
  pub is_ready : IsTrue (is_process w2 is_ready next)

-- Each end where it belongs: every turn was taken; or a turn of a ready process was next, with just as
-- many items as the limit; or with fewer, which is told as a want of memory. No schedule ends by quiet.
abbrev pub EndsBy : Library → World → List ℕ → ℕ → List TraceItem → World → End → Type 0
EndsBy lib w turns limit items w2 end.Schedule = Follows lib w turns items w2
EndsBy lib w turns limit items w2 end.Limit = StopsBefore lib w turns items w2 × (length items ≡ limit)
EndsBy lib w turns limit items w2 end.Memory = StopsBefore lib w turns items w2 × (length items < limit)
EndsBy lib w turns limit items w2 end.Quiet = ⊥
