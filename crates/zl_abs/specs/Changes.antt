-- The states at the ends of edges, by what is different there.
use Rattle.std.specs.Prelude.{Bool, true, false, List, [], ◌∷◌, ◌++◌, Option, Some, None, Result, Ok, Err}
use Rattle.std.specs.Option.{option_map}
use Rattle.zl_abs.specs.declared.cause.Cause.{Cause}
use Rattle.zl_abs.specs.declared.change.Change.{Change}
use Rattle.zl_abs.specs.declared.change.Change.TheVariants.{Same, Written, Refined, RefinedBoth, Moved}
use Rattle.zl_abs.specs.declared.ways.Changes.{Changes}
use Rattle.zl_abs.specs.declared.steps.Step.{Step}
use Rattle.zl_abs.specs.declared.steps.Steps.{Steps}
use Rattle.zl_abs.specs.States.{State, with_value, refined}
use Rattle.zl_abs.specs.Ways.{Ways}
use Rattle.zl_abs.specs.Rule.{Edge}
use Rattle.zl_abs.specs.LocalRules.{moved}

-- the state with the change
abbrev pub changed : State → Change → State
changed s Same = s
changed s (Written r v) = with_value s r v
changed s (Refined r v) = refined s r v
changed s (RefinedBoth r v q w) = refined (refined s r v) q w
changed s (Moved a b v) = moved s a b v

-- the state at the end of an edge, if it is followed
abbrev pub changed_if : State → Option Change → Option State
changed_if s o = option_map (λ c. changed s c) o

-- a test teaches nothing, or more of one register
abbrev pub is_learned : Option Change → Bool
is_learned None = true
is_learned (Some Same) = true
is_learned (Some (Refined r v)) = true
is_learned _ = false

-- the states at the ends of the edges
abbrev pub ways_by : State → Changes → Ways
ways_by s c = record { jumped = changed_if s c.jumped; passed = changed_if s c.passed }

abbrev pub ways_told : State → Result Changes Cause → Result Ways Cause
ways_told s (Ok c) = Ok (ways_by s c)
ways_told s (Err c) = Err c

-- the state that was left, if nothing is at fault
abbrev pub left_by : State → Option Cause → Result State Cause
left_by s None = Ok s
left_by s (Some c) = Err c

-- the edge, if it is followed
abbrev pub step_in : State → Option Step → List Edge
step_in s None = []
step_in s (Some e) = (e.target, changed s e.change) ∷ []

abbrev pub step_told : State → Result (Option Step) Cause → Result (List Edge) Cause
step_told s (Ok e) = Ok (step_in s e)
step_told s (Err c) = Err c

-- the edges that are followed, the jump first, or the cause
abbrev pub steps_told : State → Result Steps Cause → Result (List Edge) Cause
steps_told s (Ok e) = Ok (step_in s e.jump ++ step_in s e.next)
steps_told s (Err c) = Err c
