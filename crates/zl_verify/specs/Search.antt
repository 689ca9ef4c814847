-- The table of the search for a typing, which has places for stretches of code. No public clause cites this module.
use Rattle.std.specs.Prelude.{ℕ, Bool, true, false, List, [], ◌∷◌, Option, Some, None, Result, Ok, Err, slice_get, slice_set, replicate, min, if◌then◌else◌}
use Rattle.std.specs.Option.{option_map, option_and_then}
use Rattle.zl_abs.specs.declared.cause.Cause.{Cause}
use Rattle.zl_abs.specs.States.{State, all_below, all_joined}
use Rattle.zl_abs.specs.Rule.{Edge}

-- the states found so far, which of them rose since their stretch was looked at, and a stretch below
-- which none did
pub record Table : Type 0 where
  pub states : List (Option State)
  pub waiting : List Bool
  pub from : ℕ

-- a stretch gets a state, and waits to be looked at
abbrev pub put : Table → ℕ → State → Table
put t n s = record { states = slice_set t.states n (Some s); waiting = slice_set t.waiting n true; from = min t.from n }

-- a state comes to a stretch; nothing where that isn't there, or no state is above both
abbrev pub raised_over : Table → ℕ → State → Option (Option State) → Option Table
raised_over t n s None = None
raised_over t n s (Some None) = Some (put t n s)
raised_over t n s (Some (Some u)) = if all_below s u then Some t else option_map (put t n) (all_joined u s)

abbrev pub raised : Table → ℕ → State → Option Table
raised t n s = raised_over t n s (slice_get t.states n)

-- the states of these edges come to their ends
unfoldable pub raised_all : Table → List Edge → Option Table
raised_all t [] = Some t
raised_all t (e ∷ es) = option_and_then (λ u. raised_all u es) (raised t e.0 e.1)

-- the edges are followed, where the rule holds
abbrev pub turned_over : Table → Result (List Edge) Cause → Option Table
turned_over t (Err c) = None
turned_over t (Ok es) = raised_all t es

-- a stretch doesn't wait any more
abbrev pub cleared : Table → ℕ → Table
cleared t n = record t { waiting = slice_set t.waiting n false }

-- so many stretches, of which the first alone has a state, and waits
abbrev pub started : ℕ → State → Table
started size s = record { states = slice_set (replicate size None) 0 (Some s); waiting = slice_set (replicate size false) 0 true; from = 0 }
