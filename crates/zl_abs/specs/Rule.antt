-- What the rule of an instruction gives: where it leads and with what in the registers, or a cause.
use Rattle.std.specs.Prelude.{ℕ, ◌+◌, nat_lt, List, [], ◌∷◌, ◌++◌, Option, Some, None, Result, Ok, Err, if◌then◌else◌}
use Rattle.zl_abs.specs.declared.value.AbsVal.{AbsVal}
use Rattle.zl_abs.specs.declared.cause.Cause.{Cause}
use Rattle.zl_abs.specs.declared.cause.Cause.TheVariants as cause
use Rattle.zl_abs.specs.Ways.{Ways}
use Rattle.zl_abs.specs.Values.{is_has}
use Rattle.zl_abs.specs.States.{State, value_at, bound_at, with_value}

-- the second where the first holds, else the cause of the first
abbrev pub and_then : {A B : Type 0} → Result A Cause → (A → Result B Cause) → Result B Cause
and_then (Err c) f = Err c
and_then (Ok x) f = f x

-- the next instruction stands there with this state
abbrev pub passes : State → Ways
passes s = record { jumped = None; passed = Some s }

-- the register is written, which must not have a handle
abbrev pub writes : State → ℕ → AbsVal → Result Ways Cause
writes s r v = if is_has (value_at s r) then Err cause.Leak else Ok (passes (with_value s r v))

-- what a word operand may be at most
abbrev pub word_or : Option ℕ → Result ℕ Cause
word_or None = Err cause.NotWord
word_or (Some m) = Ok m

abbrev pub word_at : State → ℕ → Result ℕ Cause
word_at s r = word_or (bound_at s r)

-- ---- edges

-- where to go on, and with what in the registers
abbrev pub Edge : Type 0
Edge = ℕ × State

-- the edge, if it is followed, leads into code of this length, else there is this cause
abbrev pub edge_to : ℕ → Cause → ℕ → Option State → Result (List Edge) Cause
edge_to size c target None = Ok []
edge_to size c target (Some s) = if nat_lt target size then Ok ((target, s) ∷ []) else Err c

-- the edges that are followed from an instruction at this place of the code, which may jump to this target
abbrev pub edges : ℕ → ℕ → ℕ → Ways → Result (List Edge) Cause
edges size place target w =
    and_then (edge_to size cause.BadJump target w.jumped) (λ xs.
    and_then (edge_to size cause.FallsOff (place + 1) w.passed) (λ ys. Ok (xs ++ ys)))
