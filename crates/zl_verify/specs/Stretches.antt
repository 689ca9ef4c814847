-- Stretches of code: instructions that follow one another, of which only the first can be come to from elsewhere. No
-- public clause says more of it than that states stand in a list.
use Rattle.std.specs.Prelude.{ℕ, zero, suc, ◌≡◌, ◌+◌, ◌-◌, ◌<◌, Bool, true, false, List, [], ◌∷◌, length, Option, Some, None, Result, Ok, Err, slice_get}
use Rattle.std.specs.Option.{option_map, option_and_then}
use Rattle.zl_code.specs.Image.{Image}
use Rattle.zl_abs.specs.declared.cause.Cause.{Cause}
use Rattle.zl_abs.specs.declared.cause.Cause.TheVariants as cause
use Rattle.zl_abs.specs.States.{State}
use Rattle.zl_abs.specs.Rule.{and_then, Edge}
use Rattle.zl_abs.specs.Targets.{jump_of}
use Rattle.zl_abs.specs.Typing.{rule}
use Rattle.zl_verify.specs.Lists.{at}
use Rattle.zl_verify.specs.Search.{Table, raised, turned_over, cleared}

-- ---- where stretches begin

-- the number of the stretch that begins at each instruction, if one does, and the first instruction of each stretch
pub record Stretches : Type 0 where
  pub numbers : List (Option ℕ)
  pub starts : List ℕ

abbrev pub start_or : ℕ → Option ℕ → ℕ
start_or size None = size
start_or size (Some n) = n

-- the first instruction of the stretch
abbrev pub start_of : Image → Stretches → ℕ → ℕ
start_of i bs b = start_or (length i.code) (slice_get bs.starts b)

-- a stretch begins at the start, and wherever an instruction may jump
pub record AreStretches (i : Image) (bs : Stretches) : Type 0 where
  pub long : length bs.numbers ≡ length i.code
  pub first : at bs.numbers 0 ≡ Some 0
  pub begin : (n b : ℕ) → at bs.numbers n ≡ Some b → slice_get bs.starts b ≡ Some n
  pub jumps : (n : ℕ) → n < length i.code → jump_of i n < length i.code → at bs.numbers (jump_of i n) ≡ None → ⊥

-- ---- what a stretch does

-- what comes of a stretch from a state
abbrev pub Out : Type 0
Out = Result (List Edge) Cause

-- the last edge of an instruction leads to a stretch, or on within this one
abbrev pub leaves_last : (State → Out) → State → Option ℕ → Out
leaves_last go s None = go s
leaves_last go s (Some b) = Ok ((b, s) ∷ [])

abbrev pub leaves_first : State → Out → Option ℕ → Out
leaves_first s rest None = Err cause.BadJump
leaves_first s rest (Some b) = and_then rest (λ es. Ok ((b, s) ∷ es))

-- the edges by the stretches to which they lead
unfoldable pub leaves : List (Option ℕ) → (State → Out) → List Edge → Out
leaves numbers go [] = Ok []
leaves numbers go (e ∷ []) = leaves_last go e.1 (at numbers e.0)
leaves numbers go (e ∷ f ∷ es) = leaves_first e.1 (leaves numbers go (f ∷ es)) (at numbers e.0)

-- the edges out of a stretch, from the n-th instruction on, behind which the code has so many with it
unfoldable pub out : List (Option ℕ) → Image → ℕ → ℕ → State → Out
out numbers i zero n s = Err cause.FallsOff
out numbers i (suc k) n s = and_then (rule i n s) (leaves numbers (λ t. out numbers i k (n + 1) t))

-- the same to the end of the code
abbrev pub out_from : List (Option ℕ) → Image → ℕ → State → Out
out_from numbers i n s = out numbers i (length i.code - n) n s

-- the edges out of the stretch
abbrev pub stretch : Image → Stretches → ℕ → State → Out
stretch i bs b s = out_from bs.numbers i (start_of i bs b) s

-- ---- one instruction of a stretch

-- the table, and the state with which the stretch goes on
abbrev pub Went : Type 0
Went = Option (Table × Option State)

abbrev pub went_last : Table → State → Option ℕ → Went
went_last t s None = Some (t, Some s)
went_last t s (Some b) = option_map (λ u. (u, None)) (raised t b s)

abbrev pub went_first : Table → State → (Table → Went) → Option ℕ → Went
went_first t s rest None = None
went_first t s rest (Some b) = option_and_then rest (raised t b s)

-- the states of the edges come to their stretches, but for one that goes on
unfoldable pub went : List (Option ℕ) → Table → List Edge → Went
went numbers t [] = Some (t, None)
went numbers t (e ∷ []) = went_last t e.1 (at numbers e.0)
went numbers t (e ∷ f ∷ es) = went_first t e.1 (λ u. went numbers u (f ∷ es)) (at numbers e.0)

abbrev pub stepped : List (Option ℕ) → Table → Result (List Edge) Cause → Went
stepped numbers t (Err c) = None
stepped numbers t (Ok es) = went numbers t es

-- the state comes to the stretch
abbrev pub entered : Table → State → Option ℕ → Option Table
entered t s None = None
entered t s (Some b) = raised t b s

-- what a step answers, and leaves
abbrev pub told : {F : Type 0} → Result Bool F → Table → State → Went
told (Ok true) t s = Some (t, Some s)
told (Ok false) t s = Some (t, None)
told (Err f) t s = None

-- ---- one stretch

abbrev pub turned_at : Image → Stretches → Table → ℕ → Option State → Option Table
turned_at i bs t b None = Some t
turned_at i bs t b (Some s) = turned_over t (stretch i bs b s)

-- a stretch is looked at
abbrev pub turned : Image → Stretches → Table → ℕ → Option Table
turned i bs t b = turned_at i bs (cleared t b) b (at t.states b)

-- ---- the states of all instructions

-- the state with which the last of these edges goes on within the stretch, if it does
abbrev pub inner_last : State → Option ℕ → Option State
inner_last s None = Some s
inner_last s (Some b) = None

unfoldable pub inner : List (Option ℕ) → List Edge → Option State
inner numbers [] = None
inner numbers (e ∷ []) = inner_last e.1 (at numbers e.0)
inner numbers (e ∷ f ∷ es) = inner numbers (f ∷ es)

abbrev pub inner_of : List (Option ℕ) → Result (List Edge) Cause → Option State
inner_of numbers (Err c) = None
inner_of numbers (Ok es) = inner numbers es

abbrev pub passed_on : Image → List (Option ℕ) → ℕ → Option State → Option State
passed_on i numbers n None = None
passed_on i numbers n (Some s) = inner_of numbers (rule i n s)

-- the state of a stretch that begins there, or else what the instruction before passes on
abbrev pub known_by : List (Option State) → Option State → Option ℕ → Option State
known_by kept before None = before
known_by kept before (Some b) = at kept b

-- what the instruction before the n-th passes on
unfoldable pub flows : Image → List (Option ℕ) → List (Option State) → ℕ → Option State
flows i numbers kept zero = None
flows i numbers kept (suc n) = passed_on i numbers n (known_by kept (flows i numbers kept n) (at numbers n))

-- the state of the n-th instruction, by those of stretches
abbrev pub known : Image → List (Option ℕ) → List (Option State) → ℕ → Option State
known i numbers kept n = known_by kept (flows i numbers kept n) (at numbers n)

-- what a function gives for the first so many numbers
unfoldable pub listed : {A : Type 0} → ℕ → (ℕ → A) → List A
listed zero f = []
listed (suc k) f = f 0 ∷ listed k (λ n. f (suc n))

-- the states of all instructions, by those of stretches
abbrev pub states_of : Image → List (Option ℕ) → List (Option State) → List (Option State)
states_of i numbers kept = listed (length i.code) (known i numbers kept)
