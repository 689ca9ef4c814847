-- What holds at each turn of the search for a typing, and what is left of it. No public clause cites this module.
use Rattle.std.specs.Prelude.{ℕ, ◌≡◌, ◌+◌, ◌-◌, ◌*◌, ◌<◌, true, false, length, Option, Some, None, slice_get, IsTrue}
use Rattle.std.specs.List.{sum_by}
use Rattle.zl_code.specs.Image.{Image}
use Rattle.zl_code.specs.Spells.{is_in_range}
use Rattle.zl_abs.specs.States.{State, start_state}
use Rattle.zl_abs.specs.Fine.{IsFine}
use Rattle.zl_abs.specs.Typing.{Holds, IsAbove, IsTyping}
use Rattle.zl_abs.proofs.Room.{room, TOP}
use Rattle.zl_verify.specs.Lists.{at}
use Rattle.zl_verify.specs.Conforms.{one_if}
use Rattle.zl_verify.specs.Search.{Table}
use Rattle.zl_verify.specs.Stretches.{AreStretches, Stretches, start_of, stretch}

-- ---- what holds at each turn

-- none below the place to go on from waits
abbrev pub Quiet : Table → Type 0
Quiet t = (n : ℕ) → n < t.from → slice_get t.waiting n ≡ Some true → ⊥

-- every state of the table is below each typing's
abbrev pub Lower : (ℕ → Option State) → Table → Type 0
Lower y t = (n : ℕ) (s : State) → at t.states n ≡ Some s → IsAbove (y n) s

-- a typing's states where stretches begin
abbrev pub at_starts : Image → Stretches → (ℕ → Option State) → ℕ → Option State
at_starts i bs y b = y (start_of i bs b)

pub record Searching (i : Image) (bs : Stretches) (t : Table) : Type 0 where
  pub same : length t.states ≡ length t.waiting
  pub begins : IsAbove (at t.states 0) (start_state i)
  pub settled : (n : ℕ) (s : State) → at t.states n ≡ Some s → slice_get t.waiting n ≡ Some false → Holds (at t.states) (stretch i bs n s)
  pub lower : (y : ℕ → Option State) → IsTyping i y → Lower (at_starts i bs y) t
  pub quiet : Quiet t

pub record AreFine (t : Table) : Type 0 where
  pub each : (n : ℕ) (s : State) → at t.states n ≡ Some s → IsFine s
  pub same : length t.states ≡ length t.waiting

pub record Goes (i : Image) (bs : Stretches) (t : Table) : Type 0 where
  pub stretches : AreStretches i bs
  pub searching : Searching i bs t
  pub fine : AreFine t
  pub long : length t.states ≡ length bs.starts
  pub range : IsTrue (is_in_range i)

-- ---- what is left

abbrev pub room_in : Option State → ℕ
room_in None = TOP
room_in (Some s) = room s

-- it falls whenever an instruction is looked at
unfoldable pub energy : Table → ℕ
energy t = 2 * sum_by room_in t.states + sum_by one_if t.waiting

-- it falls at each turn of the loop
unfoldable pub remaining : Table → ℕ
remaining t = energy t * (length t.states + 1) + (length t.states - t.from)
