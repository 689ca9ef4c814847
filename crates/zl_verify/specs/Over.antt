-- When an instruction is over, by counting the instructions that follow one another from it.
use Rattle.std.specs.Prelude.{ℕ, ◌≡◌, ◌<◌, false, List, [], ◌∷◌, length, Option, Some}
use Rattle.zl_code.specs.Image.{Image, call_at}
use Rattle.zl_abs.specs.States.{State}
use Rattle.zl_abs.specs.Typing.{rule}
use Rattle.zl_verify.specs.Steps.{is_pause, targets_of, spots_to, AreCountersAt, OneOf, Spot}

-- the n-th instruction is mapped, and neither a wait nor the exit
pub record Counts (i : Image) (t : ℕ → Option State) (n : ℕ) : Type 0 where
  pub state : State
  pub mapped : t n ≡ Some state
  pub goes_on : is_pause (call_at i n) ≡ false

-- a followed edge leads from the one spot, at the state of its instruction, to the other
pub record IsFollowedBy (i : Image) (t : ℕ → Option State) (p q : Spot) : Type 0 where
  pub state : State
  pub mapped : t p.0 ≡ Some state
  pub edge : OneOf (λ x. x ≡ q) (spots_to i p (targets_of (rule i p.0 state)))

-- the instruction of the spot counts, and those of these behind it, each at the end of a followed edge of the one before
abbrev pub AllCount : Image → (ℕ → Option State) → Spot → List Spot → Type 0
AllCount i t p [] = Counts i t p.0
AllCount i t p (q ∷ qs) = Counts i t p.0 × IsFollowedBy i t p q × AllCount i t q qs

-- more than budget instructions follow one another from the n-th on, itself the first of them, with some counters
pub record IsOverByCount (i : Image) (t : ℕ → Option State) (n : ℕ) : Type 0 where
  pub counters : List ℕ
  pub are : AreCountersAt i n counters
  pub behind : List Spot
  pub more : i.budget < length ((n, counters) ∷ behind)
  pub count : AllCount i t (n, counters) behind
