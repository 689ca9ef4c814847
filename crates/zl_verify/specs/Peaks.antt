-- The number of a place with its counters, by longest ways within blocks, and the largest number of a place.
use Rattle.std.specs.Prelude.{ℕ, suc, ◌≡◌, ◌==◌, ◌+◌, ◌-◌, ◌*◌, ◌<◌, ◌≤◌, min, max, if◌then◌else◌, List, [], ◌∷◌, length, map, nat_le, Option, Some, None, slice_get, get_or}
use Rattle.std.specs.List.{position}
use Rattle.zl_code.specs.declared.blocks.Mark.{Mark}
use Rattle.zl_code.specs.declared.blocks.Mark.TheVariants as mark
use Rattle.zl_code.specs.Blocks.{marks_of, blocks_at, AreCounters, head_of, end_of}
use Rattle.zl_code.specs.Image.{Image}
use Rattle.zl_verify.specs.declared.peaks.Unbounded.{Unbounded}
use Rattle.zl_verify.specs.declared.peaks.Unbounded.TheVariants as unbounded
use Rattle.zl_verify.specs.declared.steps.Longest.{Longest}
use Rattle.zl_verify.specs.declared.steps.Targets.{Targets}
use Rattle.zl_verify.specs.Lists.{at}
use Rattle.zl_verify.specs.Longest.{pair_at, reach}
use Rattle.zl_verify.specs.Nested.{spots_from}
use Rattle.zl_verify.specs.Steps.{Follow, AllBelow}

-- ---- the number of a place with counters

abbrev pub turns_by : ℕ → Option ℕ → ℕ → ℕ → ℕ
turns_by w None c y = w
turns_by w (Some t) c y = (c - 1) * (t + 1) + max w (t + 1 + y)

-- the steps behind an endrep that was come to with so many turns left, with y behind the block
abbrev pub turns_left : Longest → ℕ → ℕ → ℕ
turns_left f c y = if c == 0 then y else turns_by f.within f.to_end c y

abbrev pub in_block : (ℕ → Longest) → Option ℕ → ℕ → ℕ → ℕ → ℕ
in_block pairs None n c y = (pairs n).within
in_block pairs (Some r) n c y = reach (pairs n) (Some (turns_left (pairs (r + 1)) (c - 1) y))

abbrev pub end_by : List Mark → Option ℕ → ℕ
end_by marks None = 0
end_by marks (Some r) = end_of marks r

-- how many steps can be made from the place with these counters
unfoldable pub number : List Mark → (ℕ → Longest) → List ℕ → ℕ → ℕ
number marks pairs [] n = (pairs n).within
number marks pairs (c ∷ cs) n =
    in_block pairs (head_of (blocks_at marks n)) n c (number marks pairs cs (end_by marks (head_of (blocks_at marks n)) + 1))

abbrev pub or_most : ℕ → Option Longest → Longest
or_most most None = record { within = most; to_end = None }
or_most most (Some w) = w

-- the pair of each place; without one as many steps as are too many
abbrev pub pair_in : ℕ → List (Option Longest) → ℕ → Longest
pair_in most pairs n = or_most most (pair_at pairs n)

-- the most steps from each place within its block, or as many as are too many
abbrev pub lengths : ℕ → List (Option Longest) → List ℕ
lengths most pairs = map (λ pair. (or_most most pair).within) pairs

-- the numbers for which these pairs stand, each of an instruction with counters
abbrev pub numbers_by : Image → List (Option Longest) → ℕ → List ℕ → ℕ
numbers_by i pairs n cs = number (marks_of i.code) (pair_in (i.budget + 1) pairs) cs n

-- ---- the largest number of a place

-- in a block that is gone round imm times, with so many steps behind it: at one of both ends of its counter
abbrev pub peak_by : Longest → Longest → Option ℕ → ℕ → ℕ → ℕ
peak_by w f None imm y = w.within
peak_by w f (Some t) imm y = max w.within (t + 1 + max y (turns_left f (imm - 1) y))

abbrev pub peak_in : (ℕ → Longest) → List ℕ → ℕ → ℕ → ℕ → Option Mark → ℕ
peak_in pairs peaks most n r (Some (mark.Rep imm e)) = min (peak_by (pairs n) (pairs (r + 1)) (pairs n).to_end imm (get_or peaks (e + 1) 0)) most
peak_in pairs peaks most n r _ = (pairs n).within

-- of the n-th place, whose innermost block this is, by those of the places behind it
abbrev pub peak_home : List Mark → (ℕ → Longest) → List ℕ → ℕ → ℕ → Option ℕ → ℕ
peak_home marks pairs peaks most n None = (pairs n).within
peak_home marks pairs peaks most n (Some r) = peak_in pairs peaks most n r (slice_get marks r)

-- the innermost block of the place behind the n-th
abbrev pub home_behind : Option Mark → ℕ → (ℕ → Option ℕ) → Option ℕ
home_behind (Some (mark.Rep imm e)) n homes = Some n
home_behind (Some (mark.EndRep r)) n homes = homes r
home_behind _ n homes = homes n

-- these are the innermost blocks of the first p places
pub record AreHomes (marks : List Mark) (homes : List (Option ℕ)) (p : ℕ) : Type 0 where
  pub long : length homes ≡ length marks
  pub home : (n : ℕ) → n < p → at homes n ≡ head_of (blocks_at marks n)

-- so many steps can be made one after another from the n-th place, with some counters
pub record Reaches (marks : List Mark) (targets : List Targets) (k n : ℕ) : Type 0 where
  pub counters : List ℕ
  pub are : AreCounters marks (blocks_at marks n) counters
  pub follow : Follow (spots_from marks targets) k (n, counters)

-- the largest number of the n-th place, or most if that is less
pub record IsPeak (marks : List Mark) (targets : List Targets) (most : ℕ) (pairs : List (Option Longest)) (n k : ℕ) : Type 0 where
  pub upper : (cs : List ℕ) → AreCounters marks (blocks_at marks n) cs → min (number marks (pair_in most pairs) cs n) most ≤ k
  pub real : Reaches marks targets k n

-- from place p on, these are the largest numbers
pub record ArePeaks (marks : List Mark) (targets : List Targets) (most : ℕ) (pairs : List (Option Longest)) (peaks : List ℕ) (p : ℕ) : Type 0 where
  pub long : length peaks ≡ length marks
  pub peak : (n : ℕ) → p ≤ n → IsPeak marks targets most pairs n (get_or peaks n 0)

-- the first place whose largest number is so large, if there is one
pub record IsFirstOver (marks : List Mark) (targets : List Targets) (most : ℕ) (pairs : List (Option Longest)) (found : Option ℕ) : Type 0 where
  pub peaks : List ℕ
  pub are : ArePeaks marks targets most pairs peaks 0
  pub first : found ≡ position (nat_le most) peaks

-- ---- the bound

-- numbers within the budget, each above those of the spots to which these edges lead
pub record IsBoundOf (marks : List Mark) (targets : List Targets) (budget : ℕ) (steps : ℕ → List ℕ → ℕ) : Type 0 where
  pub within : (n : ℕ) (cs : List ℕ) → n < length marks → AreCounters marks (blocks_at marks n) cs → steps n cs ≤ budget
  pub falls : (n : ℕ) (cs : List ℕ) → AreCounters marks (blocks_at marks n) cs → AllBelow steps (steps n cs) (spots_from marks targets (n, cs))

-- of the places from which more than budget steps can be made this is the first
abbrev pub IsUnbounded : List Mark → List Targets → ℕ → Unbounded → Type 0
IsUnbounded marks targets budget unbounded.NoMemory = Unit {0}
IsUnbounded marks targets budget (unbounded.Over n) =
    Reaches marks targets (suc budget) n × ((m : ℕ) → m < n → Reaches marks targets (suc budget) m → ⊥)
