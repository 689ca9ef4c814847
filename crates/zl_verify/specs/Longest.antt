-- Longest ways within a block: of how many steps they are at most, and of how many to its endrep. A way may go through whole blocks.
-- No public clause cites this module.
use Rattle.std.specs.Prelude.{ℕ, zero, suc, ◌≡◌, ◌+◌, ◌-◌, ◌*◌, ◌<◌, ◌≤◌, min, max, Bool, true, false, List, [], ◌∷◌, length}
use Rattle.std.specs.Prelude.{Option, Some, None, slice_get, IfSome}
use Rattle.std.specs.Option.{option_map}
use Rattle.std.specs.List.{sum_by}
use Rattle.zl_code.specs.declared.blocks.Mark.{Mark}
use Rattle.zl_code.specs.declared.blocks.Mark.TheVariants as mark
use Rattle.zl_code.specs.Blocks.{blocks_at, AreCounters, end_of}
use Rattle.zl_verify.specs.declared.steps.Longest.{Longest}
use Rattle.zl_verify.specs.declared.steps.Targets.{Targets}
use Rattle.zl_verify.specs.Lists.{at}
use Rattle.zl_verify.specs.Nested.{spots_from}
use Rattle.zl_verify.specs.Steps.{Spot, Follow}

-- of what leads nowhere
abbrev pub leaf : Longest
leaf = record { within = 0; to_end = None }

-- of an endrep
abbrev pub at_end : Longest
at_end = record { within = 0; to_end = Some 0 }

abbrev pub or_leaf : Option (Option Longest) → Option Longest
or_leaf None = Some leaf
or_leaf (Some o) = o

-- the pair that the place was given so far; outside of the code nothing leads anywhere
abbrev pub pair_at : List (Option Longest) → ℕ → Option Longest
pair_at pairs n = or_leaf (slice_get pairs n)

-- ---- the pair of a place, by those of the places to which it leads

-- no number above most
abbrev pub cut : ℕ → Longest → Longest
cut most w = record { within = min w.within most; to_end = option_map (λ t. min t most) w.to_end }

-- one step more
abbrev pub further : Longest → Longest
further w = record { within = w.within + 1; to_end = option_map (λ t. t + 1) w.to_end }

abbrev pub larger : Option ℕ → Option ℕ → Option ℕ
larger None y = y
larger (Some x) None = Some x
larger (Some x) (Some y) = Some (max x y)

-- the longer of two ways
abbrev pub best : Longest → Longest → Longest
best v w = record { within = max v.within w.within; to_end = larger v.to_end w.to_end }

abbrev pub way_by : ℕ → Option Longest → Option Longest
way_by most None = None
way_by most (Some w) = Some (cut most (further w))

-- along an edge, if there is one
abbrev pub way_to : ℕ → (ℕ → Option Longest) → Option ℕ → Option Longest
way_to most pairs None = Some leaf
way_to most pairs (Some m) = way_by most (pairs m)

abbrev pub best_of : Option Longest → Option Longest → Option Longest
best_of (Some v) (Some w) = Some (best v w)
best_of _ _ = None

-- of an instruction that is no end of a block
abbrev pub plain : ℕ → (ℕ → Option Longest) → Targets → Option Longest
plain most pairs x = best_of (way_to most pairs x.jump) (way_to most pairs x.next)

-- through a block that is gone round imm times, with so many steps within it and t to its endrep, and on as a says
abbrev pub turned : ℕ → ℕ → ℕ → Longest → Longest
turned imm w t a = record {
  within = max ((imm - 1) * (t + 1) + w) (imm * (t + 1) + a.within) + 1;
  to_end = option_map (λ x. imm * (t + 1) + x + 1) a.to_end;
}

abbrev pub through_by : ℕ → ℕ → ℕ → Option ℕ → Option Longest → Option Longest
through_by most imm w None after = Some (record { within = min (w + 1) most; to_end = None })
through_by most imm w (Some t) None = None
through_by most imm w (Some t) (Some a) = Some (cut most (turned imm w t a))

-- of a rep, by the pairs of the place behind it and of the place behind its endrep
abbrev pub through : ℕ → ℕ → Option Longest → Option Longest → Option Longest
through most imm None after = None
through most imm (Some f) after = through_by most imm f.within f.to_end after

abbrev pub leaf_or : Option ℕ → Option Longest → Option Longest
leaf_or None o = Some leaf
leaf_or (Some m) o = o

-- of an instruction with this mark and these targets, if those are known on which it rests
abbrev pub longest_by : ℕ → Option Mark → Targets → (ℕ → Option Longest) → ℕ → Option Longest
longest_by most (Some (mark.Rep imm e)) x pairs n = leaf_or x.next (through most imm (pairs (n + 1)) (pairs (e + 1)))
longest_by most (Some (mark.EndRep r)) x pairs n = leaf_or x.next (Some at_end)
longest_by most _ x pairs n = plain most pairs x

abbrev pub longest_from : ℕ → Option Mark → Option Targets → (ℕ → Option Longest) → ℕ → Option Longest
longest_from most k None pairs n = None
longest_from most k (Some x) pairs n = longest_by most k x pairs n

-- of the n-th instruction
abbrev pub longest_of : List Mark → List Targets → ℕ → (ℕ → Option Longest) → ℕ → Option Longest
longest_of marks targets most pairs n = longest_from most (slice_get marks n) (slice_get targets n) pairs n

-- ---- what holds of the pairs given so far

-- where an endrep leads, with these counters of the blocks that it is in
abbrev pub past : List Mark → List ℕ → List ℕ → Spot
past marks (r ∷ rs) (suc zero ∷ cs) = (end_of marks r + 1, cs)
past marks (r ∷ rs) (suc (suc c) ∷ cs) = (r + 1, suc c ∷ cs)
past marks _ cs = (0, [])

abbrev pub reach_by : ℕ → Option ℕ → ℕ → ℕ
reach_by w None x = w
reach_by w (Some t) x = max w (t + 1 + x)

-- the steps that can be made, where so many can be made from where the endrep leads
abbrev pub reach : Longest → Option ℕ → ℕ
reach w None = w.within
reach w (Some x) = reach_by w.within w.to_end x

-- so many steps can be made from where the endrep leads; nothing is said of none
abbrev pub FollowBehind : List Mark → List Targets → List ℕ → List ℕ → Option ℕ → Type 0
FollowBehind marks targets rs cs None = Unit {0}
FollowBehind marks targets rs cs (Some k) = Follow (spots_from marks targets) k (past marks rs cs)

-- no way to the endrep is longer than the longest
abbrev pub IsShort : ℕ → Option ℕ → Type 0
IsShort w o = IfSome o (λ t. t ≤ w)

-- the steps of which the pair tells can be made from the place, with any counters
pub record IsReal (marks : List Mark) (targets : List Targets) (n : ℕ) (w : Longest) : Type 0 where
  pub goes : (cs : List ℕ) → AreCounters marks (blocks_at marks n) cs
      → (o : Option ℕ) → FollowBehind marks targets (blocks_at marks n) cs o → Follow (spots_from marks targets) (reach w o) (n, cs)
  pub short : IsShort w.within w.to_end

-- the pair, if it is there, is the other
abbrev pub IsKept : Option Longest → Option Longest → Type 0
IsKept None o = Unit {0}
IsKept (Some w) o = o ≡ Some w

-- the pair is that of the n-th instruction by some of these
pub record IsPairOf (marks : List Mark) (targets : List Targets) (most : ℕ) (pairs : ℕ → Option Longest) (n : ℕ) (w : Longest) : Type 0 where
  pub before : ℕ → Option Longest
  pub kept : (m : ℕ) → IsKept (before m) (pairs m)
  pub same : longest_of marks targets most before n ≡ Some w

-- each pair is what others say of its place, and real
pub record Given (marks : List Mark) (targets : List Targets) (most : ℕ) (pairs : List (Option Longest)) : Type 0 where
  pub same : (n : ℕ) → n < length pairs → IfSome (pair_at pairs n) (IsPairOf marks targets most (pair_at pairs) n)
  pub real : (n : ℕ) → IfSome (pair_at pairs n) (IsReal marks targets n)

-- if the place has no pair, it can be given none
abbrev pub IsStuckAt : List Mark → List Targets → ℕ → List (Option Longest) → ℕ → Type 0
IsStuckAt marks targets most pairs n = at pairs n ≡ None → longest_of marks targets most (pair_at pairs) n ≡ None

-- so it is from this place on
abbrev pub IsStuckFrom : List Mark → List Targets → ℕ → List (Option Longest) → ℕ → Type 0
IsStuckFrom marks targets most pairs p = (n : ℕ) → p ≤ n → n < length pairs → IsStuckAt marks targets most pairs n

abbrev pub one_if_none : Option Longest → ℕ
one_if_none None = 1
one_if_none (Some w) = 0

-- how many have no pair
unfoldable pub missing : List (Option Longest) → ℕ
missing pairs = sum_by one_if_none pairs

abbrev pub one_if : Bool → ℕ
one_if true = 1
one_if false = 0

-- all have the pairs that they can be given: from one without any number of steps can be made one after another
pub record AreLongest (marks : List Mark) (targets : List Targets) (most : ℕ) (pairs : List (Option Longest)) : Type 0 where
  pub long : length pairs ≡ length marks
  pub given : Given marks targets most pairs
  pub endless : (n : ℕ) → pair_at pairs n ≡ None
      → (k : ℕ) (cs : List ℕ) → AreCounters marks (blocks_at marks n) cs → Follow (spots_from marks targets) k (n, cs)
