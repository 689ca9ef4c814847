use Rattle.zl_rights.proofs.Common.{◌≡◌, ◌<◌, ◌≤◌, ◌==◌, ◌^◌, ℕ, slice_index, true, false}
use Rattle.zl_rights.specs.Numbers.{meets}
use Rattle.zl_signals.specs.Numbered.{NO_WAIT}
use Rattle.zl_signals.proofs.firsts.least.Given as goal

abbrev pub invariant-loop-left : goal.invariant-loop-left
invariant-loop-left l =
    ((i : ℕ) → i < 32 → meets l.active (2 ^ i) ≡ true → meets l.left (2 ^ i) ≡ false → l.least ≤ slice_index l.firsts i)
    × ((l.least == NO_WAIT) ≡ false → (i : ℕ) × (i < 32) × (meets l.active (2 ^ i) ≡ true) × (slice_index l.firsts i ≡ l.least))
    × ((i : ℕ) → i < 32 → meets l.left (2 ^ i) ≡ true → meets l.active (2 ^ i) ≡ true)

abbrev pub decreases-loop-left : goal.decreases-loop-left
decreases-loop-left l = l.left
