use Rattle.zl_verify.proofs.Common.{[], length, slice_index, slice_index_or, ℕ, ◌-◌, ◌<◌, ◌≡◌, ◌≤◌}
use Rattle.zl_code.specs.Limits.{register_count}
use Rattle.zl_verify.specs.Handing.{AreNext, IsNext}
use Rattle.zl_verify.proofs.names.rows_of.Given as goal

abbrev pub invariant-loop-back : goal.invariant-loop-back
invariant-loop-back l =
    (l.size ≡ length l.image.code) × (0 < l.back) × (l.back ≤ l.size) × (length l.rows.items ≡ l.back) × (length l.last ≡ register_count)
    × AreNext l.image (l.size - l.back) l.last
    × ((k r : ℕ) → k < l.back → r < register_count → IsNext l.image r (length l.image.code - 1 - k) (slice_index (slice_index_or l.rows.items k []) r))
