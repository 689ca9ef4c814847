use Rattle.zl_verify.proofs.Common.{length, slice_index, ℕ, ◌<◌, ◌≡◌}
use Rattle.zl_code.specs.Limits.{register_count}
use Rattle.zl_verify.specs.Handing.{IsNext}
use Rattle.zl_verify.proofs.names.row.Given as goal

abbrev pub invariant-loop-number : goal.invariant-loop-number
invariant-loop-number l = ((r : ℕ) → r < l.number → IsNext l.image r l.place (slice_index l.row r)) × (length l.row ≡ register_count)
