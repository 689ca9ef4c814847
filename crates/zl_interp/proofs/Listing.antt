-- The registers of a list, place by place.
use Rattle.zl_interp.proofs.Common.{List, Some, add-one, ap, arith, common_steps, drop, length, map}
use Rattle.zl_interp.proofs.Common.{slice_get, slice_index, slice_set, take, used, ℕ, ◌++◌, ◌+◌, ◌<◌, ◌∙◌, ◌∷◌, ◌≡◌}
use Rattle.zl_code.specs.Spells.{register_in}
use Rattle.zl_verify.proofs.Places.{used_here}

used_more : (places : List ℕ) (i r : ℕ) → Some r ≡ register_in (slice_get places i) → used (drop i places) ≡ r ∷ used (drop (i + 1) places)
used_more places i r h = rw add-one (used_here places i r h)

put_one : (xs : List ℕ) (k x : ℕ) (rest : List ℕ) → k < length xs → take k xs ++ x ∷ rest ≡ take (k + 1) (slice_set xs k x) ++ rest
put_one xs k x rest h = grind (arith, common_steps)

-- one value more is read
pub read_step : (registers values places : List ℕ) (count i r : ℕ) → Some r ≡ register_in (slice_get places i) → count < length values
    → take count values ++ map (slice_index registers) (used (drop i places))
    ≡ take (count + 1) (slice_set values count (slice_index registers r)) ++ map (slice_index registers) (used (drop (i + 1) places))
read_step registers values places count i r h within =
    ap (λ (rs : List ℕ). take count values ++ map (slice_index registers) rs) (used_more places i r h)
    ∙ put_one values count (slice_index registers r) (map (slice_index registers) (used (drop (i + 1) places))) within
