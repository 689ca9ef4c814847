-- Which values come, worked out.
use Rattle.zl_rights.proofs.Common.{◌≡◌, [], ◌∷◌, refl}
use Rattle.zl_rights.specs.Values.{Free, coming, given_back}

abbrev five : Free
five = record { freed = []; made = 5 }

-- the last one freed comes first, and behind the freed ones a fresh one
pub freed_come_first : coming 4 (given_back 4 (given_back 3 (given_back 5 five))) ≡ 4 ∷ 3 ∷ 5 ∷ 6 ∷ []
unfolding coming
freed_come_first = refl

-- two orders of freeing 2 and 3 are told apart by the second value that comes behind that of 4
pub orders_differ : (coming 3 (given_back 4 (given_back 2 (given_back 3 five))) ≡ 4 ∷ 2 ∷ 3 ∷ [])
    × (coming 3 (given_back 4 (given_back 3 (given_back 2 five))) ≡ 4 ∷ 3 ∷ 2 ∷ [])
unfolding coming
orders_differ = (refl, refl)
