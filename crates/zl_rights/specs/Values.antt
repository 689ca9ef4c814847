-- The values that insertions get: which comes next is a function of the insertions and removals before.
use Rattle.std.specs.Prelude.{◌≡◌, ◌≢◌, ℕ, zero, suc, ◌+◌, ◌-◌, ◌≤◌, ◌==◌, ◌&&◌, nat_lt, nat_le, if◌then◌else◌, List, [], ◌∷◌, length}
use Rattle.zl_rights.specs.Map.{Map, has_key}
use Rattle.zl_rights.specs.declared.entry.Entry.{Entry}

-- the values that were freed and not given since, the last one first; and how many were made, 1, 2, .. up to it
pub record Free : Type 0 where
  pub freed : List ℕ
  pub made : ℕ

-- those of a new table
abbrev pub new_free : Free
new_free = record { freed = []; made = 0 }

abbrev pub next_of : List ℕ → ℕ → ℕ
next_of [] made = made + 1
next_of (v ∷ vs) made = v

-- the value that the next insertion gets: the one freed last, and else one that was never made
abbrev pub offered : Free → ℕ
offered f = next_of f.freed f.made

abbrev pub taken_of : List ℕ → ℕ → Free
taken_of [] made = record { freed = []; made = made + 1 }
taken_of (v ∷ vs) made = record { freed = vs; made = made }

-- what is left when the next insertion has got its value
abbrev pub taken : Free → Free
taken f = taken_of f.freed f.made

abbrev pub given_of : ℕ → List ℕ → ℕ → Free
given_of value [] made =
    if value == made then record { freed = []; made = made - 1 } else record { freed = value ∷ []; made = made }
given_of value (v ∷ vs) made = record { freed = value ∷ v ∷ vs; made = made }

-- what there is when the value is freed: where none is free and it was the last that was made, it counts as never made
abbrev pub given_back : ℕ → Free → Free
given_back value f = given_of value f.freed f.made

-- the values that so many insertions get, one after another
unfoldable pub coming : ℕ → Free → List ℕ
coming zero f = []
coming (suc n) f = offered f ∷ coming n (taken f)

-- the last one of the list, and the given one where it is empty
unfoldable pub deepest : ℕ → List ℕ → ℕ
deepest d [] = d
deepest d (v ∷ vs) = deepest v vs

-- the deepest freed value isn't the last that was made
abbrev pub IsNormal : Free → Type 0
IsNormal f = deepest (f.made + 1) f.freed ≢ f.made

-- how often the value stands in the list
unfoldable pub times : ℕ → List ℕ → ℕ
times v [] = 0
times v (w ∷ ws) = if w == v then times v ws + 1 else times v ws

-- the most handles of a table
abbrev pub CAPACITY : ℕ
CAPACITY = 1024

-- what is true of the values of every table: each that was made is live or free, just once, and no other is
pub record IsFree (entries : Map Entry) (f : Free) : Type 0 where
  pub counted : f.made ≡ length entries + length f.freed
  pub each : (v : ℕ) → (if has_key entries v then 1 else 0) + times v f.freed ≡ (if nat_lt 0 v && nat_le v f.made then 1 else 0)
  pub normal : IsNormal f
  pub few : f.made ≤ CAPACITY
