-- A finite map from numbers: the list of its entries in the order of their keys.
use Rattle.std.specs.Prelude.{ℕ, Bool, not, ◌==◌, nat_lt, List, [], ◌∷◌, map, Option, Some, None, if◌then◌else◌, is_some}
use Rattle.std.specs.List.{filter}

-- a finite map, as entries of a key and its value
abbrev pub Map : Type 0 → Type 0
Map X = List (ℕ × X)

-- what stands at the key
unfoldable pub get : {X : Type 0} → Map X → ℕ → Option X
get [] k = None
get (e ∷ es) k = if e.0 == k then Some e.1 else get es k

-- the map with v at the key
unfoldable pub put : {X : Type 0} → Map X → ℕ → X → Map X
put [] k v = (k, v) ∷ []
put (e ∷ es) k v =
    if e.0 == k then (k, v) ∷ es
    else (if nat_lt k e.0 then (k, v) ∷ e ∷ es else e ∷ put es k v)

-- the map without the key
unfoldable pub without : {X : Type 0} → Map X → ℕ → Map X
without m k = filter (λ e. not (e.0 == k)) m

-- the entries whose keys pass the test
unfoldable pub where_key : {X : Type 0} → (ℕ → Bool) → Map X → Map X
where_key p m = filter (λ e. p e.0) m

-- something stands at the key
abbrev pub has_key : {X : Type 0} → Map X → ℕ → Bool
has_key m k = is_some (get m k)

-- the map with each value as f leaves it
unfoldable pub each : {X : Type 0} → (ℕ → X → X) → Map X → Map X
each f m = map (λ e. (e.0, f e.0 e.1)) m

-- the map with the value at the key as f leaves it
unfoldable pub update : {X : Type 0} → Map X → ℕ → (X → X) → Map X
update [] k f = []
update (e ∷ es) k f = if e.0 == k then (k, f e.1) ∷ es else e ∷ update es k f
