-- The world that settling leaves, computed.
use Rattle.std.specs.Prelude.{ℕ, zero, suc, ◌==◌, List, map, length}
use Rattle.std.specs.List.{list_any, filter}
use Rattle.zl_rights.specs.Map.{Map}
use Rattle.zl_rights.specs.World.{World}
use Rattle.zl_rights.specs.Settle.{Koids, is_held, without_others}

-- the koids, as a set
abbrev pub among : List ℕ → Koids
among ks k = list_any (λ x. x == k) ks

abbrev pub keys_of : {X : Type 0} → Map X → List ℕ
keys_of m = map (λ e. e.0) m

-- n times what isn't held by the rest is taken away
abbrev pub shrunk : World → ℕ → List ℕ → List ℕ
shrunk w zero ks = ks
shrunk w (suc n) ks = shrunk w n (filter (λ k. is_held w (among ks) k) ks)

-- the world without what n turns take away
abbrev pub settled_in : World → ℕ → World
settled_in w n = without_others w (among (shrunk w n (keys_of w.objects)))

-- as many turns as there are objects take away all that isn't held
abbrev pub settled : World → World
settled w = settled_in w (length (keys_of w.objects))
