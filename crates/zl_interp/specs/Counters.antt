-- One turn of the innermost block.
use Rattle.std.specs.Prelude.{ℕ, ◌≡◌, ◌-◌, ◌<◌, ◌≤◌, Bool, true, false, List, [], ◌∷◌}

-- the innermost counter is one less, where it was above 1; else it is gone
abbrev pub IfTurned : List ℕ → Bool → List ℕ → Type 0
IfTurned [] again cs = ⊥
IfTurned (n ∷ ns) true cs = (1 < n) × (cs ≡ (n - 1) ∷ ns)
IfTurned (n ∷ ns) false cs = (n ≤ 1) × (cs ≡ ns)
