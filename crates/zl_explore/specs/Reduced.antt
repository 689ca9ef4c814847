-- Private turns, which others can't tell: first or later, they lead to the same ends.
use Rattle.std.specs.Prelude.{ℕ, ◌≡◌, ◌⊎◌, List}
use Rattle.zl_explore.specs.Paths.{IsIn}

module _ {S : Type 0} (ready : S → List ℕ) (next : S → ℕ → S) where
  -- a turn of q beside one of p: both orders lead to the same state, and p's turn stays private
  pub record Commutes (is_private : S → ℕ → Type 0) (s : S) (p q : ℕ) : Type 0 where
    pub p_ready : IsIn (ready (next s q)) p
    pub p_private : is_private (next s q) p
    pub q_ready : IsIn (ready (next s p)) q
    pub same : next (next s p) q ≡ next (next s q) p

  -- a turn of q ends p: the turn of p before it makes no difference
  pub record Forgets (s : S) (p q : ℕ) : Type 0 where
    pub q_ready : IsIn (ready (next s p)) q
    pub same : next (next s p) q ≡ next s q

  -- the law of private turns, of the good states, from which each turn leads to a good one
  pub record ArePrivate (is_good : S → Type 0) (is_private : S → ℕ → Type 0) : Type 0 where
    pub kept : (s : S) (q : ℕ) → is_good s → IsIn (ready s) q → is_good (next s q)
    pub beside : (s : S) (p q : ℕ) → is_good s → IsIn (ready s) p → is_private s p → IsIn (ready s) q
        → ((q ≡ p) ⊎ (Commutes is_private s p q ⊎ Forgets s p q))

  -- t comes from s by private turns of ready processes alone
  pub data Ahead (is_private : S → ℕ → Type 0) : S → S → Type 0 where
    here : (s : S) → Ahead is_private s s
    turn : (s t : S) (p : ℕ) → IsIn (ready s) p → is_private s p → Ahead is_private (next s p) t → Ahead is_private s t

  -- a reduced turn is a turn, and private ones behind it, of whom it may be
  pub record IsReduced (is_good : S → Type 0) (is_private : S → ℕ → Type 0) (reduced : S → ℕ → S) : Type 0 where
    pub goes : (s : S) (q : ℕ) → is_good s → IsIn (ready s) q → Ahead is_private (next s q) (reduced s q)

  -- private turns leave it true
  abbrev pub IsSteady : (is_good : S → Type 0) → (is_private : S → ℕ → Type 0) → (S → Type 0) → Type 0
  IsSteady is_good is_private holds = (s : S) (p : ℕ) → is_good s → IsIn (ready s) p → is_private s p → holds s → holds (next s p)
