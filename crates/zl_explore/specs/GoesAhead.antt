-- Going ahead: behind a turn, private turns of the same process and of those that became ready.
use Rattle.std.specs.Prelude.{ℕ, zero, suc, Bool, ◌||◌, ◌==◌, not, if◌then◌else◌, List, [], ◌∷◌}
use Rattle.std.specs.List.{filter, list_any}

module _ {S : Type 0} (next : S → ℕ → S) (is_private : S → ℕ → Bool) where
  -- the process goes on by so many private turns at most
  unfoldable pub gone_ahead : ℕ → S → ℕ → S
  gone_ahead zero s p = s
  gone_ahead (suc n) s p = if is_private s p then gone_ahead n (next s p) p else s

  -- so does each of these, one after another
  unfoldable pub all_ahead : ℕ → S → List ℕ → S
  all_ahead most s [] = s
  all_ahead most s (p ∷ ps) = all_ahead most (gone_ahead most s p) ps

module _ {S : Type 0} (ready : S → List ℕ) (next : S → ℕ → S) (is_private : S → ℕ → Bool) (most : ℕ) where
  -- those that are ready in t: the process, and who wasn't ready in s
  abbrev pub who_goes : S → ℕ → S → List ℕ
  who_goes s q t = filter (λ k. (k == q) || not (list_any (λ j. j == k) (ready s))) (ready t)

  -- a turn, and all who go ahead behind it
  abbrev pub reduced_turn : S → ℕ → S
  reduced_turn s q = all_ahead next is_private most (next s q) (who_goes s q (next s q))

  -- a start, where all go ahead
  abbrev pub reduced_start : S → S
  reduced_start s = all_ahead next is_private most s (ready s)
