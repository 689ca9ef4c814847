-- Who goes ahead takes private turns alone.
use Rattle.std.proofs.Common.{Bool, List, [], inl, inr, suc, true, zero, ℕ, ◌∷◌, ◌≡◌}
use Rattle.std.proofs.lemmas.Bool.{cases_Bool}
use Rattle.zl_explore.specs.GoesAhead.{all_ahead, gone_ahead, reduced_start, reduced_turn, who_goes}
use Rattle.zl_explore.specs.Paths.{IsIn}
use Rattle.zl_explore.specs.Reduced.{Ahead, ArePrivate, IsReduced, here, turn}
use Rattle.zl_explore.proofs.Reduced.{good_ahead}

module _ {S : Type 0} (ready : S → List ℕ) (next : S → ℕ → S) (is_good : S → Type 0) (IsPrivate : S → ℕ → Type 0)
    (law : ArePrivate ready next is_good IsPrivate) (is_private : S → ℕ → Bool)
    (tells : (s : S) (p : ℕ) → is_good s → is_private s p ≡ true → IsIn (ready s) p × IsPrivate s p) (most : ℕ) where
  goes_on : (n : ℕ) (s t : S) (p : ℕ) → is_good s → Ahead ready next IsPrivate (gone_ahead next is_private n s p) t → Ahead ready next IsPrivate s t
  unfolding gone_ahead
  goes_on zero s t p good more = more
  goes_on (suc n) s t p good more = elim (cases_Bool (is_private s p)) as (λ _. Ahead ready next IsPrivate s t) [
    | inl is ↦ let it = tells s p good is in turn s t p it.0 it.1 (goes_on n (next s p) t p (law.kept s p good it.0) (rw is at more))
    | inr isnt ↦ rw isnt at more
  ]

  all_go : (ps : List ℕ) (s : S) → is_good s → Ahead ready next IsPrivate s (all_ahead next is_private most s ps)
  unfolding all_ahead
  all_go [] s good = here s
  all_go (p ∷ ps) s good =
      let first = goes_on most s (gone_ahead next is_private most s p) p good (here _) in
      goes_on most s _ p good (all_go ps (gone_ahead next is_private most s p) (good_ahead ready next is_good IsPrivate law s _ good first))

  pub start_ahead : (s : S) → is_good s → Ahead ready next IsPrivate s (reduced_start ready next is_private most s)
  start_ahead s good = all_go (ready s) s good

  pub turns_ahead : IsReduced ready next is_good IsPrivate (reduced_turn ready next is_private most)
  turns_ahead = record {
    goes = λ s q good is_in. all_go (who_goes ready next is_private most s q (next s q)) (next s q) (law.kept s q good is_in);
  }
