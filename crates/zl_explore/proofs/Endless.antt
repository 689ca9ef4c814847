-- Coming to an end by turns, and by reduced ones.
use Rattle.std.proofs.Common.{List, Some, [], ap, slice_get, subst, ℕ, ◌∙◌, ◌≡◌}
use Rattle.std.proofs.lemmas.Option.{none-some}
use Rattle.zl_explore.specs.Paths.{IsIn, IsPath, after}
use Rattle.zl_explore.specs.Reduced.{Ahead, ArePrivate, IsReduced, here}
use Rattle.zl_explore.proofs.Ending.{Ends, ends_by}
use Rattle.zl_explore.proofs.Reduced.{comes_too, meets, reached_too}

module _ {S : Type 0} (ready : S → List ℕ) (next : S → ℕ → S) (is_good : S → Type 0) (is_private : S → ℕ → Type 0)
    (law : ArePrivate ready next is_good is_private) (reduced : S → ℕ → S) (is_reduced : IsReduced ready next is_good is_private reduced) where
  -- who comes to an end by reduced turns, does by turns
  pub ends_too : (s : S) → is_good s → Ends ready reduced s → Ends ready next s
  ends_too s good ends =
      let e = after ready reduced s ends.turns in
      let reached = reached_too ready next is_good is_private law reduced is_reduced s s good (here s) e
      (record { turns = ends.turns; is_path = ends.is_path; leads = λ i. e }) in
      record { turns = reached.turns; is_path = reached.is_path; nobody = ap ready reached.leads ∙ ends.nobody }

  -- and who does by turns, by reduced ones
  pub ends_reduced : (s : S) → is_good s → Ends ready next s → Ends ready reduced s
  ends_reduced s good ends =
      let comes = comes_too ready next is_good is_private law reduced is_reduced s s good (here s) (λ u. ready u ≡ [])
      (λ u p good_u is_in private nobody. absurd (none-some p (subst (λ (ks : List ℕ). slice_get ks is_in.0 ≡ Some p) nobody is_in.1)))
      ends.turns ends.is_path ends.nobody in
      record { turns = comes.turns; is_path = comes.is_path; nobody = comes.there }

  -- where turns lead to a state that comes to no end, one was met that comes to none
  module _ (s t : S) (good : is_good s) (begins : Ahead ready next is_private s t) (met : S → Type 0)
      (closed : (u : S) (q : ℕ) → met u → IsIn (ready u) q → met (reduced u q)) (is_met : met t) where
    pub endless_met : (turns : List ℕ) → IsPath ready next s turns → (Ends ready next (after ready next s turns) → ⊥)
        → (u : S) × met u × (Ends ready next u → ⊥)
    endless_met turns path never =
        meets ready next is_good is_private law reduced is_reduced s t good begins met closed is_met (λ u. Ends ready next u → ⊥)
        (λ u p good_u is_in private none ends. none (ends_by ready next u p is_in ends)) turns path never
