-- The turns that lead to a state that was met, read back from it to the first.
use Rattle.std.proofs.Common.{◌≡◌, ◌<◌, ◌∙◌, ℕ, List, [], ◌∷◌, ◌++◌, length, refl, sym, subst, Some, slice_get}
use Rattle.std.proofs.lemmas.Option.{same_Some}
use Rattle.zl_explore.specs.Nodes.{IsTree, LeadsTo}
use Rattle.zl_explore.specs.Paths.{IsPath, after}
use Rattle.zl_explore.specs.declared.met.Node.{Node}
use Rattle.zl_explore.proofs.Lists.{there_is}

module _ {S : Type 0} (ready : S → List ℕ) (next : S → ℕ → S) (nodes : List (Node S)) where
  -- no turn leads from a state to itself
  pub leads_none : (place : ℕ) (turns : List ℕ) → place < length nodes → turns ≡ [] → LeadsTo ready next nodes place place turns
  unfolding IsPath after
  leads_none place turns within none = let (n, there) = there_is nodes place within in rw none (record {
    from = n;
    there = there;
    to = n;
    to_there = there;
    is_path = tt;
    leads = refl;
  })

  -- the turn that led to it stands before them
  pub leads_more : (start : S) → IsTree ready next start nodes → (place target : ℕ) (n : Node S) (turns : List ℕ) → 0 < place → slice_get nodes place ≡ Some n
      → LeadsTo ready next nodes place target turns → LeadsTo ready next nodes n.from target (n.by ∷ turns)
  unfolding IsPath after
  leads_more start tree place target n turns above there leads =
      let comes = tree.others place n above there in
      let same : leads.from ≡ n = same_Some leads.from n (sym leads.there ∙ there) in
      let at : leads.from.at ≡ next comes.node.at n.by = (λ i. (same i).at) ∙ comes.leads in record {
        from = comes.node;
        there = comes.there;
        to = leads.to;
        to_there = leads.to_there;
        is_path = (comes.is_ready, subst (λ (s : S). IsPath ready next s turns) at leads.is_path);
        leads = subst (λ (s : S). after ready next s turns ≡ leads.to.at) at leads.leads;
      }

-- one turn more
pub after_more : {S : Type 0} (ready : S → List ℕ) (next : S → ℕ → S) (turns : List ℕ) (s : S) (p : ℕ)
    → after ready next s (turns ++ (p ∷ [])) ≡ next (after ready next s turns) p
unfolding after
after_more ready next [] s p = refl
after_more ready next (q ∷ turns) s p = after_more ready next turns (next s q) p
