-- Who comes to an end: by the edges between states that were met, and by turns.
use Rattle.std.proofs.Common.{List, Some, [], ap, arith, length, refl, slice_get, subst, suc, sym, zero, ℕ, ◌++◌, ◌<◌, ◌∙◌, ◌∷◌, ◌≡◌}
use Rattle.std.proofs.lemmas.Option.{none-some, same_Some, slice_get_within}
use Rattle.zl_explore.specs.Edges.{AreEdges, Comes, HaveEdges, at_last, by_one}
use Rattle.zl_explore.specs.Marks.{AreWithin}
use Rattle.zl_explore.specs.Nodes.{IsTree}
use Rattle.zl_explore.specs.Paths.{IsIn, IsPath, IsReached, after}
use Rattle.zl_explore.specs.declared.met.Node.{Node}

nobody_in : (xs : List ℕ) → ((p : ℕ) → IsIn xs p → ⊥) → xs ≡ []
nobody_in [] none = refl
nobody_in (x ∷ xs) none = absurd (none x (0, refl))

-- turns lead to where nobody is ready
pub record Ends {S : Type 0} (ready : S → List ℕ) (next : S → ℕ → S) (s : S) : Type 0 where
  pub turns : List ℕ
  pub is_path : IsPath ready next s turns
  pub nobody : ready (after ready next s turns) ≡ []

module _ {S : Type 0} (ready : S → List ℕ) (next : S → ℕ → S) where
  pub ends_by : (s : S) (p : ℕ) → IsIn (ready s) p → Ends ready next (next s p) → Ends ready next s
  unfolding IsPath after
  ends_by s p is_in ends = record { turns = p ∷ ends.turns; is_path = (is_in, ends.is_path); nobody = ends.nobody }

  -- one turn more at the end
  pub path_more : (turns : List ℕ) (s e : S) (p : ℕ) → IsPath ready next s turns → after ready next s turns ≡ e → IsIn (ready e) p
      → IsPath ready next s (turns ++ (p ∷ [])) × (after ready next s (turns ++ (p ∷ [])) ≡ next e p)
  unfolding IsPath after
  path_more [] s e p path leads is_in =
      ((subst (λ (t : S). IsIn (ready t) p) (sym leads) is_in, tt), ap (λ (t : S). next t p) leads)
  path_more (q ∷ turns) s e p path leads is_in =
      let rest = path_more turns (next s q) e p path.1 leads is_in in ((path.0, rest.0), rest.1)

  module _ (nodes : List (Node S)) (start : S) (tree : IsTree ready next start nodes) where
    reached_below : (bound place : ℕ) (n : Node S) → place < bound → slice_get nodes place ≡ Some n → IsReached ready next start n.at
    unfolding IsPath after
    reached_below zero place n below there = absurd (omega (arith, below))
    reached_below (suc bound) zero n below there = record {
      turns = [];
      is_path = tt;
      leads = sym tree.starts ∙ (λ i. (same_Some tree.root n (sym tree.first ∙ there) i).at);
    }
    reached_below (suc bound) (suc place) n below there =
        let comes = tree.others (suc place) n (omega arith) there in
        let before = reached_below bound n.from comes.node (omega (arith, comes.earlier, below)) comes.there in
        let one = path_more before.turns start comes.node.at n.by before.is_path before.leads comes.is_ready in
        record { turns = before.turns ++ (n.by ∷ []); is_path = one.0; leads = one.1 ∙ sym comes.leads }

    -- turns lead to each state that was met
    pub node_reached : (place : ℕ) (n : Node S) → slice_get nodes place ≡ Some n → IsReached ready next start n.at
    node_reached place n there = reached_below (suc place) place n (omega arith) there

  module _ (nodes : List (Node S)) (edges : List (ℕ × ℕ)) (are : AreEdges ready next nodes edges) where
    pub edges_within : AreWithin edges (length nodes)
    unfolding AreEdges AreWithin
    edges_within edge is_in =
        let is = are edge is_in in (slice_get_within nodes edge.0 is.from is.there, slice_get_within nodes edge.1 is.to is.to_there)

    module _ (have : HaveEdges ready next nodes edges (length nodes)) where
      -- who comes to an end by edges, does by turns
      pub comes_ends : (place : ℕ) (n : Node S) → slice_get nodes place ≡ Some n → Comes edges place → Ends ready next n.at
      unfolding AreEdges HaveEdges IsPath after
      comes_ends place n there (at_last _ is_last) = record {
        turns = [];
        is_path = tt;
        nobody = nobody_in (ready n.at) (λ p is_in.
            let has = have place n p (slice_get_within nodes place n there) there is_in in is_last has.target has.is_in);
      }
      comes_ends place n there (by_one _ target is_in rest) =
          let is = are (place, target) is_in in
          let from : is.from ≡ n = same_Some is.from n (sym is.there ∙ there) in
          ends_by n.at is.pid (subst (λ (k : Node S). IsIn (ready k.at) is.pid) from is.is_ready)
          (subst (Ends ready next) (is.leads ∙ (λ i. next (from i).at is.pid)) (comes_ends target is.to is.to_there rest))

      path_comes : (turns : List ℕ) (place : ℕ) (n : Node S) → slice_get nodes place ≡ Some n → IsPath ready next n.at turns
          → ready (after ready next n.at turns) ≡ [] → Comes edges place
      unfolding AreEdges HaveEdges IsPath after
      path_comes [] place n there path nobody = at_last place (λ target is_in.
          let is = are (place, target) is_in in
          let from : is.from ≡ n = same_Some is.from n (sym is.there ∙ there) in
          none-some is.pid (subst (λ (ks : List ℕ). slice_get ks is.is_ready.0 ≡ Some is.pid) ((λ i. ready (from i).at) ∙ nobody) is.is_ready.1))
      path_comes (p ∷ turns) place n there path nobody =
          let has = have place n p (slice_get_within nodes place n there) there path.0 in
          by_one place has.target has.is_in
          (path_comes turns has.target has.to has.there (subst (λ (t : S). IsPath ready next t turns) (sym has.is) path.1)
          (subst (λ (t : S). ready (after ready next t turns) ≡ []) (sym has.is) nobody))

      -- and who does by turns, by edges
      pub ends_comes : (place : ℕ) (n : Node S) → slice_get nodes place ≡ Some n → Ends ready next n.at → Comes edges place
      ends_comes place n there ends = path_comes ends.turns place n there ends.is_path ends.nobody
