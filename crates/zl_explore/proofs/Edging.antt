-- What stays true of who leads to whom as states are met.
use Rattle.std.proofs.Common.{List, Some, [], append-nil, arith, length, slice_get, subst, sym, ℕ, ◌++◌, ◌+◌, ◌∙◌, ◌∷◌, ◌≡◌, ◌≤◌}
use Rattle.std.proofs.lemmas.List.{append_assoc}
use Rattle.std.proofs.lemmas.Option.{none-some, same_Some, slice_get_within}
use Rattle.std.proofs.lemmas.Bool.{cases_lt}
use mathlib.Core.Logic.{inl, inr}
use Rattle.zl_explore.specs.Edges.{AreEdges, HasEdge, HaveEdges, IsEdge, TurnsHaveEdges}
use Rattle.zl_explore.specs.Nodes.{Extends}
use Rattle.zl_explore.specs.Paths.{IsIn}
use Rattle.zl_explore.specs.declared.met.Node.{Node}
use Rattle.zl_explore.proofs.Lists.{get_below, get_either, get_last, get_left}

pub extends_none : {X : Type 0} (xs : List X) → Extends xs xs
extends_none xs = ([], sym (append-nil xs))

pub extends_both : {X : Type 0} (xs ys zs : List X) → Extends xs ys → Extends ys zs → Extends xs zs
extends_both xs ys zs (first, is_first) (second, is_second) =
    (first ++ second, is_second ∙ subst (λ (x : List _). x ++ second ≡ xs ++ (first ++ second)) (sym is_first) (append_assoc xs first second))

get_grown : {X : Type 0} (old new : List X) (i : ℕ) (x : X) → Extends old new → slice_get old i ≡ Some x → slice_get new i ≡ Some x
get_grown {X} old new i x (more, is) there = subst (λ (xs : List X). slice_get xs i ≡ Some x) (sym is) (get_left old more i x there)

module _ {S : Type 0} (ready : S → List ℕ) (next : S → ℕ → S) where
  edge_grown : (old new : List (Node S)) (edge : ℕ × ℕ) → Extends old new → IsEdge ready next old edge → IsEdge ready next new edge
  edge_grown old new edge extends is = record {
    from = is.from;
    there = get_grown old new edge.0 is.from extends is.there;
    to = is.to;
    to_there = get_grown old new edge.1 is.to extends is.to_there;
    pid = is.pid;
    is_ready = is.is_ready;
    leads = is.leads;
  }

  -- more states that were met
  pub edges_grown : (old new : List (Node S)) (edges : List (ℕ × ℕ)) → Extends old new → AreEdges ready next old edges → AreEdges ready next new edges
  unfolding AreEdges
  edges_grown old new edges extends are edge is_in = edge_grown old new edge extends (are edge is_in)

  has_grown : (old new : List (Node S)) (edges more : List (ℕ × ℕ)) (place : ℕ) (s : S) → Extends old new → Extends edges more
      → HasEdge ready next old edges place s → HasEdge ready next new more place s
  has_grown old new edges more place s extends longer has = record {
    target = has.target;
    is_in = (has.is_in.0, get_grown edges more has.is_in.0 (place, has.target) longer has.is_in.1);
    to = has.to;
    there = get_grown old new has.target has.to extends has.there;
    is = has.is;
  }

  pub have_grown : (old new : List (Node S)) (edges more : List (ℕ × ℕ)) (count : ℕ) → Extends old new → Extends edges more → count ≤ length old
      → HaveEdges ready next old edges count → HaveEdges ready next new more count
  unfolding HaveEdges
  have_grown old new edges more count (tail, is) longer within have i n p below there is_in =
      has_grown old new edges more i (next n.at p) (tail, is) longer
      (have i n p below (get_below old tail i n (omega (arith, below, within)) (subst (λ (x : List (Node S)). slice_get x i ≡ Some n) is there)) is_in)

  -- one more of which all turns have theirs
  pub have_next : (nodes : List (Node S)) (edges : List (ℕ × ℕ)) (count : ℕ) (n : Node S) → slice_get nodes count ≡ Some n
      → ((p : ℕ) → IsIn (ready n.at) p → HasEdge ready next nodes edges count (next n.at p)) → HaveEdges ready next nodes edges count
      → HaveEdges ready next nodes edges (count + 1)
  unfolding HaveEdges
  have_next nodes edges count n there here have i m p below m_there is_in = elim (cases_lt i count) [
    | inl less ↦ have i m p less m_there is_in
    | inr more ↦
        let same : i ≡ count = omega (arith, below, more) in
        let is : n ≡ m = same_Some n m (sym there ∙ subst (λ (k : ℕ). slice_get nodes k ≡ Some m) same m_there) in
        subst (λ (k : ℕ). HasEdge ready next nodes edges k (next m.at p)) (sym same)
        (subst (λ (k : Node S). HasEdge ready next nodes edges count (next k.at p)) is
        (here p (subst (λ (k : Node S). IsIn (ready k.at) p) (sym is) is_in)))
  ]

  -- nobody has a turn at an end
  pub have_end : (nodes : List (Node S)) (edges : List (ℕ × ℕ)) (count : ℕ) (n : Node S) → slice_get nodes count ≡ Some n → ready n.at ≡ []
      → HaveEdges ready next nodes edges count → HaveEdges ready next nodes edges (count + 1)
  have_end nodes edges count n there nobody =
      have_next nodes edges count n there (λ p is_in. absurd (none-some p (subst (λ (ks : List ℕ). slice_get ks is_in.0 ≡ Some p) nobody is_in.1)))

  -- as turns from the state at the place are taken
  pub record EdgesGrow (old : List (Node S)) (place : ℕ) (pids : List ℕ) (old_edges : List (ℕ × ℕ)) (count : ℕ) (new : List (Node S))
      (edges : List (ℕ × ℕ)) : Type 0 where
    pub extends : Extends old new
    pub longer : Extends old_edges edges
    pub are : AreEdges ready next old old_edges → AreEdges ready next new edges
    pub have : TurnsHaveEdges ready next old place pids count new edges

  module _ (old : List (Node S)) (place : ℕ) (pids : List ℕ) (old_edges : List (ℕ × ℕ)) where
    pub edges_none : EdgesGrow old place pids old_edges 0 old old_edges
    edges_none = record {
      extends = extends_none old;
      longer = extends_none old_edges;
      are = λ are. are;
      have = λ n i p there below. absurd (omega (arith, below));
    }

    -- one turn more
    pub edges_more : (count pid target : ℕ) (mid new : List (Node S)) (mid_edges edges : List (ℕ × ℕ)) (n to : Node S) → slice_get old place ≡ Some n
        → slice_get pids count ≡ Some pid → IsIn (ready n.at) pid → Extends mid new → edges ≡ mid_edges ++ ((place, target) ∷ [])
        → slice_get new target ≡ Some to → to.at ≡ next n.at pid → EdgesGrow old place pids old_edges count mid mid_edges
        → EdgesGrow old place pids old_edges (count + 1) new edges
    unfolding AreEdges
    edges_more count pid target mid new mid_edges edges n to there at is_ready grows is to_there leads so_far =
        let extends = extends_both old mid new so_far.extends grows in
        let longer : Extends mid_edges edges = ((place, target) ∷ [], is) in
        let last : IsEdge ready next new (place, target) = record {
          from = n;
          there = get_grown old new place n extends there;
          to = to;
          to_there = to_there;
          pid = pid;
          is_ready = is_ready;
          leads = leads;
        } in record {
          extends = extends;
          longer = extends_both old_edges mid_edges edges so_far.longer longer;
          are = λ are. subst (λ (x : List (ℕ × ℕ)). (edge : ℕ × ℕ) → IsIn x edge → IsEdge ready next new edge) (sym is)
              (λ edge (i, in_edges). elim (get_either mid_edges (place, target) i edge in_edges) [
                | inl before ↦ edge_grown mid new edge grows (so_far.are are edge (i, before))
                | inr at_last ↦ subst (IsEdge ready next new) at_last.1 last
              ]);
          have = λ m i p m_there below p_there. elim (cases_lt i count) [
            | inl less ↦ has_grown mid new mid_edges edges place (next m.at p) grows longer (so_far.have m i p m_there less p_there)
            | inr more ↦
                let same : i ≡ count = omega (arith, below, more) in
                let is_n : n ≡ m = same_Some n m (sym there ∙ m_there) in
                let who : pid ≡ p = same_Some pid p (sym at ∙ subst (λ (k : ℕ). slice_get pids k ≡ Some p) same p_there) in
                subst (λ (k : Node S). HasEdge ready next new edges place (next k.at p)) is_n
                (subst (λ (k : ℕ). HasEdge ready next new edges place (next n.at k)) who (record {
                  target = target;
                  is_in = (
                    length mid_edges,
                    subst (λ (x : List (ℕ × ℕ)). slice_get x (length mid_edges) ≡ Some (place, target)) (sym is)
                        (get_last mid_edges (place, target)),
                  );
                  to = to;
                  there = to_there;
                  is = leads;
                }))
          ];
        }

    -- all turns were taken
    pub edges_all : (count : ℕ) (new : List (Node S)) (edges : List (ℕ × ℕ)) (n : Node S) → slice_get old place ≡ Some n → pids ≡ ready n.at
        → length pids ≤ count → EdgesGrow old place pids old_edges count new edges → HaveEdges ready next old old_edges place
        → HaveEdges ready next new edges (place + 1)
    edges_all count new edges n there are enough grows have =
        have_next new edges place n (get_grown old new place n grows.extends there) here
        (have_grown old new old_edges edges place grows.extends grows.longer (omega (arith, slice_get_within old place n there)) have)
      where
        here : (p : ℕ) → IsIn (ready n.at) p → HasEdge ready next new edges place (next n.at p)
        here p (i, at) =
            let in_pids : slice_get pids i ≡ Some p = subst (λ (x : List ℕ). slice_get x i ≡ Some p) (sym are) at in
            grows.have n i p there (omega (arith, enough, slice_get_within pids i p in_pids)) in_pids
