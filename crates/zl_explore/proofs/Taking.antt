-- One turn from the state at a place: what it leads to, and what is told of it.
use Rattle.std.proofs.Common.{IfSome, List, Option, Some, [], get_or, length, refl, slice_get, subst, ℕ, ◌++◌, ◌+◌, ◌<◌, ◌∙◌, ◌∷◌, ◌≡◌}
use Rattle.std.proofs.lemmas.Option.{slice_get-get_or}
use Rattle.zl_code.specs.declared.history.TraceItem.{TraceItem}
use Rattle.zl_explore.specs.Bad.{IsQuiet, NamesItem}
use Rattle.zl_explore.specs.Edges.{AreEdges}
use Rattle.zl_explore.specs.Met.{Came}
use Rattle.zl_explore.specs.Nodes.{Grows, Stands}
use Rattle.zl_explore.specs.Paths.{IsIn}
use Rattle.zl_explore.specs.Quiet.{IsBadTurnAt, TurnsQuiet}
use Rattle.zl_explore.specs.declared.bad.Bad.{Bad}
use Rattle.zl_explore.specs.declared.met.Node.{Node}
use Rattle.zl_explore.proofs.Edging.{EdgesGrow, edges_grown, edges_more}
use Rattle.zl_explore.proofs.Growing.{grows_one, ready_there, stands_extends, still_there}
use Rattle.zl_explore.proofs.Hearing.{turns_quiet_more}

-- the index-th of the processes that are ready in the state at the place has its turn, in a copy of that state
module _ {S : Type 0} (ready : S → List ℕ) (next : S → ℕ → S) (tells : S → ℕ → Option TraceItem) (old : List (Node S)) (place : ℕ) (pids : List ℕ)
    (within : place < length old) (are : IfSome (slice_get old place) (λ n. pids ≡ ready n.at)) (index : ℕ) (below : index < length pids)
    (mid : List (Node S)) (grows : Grows ready next old place pids index mid) (copy at : S)
    (copied : IfSome (slice_get mid place) (λ n. copy ≡ n.at)) (told : Option TraceItem) where
  from : (n : Node S) × (slice_get old place ≡ Some n) × (pids ≡ ready n.at)
  from = ready_there ready next old place pids within are

  abbrev pid : ℕ
  pid = get_or pids index 0

  is : slice_get pids index ≡ Some pid
  is = slice_get-get_or pids index 0 below

  is_in : IsIn (ready from.0.at) pid
  is_in = (index, subst (λ (x : List ℕ). slice_get x index ≡ Some pid) from.2 is)

  there : slice_get mid place ≡ Some from.0
  there = still_there ready next old place pids index mid from.0 from.1 grows

  state : copy ≡ from.0.at
  state = subst (λ (found : Option (Node S)). IfSome found (λ n. copy ≡ n.at)) there copied

  module _ (tells_so : told ≡ tells copy pid) where
    told_is : told ≡ tells from.0.at pid
    told_is = tells_so ∙ (λ i. tells (state i) pid)

    pub heard : (bad : List Bad) → IsQuiet bad told → TurnsQuiet ready tells bad old place pids index → TurnsQuiet ready tells bad old place pids (index + 1)
    heard bad none quiet = turns_quiet_more ready tells bad old place pids index pid from.0 from.1 is (subst (IsQuiet bad) told_is none) quiet

    pub bad_here : (bad : List Bad) (one : Bad) → NamesItem bad told one → IsBadTurnAt ready tells bad old place pid one
    bad_here bad one names = record {
      node = from.0;
      there = from.1;
      is_ready = is_in;
      names = subst (λ (x : Option TraceItem). NamesItem bad x one) told_is names;
    }

  leads : at ≡ next copy pid → at ≡ next from.0.at pid
  leads turned = turned ∙ (λ i. next (state i) pid)

  -- it comes from the state at the place
  pub came : at ≡ next copy pid → Came next mid (record { at = at; from = place; by = pid })
  came turned = record { from = from.0; there = there; leads = leads turned }

  -- it leads to a state that stands at the target
  module _ (turned : at ≡ next copy pid) (new : List (Node S)) (target : ℕ)
      (stands : Stands ready next mid (record { at = at; from = place; by = pid }) new target) where
    pub grown : Grows ready next old place pids (index + 1) new
    grown =
        grows_one ready next old place pids index pid target mid new from.0 (record { at = at; from = place; by = pid }) from.1 is is_in
        (leads turned) refl refl stands grows

    module _ (old_edges mid_edges : List (ℕ × ℕ)) (so_far : EdgesGrow ready next old place pids old_edges index mid mid_edges) where
      pub edged : (edges : List (ℕ × ℕ)) → edges ≡ mid_edges ++ ((place, target) ∷ []) → EdgesGrow ready next old place pids old_edges (index + 1) new edges
      edged edges items =
          edges_more ready next old place pids old_edges index pid target mid new mid_edges edges from.0 stands.stands.node from.1 is is_in
          (stands_extends ready next mid _ new target stands) items stands.stands.there (stands.stands.is ∙ leads turned) so_far

      -- where the edge isn't kept
      pub unedged : AreEdges ready next old old_edges → AreEdges ready next new mid_edges
      unedged are_edges = edges_grown ready next mid new mid_edges (stands_extends ready next mid _ new target stands) (so_far.are are_edges)
