-- The states of a list of slots, as one more comes or one is let go of.
use Rattle.std.proofs.Common.{Box, Global, IfSome, List, None, Option, Some, [], ap, append-nil, arith, get_or, length, map, refl, slice_get, slice_set}
use Rattle.std.proofs.Common.{suc, subst, sym, zero, ℕ, ◌++◌, ◌<◌, ◌∙◌, ◌∷◌, ◌≡◌}
use Rattle.std.specs.Option.{option_map}
use Rattle.std.specs.Prelude.{◌⊎◌}
use Rattle.std.proofs.lemmas.List.{append_assoc, length-map, map-append}
use Rattle.std.proofs.lemmas.Option.{none-some, same_Some, slice_get-map, slice_get_read, slice_get_within}
use mathlib.Core.Logic.{inl, inr}
use Rattle.zl_explore.specs.Met.{AreLive, Came, emptied, first, met, met_behind, node_of, state_from}
use Rattle.zl_explore.specs.Nodes.{LeadsTo, StandsAt}
use Rattle.zl_explore.specs.Paths.{after}
use Rattle.zl_explore.specs.declared.met.Node.{Node}
use Rattle.zl_explore.specs.declared.met.Slot.{Slot}
use Rattle.zl_explore.proofs.Lists.{get_below, get_either, get_left, there_is}

-- from where and by whom, of a node and of a slot
node_way : {S : Type 0} → Node S → ℕ × ℕ
node_way n = (n.from, n.by)

slot_way : {S : Type 0} → Slot S → ℕ × ℕ
slot_way s = (s.from, s.by)

module _ {S : Type 0} (next : S → ℕ → S) (start : S) where
  behind_push : (nodes : List (Node S)) (slots : List (Slot S)) (s : Slot S) → met_behind next start nodes (slots ++ (s ∷ []))
      ≡ met_behind next start nodes slots ++ (node_of next start (met_behind next start nodes slots) s ∷ [])
  unfolding met_behind
  behind_push nodes [] s = refl
  behind_push nodes (t ∷ slots) s = behind_push (nodes ++ (node_of next start nodes t ∷ [])) slots s

  behind_ways : (nodes : List (Node S)) (slots : List (Slot S))
      → map node_way (met_behind next start nodes slots) ≡ map node_way nodes ++ map slot_way slots
  unfolding met_behind node_way slot_way
  behind_ways nodes [] = sym (append-nil (map node_way nodes))
  behind_ways nodes (s ∷ slots) =
      behind_ways (nodes ++ (node_of next start nodes s ∷ [])) slots
      ∙ (ap (λ (x : List (ℕ × ℕ)). x ++ map slot_way slots) (map-append node_way nodes (node_of next start nodes s ∷ []))
      ∙ append_assoc (map node_way nodes) (slot_way s ∷ []) (map slot_way slots))

  behind_keeps : (nodes : List (Node S)) (slots : List (Slot S)) (i : ℕ) (n : Node S) → slice_get nodes i ≡ Some n
      → slice_get (met_behind next start nodes slots) i ≡ Some n
  unfolding met_behind
  behind_keeps nodes [] i n there = there
  behind_keeps nodes (s ∷ slots) i n there =
      let more = node_of next start nodes s ∷ [] in behind_keeps (nodes ++ more) slots i n (get_left nodes more i n there)

  -- the first is the start
  pub starts_there : (slots : List (Slot S)) (n : Node S) → slice_get (met next start slots) 0 ≡ Some n → n.at ≡ start
  unfolding met_behind
  starts_there [] n there = absurd (none-some n there)
  starts_there (s ∷ slots) n there =
      let root = node_of next start [] s in
      λ i. (same_Some n root (sym there ∙ behind_keeps (root ∷ []) slots 0 root refl) i).at

  module _ (slots : List (Slot S)) where
    pub as_many : length (met next start slots) ≡ length slots
    as_many =
        sym (length-map (met next start slots) node_way)
        ∙ (ap length (behind_ways [] slots) ∙ length-map slots slot_way)

    -- the slot of a state
    pub way_of : (place : ℕ) (n : Node S) (s : Slot S) → slice_get (met next start slots) place ≡ Some n → slice_get slots place ≡ Some s
        → (n.from ≡ s.from) × (n.by ≡ s.by)
    unfolding node_way slot_way
    way_of place n s there at =
        let same : (n.from, n.by) ≡ (s.from, s.by) = same_Some (node_way n) (slot_way s)
        (sym (slice_get-map node_way (met next start slots) place ∙ ap (option_map node_way) there)
        ∙ (ap (λ (x : List (ℕ × ℕ)). slice_get x place) (behind_ways [] slots)
        ∙ (slice_get-map slot_way slots place ∙ ap (option_map slot_way) at))) in
        (λ i. (same i).0, λ i. (same i).1)

    -- one more, to which a turn leads
    pub pushed : (n : Node S) (s : Slot S) → Came next (met next start slots) n → s.from ≡ n.from → s.by ≡ n.by
        → met next start (slots ++ (s ∷ [])) ≡ met next start slots ++ (n ∷ [])
    pushed n s came from by =
        behind_push [] slots s
        ∙ ap (λ (m : Node S). met next start slots ++ (m ∷ [])) (node_is ∙ sym n_is)
      where
        at_from : slice_get (met next start slots) s.from ≡ Some came.from
        at_from = ap (slice_get (met next start slots)) from ∙ came.there

        node_is : node_of next start (met next start slots) s ≡ record { at = next came.from.at n.by; from = n.from; by = n.by }
        node_is i = record { at = state_from next start (at_from i) (by i); from = from i; by = by i }

        n_is : n ≡ record { at = next came.from.at n.by; from = n.from; by = n.by }
        n_is i = record { at = came.leads i; from = n.from; by = n.by }

    pub pushed_live : (n : Node S) (s : Slot S) → IfSome s.live (λ at. n.at ≡ at.value) → AreLive (met next start slots) slots
        → AreLive (met next start slots ++ (n ∷ [])) (slots ++ (s ∷ []))
    unfolding AreLive
    pushed_live n s is live i t m at there = elim (get_either slots s i t at) [
      | inl old ↦
          let below : i < length (met next start slots) = omega (arith, slice_get_within slots i t old, as_many) in
          live i t m old (get_below (met next start slots) (n ∷ []) i m below there)
      | inr new ↦ elim (get_either (met next start slots) n i m there) [
        | inl old ↦ absurd (omega (arith, slice_get_within (met next start slots) i m old, as_many, new.0))
        | inr last ↦ subst (λ (k : Slot S). IfSome k.live (λ a. m.at ≡ a.value)) new.1
            (subst (λ (k : Node S). IfSome s.live (λ a. k.at ≡ a.value)) last.1 is)
      ]
    ]

  -- the first alone
  module _ (before slots : List (Slot S)) (s : Slot S) (none : before ≡ []) (are : slots ≡ before ++ (s ∷ [])) where
    alone : slots ≡ s ∷ []
    alone = are ∙ ap (λ (x : List (Slot S)). x ++ (s ∷ [])) none

    pub one_met : s.from ≡ 0 → s.by ≡ 0 → met next start slots ≡ first start ∷ []
    unfolding met_behind
    one_met from by = ap (met next start) alone ∙ (λ i. record { at = start; from = from i; by = by i } ∷ [])

    pub one_live : s.live ≡ None → AreLive (met next start slots) slots
    unfolding AreLive
    one_live empty = λ i t n at there. elim (get_either [] s i t (subst (λ (x : List (Slot S)). slice_get x i ≡ Some t) alone at)) [
      | inl old ↦ absurd (none-some t old)
      | inr last ↦ subst (λ (k : Slot S). IfSome k.live (λ a. n.at ≡ a.value)) last.1
          (subst (λ (o : Option _). IfSome o (λ a. n.at ≡ a.value)) (sym empty) tt)
    ]

  -- ---- one that is let go of

  behind_set : (nodes : List (Node S)) (slots : List (Slot S)) (place : ℕ) (s t : Slot S) → slice_get slots place ≡ Some s → t.from ≡ s.from → t.by ≡ s.by
      → met_behind next start nodes (slice_set slots place t) ≡ met_behind next start nodes slots
  unfolding met_behind
  behind_set nodes [] place s t there from by = absurd (none-some s there)
  behind_set nodes (u ∷ slots) zero s t there from by =
      let is : u ≡ s = same_Some u s there in
      ap (λ (n : Node S). met_behind next start (nodes ++ (n ∷ [])) slots) (λ i. record {
        at = state_from next start (slice_get nodes ((from ∙ (λ j. (sym is j).from)) i)) ((by ∙ (λ j. (sym is j).by)) i);
        from = (from ∙ (λ j. (sym is j).from)) i;
        by = (by ∙ (λ j. (sym is j).by)) i;
      })
  behind_set nodes (u ∷ slots) (suc place) s t there from by = behind_set (nodes ++ (node_of next start nodes u ∷ [])) slots place s t there from by

  -- nothing is told of a slot but the way
  pub let_go_met : (slots : List (Slot S)) (place : ℕ) (s t : Slot S) → place < length slots → s ≡ get_or slots place s → t ≡ emptied s
      → met next start (slice_set slots place t) ≡ met next start slots
  let_go_met slots place s t within read is =
      behind_set [] slots place s t (slice_get_read slots _ place s refl within read) (λ i. (is i).from) (λ i. (is i).by)

set_either : {X : Type 0} (xs : List X) (place : ℕ) (x : X) (i : ℕ) (y : X) → slice_get (slice_set xs place x) i ≡ Some y → (y ≡ x) ⊎ (slice_get xs i ≡ Some y)
set_either [] place x i y there = inr there
set_either (z ∷ xs) zero x zero y there = inl (sym (same_Some x y there))
set_either (z ∷ xs) zero x (suc i) y there = inr there
set_either (z ∷ xs) (suc place) x zero y there = inr there
set_either (z ∷ xs) (suc place) x (suc i) y there = set_either xs place x i y there

module _ {S : Type 0} (nodes : List (Node S)) (slots : List (Slot S)) (live : AreLive nodes slots) where
  pub let_go_live : (place : ℕ) (t : Slot S) → t.live ≡ None → AreLive nodes (slice_set slots place t)
  unfolding AreLive
  let_go_live place t none = λ i s n at there. elim (set_either slots place t i s at) [
    | inl is ↦ subst (λ (o : Option _). IfSome o (λ a. n.at ≡ a.value)) (sym none ∙ (λ j. (sym is j).live)) tt
    | inr old ↦ live i s n old there
  ]

  -- a slot with a state has that of its place
  pub live_there : (place : ℕ) (s : Slot S) (at : Box S Global) → slice_get slots place ≡ Some s → s.live ≡ Some at
      → IfSome (slice_get nodes place) (λ n. at.value ≡ n.at)
  unfolding AreLive
  live_there place s at there is = here (slice_get nodes place) refl
    where
      here : (found : Option (Node S)) → slice_get nodes place ≡ found → IfSome found (λ n. at.value ≡ n.at)
      here None none = tt
      here (Some n) some = sym (subst (λ (o : Option (Box S Global)). IfSome o (λ a. n.at ≡ a.value)) is (live place s n there some))

  pub live_here : (seen : List (Node S)) → nodes ≡ seen → (place : ℕ) (s : Slot S) (at : Box S Global) (value : S) → slice_get slots place ≡ Some s
      → s.live ≡ Some at → value ≡ at.value → IfSome (slice_get seen place) (λ n. value ≡ n.at)
  live_here seen are place s at value there is same =
      subst (λ (v : S). IfSome (slice_get seen place) (λ n. v ≡ n.at)) (sym same)
      (subst (λ (x : List (Node S)). IfSome (slice_get x place) (λ n. at.value ≡ n.at)) are (live_there place s at there is))

-- a state that is like the one at the place
pub stands_there : {S : Type 0} (ready : S → List ℕ) (next : S → ℕ → S) (nodes : List (Node S)) (place : ℕ) (at other : S) → place < length nodes
    → IfSome (slice_get nodes place) (λ n. at ≡ n.at) → at ≡ other → StandsAt ready next nodes place other
stands_there ready next nodes place at other within is same =
    let (n, there) = there_is nodes place within in record {
      node = n;
      there = there;
      is = sym (subst (λ (found : Option (Node _)). IfSome found (λ m. at ≡ m.at)) there is) ∙ same;
    }

-- the slot that is read at a place, and the state that stands there
module _ {S : Type 0} (next : S → ℕ → S) (start : S) (slots : List (Slot S)) (nodes : List (Node S)) (are : met next start slots ≡ nodes) where
  pub as_many_here : length slots ≡ length nodes
  as_many_here = sym (as_many next start slots) ∙ ap length are

  pub way_here : (place : ℕ) (s : Slot S) → s ≡ get_or slots place s → place < length nodes
      → (n : Node S) × (slice_get nodes place ≡ Some n) × (n.from ≡ s.from) × (n.by ≡ s.by)
  way_here place s read below =
      let (n, there) = there_is nodes place below in
      let way = way_of next start slots place n s (ap (λ (x : List (Node S)). slice_get x place) are ∙ there)
      (slice_get_read slots _ place s refl (omega (arith, below, as_many_here)) read) in
      (n, there, way.0, way.1)

-- the turns from the first state lead to the one at the place
pub leads_there : {S : Type 0} (ready : S → List ℕ) (next : S → ℕ → S) (start : S) (slots : List (Slot S)) (nodes : List (Node S))
    → met next start slots ≡ nodes → (place : ℕ) (turns : List ℕ) → LeadsTo ready next nodes 0 place turns
    → IfSome (slice_get nodes place) (λ n. after ready next start turns ≡ n.at)
leads_there ready next start slots nodes are place turns leads =
    let from : leads.from.at ≡ start = starts_there next start slots leads.from (ap (λ (x : List (Node _)). slice_get x 0) are ∙ leads.there) in
    subst (λ (found : Option (Node _)). IfSome found (λ n. after ready next start turns ≡ n.at)) (sym leads.to_there)
    (ap (λ (s : _). after ready next s turns) (sym from) ∙ leads.leads)
