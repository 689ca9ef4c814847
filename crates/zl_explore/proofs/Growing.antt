-- What stays true as states are met.
use Rattle.std.proofs.Common.{List, Some, [], ap, append-nil, arith, length, refl, slice_get, subst, sym, ℕ, ◌++◌, ◌+◌, ◌<◌, ◌∙◌}
use Rattle.std.proofs.Common.{IfSome, Option, ◌∷◌, ◌≡◌, ◌≤◌}
use Rattle.std.proofs.lemmas.Option.{same_Some, slice_get_within}
use Rattle.std.proofs.lemmas.List.{append_assoc}
use Rattle.std.proofs.lemmas.Bool.{cases_lt}
use mathlib.Core.Logic.{inl, inr}
use Rattle.zl_explore.specs.Paths.{IsIn}
use Rattle.zl_explore.specs.Nodes.{IsMet, IsRooted, ComesFrom, IsTree, IsWidened, AreWidened, Extends, Grows, Stands}
use Rattle.zl_explore.specs.declared.met.Node.{Node}
use Rattle.zl_explore.proofs.Lists.{get_left, get_last, get_either, get_below, there_is}

module _ {S : Type 0} (ready : S → List ℕ) (next : S → ℕ → S) where
  pub met_more : (nodes more : List (Node S)) (s : S) → IsMet ready next nodes s → IsMet ready next (nodes ++ more) s
  met_more nodes more s met = record { place = met.place; node = met.node; there = get_left nodes more met.place met.node met.there; is = met.is }

  pub met_last : (nodes : List (Node S)) (n : Node S) → IsMet ready next (nodes ++ (n ∷ [])) n.at
  met_last nodes n = record { place = length nodes; node = n; there = get_last nodes n; is = refl }

  comes_more : (nodes more : List (Node S)) (place : ℕ) (n : Node S) → ComesFrom ready next nodes place n → ComesFrom ready next (nodes ++ more) place n
  comes_more nodes more place n comes = record {
    earlier = comes.earlier;
    node = comes.node;
    there = get_left nodes more n.from comes.node comes.there;
    is_ready = comes.is_ready;
    leads = comes.leads;
  }

  -- one more state that comes from an earlier one
  pub tree_push : (start : S) (nodes : List (Node S)) (n : Node S) → ComesFrom ready next nodes (length nodes) n → IsTree ready next start nodes
      → IsTree ready next start (nodes ++ (n ∷ []))
  tree_push start nodes n comes tree = record {
    root = tree.root;
    first = get_left nodes (n ∷ []) 0 tree.root tree.first;
    starts = tree.starts;
    others = λ place m above there. elim (get_either nodes n place m there) [
      | inl old ↦ comes_more nodes (n ∷ []) place m (tree.others place m above old)
      | inr new ↦ comes_more nodes (n ∷ []) place m (subst (λ (k : ℕ). ComesFrom ready next nodes k m) (sym new.0) (subst (λ
          (k : Node S). ComesFrom ready next nodes (length nodes) k) new.1 comes))
    ];
  }

  pub widened_more : (nodes more : List (Node S)) (count : ℕ) → count ≤ length nodes → AreWidened ready next nodes count
      → AreWidened ready next (nodes ++ more) count
  unfolding IsWidened AreWidened
  widened_more nodes more count few widened = λ i n below there p is_in.
      met_more nodes more (next n.at p) (widened i n below (get_below nodes more i n (omega (arith, below, few)) there) p is_in)

  pub stands_extends : (old : List (Node S)) (n : Node S) (new : List (Node S)) (place : ℕ) → Stands ready next old n new place → Extends old new
  stands_extends old n new place at = elim at.is [
    | inl same ↦ ([], same ∙ sym (append-nil old))
    | inr more ↦ (n ∷ [], more)
  ]

  module _ (old : List (Node S)) (place : ℕ) (pids : List ℕ) where
    pub grows_none : (new : List (Node S)) → new ≡ old → Grows ready next old place pids 0 new
    grows_none new same = record {
      more = [];
      items = same ∙ sym (append-nil old);
      tree = λ start tree. subst (λ (x : List (Node S)). IsTree ready next start x) (sym same) tree;
      taken = λ n i p there below at. absurd (omega (arith, below));
    }

    take_one : (count : ℕ) (pid : ℕ) (new : List (Node S)) → slice_get pids count ≡ Some pid
        → ((n : Node S) (i p : ℕ) → slice_get old place ≡ Some n → i < count → slice_get pids i ≡ Some p → IsMet ready next new (next n.at p))
        → ((n : Node S) → slice_get old place ≡ Some n → IsMet ready next new (next n.at pid))
        → (n : Node S) (i p : ℕ) → slice_get old place ≡ Some n → i < count + 1 → slice_get pids i ≡ Some p → IsMet ready next new (next n.at p)
    take_one count pid new is before here n i p there below at = elim (cases_lt i count) [
      | inl less ↦ before n i p there less at
      | inr more ↦
          let same : i ≡ count = omega (arith, below, more) in
          let pid_is : pid ≡ p = same_Some pid p (sym is ∙ subst (λ (k : ℕ). slice_get pids k ≡ Some p) same at) in
          subst (λ (q : ℕ). IsMet ready next new (next n.at q)) pid_is (here n there)
    ]

    -- the turn led to a state that was met
    pub grows_same : (count pid : ℕ) (new : List (Node S)) (n : Node S) → slice_get old place ≡ Some n → slice_get pids count ≡ Some pid
        → IsMet ready next new (next n.at pid) → Grows ready next old place pids count new → Grows ready next old place pids (count + 1) new
    grows_same count pid new n there is met grows = record {
      more = grows.more;
      items = grows.items;
      tree = grows.tree;
      taken = take_one count pid new is grows.taken (λ m m_there.
          subst (λ (k : Node S). IsMet ready next new (next k.at pid)) (same_Some n m (sym there ∙ m_there)) met);
    }

    -- it led to a new one
    pub grows_push : (count pid : ℕ) (new : List (Node S)) (n : Node S) (last : Node S) → slice_get old place ≡ Some n → slice_get pids count ≡ Some pid
        → IsIn (ready n.at) pid → last.at ≡ next n.at pid → last.from ≡ place → last.by ≡ pid
        → Grows ready next old place pids count new → Grows ready next old place pids (count + 1) (new ++ (last ∷ []))
    grows_push count pid new n last there is is_in leads from by grows =
        let there_new : slice_get new place ≡ Some n =
        subst (λ (x : List (Node S)). slice_get x place ≡ Some n) (sym grows.items) (get_left old grows.more place n there) in
        let comes : ComesFrom ready next new (length new) last = record {
          earlier = subst (λ (k : ℕ). k < length new) (sym from) (slice_get_within new place n there_new);
          node = n;
          there = subst (λ (k : ℕ). slice_get new k ≡ Some n) (sym from) there_new;
          is_ready = subst (λ (k : ℕ). IsIn (ready n.at) k) (sym by) is_in;
          leads = leads ∙ ap (next n.at) (sym by);
        } in record {
          more = grows.more ++ (last ∷ []);
          items = ap (λ (x : List (Node S)). x ++ (last ∷ [])) grows.items ∙ append_assoc old grows.more (last ∷ []);
          tree = λ start tree. tree_push start new last comes (grows.tree start tree);
          taken = take_one count pid (new ++ (last ∷ [])) is
              (λ m i p m_there below at. met_more new (last ∷ []) (next m.at p) (grows.taken m i p m_there below at))
              (λ m m_there. subst (λ (k : Node S). IsMet ready next (new ++ (last ∷ [])) (next k.at pid)) (same_Some n m (sym there ∙ m_there))
              (subst (λ (s : S). IsMet ready next (new ++ (last ∷ [])) s) leads (met_last new last)));
        }

    -- a turn to a state that stands at a place
    pub grows_one : (count pid target : ℕ) (mid new : List (Node S)) (n last : Node S) → slice_get old place ≡ Some n → slice_get pids count ≡ Some pid
        → IsIn (ready n.at) pid → last.at ≡ next n.at pid → last.from ≡ place → last.by ≡ pid → Stands ready next mid last new target
        → Grows ready next old place pids count mid → Grows ready next old place pids (count + 1) new
    grows_one count pid target mid new n last there is is_in leads from by at grows = elim at.is [
      | inl same ↦ subst (Grows ready next old place pids (count + 1)) (sym same)
          (grows_same count pid mid n there is (subst (λ (x : List (Node S)). IsMet ready next x (next n.at pid)) same met) grows)
      | inr more ↦ subst (Grows ready next old place pids (count + 1)) (sym more) (grows_push count pid mid n last there is is_in leads from by grows)
    ]
      where
        met : IsMet ready next new (next n.at pid)
        met = record { place = target; node = at.stands.node; there = at.stands.there; is = at.stands.is ∙ leads }

    pub grows_extends : (count : ℕ) (new : List (Node S)) → Grows ready next old place pids count new → Extends old new
    grows_extends count new grows = (grows.more, grows.items)

    pub grows_earlier : (count : ℕ) (new : List (Node S)) → place < length old → Grows ready next old place pids count new
        → AreWidened ready next old place → AreWidened ready next new place
    grows_earlier count new within grows widened =
        subst (λ (x : List (Node S)). AreWidened ready next x place) (sym grows.items) (widened_more old grows.more place (omega (arith, within)) widened)

    -- all turns were taken
    pub grows_widened : (count : ℕ) (new : List (Node S)) (n : Node S) → slice_get old place ≡ Some n → pids ≡ ready n.at → length pids ≤ count
        → Grows ready next old place pids count new → AreWidened ready next old place → AreWidened ready next new (place + 1)
    unfolding IsWidened AreWidened
    grows_widened count new n there are enough grows widened = λ i m below m_there p is_in. elim (cases_lt i place) [
      | inl less ↦ grows_earlier count new (slice_get_within old place n there) grows widened i m less m_there p is_in
      | inr more ↦
          let same : i ≡ place = omega (arith, below, more) in
          let there_new : slice_get new i ≡ Some n =
          subst (λ (k : ℕ). slice_get new k ≡ Some n) (sym same)
          (subst (λ (x : List (Node S)). slice_get x place ≡ Some n) (sym grows.items) (get_left old grows.more place n there)) in
          let m_is : n ≡ m = same_Some n m (sym there_new ∙ m_there) in
          let at : slice_get (ready n.at) is_in.0 ≡ Some p = subst (λ (k : Node S). slice_get (ready k.at) is_in.0 ≡ Some p) (sym m_is) is_in.1 in
          let at_pid : slice_get pids is_in.0 ≡ Some p = subst (λ (x : List ℕ). slice_get x is_in.0 ≡ Some p) (sym are) at in
          subst (λ (k : Node S). IsMet ready next new (next k.at p)) m_is
          (grows.taken n is_in.0 p there (omega (arith, enough, slice_get_within pids is_in.0 p at_pid)) at_pid)
    ]

  -- the start alone
  pub tree_one : (start : S) (before new : List (Node S)) (root : Node S) → before ≡ [] → new ≡ before ++ (root ∷ []) → root.at ≡ start
      → IsTree ready next start new
  tree_one start before new root none is starts =
      let new_is : new ≡ root ∷ [] = is ∙ ap (λ (x : List (Node S)). x ++ (root ∷ [])) none in
      subst (λ (x : List (Node S)). IsTree ready next start x) (sym new_is) (record {
        root = root;
        first = refl;
        starts = starts;
        others = λ place n above there. absurd (omega (arith, above, slice_get_within (root ∷ []) place n there));
      })

  pub widened_none : (nodes : List (Node S)) → AreWidened ready next nodes 0
  unfolding AreWidened
  widened_none nodes = λ i n below there. absurd (omega (arith, below))

  pub widened_all : (nodes : List (Node S)) (count : ℕ) → length nodes ≤ count → AreWidened ready next nodes count → AreWidened ready next nodes
      (length nodes)
  unfolding AreWidened
  widened_all nodes count enough widened = λ i n below there. widened i n (omega (arith, below, enough)) there

  -- the state at the place still stands there
  module _ (old : List (Node S)) (place : ℕ) (pids : List ℕ) (count : ℕ) (new : List (Node S)) where
    pub still_there : (n : Node S) → slice_get old place ≡ Some n → Grows ready next old place pids count new → slice_get new place ≡ Some n
    still_there n there grows =
        subst (λ (x : List (Node S)). slice_get x place ≡ Some n) (sym grows.items) (get_left old grows.more place n there)

    pub still_within : place < length old → Grows ready next old place pids count new → place < length new
    still_within within grows =
        let (n, there) = there_is old place within in slice_get_within new place n (still_there n there grows)

    pub still_rooted : IsRooted ready next old → Grows ready next old place pids count new → IsRooted ready next new
    still_rooted (start, tree) grows = (start, grows.tree start tree)

  -- the state at the place, and who can go there
  pub ready_there : (nodes : List (Node S)) (place : ℕ) (pids : List ℕ) → place < length nodes → IfSome (slice_get nodes place) (λ n. pids ≡ ready n.at)
      → (n : Node S) × (slice_get nodes place ≡ Some n) × (pids ≡ ready n.at)
  ready_there nodes place pids within are =
      let (n, there) = there_is nodes place within in
      (n, there, subst (λ (found : Option (Node S)). IfSome found (λ m. pids ≡ ready m.at)) there are)
