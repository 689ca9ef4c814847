-- What a search keeps as it goes on, and what follows of all orders once it is whole.
use Rattle.zl_code.proofs.Common.{Bool, IfNone, IfSome, IsTrue, List, None, Option, Some, [], ap, false}
use Rattle.zl_code.proofs.Common.{false≢true, is_some, length, length-append, map, refl, subst, sym, ℕ, ◌++◌}
use Rattle.zl_code.proofs.Common.{◌+◌, ◌<◌, ◌∙◌, ◌∷◌, ◌≡◌, ◌≤◌}
use Rattle.std.proofs.Common.{arith, slice_get}
use Rattle.std.proofs.lemmas.Bool.{cases_lt}
use Rattle.std.proofs.lemmas.Option.{none-some, same_Some, slice_get_within}
use mathlib.Core.Logic.{inl, inr}
use Rattle.zl_code.specs.declared.history.TraceItem.{TraceItem}
use Rattle.zl_calls.specs.World.{Machine, own_here}
use Rattle.zl_explore.specs.Bad.{Fits}
use Rattle.zl_explore.specs.GoingAhead.{Takes, most_ahead, reduced, start_of}
use Rattle.zl_explore.specs.Kept.{AreTold, Goes, IsBadOrMemory, IsEndAt, IsEndOf, IsWhole, SeesNext, doubling_at, goes_of, never_of, next_of}
use Rattle.zl_explore.specs.Kept.{search_of, sights_of, states_of, tells_of, told_of}
use Rattle.zl_explore.specs.Edges.{AreEdges, Comes, HaveEdges}
use Rattle.zl_explore.specs.Marks.{AllCome, AreWithin, IsEndlessPlace}
use Rattle.zl_explore.specs.Nodes.{AreWidened, Extends, IsTree, IsWidened, LeadsTo}
use Rattle.zl_explore.specs.Orders.{told_in}
use Rattle.zl_explore.specs.Part.{Part, is_of}
use Rattle.zl_explore.specs.Parts.{parted}
use Rattle.zl_explore.specs.Paths.{IsIn, IsPath, IsReached, after}
use Rattle.zl_explore.specs.Private.{IsLocal, IsStill, RestsStill}
use Rattle.zl_explore.specs.Quiet.{AreQuiet, IsBadTurnAt}
use Rattle.zl_explore.specs.Running.{ready_of, rested_machine, told_at, turned}
use Rattle.zl_explore.specs.Sights.{AreClear, AreSeen, IsBadWorld, Sees}
use Rattle.zl_explore.specs.Searching.{BeganWith, IsBadOrder, IsEnd, IsKnown, Search, States}
use Rattle.zl_explore.specs.Telling.{Leads, TellsAll, TellsClear, TellsEndless, TellsNone, TellsPart}
use Rattle.zl_explore.specs.declared.bad.Bad.{Bad}
use Rattle.zl_explore.specs.declared.ends.BadTurn.{BadTurn}
use Rattle.zl_explore.specs.declared.ends.BadWorld.{BadWorld}
use Rattle.zl_explore.specs.declared.ends.End.{End}
use Rattle.zl_explore.specs.declared.ends.Next.{Next}
use Rattle.zl_explore.specs.declared.ends.Next.TheVariants as next
use Rattle.zl_explore.specs.declared.fact.Fact.{Fact}
use Rattle.zl_explore.specs.declared.kept.Kept.{Kept}
use Rattle.zl_explore.specs.declared.met.Node.{Node}
use Rattle.zl_explore.specs.declared.part.Parted.{Parted}
use Rattle.zl_explore.proofs.Growing.{ready_there, tree_one, widened_more, widened_none}
use Rattle.zl_explore.proofs.Lists.{get_below, get_last, get_left, there_is}
use Rattle.zl_explore.proofs.Edging.{have_end, have_grown}
use Rattle.zl_explore.proofs.Ending.{Ends, edges_within, ends_comes, node_reached}
use Rattle.zl_explore.proofs.Endless.{ends_reduced}
use Rattle.zl_explore.proofs.Hearing.{quiet_end, quiet_grown}
use Rattle.zl_explore.proofs.Machines.{is_bad, is_bad_world, is_end, is_endless}
use Rattle.zl_explore.proofs.Parts.{after_part, all_of, clear_of, come_on, ends_in_part, nobody_down, none_of, path_down, ready_down}
use Rattle.zl_explore.proofs.Private.{local_reduced, local_start, local_turns, rests_start}
use Rattle.zl_explore.proofs.Reduced.{good_too, reached_too}
use Rattle.zl_explore.proofs.Seeing.{clear_grown, clear_next}
use Rattle.zl_explore.proofs.Whole.{only_all, only_clear, only_come, only_none}

-- ---- the ends that were told

told_left : (told : List States) (x y : States) → IsIn told x → IsIn (told ++ (y ∷ [])) x
told_left told x y (i, there) = (i, get_left told (y ∷ []) i x there)

pub told_last : (told : List States) (x : States) → IsIn (told ++ (x ∷ [])) x
told_last told x = (length told, get_last told x)

module _ (nodes : List (Node (Parted Machine))) (count : ℕ) (told : List States) (are : AreTold nodes count told) where
  -- one more that was told
  pub told_more : (x : States) → AreTold nodes count (told ++ (x ∷ []))
  told_more x i n below there nobody of = told_left told _ x (are i n below there nobody of)

  -- more worlds that were met
  pub told_grown : (new : List (Node (Parted Machine))) → Extends nodes new → count ≤ length nodes → AreTold new count told
  told_grown new (more, is) within i n below there nobody of =
      are i n below (get_below nodes more i n (omega (arith, below, within)) (subst (λ x. slice_get x i ≡ Some n) is there)) nobody of

  -- one more that was gone on from
  pub told_next : ((n : Node (Parted Machine)) → slice_get nodes count ≡ Some n → goes_of n.at ≡ [] → IsTrue (is_of n.at.part n.at.gone)
      → IsIn told (states_of n.at.at)) → AreTold nodes (count + 1) told
  told_next here i n below there nobody of = elim (cases_lt i count) [
    | inl less ↦ are i n less there nobody of
    | inr more ↦
        let same : i ≡ count = omega (arith, below, more) in
        here n (subst (λ k. slice_get nodes k ≡ Some n) same there) nobody of
  ]

-- no turn leads on from an end
pub widened_end : (nodes : List (Node (Parted Machine))) (count : ℕ) → IsEndAt nodes count → AreWidened goes_of next_of nodes count
    → AreWidened goes_of next_of nodes (count + 1)
unfolding AreWidened IsWidened
widened_end nodes count end widened i n below there p (k, at) = elim (cases_lt i count) [
  | inl less ↦ widened i n less there p (k, at)
  | inr more ↦
      let same : i ≡ count = omega (arith, below, more) in
      let is : end.node ≡ n = same_Some end.node n (sym end.there ∙ subst (λ j. slice_get nodes j ≡ Some n) same there) in
      let none : goes_of n.at ≡ [] = subst (λ (m : Node (Parted Machine)). goes_of m.at ≡ []) is end.nobody in
      absurd (none-some p (subst (λ ks. slice_get ks k ≡ Some p) none at))
]

pub widened_grown : (old new : List (Node (Parted Machine))) (count : ℕ) → Extends old new → count ≤ length old → AreWidened goes_of next_of old count
    → AreWidened goes_of next_of new count
widened_grown old new count (more, is) within widened =
    subst (λ x. AreWidened goes_of next_of x count) (sym is) (widened_more goes_of next_of old more count within widened)

-- ---- what is told

-- turns that lead to a world lead there by own steps from the world where the search began
module _ (m root : Machine) (part : Part) (nodes : List (Node (Parted Machine))) (place : ℕ) (n : Node (Parted Machine))
    (there : slice_get nodes place ≡ Some n) (turns taken : List ℕ)
    (tree : IsTree goes_of next_of (parted part (start_of root)) nodes) (leads : LeadsTo goes_of next_of nodes 0 place turns)
    (takes : Takes root [] taken (after ready_of reduced (start_of root) turns)) (began : root ≡ rested_machine m) (still : IsStill (own_here m)) where
  path : IsPath ready_of turned (rested_machine m) taken
  path = subst (λ s. IsPath ready_of turned s taken) began (subst (IsPath ready_of turned root) (sym takes.items) takes.is_path)

  comes : after ready_of turned (rested_machine m) taken ≡ n.at.at
  comes =
      let from : leads.from.at ≡ parted part (start_of root) = (λ i. (same_Some leads.from tree.root (sym leads.there ∙ tree.first) i).at) ∙ tree.starts in
      ap (λ s. after ready_of turned s taken) (sym began)
      ∙ (ap (after ready_of turned root) takes.items
      ∙ (takes.leads
      ∙ (ap (λ (s : Parted Machine). s.at) (sym (after_part ready_of reduced turns (parted part (start_of root)))
      ∙ (ap (λ s. after goes_of next_of s turns) (sym from)
      ∙ (leads.leads ∙ (λ i. (same_Some leads.to n (sym leads.to_there ∙ there) i).at)))))))

  end_leads : ready_of n.at.at ≡ [] → IsEnd m.programs (own_here m) taken (told_in (own_here n.at.at))
  end_leads = is_end m n.at.at taken still.order path comes

  pub world_leads : (together : List Fact) → AreSeen together (sights_of n.at.at) → IsBadWorld m.programs (own_here m) taken together
  world_leads together = is_bad_world m n.at.at taken still.order path comes together

  bad_leads : (p : ℕ) (b : Bad) (x : TraceItem) → IsIn (goes_of n.at) p → told_at n.at.at p ≡ Some x → Fits b x
      → IsBadOrder m.programs (own_here m) (taken ++ (p ∷ [])) b
  bad_leads p b x is_in = is_bad m n.at.at taken still.order path comes p b x (ready_down ready_of reduced n.at p is_in)

-- what is seen in the next world
pub sees_at : (k : Kept) (found : Option (List Fact)) (n : Node (Parted Machine)) → slice_get k.nodes.items k.widened ≡ Some n → SeesNext k found
    → Sees (never_of k) (sights_of n.at.at) found
sees_at k found n there sees = subst (λ (at : Option (Node (Parted Machine))). IfSome at (λ m. Sees (never_of k) (sights_of m.at.at) found)) there sees

pub sees_by : (k : Kept) (found : Option (List Fact)) (n : Node (Parted Machine)) → slice_get k.nodes.items k.widened ≡ Some n
    → Sees (never_of k) (sights_of n.at.at) found → SeesNext k found
sees_by k found n there sees = subst (λ (at : Option (Node (Parted Machine))). IfSome at (λ m. Sees (never_of k) (sights_of m.at.at) found)) (sym there) sees

-- ---- what is kept

-- the start alone
pub whole_one : (k : Kept) (root : Node (Parted Machine)) → RestsStill k.root → k.nodes.items ≡ root ∷ []
    → root.at ≡ parted k.part (start_of k.root) → k.widened ≡ 0 → k.course.edges.items ≡ [] → IsWhole k
unfolding AreEdges AreQuiet HaveEdges
whole_one k root rests items starts none no_edges = record {
  rests = rests;
  tree = tree_one goes_of next_of (parted k.part (start_of k.root)) [] k.nodes.items root refl items starts;
  widened = rw none (widened_none goes_of next_of k.nodes.items);
  told = λ i n below there nobody of. absurd (omega (arith, below, none));
  edges = λ edge (i, there). absurd (none-some edge (subst (λ (xs : List (ℕ × ℕ)). slice_get xs i ≡ Some edge) no_edges there));
  have_edges = λ i n p below. absurd (omega (arith, below, none));
  quiet = λ i n p below. absurd (omega (arith, below, none));
  clear = λ i n below. absurd (omega (arith, below, none));
  within = omega (arith, none);
}

module _ (old new : Kept) (whole : IsWhole old) (root : new.root ≡ old.root) (part : new.part ≡ old.part)
    (never : new.never ≡ old.never)
    (tree : (start : Parted Machine) → IsTree goes_of next_of start old.nodes.items → IsTree goes_of next_of start new.nodes.items)
    (edges : AreEdges goes_of next_of old.nodes.items old.course.edges.items → AreEdges goes_of next_of new.nodes.items new.course.edges.items)
    (longer : Extends old.course.edges.items new.course.edges.items) where
  -- more worlds, none of which was gone on from
  pub whole_grown : Extends old.nodes.items new.nodes.items → told_of new ≡ told_of old → new.widened ≡ old.widened → IsWhole new
  whole_grown extends told same = record {
    rests = rw root whole.rests;
    tree = rw (root, part) (tree (parted old.part (start_of old.root)) whole.tree);
    widened = rw same (widened_grown old.nodes.items new.nodes.items old.widened extends whole.within whole.widened);
    told = rw (same, told) (told_grown old.nodes.items old.widened (told_of old) whole.told new.nodes.items extends whole.within);
    edges = edges whole.edges;
    have_edges = rw same (have_grown goes_of next_of old.nodes.items new.nodes.items old.course.edges.items new.course.edges.items old.widened extends
        longer whole.within whole.have_edges);
    quiet = rw (same, never) (quiet_grown goes_of tells_of old.never.bad.items old.nodes.items new.nodes.items old.widened extends whole.within whole.quiet);
    clear = rw (same, never) (clear_grown sights_of (never_of old) old.nodes.items new.nodes.items old.widened extends whole.within whole.clear);
    within = omega (arith, same, whole.within, ap length extends.1, length-append old.nodes.items extends.0);
  }

  -- all turns from one more were taken, in which somebody is ready
  pub whole_widened : Extends old.nodes.items new.nodes.items → told_of new ≡ told_of old → new.widened ≡ old.widened + 1
      → (AreWidened goes_of next_of old.nodes.items old.widened → AreWidened goes_of next_of new.nodes.items (old.widened + 1))
      → (AreQuiet goes_of tells_of old.never.bad.items old.nodes.items old.widened
      → AreQuiet goes_of tells_of old.never.bad.items new.nodes.items (old.widened + 1))
      → (HaveEdges goes_of next_of old.nodes.items old.course.edges.items old.widened
      → HaveEdges goes_of next_of new.nodes.items new.course.edges.items (old.widened + 1))
      → SeesNext old None
      → (n : Node (Parted Machine)) → slice_get old.nodes.items old.widened ≡ Some n → (goes_of n.at ≡ [] → ⊥) → IsWhole new
  whole_widened extends told same taken heard had sees n there some =
      let within : old.widened < length old.nodes.items = slice_get_within old.nodes.items old.widened n there in
      let there_new : slice_get new.nodes.items old.widened ≡ Some n =
      subst (λ x. slice_get x old.widened ≡ Some n) (sym extends.1) (get_left old.nodes.items extends.0 old.widened n there) in record {
        rests = rw root whole.rests;
        tree = rw (root, part) (tree (parted old.part (start_of old.root)) whole.tree);
        widened = rw same (taken whole.widened);
        told = rw (same, told) (told_next new.nodes.items old.widened (told_of old)
            (told_grown old.nodes.items old.widened (told_of old) whole.told new.nodes.items extends whole.within)
            (λ m at nobody of. absurd (some ((λ i. goes_of (same_Some n m (sym there_new ∙ at) i).at) ∙ nobody))));
        edges = edges whole.edges;
        have_edges = rw same (had whole.have_edges);
        quiet = rw (same, never) (heard whole.quiet);
        clear = rw (same, never) (clear_next sights_of (never_of old) new.nodes.items old.widened n there_new (sees_at old None n there sees)
            (clear_grown sights_of (never_of old) old.nodes.items new.nodes.items old.widened extends whole.within whole.clear));
        within = omega (arith, same, within, ap length extends.1, length-append old.nodes.items extends.0);
      }

-- from one more nobody goes on, and where it is an end, its states were told
pub whole_ended : (old new : Kept) → IsWhole old → new.root ≡ old.root → new.part ≡ old.part → new.never ≡ old.never
    → new.nodes.items ≡ old.nodes.items → new.course ≡ old.course → new.widened ≡ old.widened + 1
    → (end : IsEndAt old.nodes.items old.widened)
    → AreTold old.nodes.items old.widened (told_of new)
    → (IsTrue (is_of end.node.at.part end.node.at.gone) → IsIn (told_of new) (states_of end.node.at.at)) → SeesNext old None → IsWhole new
whole_ended old new whole root part never nodes course same end told inside sees = record {
  rests = rw root whole.rests;
  tree = rw (root, part, nodes) whole.tree;
  widened = rw (nodes, same) (widened_end old.nodes.items old.widened end whole.widened);
  told = rw (nodes, same) (told_next old.nodes.items old.widened (told_of new) told
      (λ m at nobody. subst (λ (x : Node (Parted Machine)). IsTrue (is_of x.at.part x.at.gone) → IsIn (told_of new) (states_of x.at.at))
      (same_Some end.node m (sym end.there ∙ at)) inside));
  edges = rw (nodes, course) whole.edges;
  have_edges = rw (nodes, course, same) (have_end goes_of next_of old.nodes.items old.course.edges.items old.widened end.node end.there end.nobody
      whole.have_edges);
  quiet = rw (nodes, same, never) (quiet_end goes_of tells_of old.never.bad.items old.nodes.items old.widened end.node end.there end.nobody whole.quiet);
  clear = rw (nodes, same, never) (clear_next sights_of (never_of old) old.nodes.items old.widened end.node end.there
      (sees_at old None end.node end.there sees) whole.clear);
  within = omega (arith, same, ap length nodes, slice_get_within old.nodes.items old.widened end.node end.there);
}

-- where nobody goes on from the world at the place, it is an end
pub end_is : (nodes : List (Node (Parted Machine))) (place : ℕ) (pids : List ℕ) → place < length nodes
    → IfSome (slice_get nodes place) (λ n. pids ≡ goes_of n.at) → length pids ≡ 0 → IsEndAt nodes place
end_is nodes place [] within are none =
    let (n, there, ready) = ready_there goes_of next_of nodes place [] within are in record { node = n; there = there; nobody = sym ready }
end_is nodes place (p ∷ pids) within are none = absurd (omega (arith, none))

pub end_states : (nodes : List (Node (Parted Machine))) (place : ℕ) (end : IsEndAt nodes place) (found : Option States)
    → IfSome (slice_get nodes place) (λ n. IsEndOf found n.at) → IsEndOf found end.node.at
end_states nodes place end found are =
    subst (λ (at : Option (Node (Parted Machine))). IfSome at (λ n. IsEndOf found n.at)) end.there are

-- ---- what is told as it goes on

-- an end that is told
pub end_told : (old new : Kept) → IsWhole old → (end : IsEndAt old.nodes.items old.widened) (e : End) (turns : List ℕ)
    → IsEndOf (Some e.states.items) end.node.at → LeadsTo goes_of next_of old.nodes.items 0 old.widened turns
    → Takes old.root [] e.turns.items (after ready_of reduced (start_of old.root) turns) → new.root ≡ old.root
    → new.part ≡ old.part → new.never ≡ old.never → SeesNext old None → new.nodes ≡ old.nodes
    → new.course ≡ old.course → new.widened ≡ old.widened + 1 → new.most ≡ old.most → told_of new ≡ told_of old ++ (e.states.items ∷ []) → Goes old
    (Some (next.End e)) new
end_told old new whole end e turns is leads takes root part never sees nodes course widened most told = record {
  whole = whole_ended old new whole root part never (λ i. (nodes i).items) course widened end
      (subst (AreTold old.nodes.items old.widened) (sym told) (told_more old.nodes.items old.widened (told_of old) whole.told e.states.items))
      (λ of. rw told (subst (λ s. IsIn (told_of old ++ (e.states.items ∷ [])) s) is.1 (told_last (told_of old) e.states.items))) sees;
  root = root;
  part = part;
  told = told;
  leads = λ m still began.
      subst (IsEnd m.programs (own_here m) e.turns.items) (sym is.1)
      (end_leads m old.root old.part old.nodes.items old.widened end.node end.there turns e.turns.items whole.tree leads takes began still
      (nobody_down ready_of reduced end.node.at is.0 end.nobody));
  moves = widened;
  most = most;
  cut = tt;
  never = never;
}

-- an item that may not be
pub bad_told : (k : Kept) → IsWhole k → (pid : ℕ) (one : Bad) → (at : IsBadTurnAt goes_of tells_of k.never.bad.items k.nodes.items k.widened pid one)
    → (turns taken : List ℕ) → LeadsTo goes_of next_of k.nodes.items 0 k.widened turns → Takes k.root [] taken (after ready_of reduced (start_of
    k.root) turns)
    → (b : BadTurn) → b.turns.items ≡ taken ++ (pid ∷ []) → b.bad ≡ one → Leads (Some (next.Bad b)) (search_of k)
bad_told k whole pid one at turns taken leads takes b items same = record {
  is_in = subst (λ (x : Bad). IsIn k.never.bad.items x) (sym same) at.names.is_in;
  leads = λ m still began. subst (λ (t : List ℕ). IsBadOrder m.programs (own_here m) t b.bad) (sym items)
      (subst (λ (x : Bad). IsBadOrder m.programs (own_here m) (taken ++ (pid ∷ [])) x) (sym same)
      (bad_leads m k.root k.part k.nodes.items k.widened at.node at.there turns taken whole.tree leads takes began still pid one at.names.told_item
      at.is_ready at.names.is_told at.names.fits));
}

-- a world that may not be
pub world_told : (k : Kept) → IsWhole k → (b : BadWorld) → SeesNext k (Some b.together.items) → (n : Node (Parted Machine))
    → slice_get k.nodes.items k.widened ≡ Some n → (turns : List ℕ) → LeadsTo goes_of next_of k.nodes.items 0 k.widened turns
    → Takes k.root [] b.turns.items (after ready_of reduced (start_of k.root) turns) → Leads (Some (next.BadWorld b)) (search_of k)
world_told k whole b sees n there turns leads takes =
    let seen = sees_at k (Some b.together.items) n there sees in record {
      is_in = seen.0;
      leads = λ m still began.
          world_leads m k.root k.part k.nodes.items k.widened n there turns b.turns.items whole.tree leads takes began still b.together.items seen.1;
    }

-- where the search began tells to what an end belongs
pub leads_from : (n : Option Next) (s s2 : Search) → s2.root ≡ s.root → s2.bad ≡ s.bad → s2.never ≡ s.never → Leads n s2 → Leads n s
leads_from None s s2 root bad never leads = tt
leads_from (Some (next.End e)) s s2 root bad never leads = λ m still began. leads m still (root ∙ began)
leads_from (Some (next.Bad b)) s s2 root bad never leads = record {
  is_in = subst (λ (xs : List Bad). IsIn xs b.bad) bad leads.is_in;
  leads = λ m still began. leads.leads m still (root ∙ began);
}
leads_from (Some (next.BadWorld b)) s s2 root bad never leads = record {
  is_in = subst (λ (xs : List (List Fact)). IsIn xs b.together.items) never leads.is_in;
  leads = λ m still began. leads.leads m still (root ∙ began);
}
leads_from (Some (next.All endless)) s s2 root bad never leads = tt
leads_from (Some next.Doubled) s s2 root bad never leads = tt
leads_from (Some next.Cut) s s2 root bad never leads = tt
leads_from (Some next.Memory) s s2 root bad never leads = tt

pub lists_same : (old new : Kept) → new.never ≡ old.never → never_of new ≡ never_of old
lists_same old new never i = map (λ together. together.items) (never i).together.items

-- the search stops at an item or a world that may not be, or as it wants memory
pub bad_goes : (old new : Kept) (n : Next) → IsBadOrMemory n → IsWhole new → new.root ≡ old.root → new.part ≡ old.part
    → told_of new ≡ told_of old → new.most ≡ old.most
    → new.never ≡ old.never → Leads (Some n) (search_of new) → Goes old (Some n) new
bad_goes old new (next.Bad b) which whole root part told most never leads = record {
  whole = whole;
  root = root;
  part = part;
  told = told;
  leads = leads_from (Some (next.Bad b)) (search_of old) (search_of new) root (λ i. (never i).bad.items) (lists_same old new never) leads;
  moves = tt;
  most = most;
  cut = tt;
  never = never;
}
bad_goes old new (next.BadWorld b) which whole root part told most never leads = record {
  whole = whole;
  root = root;
  part = part;
  told = told;
  leads = leads_from (Some (next.BadWorld b)) (search_of old) (search_of new) root (λ i. (never i).bad.items) (lists_same old new never) leads;
  moves = tt;
  most = most;
  cut = tt;
  never = never;
}
bad_goes old new next.Memory which whole root part told most never leads = record {
  whole = whole;
  root = root;
  part = part;
  told = told;
  leads = tt;
  moves = tt;
  most = most;
  cut = tt;
  never = never;
}
bad_goes old new (next.End e) which whole root part told most never leads = absurd which
bad_goes old new (next.All endless) which whole root part told most never leads = absurd which
bad_goes old new next.Doubled which whole root part told most never leads = absurd which
bad_goes old new next.Cut which whole root part told most never leads = absurd which

-- when it says next that worlds have doubled tells nothing of them
pub whole_doubling : (k : Kept) (worlds : ℕ) → IsWhole k → IsWhole (doubling_at k worlds)
whole_doubling k worlds whole = record {
  rests = whole.rests;
  tree = whole.tree;
  widened = whole.widened;
  told = whole.told;
  edges = whole.edges;
  have_edges = whole.have_edges;
  quiet = whole.quiet;
  clear = whole.clear;
  within = whole.within;
}

-- nothing changes where memory is refused as an end is kept
pub memory_goes : (old new : Kept) → IsWhole old → new.root ≡ old.root → new.part ≡ old.part → new.never ≡ old.never → new.nodes ≡ old.nodes
    → new.course ≡ old.course → new.widened ≡ old.widened → new.most ≡ old.most → told_of new ≡ told_of old → Goes old (Some next.Memory) new
memory_goes old new whole root part never nodes course widened most told = record {
  whole = record {
    rests = rw root whole.rests;
    tree = rw (root, part, nodes) whole.tree;
    widened = rw (nodes, widened) whole.widened;
    told = rw (nodes, widened, told) whole.told;
    edges = rw (nodes, course) whole.edges;
    have_edges = rw (nodes, course, widened) whole.have_edges;
    quiet = rw (nodes, widened, never) whole.quiet;
    clear = rw (nodes, widened, never) whole.clear;
    within = rw (nodes, widened) whole.within;
  };
  root = root;
  part = part;
  told = told;
  leads = tt;
  moves = tt;
  most = most;
  cut = tt;
  never = never;
}

-- where all worlds were gone on from, that is known of the orders of the part
module _ (k : Kept) (whole : IsWhole k) (enough : length k.nodes.items ≤ k.widened) where
  same_count : k.widened ≡ length k.nodes.items
  same_count = omega (arith, enough, whole.within)

  all_widened : AreWidened goes_of next_of k.nodes.items (length k.nodes.items)
  all_widened = subst (λ (n : ℕ). AreWidened goes_of next_of k.nodes.items n) same_count whole.widened

  all_have : HaveEdges goes_of next_of k.nodes.items k.course.edges.items (length k.nodes.items)
  all_have = subst (λ (n : ℕ). HaveEdges goes_of next_of k.nodes.items k.course.edges.items n) same_count whole.have_edges

  pub all_within : AreWithin k.course.edges.items (length k.nodes.items)
  all_within = edges_within goes_of next_of k.nodes.items k.course.edges.items whole.edges

  module _ (m : Machine) (still : IsStill (own_here m)) (began : BeganWith m (search_of k)) where
    tree_here : IsTree goes_of next_of (parted k.part (start_of (rested_machine m))) k.nodes.items
    tree_here = subst (λ s. IsTree goes_of next_of (parted k.part (start_of s)) k.nodes.items) began whole.tree

    known_by : (endless : Bool) → (endless ≡ false → AllCome k.course.edges.items (length k.nodes.items))
        → IsKnown m k.part (told_of k) k.never.bad.items (never_of k) endless
    known_by endless come = record {
      all = all_of ready_of reduced k.part (start_of (rested_machine m)) k.nodes.items tree_here all_widened states_of (told_of k)
          (subst (λ (n : ℕ). AreTold k.nodes.items n (told_of k)) same_count whole.told);
      none = none_of ready_of reduced k.part (start_of (rested_machine m)) k.nodes.items tree_here all_widened told_at k.never.bad.items
          (subst (λ (n : ℕ). AreQuiet goes_of tells_of k.never.bad.items k.nodes.items n) same_count whole.quiet);
      clear = clear_of ready_of reduced k.part (start_of (rested_machine m)) k.nodes.items tree_here all_widened sights_of (never_of k)
          (subst (λ (n : ℕ). AreClear sights_of (never_of k) k.nodes.items n) same_count whole.clear);
      come = λ none. come_on ready_of reduced k.part (start_of (rested_machine m)) k.nodes.items tree_here all_widened k.course.edges.items whole.edges
          all_have (come none);
    }

    -- who comes to an end, does by edges
    module _ (place : ℕ) (n : Node (Parted Machine)) (there : slice_get k.nodes.items place ≡ Some n) where
      reached : IsReached ready_of reduced (start_of (rested_machine m)) n.at.at
      reached =
          let to = node_reached goes_of next_of k.nodes.items (parted k.part (start_of (rested_machine m))) tree_here place n there in record {
            turns = to.turns;
            is_path = path_down ready_of reduced to.turns (parted k.part (start_of (rested_machine m))) to.is_path;
            leads = ap (λ (s : Parted Machine). s.at)
                (sym (after_part ready_of reduced to.turns (parted k.part (start_of (rested_machine m)))) ∙ to.leads);
          }

      own_reached : IsReached ready_of turned (rested_machine m) n.at.at
      own_reached = reached_too ready_of turned RestsStill IsLocal local_turns reduced (local_reduced most_ahead) (rested_machine m)
          (start_of (rested_machine m)) (rests_start m still) (local_start most_ahead (rested_machine m) (rests_start m still)) n.at.at reached

      rests_there : RestsStill n.at.at
      rests_there = good_too ready_of turned RestsStill IsLocal local_turns reduced (local_reduced most_ahead) (rested_machine m)
          (start_of (rested_machine m)) (rests_start m still) (local_start most_ahead (rested_machine m) (rests_start m still)) n.at.at reached

      comes_by : Ends ready_of turned n.at.at → Comes k.course.edges.items place
      comes_by ends = ends_comes goes_of next_of k.nodes.items k.course.edges.items whole.edges all_have place n there
          (ends_in_part ready_of reduced n.at
          (ends_reduced ready_of turned RestsStill IsLocal local_turns reduced (local_reduced most_ahead) n.at.at rests_there ends))

  -- where a place comes to no end, or each comes to one
  module _ (found : Option ℕ) (some : IfSome found (IsEndlessPlace k.course.edges.items (length k.nodes.items)))
      (none : IfNone found (AllCome k.course.edges.items (length k.nodes.items))) where
    all_come : (at : Option ℕ) → found ≡ at → is_some found ≡ false → AllCome k.course.edges.items (length k.nodes.items)
    all_come None is off = subst (λ (x : Option ℕ). IfNone x (AllCome k.course.edges.items (length k.nodes.items))) is none
    all_come (Some place) is off = absurd (false≢true (sym off ∙ ap is_some is))

    pub known_here : TellsPart (next.All (is_some found)) (search_of k)
    known_here = λ m still began. known_by m still began (is_some found) (all_come found refl)

    pub all_here : TellsAll (next.All (is_some found)) (search_of k)
    all_here = λ only m still began. only_all m still k.part only (told_of k) k.never.bad.items (never_of k) (is_some found) (known_here m still began)

    pub none_here : TellsNone (next.All (is_some found)) (search_of k)
    none_here = λ only m still began. only_none m still k.part only (told_of k) k.never.bad.items (never_of k) (is_some found) (known_here m still began)

    pub clear_here : TellsClear (next.All (is_some found)) (search_of k)
    clear_here = λ only m still began.
        only_clear m still k.part only (told_of k) k.never.bad.items (never_of k) (is_some found) (known_here m still began)

    endless_by : (at : Option ℕ) → found ≡ at → TellsEndless (next.All (is_some found)) (search_of k)
    endless_by (Some place) is = rw is (λ m still began.
        let at : IsEndlessPlace k.course.edges.items (length k.nodes.items) place =
        subst (λ (x : Option ℕ). IfSome x (IsEndlessPlace k.course.edges.items (length k.nodes.items))) is some in
        let (n, there) = there_is k.nodes.items place at.0 in
        let own = own_reached m still began place n there in
        is_endless m n.at.at own.turns still.order own.is_path own.leads (λ ends. at.1 (comes_by m still began place n there ends)))
    endless_by None is = rw is (λ only m still began. only_come m still k.part only (told_of k) k.never.bad.items (never_of k) false
        (known_by m still began false (λ off. all_come None is (ap is_some is))) refl)

    pub endless_here : TellsEndless (next.All (is_some found)) (search_of k)
    endless_here = endless_by found refl
