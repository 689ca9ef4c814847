-- What is known of all orders, by what is known of those of each part.
use Rattle.zl_code.proofs.Common.{Bool, List, [], ap, arith, false, false≢true, option_map, refl, subst, sym, true, ℕ, ◌++◌, ◌<◌, ◌∙◌, ◌∷◌, ◌≡◌, ◌≤◌}
use Rattle.zl_code.specs.declared.history.TraceItem.{TraceItem}
use Rattle.zl_code.specs.declared.history.TraceItem.TheVariants as item
use Rattle.zl_code.specs.Own.{OwnWorld}
use Rattle.zl_code.specs.OwnHistory.{tells_run}
use Rattle.zl_calls.specs.World.{Machine, own_here}
use Rattle.zl_explore.specs.AllParts.{part_of}
use Rattle.zl_explore.specs.Bad.{Fits, IsQuiet}
use Rattle.zl_explore.specs.GoingAhead.{most_ahead, reduced, start_of}
use Rattle.zl_explore.specs.Orders.{ready_in, told_in}
use Rattle.zl_explore.specs.Part.{IsOnly, Part}
use Rattle.zl_explore.specs.Paths.{IsIn, IsPath, IsReached, after}
use Rattle.zl_explore.specs.Private.{IsStill, RestsStill, IsLocal}
use Rattle.zl_explore.specs.Running.{ready_of, rested_machine, told_at, turned}
use Rattle.zl_explore.specs.Searching.{AreAll, HasNone, IsEndless, IsKnown, States}
use Rattle.zl_explore.specs.Sights.{AreSeen, IsClear, StaysClear, sights_in}
use Rattle.zl_explore.specs.declared.bad.Bad.{Bad}
use Rattle.zl_explore.specs.declared.fact.Fact.{Fact}
use Rattle.zl_explore.proofs.Ending.{Ends, path_more}
use Rattle.zl_explore.proofs.Endless.{ends_too}
use Rattle.zl_explore.proofs.OwnOrders.{endless_own, ends_met, seen_met, tells_met}
use Rattle.zl_explore.proofs.PartLaw.{all_parts, clear_parts, come_parts, none_parts}
use Rattle.zl_explore.proofs.Private.{local_reduced, local_start, local_turns, rests_start}
use Rattle.zl_explore.proofs.Reduced.{good_too}
use Rattle.zl_explore.proofs.Turns.{ready_same, told_same}

no_run : (b : Bad) (x : TraceItem) → tells_run x ≡ true → Fits b x → ⊥
no_run b (item.Run p count) runs fits = fits
no_run b (item.Call p c o) runs fits = false≢true runs
no_run b (item.Stuck p) runs fits = false≢true runs

-- ---- by orders of turns up to the next call

module _ (m : Machine) (still : IsStill (own_here m)) where
  abbrev start : Machine
  start = start_of (rested_machine m)

  abbrev Reached : Machine → Type 0
  Reached = IsReached ready_of reduced start

  closed : (u : Machine) (q : ℕ) → Reached u → IsIn (ready_of u) q → Reached (reduced u q)
  closed u q reached is_in =
      let one = path_more ready_of reduced reached.turns start u q reached.is_path reached.leads is_in in
      record { turns = reached.turns ++ (q ∷ []); is_path = one.0; leads = one.1 }

  at_start : Reached start
  unfolding after IsPath
  at_start = record { turns = []; is_path = tt; leads = refl }

  -- every order of own steps that comes to an end comes to one of these
  pub whole_all : (ends : List States) → ((turns : List ℕ) → IsPath ready_of reduced start turns → ready_of (after ready_of reduced start turns) ≡ []
      → IsIn ends (told_in (own_here (after ready_of reduced start turns)))) → AreAll m.programs (own_here m) ends
  whole_all ends are turns o leads nobody =
      let it = ends_met m still reduced (local_reduced most_ahead) start (local_start most_ahead (rested_machine m) (rests_start m still)) Reached closed
      at_start turns o leads nobody in
      let reached = it.1 in
      subst (IsIn ends) (ap (λ u. told_in (own_here u)) reached.leads ∙ (ap told_in it.2 ∙ told_same o))
      (are reached.turns reached.is_path (ap ready_of reached.leads ∙ (ap ready_in it.2 ∙ (ready_same o ∙ nobody))))

  -- none has an item that a pattern names
  pub whole_none : (bad : List Bad) → ((turns : List ℕ) → IsPath ready_of reduced start turns → (p : ℕ)
      → IsIn (ready_of (after ready_of reduced start turns)) p → IsQuiet bad (told_at (after ready_of reduced start turns) p))
      → HasNone m.programs (own_here m) bad
  whole_none bad quiet turns b in_bad order =
      let it = tells_met m still reduced (local_reduced most_ahead) start (local_start most_ahead (rested_machine m) (rests_start m still)) Reached closed
      at_start order.before order.last order.leads (Fits b) (no_run b) order.pid order.behind order.told order.step order.fits in
      let reached = it.1 in
      let tells = it.2 in
      quiet reached.turns reached.is_path tells.pid (subst (λ u. IsIn (ready_of u) tells.pid) (sym reached.leads) tells.is_ready) b tells.told in_bad
      (ap (λ u. told_at u tells.pid) reached.leads ∙ ap (option_map (λ (y : OwnWorld × TraceItem). y.1)) tells.step) tells.is

  -- none leads to a world in which what may not be so at once is seen
  pub whole_clear : (never : List (List Fact)) → ((turns : List ℕ) → IsPath ready_of reduced start turns
      → IsClear never (sights_in (own_here (after ready_of reduced start turns)))) → StaysClear m.programs (own_here m) never
  whole_clear never clear turns together in_never order =
      let it = seen_met m still reduced (local_reduced most_ahead) start (local_start most_ahead (rested_machine m) (rests_start m still)) Reached closed
      at_start turns order.last order.leads together order.seen in
      let reached = it.1 in
      clear reached.turns reached.is_path together in_never (subst (λ u. AreSeen together (sights_in (own_here u))) (sym reached.leads) it.2)

  -- none leads to a world from which none leads to an end
  pub whole_come : ((turns : List ℕ) → IsPath ready_of reduced start turns → Ends ready_of reduced (after ready_of reduced start turns))
      → IsEndless m.programs (own_here m) → ⊥
  whole_come come endless =
      let it = endless_own m still reduced (local_reduced most_ahead) start (local_start most_ahead (rested_machine m) (rests_start m still)) Reached closed
      at_start endless.turns endless.last endless.leads endless.never in
      let reached = it.1 in
      let rests = good_too ready_of turned RestsStill IsLocal local_turns reduced (local_reduced most_ahead) (rested_machine m) start
      (rests_start m still) (local_start most_ahead (rested_machine m) (rests_start m still)) it.0 reached in
      it.2 (ends_too ready_of turned RestsStill IsLocal local_turns reduced (local_reduced most_ahead) it.0 rests
      (subst (Ends ready_of reduced) reached.leads (come reached.turns reached.is_path)))

  -- ---- the law: all parts together are the whole

  module _ (parts from : ℕ) (some : 0 < parts) (told : ℕ → List States) (bad : List Bad) (never : List (List Fact)) (endless : ℕ → Bool)
      (known : (k : ℕ) → 1 ≤ k → k ≤ parts → IsKnown m (part_of parts from k) (told k) bad never (endless k)) where
    -- the ends that were told of one of them
    pub parts_all : (ends : List States) → ((k : ℕ) (x : States) → 1 ≤ k → k ≤ parts → IsIn (told k) x → IsIn ends x) → AreAll m.programs (own_here m) ends
    parts_all ends more = whole_all ends (all_parts parts from some ready_of reduced start (λ u. told_in (own_here u)) ends
        (λ k first last turns path nobody of. more k (told_in (own_here (after ready_of reduced start turns))) first last
        ((known k first last).all turns path nobody of)))

    pub parts_none : HasNone m.programs (own_here m) bad
    parts_none = whole_none bad (none_parts parts from some ready_of reduced start told_at bad (λ k first last. (known k first last).none))

    pub parts_clear : StaysClear m.programs (own_here m) never
    parts_clear = whole_clear never (clear_parts parts from some ready_of reduced start (λ u. sights_in (own_here u)) never
        (λ k first last. (known k first last).clear))

    pub parts_come : ((k : ℕ) → 1 ≤ k → k ≤ parts → endless k ≡ false) → IsEndless m.programs (own_here m) → ⊥
    parts_come none = whole_come (come_parts parts from some ready_of reduced start (λ k first last. (known k first last).come (none k first last)))

  -- the only part is the whole
  module _ (part : Part) (only : IsOnly part) (ends : List States) (bad : List Bad) (never : List (List Fact)) (endless : Bool)
      (known : IsKnown m part ends bad never endless) where
    each : (k : ℕ) → 1 ≤ k → k ≤ 1 → IsKnown m (part_of 1 part.from k) ends bad never endless
    each k first last = let one : k ≡ 1 = omega (arith, first, last) in
        rw one (subst (λ (x : Part). IsKnown m x ends bad never endless) same known)
      where
        same : part ≡ part_of 1 part.from 1
        same i = record { number = only.0 i; parts = only.1 i; from = part.from }

    pub only_all : AreAll m.programs (own_here m) ends
    only_all = parts_all 1 part.from (omega arith) (λ k. ends) bad never (λ k. endless) each ends (λ k x first last is_in. is_in)

    pub only_none : HasNone m.programs (own_here m) bad
    only_none = parts_none 1 part.from (omega arith) (λ k. ends) bad never (λ k. endless) each

    pub only_clear : StaysClear m.programs (own_here m) never
    only_clear = parts_clear 1 part.from (omega arith) (λ k. ends) bad never (λ k. endless) each

    pub only_come : endless ≡ false → IsEndless m.programs (own_here m) → ⊥
    only_come none = parts_come 1 part.from (omega arith) (λ k. ends) bad never (λ k. endless) each (λ k first last. none)
