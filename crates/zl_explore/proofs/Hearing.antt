-- What stays true of what turns tell as states are met.
use Rattle.std.proofs.Common.{List, Option, Some, [], arith, length, slice_get, subst, sym, ℕ, ◌+◌, ◌<◌, ◌∙◌, ◌≡◌, ◌≤◌}
use Rattle.std.proofs.lemmas.Option.{none-some, same_Some, slice_get_within}
use Rattle.std.proofs.lemmas.Bool.{cases_lt}
use mathlib.Core.Logic.{inl, inr}
use Rattle.zl_code.specs.declared.history.TraceItem.{TraceItem}
use Rattle.zl_explore.specs.Bad.{IsQuiet}
use Rattle.zl_explore.specs.Nodes.{Extends}
use Rattle.zl_explore.specs.Paths.{IsIn}
use Rattle.zl_explore.specs.Quiet.{AreQuiet, IsBadTurnAt, TurnsQuiet}
use Rattle.zl_explore.specs.declared.bad.Bad.{Bad}
use Rattle.zl_explore.specs.declared.met.Node.{Node}
use Rattle.zl_explore.proofs.Lists.{get_below, get_left}

module _ {S : Type 0} (ready : S → List ℕ) (tells : S → ℕ → Option TraceItem) (bad : List Bad) where
  -- more states that were met
  pub quiet_grown : (old new : List (Node S)) (count : ℕ) → Extends old new → count ≤ length old → AreQuiet ready tells bad old count
      → AreQuiet ready tells bad new count
  unfolding AreQuiet
  quiet_grown old new count (more, is) within quiet i n p below there =
      quiet i n p below (get_below old more i n (omega (arith, below, within)) (subst (λ (x : List (Node S)). slice_get x i ≡ Some n) is there))

  -- one more of which all turns are quiet
  pub quiet_next : (nodes : List (Node S)) (count : ℕ) (n : Node S) → slice_get nodes count ≡ Some n
      → ((p : ℕ) → IsIn (ready n.at) p → IsQuiet bad (tells n.at p)) → AreQuiet ready tells bad nodes count → AreQuiet ready tells bad nodes (count + 1)
  unfolding AreQuiet
  quiet_next nodes count n there here quiet i m p below m_there = elim (cases_lt i count) [
    | inl less ↦ quiet i m p less m_there
    | inr more ↦
        let same : i ≡ count = omega (arith, below, more) in
        let is : n ≡ m = same_Some n m (sym there ∙ subst (λ (k : ℕ). slice_get nodes k ≡ Some m) same m_there) in
        subst (λ (k : Node S). IsIn (ready k.at) p → IsQuiet bad (tells k.at p)) is (here p)
  ]

  pub bad_grown : (old new : List (Node S)) (place pid : ℕ) (b : Bad) → Extends old new → IsBadTurnAt ready tells bad old place pid b
      → IsBadTurnAt ready tells bad new place pid b
  bad_grown old new place pid b (more, is) at = record {
    node = at.node;
    there = subst (λ (x : List (Node S)). slice_get x place ≡ Some at.node) (sym is) (get_left old more place at.node at.there);
    is_ready = at.is_ready;
    names = at.names;
  }

  -- nobody has a turn at an end
  pub quiet_end : (nodes : List (Node S)) (count : ℕ) (n : Node S) → slice_get nodes count ≡ Some n → ready n.at ≡ []
      → AreQuiet ready tells bad nodes count → AreQuiet ready tells bad nodes (count + 1)
  quiet_end nodes count n there nobody =
      quiet_next nodes count n there (λ p is_in. absurd (none-some p (subst (λ (ks : List ℕ). slice_get ks is_in.0 ≡ Some p) nobody is_in.1)))

  module _ (old : List (Node S)) (place : ℕ) (pids : List ℕ) where
    -- one turn more
    pub turns_quiet_more : (count pid : ℕ) (n : Node S) → slice_get old place ≡ Some n → slice_get pids count ≡ Some pid → IsQuiet bad (tells n.at pid)
        → TurnsQuiet ready tells bad old place pids count → TurnsQuiet ready tells bad old place pids (count + 1)
    turns_quiet_more count pid n there at here quiet m i p m_there below p_there = elim (cases_lt i count) [
      | inl less ↦ quiet m i p m_there less p_there
      | inr more ↦
          let same : i ≡ count = omega (arith, below, more) in
          let is : n ≡ m = same_Some n m (sym there ∙ m_there) in
          let who : pid ≡ p = same_Some pid p (sym at ∙ subst (λ (k : ℕ). slice_get pids k ≡ Some p) same p_there) in
          subst (λ (k : Node S). IsQuiet bad (tells k.at p)) is (subst (λ (k : ℕ). IsQuiet bad (tells n.at k)) who here)
    ]

    -- all turns were taken
    pub turns_quiet_all : (count : ℕ) (new : List (Node S)) (n : Node S) → slice_get old place ≡ Some n → pids ≡ ready n.at → length pids ≤ count
        → Extends old new → TurnsQuiet ready tells bad old place pids count → AreQuiet ready tells bad old place → AreQuiet ready tells bad new (place + 1)
    turns_quiet_all count new n there are enough extends quiet old_quiet =
        let within : place < length old = slice_get_within old place n there in
        let there_new : slice_get new place ≡ Some n =
        subst (λ (x : List (Node S)). slice_get x place ≡ Some n) (sym extends.1) (get_left old extends.0 place n there) in
        quiet_next new place n there_new here (quiet_grown old new place extends (omega (arith, within)) old_quiet)
      where
        here : (p : ℕ) → IsIn (ready n.at) p → IsQuiet bad (tells n.at p)
        here p (i, at) =
            let in_pids : slice_get pids i ≡ Some p = subst (λ (x : List ℕ). slice_get x i ≡ Some p) (sym are) at in
            quiet n i p there (omega (arith, enough, slice_get_within pids i p in_pids)) in_pids
