-- What turns come to, they come to behind private turns too: so reduced turns come to each end, and to nothing else.
use Rattle.std.proofs.Common.{List, Some, [], arith, length, slice_get, subst, suc, sym, zero, ℕ, ◌∷◌, ◌≡◌, ◌≤◌}
use Rattle.std.proofs.lemmas.Option.{none-some}
use mathlib.Core.Logic.{inl, inr}
use Rattle.zl_explore.specs.Paths.{EndsAt, IsIn, IsPath, IsReached, after}
use Rattle.zl_explore.specs.Reduced.{Ahead, ArePrivate, IsReduced, IsSteady, here, turn}

pub in_none : (xs : List ℕ) (p : ℕ) → xs ≡ [] → IsIn xs p → ⊥
in_none xs p e is_in = none-some p (subst (λ (x : List ℕ). slice_get x is_in.0 ≡ Some p) e is_in.1)

module _ {S : Type 0} (ready : S → List ℕ) (next : S → ℕ → S) where
  -- no more turns than these lead from s to where it holds
  pub record ComesTo (holds : S → Type 0) (s : S) (count : ℕ) : Type 0 where
    pub turns : List ℕ
    pub is_path : IsPath ready next s turns
    pub there : holds (after ready next s turns)
    pub few : length turns ≤ count

  -- one turn more before the others
  comes_by : (holds : S → Type 0) (s : S) (count p : ℕ) → IsIn (ready s) p → ComesTo holds (next s p) count → ComesTo holds s (suc count)
  unfolding after IsPath
  comes_by holds s count p is_in rest =
      record { turns = p ∷ rest.turns; is_path = (is_in, rest.is_path); there = rest.there; few = omega (arith, rest.few) }

  reached_by : (s e : S) (p : ℕ) → IsIn (ready s) p → IsReached ready next (next s p) e → IsReached ready next s e
  unfolding after IsPath
  reached_by s e p is_in rest = record { turns = p ∷ rest.turns; is_path = (is_in, rest.is_path); leads = rest.leads }

  -- where each turn leads from what was met to what was met, all that is reached was met
  pub met_along : (met : S → Type 0) → ((t : S) (q : ℕ) → met t → IsIn (ready t) q → met (next t q)) → (turns : List ℕ) (t : S) → met t
      → IsPath ready next t turns → met (after ready next t turns)
  unfolding after IsPath
  met_along met closed [] t is_met path = is_met
  met_along met closed (q ∷ turns) t is_met path = met_along met closed turns (next t q) (closed t q is_met path.0) path.1

module _ {S : Type 0} (ready : S → List ℕ) (next : S → ℕ → S) (is_good : S → Type 0) (is_private : S → ℕ → Type 0)
    (law : ArePrivate ready next is_good is_private) where
  module _ (holds : S → Type 0) (steady : IsSteady ready next is_good is_private holds) where
    -- the private turn may be taken first
    pub later : (turns : List ℕ) (s : S) (p : ℕ) → is_good s → IsIn (ready s) p → is_private s p → IsPath ready next s turns → holds (after ready next s turns)
        → ComesTo ready next holds (next s p) (length turns)
    unfolding after IsPath
    later [] s p good is_in private path there = record { turns = []; is_path = tt; there = steady s p good is_in private there; few = omega arith }
    later (q ∷ turns) s p good is_in private path there = elim (law.beside s p q good is_in private path.0) [
      | inl same ↦ record {
        turns = turns;
        is_path = subst (λ (k : ℕ). IsPath ready next (next s k) turns) same path.1;
        there = subst (λ (k : ℕ). holds (after ready next (next s k) turns)) same there;
        few = omega arith;
      }
      | inr (inl commutes) ↦ comes_by ready next holds (next s p) (length turns) q commutes.q_ready
          (subst (λ (t : S). ComesTo ready next holds t (length turns)) (sym commutes.same)
          (later turns (next s q) p (law.kept s q good path.0) commutes.p_ready commutes.p_private path.1 there))
      | inr (inr forgets) ↦ comes_by ready next holds (next s p) (length turns) q forgets.q_ready
          (subst (λ (t : S). ComesTo ready next holds t (length turns)) (sym forgets.same)
          (record { turns = turns; is_path = path.1; there = there; few = omega arith }))
    ]

    -- so may any number of them
    pub ahead : (s t : S) (count : ℕ) → is_good s → Ahead ready next is_private s t → ComesTo ready next holds s count → ComesTo ready next holds t count
    ahead s t count good (here _) comes = comes
    ahead s t count good (turn _ _ p is_in private more) comes =
        let first = later comes.turns s p good is_in private comes.is_path comes.there in
        ahead (next s p) t count (law.kept s p good is_in) more
        (record { turns = first.turns; is_path = first.is_path; there = first.there; few = omega (arith, first.few, comes.few) })

  -- they lead to good states
  pub good_ahead : (s t : S) → is_good s → Ahead ready next is_private s t → is_good t
  good_ahead s t good (here _) = good
  good_ahead s t good (turn _ _ p is_in private more) = good_ahead (next s p) t (law.kept s p good is_in) more

  -- and what is reached behind them, is reached
  reached_ahead : (s t e : S) → Ahead ready next is_private s t → IsReached ready next t e → IsReached ready next s e
  reached_ahead s t e (here _) reached = reached
  reached_ahead s t e (turn _ _ p is_in private more) reached = reached_by ready next s e p is_in (reached_ahead (next s p) t e more reached)

  -- ---- reduced turns

  module _ (reduced : S → ℕ → S) (is_reduced : IsReduced ready next is_good is_private reduced) where
    good_reduced : (s : S) (q : ℕ) → is_good s → IsIn (ready s) q → is_good (reduced s q)
    good_reduced s q good is_in = good_ahead (next s q) (reduced s q) (law.kept s q good is_in) (is_reduced.goes s q good is_in)

    reached_along : (turns : List ℕ) (s e : S) → is_good s → IsPath ready reduced s turns → after ready reduced s turns ≡ e → IsReached ready next s e
    unfolding after IsPath
    reached_along [] s e good path leads = record { turns = []; is_path = tt; leads = leads }
    reached_along (q ∷ turns) s e good path leads =
        reached_by ready next s e q path.0 (reached_ahead (next s q) (reduced s q) e (is_reduced.goes s q good path.0)
        (reached_along turns (reduced s q) e (good_reduced s q good path.0) path.1 leads))

    module _ (holds : S → Type 0) (steady : IsSteady ready next is_good is_private holds) where
      comes_along : (count : ℕ) (turns : List ℕ) (t : S) → length turns ≤ count → is_good t → IsPath ready next t turns → holds (after ready next t turns)
          → ComesTo ready reduced holds t count
      unfolding after IsPath
      comes_along count [] t few good path there = record { turns = []; is_path = tt; there = there; few = omega arith }
      comes_along zero (q ∷ turns) t few good path there = absurd (omega (arith, few))
      comes_along (suc count) (q ∷ turns) t few good path there =
          let rest = ahead holds steady (next t q) (reduced t q) (length turns) (law.kept t q good path.0) (is_reduced.goes t q good path.0)
          (record { turns = turns; is_path = path.1; there = there; few = omega arith }) in
          comes_by ready reduced holds t count q path.0
          (comes_along count rest.turns (reduced t q) (omega (arith, few, rest.few)) (good_reduced t q good path.0) rest.is_path rest.there)

    -- t is the start, and private turns behind it
    module _ (s t : S) (good : is_good s) (begins : Ahead ready next is_private s t) where
      -- what reduced turns reach, turns reach
      pub reached_too : (e : S) → IsReached ready reduced t e → IsReached ready next s e
      reached_too e reached = reached_ahead s t e begins (reached_along reached.turns t e (good_ahead s t good begins) reached.is_path reached.leads)

      pub good_too : (e : S) → IsReached ready reduced t e → is_good e
      good_too e reached = let all = reached_too e reached in subst is_good all.leads (met_along ready next is_good law.kept all.turns s good all.is_path)

      -- and what turns come to, no more reduced turns come to, if private turns leave it true
      pub comes_too : (holds : S → Type 0) → IsSteady ready next is_good is_private holds → (turns : List ℕ) → IsPath ready next s turns
          → holds (after ready next s turns) → ComesTo ready reduced holds t (length turns)
      comes_too holds steady turns path there =
          let rest = ahead holds steady s t (length turns) good begins (record { turns = turns; is_path = path; there = there; few = omega arith }) in
          comes_along holds steady (length turns) rest.turns t rest.few (good_ahead s t good begins) rest.is_path rest.there

      -- where each reduced turn leads from what was met to what was met, it was met
      module _ (met : S → Type 0) (closed : (u : S) (q : ℕ) → met u → IsIn (ready u) q → met (reduced u q)) (is_met : met t) where
        pub meets : (holds : S → Type 0) → IsSteady ready next is_good is_private holds → (turns : List ℕ) → IsPath ready next s turns
            → holds (after ready next s turns) → (u : S) × met u × holds u
        meets holds steady turns path there =
            let rest = comes_too holds steady turns path there in
            (after ready reduced t rest.turns, met_along ready reduced met closed rest.turns t is_met rest.is_path, rest.there)

        -- so was each end of each order of turns
        pub covers : (turns : List ℕ) (e : S) → EndsAt ready next s turns e → met e
        covers turns e ends =
            let it = meets (λ u. (u ≡ e) × (ready u ≡ [])) (λ u p good_u is_in private none. absurd (in_none (ready u) p none.1 is_in)) turns ends.is_path
            (ends.leads, subst (λ (u : S). ready u ≡ []) (sym ends.leads) ends.nobody) in subst met it.2.0 it.1
