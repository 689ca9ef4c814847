-- A process that has ended stays as it is, and one that is ready is as it was once others are awake.
use Rattle.zl_verify.proofs.Common.{Awaited, Blocked, Created, Ended, Library, Life, List, Process, Ready, Settles, Some, Step, TraceItem, World, answered, ap}
use Rattle.zl_verify.proofs.Common.{cases_Bool, eqb-true, false, fired, get, get-each, get-put, has_ended, inl, inr, is_blocked, made_ready, option_map}
use Rattle.zl_verify.proofs.Common.{process_settled, put, refl, same_Some, state_without, subst, sym, true, wakes, without_others, ℕ, ◌==◌, ◌∙◌, ◌≡◌, ◌⊎◌}
use Rattle.zl_verify.proofs.Waking.{turn_by_answer, wakes_by}

module _ (p : ℕ) (q : Process) (awake : is_blocked q.state ≡ false) where
  module _ (u : World) (there : get u.processes p ≡ Some q) (m : ℕ) where
    -- another gets its answer
    readied : (v : World) → v.processes ≡ u.processes → (y : Process) → get u.processes m ≡ Some y → (awaited : Awaited) (ds vs : List ℕ)
        → y.state ≡ Blocked awaited ds → get (made_ready v m y ds vs).processes p ≡ Some q
    unfolding made_ready
    readied v same y at awaited ds vs blocked = by (cases_Bool (m == p))
      where
        by : ((m == p) ≡ true) ⊎ ((m == p) ≡ false) → get (put v.processes m (record y { state = Ready; cpu = answered y.cpu ds vs })) p ≡ Some q
        by (inl e) =
            let is : y ≡ q = same_Some y q (sym (subst (λ j. get u.processes j ≡ Some y) (eqb-true m p e) at) ∙ there) in
            let bad : true ≡ false = sym (ap is_blocked blocked) ∙ (ap (λ (z : Process). is_blocked z.state) is ∙ awake) in
            cc
        by (inr e) = get-put v.processes m (record y { state = Ready; cpu = answered y.cpu ds vs }) p ∙ rw e (ap (λ ps. get ps p) same ∙ there)

  -- it stands at p
  abbrev StandsIn : World → Type 0
  StandsIn u = get u.processes p ≡ Some q

  pub awake_still : (w : World) → get w.processes p ≡ Some q → get (wakes w).processes p ≡ Some q
  unfolding fired
  awake_still w there = wakes_by StandsIn (λ u m there. turn_by_answer StandsIn u m there (readied u there m)) w there

not_blocked : (l : Life) → has_ended l ≡ true → is_blocked l ≡ false
not_blocked (Blocked awaited ds) e = cc
not_blocked _ e = refl

module _ (p : ℕ) (q : Process) (over : has_ended q.state ≡ true) where
  settled_still : (u v : World) → Settles u v → get u.processes p ≡ Some q → get v.processes p ≡ Some q
  unfolding without_others
  settled_still u v (K, largest, is) there =
      rw is (get-each u.processes (process_settled K) p
      ∙ (ap (option_map (process_settled K p)) there ∙ ap (λ (l : Life). Some (record q { state = l })) (by q.state over)))
    where
      by : (l : Life) → has_ended l ≡ true → state_without (K p) l ≡ l
      by (Ended code) e = refl
      by Created e = cc
      by _ e = cc

  -- what has ended right after the act of a step has ended at its end
  pub ended_still : (lib : Library) (w : World) (m : ℕ) (x : TraceItem) (w2 : World) → (step : Step lib w m x w2) → get step.acted.processes p ≡ Some q
      → get w2.processes p ≡ Some q
  ended_still lib w m x w2 step there =
      subst (λ v. get v.processes p ≡ Some q) (sym step.ends_awake)
      (awake_still p q (not_blocked q.state over) step.settled (settled_still step.acted step.settled step.settles there))
