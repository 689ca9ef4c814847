-- A process that conforms is never refused for a handle, no policy ends it, and it keeps its budget, till it ends itself or another kills it.
use Rattle.zl_verify.proofs.Common.{AllBelow, AllByRecursion, Awaited, Blocked, CallInstr, Conforms, Ended, HasEnded, Image, IsFineItem, IsFitStep, IsSizedBoot}
use Rattle.zl_verify.proofs.Common.{IsSomeAnd, IsStepBound, IsTyping, IsUnderWay, KILLED, KeepsBudget, Library, List, None, OneOf, Option, OthersLeave, Process}
use Rattle.zl_verify.proofs.Common.{Ready, Runs, Some, Spot, State, Statement, TraceItem, World, [], ap, arith, call_in, cases_Bool, eqb-true, executed, false}
use Rattle.zl_verify.proofs.Common.{get, has_ended, inl, inr, instr_at, is_in_range, is_pause, is_pause_name, leads_on, left_so, nat_le, nat_tests, pid_of}
use Rattle.zl_verify.proofs.Common.{refl, runs, runs_joined, same_Some, slice_get, stays, subst, sym, true, was_killed, ℕ, ◌++◌, ◌-◌, ◌<◌, ◌==◌, ◌∙◌, ◌∷◌, ◌≡◌}
use Rattle.zl_verify.proofs.Common.{◌≢◌, ◌≤◌, ◌⊎◌}
use Rattle.zl_code.specs.Headline.{left_behind}
use Rattle.zl_code.specs.declared.instr.Instr.TheVariants as instr
use Rattle.zl_verify.specs.WakeLaws.{wakes}
use Rattle.zl_verify.proofs.Counting.{has_edge}
use Rattle.zl_verify.proofs.Woken.{fit_of, sound_before}
use Rattle.zl_verify.proofs.Others.{others_end, over_after_act}
use Rattle.zl_verify.proofs.Ended.{ended_still}
use Rattle.zl_verify.proofs.OwnSteps.{fine_other, Went, goes, pauses, Stopped, by_exit, by_kill, under_way, under_way_steps}

-- who is over takes no step
no_step : (lib : Library) (w : World) (p : ℕ) (x : TraceItem) (w2 : World) → IsFitStep lib w p x w2 → HasEnded w p → ⊥
no_step lib w p x w2 b o =
    let same : o.process ≡ b.step.process = same_Some o.process b.step.process (sym o.there ∙ b.step.is_there) in
    let bad : false ≡ true = sym (ap has_ended b.step.is_ready) ∙ (ap (λ (y : Process). has_ended y.state) (sym same) ∙ o.over) in
    cc

-- who was killed is over
killed_there : (w : World) (p : ℕ) (q : Process) → get w.processes p ≡ Some (record q { state = Ended KILLED; handles = []; last = None }) → HasEnded w p
killed_there w p q at = record { process = record q { state = Ended KILLED; handles = []; last = None }; there = at; over = refl }

module _ (lib : Library) (i : Image) (t : ℕ → Option State) (range : is_in_range i ≡ true) (typing : IsTyping i t) where
  -- ---- no refusal

  -- p is under way, or over
  abbrev pub StandsIn : World → ℕ → Type 0
  StandsIn w p = IsUnderWay lib i t w p ⊎ HasEnded w p

  module _ (w : World) (m : ℕ) (x : TraceItem) (w2 : World) (b : IsFitStep lib w m x w2) where
    -- who is over stays so while others act
    over_still : (p : ℕ) → (m == p) ≡ false → HasEnded w p → HasEnded w2 p
    over_still p apart o = record {
      process = o.process;
      there = ended_still p o.process o.over lib w m x w2 b.step
          (over_after_act lib w m x w2 (sound_before lib w m x w2 b) b.step p o.process apart o.there o.over);
      over = o.over;
    }

    own_stands : StandsIn w m → IsFineItem m x × StandsIn w2 m
    own_stands (inl u) = let (fine, h) = under_way_steps lib i t range typing w m x w2 b u in (fine, by h)
      where
        by : ((after : IsUnderWay lib i t w2 m) × Went i t u.process after.process x) ⊎ (HasEnded w2 m × Stopped i u.process x) → StandsIn w2 m
        by (inl h) = inl h.0
        by (inr h) = inr h.0
    own_stands (inr o) = absurd (no_step lib w m x w2 b o)

    other_ends : (p : ℕ) → (m == p) ≡ false → (u : IsUnderWay lib i t w p) → OthersLeave i t p u.process w2
    other_ends p apart u = others_end i t range typing lib w m x w2 b p u.process apart u.there u.running u.conforms

    other_stands : (p : ℕ) → (m == p) ≡ false → StandsIn w p → StandsIn w2 p
    other_stands p apart (inl u) = by (other_ends p apart u)
      where
        by : OthersLeave i t p u.process w2 → StandsIn w2 p
        by (left_so e) = inl (under_way lib i t range typing p u.process w2 u.checked u.program u.running e)
        by (was_killed at) = inr (killed_there w2 p u.process at)
    other_stands p apart (inr o) = inr (over_still p apart o)

  pub stands_still : (w : World) (x : TraceItem) (w2 : World) → IsFitStep lib w (pid_of x) x w2 → (p : ℕ) → StandsIn w p → IsFineItem p x × StandsIn w2 p
  stands_still w x w2 b p s = by (cases_Bool (pid_of x == p))
    where
      by : ((pid_of x == p) ≡ true) ⊎ ((pid_of x == p) ≡ false) → IsFineItem p x × StandsIn w2 p
      by (inl e) =
          let same : pid_of x ≡ p = eqb-true (pid_of x) p e in
          subst (λ j. IsFineItem j x × StandsIn w2 j) same (own_stands w (pid_of x) x w2 b (subst (StandsIn w) (sym same) s))
      by (inr e) = (fine_other p x e, other_stands w (pid_of x) x w2 b p e s)

  module _ (statements : List Statement) (boot : World) (begins : IsSizedBoot lib statements boot) (p : ℕ) where
    run_stands : (more items : List TraceItem) (w after : World) → Runs lib boot items w → StandsIn w p → Runs lib w more after
        → AllByRecursion (IsFineItem p) more × StandsIn after p
    run_stands [] items w after run s e = (tt, rw e s)
    run_stands (x ∷ more) items w after run s (mid, step, rest) =
        let (fine, later) = stands_still w x mid (fit_of lib w (pid_of x) x mid
        (record { statements = statements; boot = boot; items = items; begins = begins; run = run; step = step })) p s in
        let (all, last) = run_stands more (items ++ (x ∷ [])) mid after (runs_joined lib boot items w (x ∷ []) mid run (mid, step, refl)) later rest in
        ((fine, all), last)

    pub stays_so : (items more : List TraceItem) (w after : World) → Runs lib boot items w → IsUnderWay lib i t w p → Runs lib w more after → StandsIn after p
    stays_so items more w after run u rest = (run_stands more items w after run (inl u) rest).1

    pub never_refused : (items more : List TraceItem) (w after : World) → Runs lib boot items w → IsUnderWay lib i t w p → Runs lib w more after
        → AllByRecursion (IsFineItem p) more
    never_refused items more w after run u rest = (run_stands more items w after run (inl u) rest).0

  -- ---- the budget

  module _ (steps : ℕ → List ℕ → ℕ) (bound : IsStepBound i t steps) where
    -- so many instructions may follow here; as many as the budget, where it waits
    record IsCounted (q : Process) (left : ℕ) : Type 0 where
      number : steps q.cpu.counter q.cpu.counters ≤ left
      waiting : (awaited : Awaited) (ds : List ℕ) → q.state ≡ Blocked awaited ds → left ≡ i.budget

    whole_budget : (w : World) (p : ℕ) (q : Process) → Conforms i t w p q → IsCounted q i.budget
    whole_budget w p q k = record { number = bound.within q.cpu.counter k.state q.cpu.counters k.stands k.counters; waiting = λ awaited ds e. refl }

    one_below : (q : Spot) (m : ℕ) (ps : List Spot) → AllBelow steps m ps → OneOf (λ p. q ≡ p) ps → steps q.0 q.1 < m
    one_below q m [] all h = absurd h
    one_below q m (p ∷ ps) (one, all) (inl e) = subst (λ (r : Spot). steps r.0 r.1 < m) (sym e) one
    one_below q m (p ∷ ps) (one, all) (inr h) = one_below q m ps all h

    -- behind a number an edge leads to less, so that it isn't 0
    some_left : (m : ℕ) (ps : List Spot) → AllBelow steps m ps → ps ≢ [] → 1 ≤ m
    some_left m [] all some = absurd (some refl)
    some_left m (p ∷ ps) (one, all) some = omega arith

    -- where a number isn't 0, an instruction is left
    room : (left m : ℕ) → 1 ≤ m → m ≤ left → nat_le 1 left ≡ true
    room left m some less = grind (arith, nat_tests)

    module _ (w : World) (p : ℕ) (q : Process) (left : ℕ) (k : Conforms i t w p q) (c : IsCounted q left) where
      abbrev number : ℕ
      number = steps q.cpu.counter q.cpu.counters

      falls : AllBelow steps number (leads_on i t (q.cpu.counter, q.cpu.counters))
      falls = bound.falls q.cpu.counter q.cpu.counters k.counters

      -- a call that is no pause is left where one stands
      one_left : (x : CallInstr) → instr_at i q.cpu.counter ≡ Some (instr.Call x) → is_pause_name x.name ≡ false → nat_le 1 left ≡ true
      one_left x is no_pause =
          room left number (some_left number _ falls
          (has_edge i range t typing (q.cpu.counter, q.cpu.counters) k.counters
          (record { state = k.state; mapped = k.stands; goes_on = ap (λ o. is_pause (call_in o)) is ∙ no_pause }))) c.number

      after_own : (w2 : World) (y : Process) (x : TraceItem) → Conforms i t w2 p y → Went i t q y x
          → IsSomeAnd (left_behind i.budget left (executed x)) (IsCounted y)
      after_own w2 y x later (pauses is) = rw is (whole_budget w2 p y later)
      after_own w2 y x later (goes is follows ready) =
          let less = one_below (y.cpu.counter, y.cpu.counters) number _ falls follows in
          let most = c.number in
          rw (is, room left number (omega arith) most) (record { number = omega arith; waiting = no_wait })
        where
          no_wait : (awaited : Awaited) (ds : List ℕ) → y.state ≡ Blocked awaited ds → left - 1 ≡ i.budget
          no_wait awaited ds e = let clash : Ready ≡ Blocked awaited ds = sym ready ∙ e in absurd cc

    -- p is under way and counted so, or over
    abbrev CountsIn : World → ℕ → ℕ → Type 0
    CountsIn w p left = ((u : IsUnderWay lib i t w p) × IsCounted u.process left) ⊎ HasEnded w p

    module _ (w : World) (m : ℕ) (x : TraceItem) (w2 : World) (b : IsFitStep lib w m x w2) where
      own_counts : (left : ℕ) → CountsIn w m left → IsSomeAnd (left_behind i.budget left (executed x)) (CountsIn w2 m)
      own_counts left (inl (u, c)) = by ((under_way_steps lib i t range typing w m x w2 b u).1)
        where
          then_so : (o : Option ℕ) (after : IsUnderWay lib i t w2 m) → IsSomeAnd o (IsCounted after.process) → IsSomeAnd o (CountsIn w2 m)
          then_so None after h = absurd h
          then_so (Some more) after h = inl (after, h)

          by : ((after : IsUnderWay lib i t w2 m) × Went i t u.process after.process x) ⊎ (HasEnded w2 m × Stopped i u.process x)
              → IsSomeAnd (left_behind i.budget left (executed x)) (CountsIn w2 m)
          by (inl (after, went)) =
              then_so (left_behind i.budget left (executed x)) after (after_own w m u.process left u.conforms c w2 after.process x after.conforms went)
          by (inr (over, by_exit is)) = rw is (inr over)
          by (inr (over, by_kill is call at no_pause)) = rw (is, one_left w m u.process left u.conforms c call at no_pause) (inr over)
      own_counts left (inr o) = absurd (no_step lib w m x w2 b o)

      other_counts : (p : ℕ) → (m == p) ≡ false → (left : ℕ) → CountsIn w p left → CountsIn w2 p left
      other_counts p apart left (inr o) = inr (over_still w m x w2 b p apart o)
      other_counts p apart left (inl (u, c)) = by (other_ends w m x w2 b p apart u)
        where
          by : OthersLeave i t p u.process w2 → CountsIn w2 p left
          by (was_killed at) = inr (killed_there w2 p u.process at)
          by (left_so (stays at k)) =
              inl (record { process = u.process; there = at; running = u.running; checked = u.checked; program = u.program; conforms = k }, c)
          by (left_so (wakes awaited ds waited a)) = inl (
            record {
              process = a.after;
              there = a.there;
              running = ap runs a.ready;
              checked = u.checked;
              program = ap (slice_get lib) a.program ∙ u.program;
              conforms = a.conforms;
            },
            subst (IsCounted a.after) (sym (c.waiting awaited ds waited)) (whole_budget w2 p a.after a.conforms),
          )

    module _ (statements : List Statement) (boot : World) (begins : IsSizedBoot lib statements boot) (p : ℕ) where
      run_counts : (more items : List TraceItem) (w after : World) (left : ℕ) → Runs lib boot items w → CountsIn w p left → Runs lib w more after
          → KeepsBudget i.budget p left more
      run_counts [] items w after left run s e = tt
      run_counts (x ∷ more) items w after left run s (mid, step, rest) =
          by (λ fewer still. run_counts more (items ++ (x ∷ [])) mid after fewer (runs_joined lib boot items w (x ∷ []) mid run (mid, step, refl)) still rest)
          (cases_Bool (pid_of x == p))
        where
          b : IsFitStep lib w (pid_of x) x mid
          b = fit_of lib w (pid_of x) x mid (record { statements = statements; boot = boot; items = items; begins = begins; run = run; step = step })

          all_later : (o : Option ℕ) → ((fewer : ℕ) → CountsIn mid p fewer → KeepsBudget i.budget p fewer more) → IsSomeAnd o (CountsIn mid p)
              → IsSomeAnd o (λ fewer. KeepsBudget i.budget p fewer more)
          all_later None later h = absurd h
          all_later (Some fewer) later h = later fewer h

          by : ((fewer : ℕ) → CountsIn mid p fewer → KeepsBudget i.budget p fewer more) → ((pid_of x == p) ≡ true) ⊎ ((pid_of x == p) ≡ false)
              → KeepsBudget i.budget p left (x ∷ more)
          by later (inl e) =
              let same : pid_of x ≡ p = eqb-true (pid_of x) p e in
              rw e (all_later (left_behind i.budget left (executed x)) later (subst (λ j. IsSomeAnd (left_behind i.budget left (executed x)) (CountsIn mid j))
              same (own_counts w (pid_of x) x mid b left (subst (λ j. CountsIn w j left) (sym same) s))))
          by later (inr e) = rw e (later left (other_counts w (pid_of x) x mid b p e left s))

      pub budget_kept : (items more : List TraceItem) (w after : World) → Runs lib boot items w → IsUnderWay lib i t w p → Runs lib w more after
          → KeepsBudget i.budget p i.budget more
      budget_kept items more w after run u rest = run_counts more items w after i.budget run (inl (u, whole_budget w p u.process u.conforms)) rest
