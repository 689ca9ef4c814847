-- What a step changes of who is ready: nobody but those that woke, the one that it started, and those that it killed.
use Rattle.zl_sched.proofs.Common.{Acts, AtCall, Bool, CallName, FitsItem, IsSound, IsStuck, Library, Moves, Next, None, Option, Outcome, Process}
use Rattle.zl_sched.proofs.Common.{Ready, Request, Some, State, Step, Tells, TraceItem, Woke, World, and_parts, ap, asked_next, cases_Bool, killed_of}
use Rattle.zl_sched.proofs.Common.{child_next, child_of, eqb-true, false, false≢true, get, if_started, if◌then◌else◌, inl, inr, is_blocked, is_ok}
use Rattle.zl_sched.proofs.Common.{is_process, is_ready, is_start, keeps_all, keeps_others, is_kill, name_of, next_for, none-some, not, not-false}
use Rattle.zl_sched.proofs.Common.{not-true, refl, refusal, settled_sound, state_passes, step_sound, subst, sym, task_kill, has_started, true, wakes}
use Rattle.zl_sched.proofs.Common.{ℕ, ◌&&◌, ◌==◌, ◌∙◌, ◌≡◌}
use Rattle.zl_code.specs.declared.history.CallName.TheVariants as name
use Rattle.zl_code.specs.declared.history.Outcome.TheVariants as outcome
use Rattle.zl_code.specs.declared.history.TraceItem.TheVariants as item
use Rattle.zl_calls.specs.declared.told.Told.TheVariants as said
use Rattle.std.specs.Option.{IfSome}
use Rattle.zl_sched.proofs.Common.{IsTrue, TellsKilled, Told, is_one_of, task_next, task_of}
use Rattle.zl_code.proofs.Common.{koid_in}
use Rattle.zl_code.proofs.Common.{is_within}
use Rattle.zl_objects.specs.declared.below.TaskList.{TaskList}
use Rattle.zl_sched.proofs.ChildReady.{child_ready}
use Rattle.zl_sched.proofs.StillReady.{AsOrWoken, Left, Less, called_so, ends, goes_on, is_one, killed_so, left_then, less_then, moved, settled_so}
use Rattle.zl_sched.proofs.StillReady.{spares_so, waking}
use Rattle.zl_code.proofs.Entering.{no_process}
use Rattle.zl_verify.proofs.OwnTable.{other_way}
use Rattle.zl_sched.proofs.Common.{AreParted, List, [], arith, eq-eqb, option_to_list, pids_told, spares_others, tells_all, times_in, woke_of, ◌+◌}
use Rattle.zl_sched.proofs.Common.{◌∷◌}

-- but for p, those stay ready that are
abbrev pub StayReady : World → ℕ → World → Type 0
StayReady w p after = (k : ℕ) → (k == p) ≡ false → is_process w is_ready k ≡ true → is_process after is_ready k ≡ true

-- but for p, just these are ready in after who aren't in w
abbrev pub OthersCome : World → ℕ → World → List ℕ → Type 0
OthersCome w p after who =
    (k : ℕ) → (k == p) ≡ false → times_in k who ≡ (if is_process after is_ready k && not (is_process w is_ready k) then 1 else 0)

-- the same, if all are told
abbrev pub ToldCome : World → ℕ → World → Woke → Type 0
ToldCome w p after who = tells_all who ≡ true → OthersCome w p after (pids_told who)

-- the same of those that weren't killed, if these are told
abbrev pub StayTold : World → ℕ → World → TaskList → Type 0
StayTold w p after killed = killed.whole ≡ true → (k : ℕ) → (k == p) ≡ false → is_one_of k killed.koids.items ≡ false
    → is_process w is_ready k ≡ true → is_process after is_ready k ≡ true

-- what a step of p from w to after tells of who is ready is so
abbrev pub IsChanged : World → ℕ → World → Told → Type 0
IsChanged w p after said.Same = StayReady w p after × OthersCome w p after [] × (is_process after is_ready p ≡ true)
IsChanged w p after (said.Woke who) = StayReady w p after × ToldCome w p after who
IsChanged w p after (said.Killed killed) = StayTold w p after killed.tasks × ToldCome w p after killed.woke

-- likewise from a world in which the others are as ready
module _ (u w : World) (p : ℕ) (after : World) (same : (k : ℕ) → (k == p) ≡ false → is_process u is_ready k ≡ is_process w is_ready k) where
  come_from : (who : List ℕ) → OthersCome u p after who → OthersCome w p after who
  come_from who come k apart = come k apart ∙ ap (λ (b : Bool). if is_process after is_ready k && not b then 1 else 0) (same k apart)

  stay_from : StayReady u p after → StayReady w p after
  stay_from stay k apart now = stay k apart (same k apart ∙ now)

  pub changed_from : (all_told : Told) → IsChanged u p after all_told → IsChanged w p after all_told
  changed_from said.Same (stay, come, ready) = (stay_from stay, come_from [] come, ready)
  changed_from (said.Woke who) (stay, come) = (stay_from stay, λ all. come_from (pids_told who) (come all))
  changed_from (said.Killed killed) (stay, come) =
      (λ whole k apart out now. stay whole k apart out (same k apart ∙ now), λ all. come_from (pids_told killed.woke) (come all))

and_not : (b : Bool) → (b && not b) ≡ false
and_not true = refl
and_not false = refl

pub unchanged : (w : World) (p : ℕ) → is_process w is_ready p ≡ true → IsChanged w p w said.Same
unchanged w p ready = (λ k apart now. now, λ k apart. rw (and_not (is_process w is_ready k)) refl, ready)

stops_so : (p : ℕ) (call : CallName) (o : Outcome) → goes_on o ≡ false → keeps_all (item.Call p call o) ≡ false
stops_so p call (outcome.Answered answer) stops = absurd (false≢true (sym stops))
stops_so p call _ stops = refl

spares_more : (x : TraceItem) → keeps_all x ≡ true → keeps_others x ≡ true
spares_more (item.Run p count) leaves = refl
spares_more (item.Call p call (outcome.Answered answer)) leaves = leaves
spares_more (item.Call p call _) leaves = absurd (false≢true leaves)
spares_more (item.Stuck p) leaves = refl

-- a start kills nobody
start_spares : (x : TraceItem) → has_started x ≡ true → keeps_others x ≡ true
start_spares (item.Call p name.ProcessStart outcome.Blocked) starts = refl
start_spares (item.Call p name.ProcessStart (outcome.Answered answer)) starts = refl
start_spares (item.Call p name.ProcessStart (outcome.Ended code)) starts = refl
start_spares (item.Call p _ o) starts = absurd (false≢true starts)
start_spares (item.Run p count) starts = absurd (false≢true starts)
start_spares (item.Stuck p) starts = absurd (false≢true starts)

-- a call that may end others kills
kills_so : (call : CallName) (o : Outcome) → spares_others call o ≡ false → is_kill call ≡ true
kills_so call outcome.Blocked kills = absurd (false≢true (sym kills))
kills_so call (outcome.Answered answer) kills = not-false (is_kill call) kills
kills_so call (outcome.Ended code) kills = not-false (is_kill call) kills

-- the call that kills asks for it
asks_to_kill : (r : Request) → is_kill (name_of r) ≡ true → (task : ℕ) × (r ≡ task_kill task)
asks_to_kill (task_kill task) kills = (task, refl)
asks_to_kill _ kills = absurd (false≢true kills)

if_some : (b : Bool) (c : Option ℕ) (q : ℕ) → (if b then c else None) ≡ Some q → (b ≡ true) × (c ≡ Some q)
if_some true c q is = (refl, is)
if_some false c q is = absurd (none-some q is)

busy_so : (o : Option Process) → state_passes is_blocked o ≡ true → state_passes is_ready o ≡ false
busy_so None blocked = refl
busy_so (Some x) blocked = by_state x.state blocked
  where
    by_state : (s : State) → is_blocked s ≡ true → is_ready s ≡ false
    by_state Ready blocked = absurd (false≢true blocked)
    by_state _ blocked = refl

module _ (lib : Library) (w : World) (p : ℕ) (x : TraceItem) (after : World) (sound : IsSound w) (step : Step lib w p x after) where
  -- the process that it started
  abbrev child : Option ℕ
  child = if_started x (child_next step.process.handles (next_for lib step.process))

  acted_so : (k : ℕ) (n : Next) → next_for lib step.process ≡ n → Acts lib w p n x step.acted → keeps_others x ≡ true
      → is_one (if_started x (child_next step.process.handles n)) k ≡ false → (keeps_all x ≡ false → (p == k) ≡ false) → Left k step.acted w
  acted_so k (Moves c) at a others other apart = rw a.1 (moved k w p (λ y. record y { cpu = c }) (λ y. refl))
  acted_so k (AtCall call s) at (o, is, calls) others other apart =
      let spared : spares_others call o ≡ true = sym (ap keeps_others is) ∙ others in
      called_so k lib w p (no_process w sound) s calls.0 (refusal lib w p s.request) o step.acted
      (spares_so w p k step.process step.is_there s.request call o (asked_next step.process.cpu call s _ at) spared
      (sym (ap (λ (y : TraceItem). is_one (if_started y (child_of step.process.handles s.request)) k) is) ∙ other))
      (λ stops. apart (ap keeps_all is ∙ stops_so p call o stops)) calls.1
  acted_so k IsStuck at a others other apart = rw a.1 (ends k w p _ (apart (ap keeps_all a.0)))

  acted_less : (k : ℕ) → (p == k) ≡ false → (n : Next) → next_for lib step.process ≡ n → Acts lib w p n x step.acted → keeps_others x ≡ false
      → Less k step.acted w
  acted_less k apart (Moves c) at a kills = absurd (false≢true (sym kills ∙ ap keeps_others a.0))
  acted_less k apart (AtCall call s) at (o, is, calls) kills =
      let (task, asked) = asks_to_kill s.request
      (ap is_kill (asked_next step.process.cpu call s _ at) ∙ kills_so call o (sym (ap keeps_others is) ∙ kills)) in
      killed_so k lib w p (no_process w sound) apart s task asked o step.acted calls
  acted_less k apart IsStuck at a kills = absurd (false≢true (sym kills ∙ ap keeps_others a.0))

  settled_is : IsSound step.settled
  settled_is = settled_sound lib w p x step.settled sound (record {
    process = step.process;
    is_there = step.is_there;
    is_ready = step.is_ready;
    acted = step.acted;
    acts = step.acts;
    settles = step.settles;
  })

  -- ---- from where the processes wake

  stay_so : (k : ℕ) → is_process step.settled is_ready k ≡ true → is_process after is_ready k ≡ true
  stay_so k ready = subst (λ (u : World). is_process u is_ready k ≡ true) (sym step.ends_awake) (by_turns (waking k step.settled))
    where
      by_turns : AsOrWoken k step.settled (wakes step.settled) → is_process (wakes step.settled) is_ready k ≡ true
      by_turns (inl same) = same is_ready ∙ ready
      by_turns (inr (was, is)) = is is_ready

  -- who is ready and wasn't left the list of the blocked, but for the one that was started
  come_so : (started : Option ℕ) (told : List ℕ) → AreParted step.settled.blocked started told after.blocked → (k : ℕ)
      → ◌≡◌ {A = ℕ} (times_in k (option_to_list started)) 0
      → times_in k told ≡ (if is_process after is_ready k && not (is_process step.settled is_ready k) then 1 else 0)
  unfolding is_process
  come_so started told parted k none = by_turns after (subst (AsOrWoken k step.settled) (sym step.ends_awake) (waking k step.settled))
      ((step_sound lib w p x after sound step).blocked k) (parted k)
    where
      by_turns : (v : World) → AsOrWoken k step.settled v → times_in k v.blocked ≡ (if is_process v is_blocked k then 1 else 0)
          → times_in k told + times_in k v.blocked ≡ times_in k step.settled.blocked + times_in k (option_to_list started)
          → times_in k told ≡ (if is_process v is_ready k && not (is_process step.settled is_ready k) then 1 else 0)
      by_turns v (inl same) is left = rw (same is_ready, and_not (is_process step.settled is_ready k)) (omega (
        arith,
        left,
        none,
        is ∙ (ap (λ (b : Bool). if b then 1 else 0) (same is_blocked) ∙ sym (settled_is.blocked k)),
      ))
      by_turns v (inr (was, now)) is left =
          let gone : ◌≡◌ {A = ℕ} (times_in k v.blocked) 0 = is ∙ rw (now is_blocked) refl in
          let there : ◌≡◌ {A = ℕ} (times_in k step.settled.blocked) 1 = settled_is.blocked k ∙ rw was refl in
          rw (now is_ready, busy_so (get step.settled.processes k) was) (omega (arith, left, none, gone, there))

  -- ---- where it starts one

  -- q was started: it is ready now, and wasn't
  module _ (q : ℕ) (some : child ≡ Some q) where
    told : has_started x ≡ true
    told = (if_some (has_started x) _ q some).0

    begun : (n : Next) → next_for lib step.process ≡ n → Acts lib w p n x step.acted → child_next step.process.handles n ≡ Some q
        → (is_process step.acted is_ready q ≡ true) × (is_process w is_ready q ≡ false)
    begun (Moves c) at a is_child = absurd (none-some q is_child)
    begun (AtCall call s) at (o, is, calls) is_child =
        child_ready lib w p step.process step.is_there step.is_ready s q is_child o step.acted calls
        (and_parts (is_start call) (is_ok o) (sym (ap has_started is) ∙ told)).1
    begun IsStuck at a is_child = absurd (none-some q is_child)

    begins : (is_process step.acted is_ready q ≡ true) × (is_process w is_ready q ≡ false)
    begins = begun (next_for lib step.process) refl step.acts (if_some (has_started x) _ q some).1

    settled_ready : is_process step.settled is_ready q ≡ true
    settled_ready = settled_so q step.acted step.settled step.settles is_ready refl refl ∙ begins.0

    now_ready : is_process after is_ready q ≡ true
    now_ready = stay_so q settled_ready

    -- it is told once
    child_comes : (list : List ℕ) → AreParted step.settled.blocked (Some q) list after.blocked
        → times_in q list ≡ (if is_process after is_ready q && not (is_process w is_ready q) then 1 else 0)
    unfolding is_process
    child_comes list parted = rw (now_ready, begins.1) (by_turns after
        (subst (AsOrWoken q step.settled) (sym step.ends_awake) (waking q step.settled)) ((step_sound lib w p x after sound step).blocked q) (parted q))
      where
        itself : times_in q (q ∷ []) ≡ 1
        itself = rw (eq-eqb q q refl) refl

        by_turns : (v : World) → AsOrWoken q step.settled v → times_in q v.blocked ≡ (if is_process v is_blocked q then 1 else 0)
            → times_in q list + times_in q v.blocked ≡ times_in q step.settled.blocked + times_in q (q ∷ []) → ◌≡◌ {A = ℕ} (times_in q list) 1
        by_turns v (inl same) is left = omega (
          arith,
          left,
          itself,
          is ∙ (ap (λ (b : Bool). if b then 1 else 0) (same is_blocked) ∙ sym (settled_is.blocked q)),
        )
        by_turns v (inr (was, now)) is left = absurd (false≢true (sym (busy_so (get step.settled.processes q) was) ∙ settled_ready))

  -- the process that was started isn't p
  not_child : is_one child p ≡ false
  unfolding is_process
  not_child = by_child child refl
    where
      by_child : (c : Option ℕ) → child ≡ c → is_one c p ≡ false
      by_child None none = refl
      by_child (Some q) some = elim (cases_Bool (p == q)) as (λ _. (p == q) ≡ false) [
        | inl here ↦ absurd (false≢true (sym (begins q some).1 ∙ subst (λ (j : ℕ). is_process w is_ready j ≡ true) (eqb-true p q here)
            (rw (step.is_there, step.is_ready) refl)))
        | inr apart ↦ apart
      ]

  -- ---- where it kills nobody

  module _ (others : keeps_others x ≡ true) where
    same_before : (k : ℕ) → is_one child k ≡ false → (keeps_all x ≡ false → (p == k) ≡ false) → is_process step.settled is_ready k ≡ is_process w is_ready k
    same_before k other apart =
        left_then k _ _ w (settled_so k step.acted step.settled step.settles)
        (acted_so k (next_for lib step.process) refl step.acts others other apart) is_ready refl refl

    itself : keeps_all x ≡ true → is_process after is_ready p ≡ true
    unfolding is_process
    itself leaves =
        stay_so p (same_before p not_child (λ stops. absurd (false≢true (sym stops ∙ leaves))) ∙ rw (step.is_there, step.is_ready) refl)

    stays_by : (c : Option ℕ) → child ≡ c → StayReady w p after
    stays_by None none k apart now = stay_so k (same_before k (ap (λ c. is_one c k) none) (λ _. other_way k p apart) ∙ now)
    stays_by (Some q) some k apart now = elim (cases_Bool (k == q)) as (λ _. is_process after is_ready k ≡ true) [
      | inl here ↦ subst (λ (j : ℕ). is_process after is_ready j ≡ true) (sym (eqb-true k q here)) (now_ready q some)
      | inr other ↦ stay_so k (same_before k (ap (λ c. is_one c k) some ∙ other) (λ _. other_way k p apart) ∙ now)
    ]

    comes_by : (c : Option ℕ) → child ≡ c → (list : List ℕ) → AreParted step.settled.blocked c list after.blocked → OthersCome w p after list
    comes_by None none list parted k apart = come_so None list parted k refl
        ∙ ap (λ (b : Bool). if is_process after is_ready k && not b then 1 else 0)
        (same_before k (ap (λ c. is_one c k) none) (λ _. other_way k p apart))
    comes_by (Some q) some list parted k apart = elim (cases_Bool (k == q)) as
        (λ _. times_in k list ≡ (if is_process after is_ready k && not (is_process w is_ready k) then 1 else 0)) [
          | inl here ↦ subst (λ (j : ℕ). times_in j list ≡ (if is_process after is_ready j && not (is_process w is_ready j) then 1 else 0))
              (sym (eqb-true k q here)) (child_comes q some list parted)
          | inr other ↦ come_so (Some q) list parted k (rw (other_way k q other) refl)
              ∙ ap (λ (b : Bool). if is_process after is_ready k && not b then 1 else 0)
              (same_before k (ap (λ c. is_one c k) some ∙ other) (λ _. other_way k p apart))
        ]

  -- ---- where it kills

  module _ (kills : keeps_others x ≡ false) where
    less_before : (k : ℕ) → (p == k) ≡ false → Less k step.settled w
    less_before k apart =
        less_then k _ _ w (settled_so k step.acted step.settled step.settles) (acted_less k apart (next_for lib step.process) refl step.acts kills)

    starts_none : child ≡ None
    starts_none = by_test (has_started x) refl
      where
        by_test : (b : Bool) → has_started x ≡ b → (if b then child_next step.process.handles (next_for lib step.process) else None) ≡ None
        by_test true starts = absurd (false≢true (sym kills ∙ start_spares x starts))
        by_test false starts = refl

    -- who isn't listed stays as it is
    spared : (list : TaskList) → TellsKilled lib w p (Some list) → list.whole ≡ true → (k : ℕ) → (p == k) ≡ false → is_one_of k list.koids.items ≡ false
        → Left k step.acted w
    spared list tells whole k apart out = by_next (next_for lib step.process) refl step.acts
      where
        by_next : (n : Next) → next_for lib step.process ≡ n → Acts lib w p n x step.acted → Left k step.acted w
        by_next (Moves c) at a = absurd (false≢true (sym kills ∙ ap keeps_others a.0))
        by_next IsStuck at a = absurd (false≢true (sym kills ∙ ap keeps_others a.0))
        by_next (AtCall call s) at (o, is, calls) =
            let (task, asked) = asks_to_kill s.request
            (ap is_kill (asked_next step.process.cpu call s _ at) ∙ kills_so call o (sym (ap keeps_others is) ∙ kills)) in
            let named : task_next step.process.handles (next_for lib step.process) ≡ Some (koid_in (get step.process.handles task))
            = ap (task_next step.process.handles) at ∙ ap (task_of step.process.handles) asked in
            let outside : is_within w.objects (koid_in (get step.process.handles task)) k ≡ false
            = not_within (is_within w.objects (koid_in (get step.process.handles task)) k) (tells step.process step.is_there _ named whole k) in
            called_so k lib w p (no_process w sound) s calls.0 (refusal lib w p s.request) o step.acted
            (λ ok. rw (asked, step.is_there, outside) refl) (λ stops. apart) calls.1
          where
            not_within : (b : Bool) → (IsTrue b → IsTrue (is_one_of k list.koids.items)) → b ≡ false
            not_within true listed = absurd (false≢true (sym out ∙ listed refl))
            not_within false listed = refl

    stays_told : (killed : TaskList) → TellsKilled lib w p (Some killed) → StayTold w p after killed
    stays_told list tells whole k apart out now =
        stay_so k (left_then k _ _ w (settled_so k step.acted step.settled step.settles) (spared list tells whole k (other_way k p apart) out) is_ready
        refl refl ∙ now)

    fewer_same : (k : ℕ) → (k == p) ≡ false → (is_process after is_ready k && not (is_process step.settled is_ready k))
        ≡ (is_process after is_ready k && not (is_process w is_ready k))
    unfolding is_process
    fewer_same k apart =
        sym (by_turns (subst (AsOrWoken k step.settled) (sym step.ends_awake) (waking k step.settled)) (is_process step.settled is_ready k) refl)
      where
        less : Less k step.settled w
        less = less_before k (other_way k p apart)

        same_rest : (b c : Bool) → b ≡ c → (is_process after is_ready k && not b) ≡ (is_process after is_ready k && not c)
        same_rest b c = ap (λ (d : Bool). is_process after is_ready k && not d)

        by_turns : AsOrWoken k step.settled after → (was : Bool) → is_process step.settled is_ready k ≡ was
            → (is_process after is_ready k && not (is_process w is_ready k)) ≡ (is_process after is_ready k && not (is_process step.settled is_ready k))
        by_turns (inl same) false is = rw (same is_ready, is) refl
        by_turns (inl same) true is = same_rest _ _ (less is_ready refl refl refl is ∙ sym is)
        by_turns (inr (was, now)) s is =
            same_rest _ _ (busy_so (get w.processes k) (less is_blocked refl refl refl was) ∙ sym (busy_so (get step.settled.processes k) was))

    fewer : (list : List ℕ) → AreParted step.settled.blocked child list after.blocked → OthersCome w p after list
    fewer list parted k apart =
        come_so None list (subst (λ (c : Option ℕ). AreParted step.settled.blocked c list after.blocked) starts_none parted) k refl
        ∙ ap (λ (b : Bool). if b then 1 else 0) (fewer_same k apart)

  pub changed : (all_told : Told) → Tells lib w p x after step (woke_of all_told) → TellsKilled lib w p (killed_of all_told) → FitsItem x all_told
      → IsChanged w p after all_told
  changed said.Same come tells fits =
      let others = spares_more x fits in (stays_by others child refl, comes_by others child refl [] (come refl), itself others fits)
  changed (said.Woke who) come tells fits = (stays_by fits child refl, λ all. comes_by fits child refl (pids_told who) (come all))
  changed (said.Killed killed) come tells fits = (stays_told fits killed.tasks tells, λ all. fewer fits (pids_told killed.woke) (come all))
