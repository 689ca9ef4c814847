-- A process that doesn't run: what a step makes of it, which starts it at most.
use Rattle.zl_verify.proofs.Common.{Acts, AtCall, Awaited, Blocked, Bool, CallName, Calls, Created, Entry, IsStuck, Library, Life, List, Moves, Next, None}
use Rattle.zl_verify.proofs.Common.{Option, Outcome, Process, Program, Ready, Request, Settles, Site, Some, StartsChild, Step, TraceItem, World, after_ok}
use Rattle.zl_verify.proofs.Common.{after_refusal, answered, ap, asks_again, awaited_by, cases_Bool, cond_both, created_process, effect, ended, ended_other}
use Rattle.zl_verify.proofs.Common.{entering_at, eqb-true, false, fired, get, get-each, get-put, gives_ok, gives_refused, inl, inr, insert_all, is_created}
use Rattle.zl_verify.proofs.Common.{is_process, is_within, kept_by, kept_other, left_other, lives, made_ready, name_of, new_handles, next_for, next_in}
use Rattle.zl_verify.proofs.Common.{object_at, ok_outcome, on_object, on_process, option_map, process_create, process_killed, process_settled, process_start}
use Rattle.zl_verify.proofs.Common.{put, receiver_of, refl, refusal, replied, replied_other, runs, slice_get, started_with, state_passes, state_without}
use Rattle.zl_verify.proofs.Common.{stored_by, stored_other, subst, sym, taken, taken_handles, task_kill, true, waiting, waiting_other, wakes, with_effect}
use Rattle.zl_verify.proofs.Common.{with_killed, with_object, without_others, ℕ, ◌==◌, ◌∙◌, ◌≡◌, ◌⊎◌}
use Rattle.zl_rights.specs.declared.status.Status.TheVariants as status
use Rattle.zl_code.specs.declared.history.CallName.TheVariants as name
use Rattle.zl_code.specs.declared.history.Outcome.TheVariants as outcome
use Rattle.zl_code.specs.declared.history.TraceItem.TheVariants as item
use Rattle.zl_verify.proofs.CallEnds.{call_ends}
use Rattle.zl_verify.proofs.Waking.{turn_by_answer, wakes_by}
use Rattle.zl_verify.proofs.OwnEffect.{starts_created}
use Rattle.zl_verify.proofs.AtCalls.{IsAtCall, at_call}
use Rattle.zl_verify.proofs.OwnTable.{changed_elsewhere, inserted_elsewhere}

-- no process of this koid runs
abbrev pub IsIdle : World → ℕ → Type 0
IsIdle w q = state_passes runs (get w.processes q) ≡ false

same_idle : (q : ℕ) (u v : World) → get v.processes q ≡ get u.processes q → IsIdle u q → IsIdle v q
same_idle q u v same idle = ap (state_passes runs) same ∙ idle

-- ---- settling and waking

settled_idle : (q : ℕ) (u v : World) → Settles u v → IsIdle u q → IsIdle v q
unfolding without_others
settled_idle q u v (K, largest, is) idle = rw is (ap (state_passes runs) (get-each u.processes (process_settled K) q) ∙ by (get u.processes q) idle)
  where
    by_life : (b : Bool) (l : Life) → runs l ≡ false → runs (state_without b l) ≡ false
    by_life true Created e = refl
    by_life false Created e = refl
    by_life b _ e = e

    by : (o : Option Process) → state_passes runs o ≡ false → state_passes runs (option_map (process_settled K q) o) ≡ false
    by None e = refl
    by (Some x) e = by_life (K q) x.state e

module _ (q : ℕ) where
  module _ (u : World) (idle : IsIdle u q) (m : ℕ) where
    -- another gets its answer
    readied : (v : World) → v.processes ≡ u.processes → (y : Process) → get u.processes m ≡ Some y → (awaited : Awaited) (ds vs : List ℕ)
        → y.state ≡ Blocked awaited ds → IsIdle (made_ready v m y ds vs) q
    unfolding made_ready
    readied v same y at awaited ds vs blocked = by (cases_Bool (m == q))
      where
        by : ((m == q) ≡ true) ⊎ ((m == q) ≡ false) → state_passes runs (get (put v.processes m (record y { state = Ready; cpu = answered y.cpu ds vs })) q)
            ≡ false
        by (inl e) =
            let here : get u.processes q ≡ Some y = subst (λ j. get u.processes j ≡ Some y) (eqb-true m q e) at in
            let bad : true ≡ false = sym (ap runs blocked) ∙ (sym (ap (state_passes runs) here) ∙ idle) in
            cc
        by (inr e) = ap (state_passes runs) (get-put v.processes m (record y { state = Ready; cpu = answered y.cpu ds vs }) q
            ∙ rw e (ap (λ ps. get ps q) same)) ∙ idle

  idle_awake : (w : World) → IsIdle w q → IsIdle (wakes w) q
  unfolding fired
  idle_awake w idle = wakes_by (λ u. IsIdle u q) (λ u m idle. turn_by_answer (λ v. IsIdle v q) u m idle (readied u idle m)) w idle

  -- who doesn't run right after the act of a step doesn't at its end
  pub idle_still : (lib : Library) (w : World) (m : ℕ) (x : TraceItem) (w2 : World) → (step : Step lib w m x w2) → IsIdle step.acted q → IsIdle w2 q
  idle_still lib w m x w2 step idle =
      subst (λ v. IsIdle v q) (sym step.ends_awake) (idle_awake step.settled (settled_idle q step.acted step.settled step.settles idle))

-- ---- the act

module _ (p q : ℕ) (apart : (p == q) ≡ false) (lib : Library) (w : World) where
  -- it doesn't run in u either, or the request starts it
  data Idles (r : Request) (u : World) : Type 0 where
    idles : IsIdle u q → Idles r u
    starts : (process h word : ℕ) → r ≡ process_start process h word → object_at w p process ≡ q → Idles r u

  carried : (r : Request) (u v : World) → get v.processes q ≡ get u.processes q → Idles r u → Idles r v
  carried r u v same (idles i) = idles (same_idle q u v same i)
  carried r u v same (starts process h word asked child) = starts process h word asked child

  done : (r : Request) (u : World) → IsIdle u q → (vs ws : List ℕ) (es : List Entry) → Idles r (insert_all (effect lib w u p r vs) (receiver_of w p r) es ws)
  unfolding effect with_object on_object with_killed
  done (process_create job program) u idle vs ws es =
      idles (ap (state_passes runs) (inserted_elsewhere es ws (effect lib w u p (process_create job program) vs) p q apart
      ∙ get-put u.processes w.next_koid (created_process lib program) q)
      ∙ cond_both (w.next_koid == q) (Some (created_process lib program)) (get u.processes q) (λ o. state_passes runs o ≡ false) (λ _. refl) (λ _. idle))
  done (process_start process h word) u idle vs ws es = by (cases_Bool (child == q))
    where
      child : ℕ
      child = object_at w p process

      start : Process → Process
      start = started_with vs word

      by : ((child == q) ≡ true) ⊎ ((child == q) ≡ false) → Idles (process_start process h word) (insert_all (on_process u child start) child es ws)
      by (inl same) = starts process h word refl (eqb-true child q same)
      by (inr other) = idles (same_idle q u (insert_all (on_process u child start) child es ws)
          (inserted_elsewhere es ws (on_process u child start) child q other ∙ changed_elsewhere u child start q other) idle)
  done (task_kill target) u idle vs ws es =
      idles (ap (state_passes runs) (inserted_elsewhere es ws (with_killed u task) p q apart
      ∙ get-each u.processes (λ k x. process_killed (is_within u.objects task k) x) q) ∙ by (is_within u.objects task q) (get u.processes q) idle)
    where
      task : ℕ
      task = object_at w p target

      over : (y : Process) → (l : Bool) → lives y.state ≡ l → runs y.state ≡ false → runs (process_killed true y).state ≡ false
      over y true is e = rw is refl
      over y false is e = rw is e

      by : (b : Bool) (o : Option Process) → state_passes runs o ≡ false → state_passes runs (option_map (process_killed b) o) ≡ false
      by b None e = refl
      by false (Some y) e = e
      by true (Some y) e = over y (lives y.state) refl e
  done r u idle vs ws es = idles (same_idle q u (insert_all (effect lib w u p r vs) p es ws) (inserted_elsewhere es ws (effect lib w u p r vs) p q apart) idle)

  module _ (idle : IsIdle w q) where
    when_refused : (t : Site) (o : Outcome) → IsIdle (after_refusal w p t o) q
    when_refused t (outcome.Answered answer) =
        same_idle q w (replied (taken w p t) p t answer (gives_refused w p t.request answer))
        (replied_other p q apart (taken w p t) t answer (gives_refused w p t.request answer) ∙ left_other p q apart (taken_handles t.request) w) idle
    when_refused t (outcome.Ended code) = same_idle q w (ended w p code) (ended_other p q apart w code) idle
    when_refused t outcome.Blocked = idle

    module _ (t : Site) where
      when_done : (vs : List ℕ) → Idles t.request (with_effect lib w (taken w p t) p t.request vs)
      when_done vs =
          carried t.request _ _ (kept_other p q apart (kept_by t.request vs) _ ∙ stored_other p q apart (stored_by w p t.request)
          (insert_all (effect lib w (taken w p t) p t.request vs) (receiver_of w p t.request) (new_handles w p t.request) (entering_at t.request vs)))
          (done t.request (taken w p t) (same_idle q w (taken w p t) (left_other p q apart (taken_handles t.request) w) idle) vs (entering_at t.request vs)
          (new_handles w p t.request))

      when_ok : (vs : List ℕ) (o : Outcome) → Idles t.request (after_ok lib w p t vs o)
      when_ok vs (outcome.Answered answer) =
          carried t.request _ _ (replied_other p q apart (with_effect lib w (taken w p t) p t.request vs) t status.Ok (gives_ok w p t.request vs))
          (when_done vs)
      when_ok vs (outcome.Ended code) = carried t.request _ _ (ended_other p q apart (with_effect lib w (taken w p t) p t.request vs) code) (when_done vs)
      when_ok vs outcome.Blocked = idles (same_idle q w (waiting w p t.destinations (awaited_by w p t.request))
          (waiting_other p q apart w t.destinations (awaited_by w p t.request)) idle)

      -- it doesn't run, or the call starts it and is answered OK
      abbrev IsStart : Outcome → Type 0
      IsStart o = (process : ℕ) × (h : ℕ) × (word : ℕ) × (t.request ≡ process_start process h word) × (object_at w p process ≡ q)
          × (is_process w is_created q ≡ true) × (o ≡ outcome.Answered status.Ok)

      when_passed : refusal lib w p t.request ≡ None → (vs : List ℕ)
          → IsIdle (after_ok lib w p t vs (ok_outcome w p t.request)) q ⊎ IsStart (ok_outcome w p t.request)
      when_passed passes vs = by (when_ok vs (ok_outcome w p t.request))
        where
          by : Idles t.request (after_ok lib w p t vs (ok_outcome w p t.request))
              → IsIdle (after_ok lib w p t vs (ok_outcome w p t.request)) q ⊎ IsStart (ok_outcome w p t.request)
          by (idles i) = inl i
          by (starts process k word asked child) = inr (
            process,
            k,
            word,
            asked,
            child,
            subst (λ j. is_process w is_created j ≡ true) child
                (starts_created lib w p process k word (subst (λ r. refusal lib w p r ≡ None) asked passes)),
            ap (ok_outcome w p) asked,
          )

      when_called : (answer : Outcome) (w2 : World) → Calls lib w p t answer w2 → IsIdle w2 q ⊎ IsStart answer
      when_called =
          call_ends lib w p t (λ o v. IsIdle v q ⊎ IsStart o) (λ o is. inl (when_refused t o)) (λ want may. inl (when_refused t (outcome.Answered want)))
          (λ passes vs may. when_passed passes vs)

module _ (lib : Library) (w : World) (p : ℕ) (x : TraceItem) (w2 : World) (step : Step lib w p x w2) (q : ℕ) (apart : (p == q) ≡ false) (idle : IsIdle w q)
  where
    -- x tells of a process_start of q that is answered OK
    pub record IsStarting : Type 0 where
      pub told : x ≡ item.Call p name.ProcessStart (outcome.Answered status.Ok)
      pub child : StartsChild lib w p step.process q
      pub created : is_process w is_created q ≡ true

    -- right after the act it doesn't run, or was started
    abbrev IsKept : Type 0
    IsKept = IsIdle step.acted q ⊎ IsStarting

    starting : (called : CallName) (t : Site) → next_for lib step.process ≡ AtCall called t → called ≡ name.ProcessStart → (process h word : ℕ)
        → t.request ≡ process_start process h word → object_at w p process ≡ q → is_process w is_created q ≡ true → (o : Outcome) → x ≡ item.Call p called o
        → o ≡ outcome.Answered status.Ok → IsStarting
    starting called t next named process h word asked is_child created o told is = record {
      told = told ∙ (λ i. item.Call p (named i) (is i));
      child = record { site = t; next = next ∙ ap (λ n. AtCall n t) named; process = process; handle = h; word = word; asks = asked; child = is_child };
      created = created;
    }

    by_program : (o : Option Program) → slice_get lib step.process.program ≡ o → (n : Next) → next_in o step.process.cpu ≡ n → Acts lib w p n x step.acted
        → IsKept
    by_program o at (Moves c) next a = inl (same_idle q w step.acted (ap (λ v. get v.processes q) a.1 ∙ changed_elsewhere w p _ q apart) idle)
    by_program o at IsStuck next a = inl (same_idle q w step.acted (ap (λ v. get v.processes q) a.1 ∙ ended_other p q apart w _) idle)
    by_program None at (AtCall called t) next a = cc
    by_program (Some g) at (AtCall called t) next (o, told, h) =
        by (when_called p q apart lib w idle t o step.acted h)
      where
        there : IsAtCall g.image step.process.cpu called t
        there = at_call g.image step.process.cpu called t next

        by : IsIdle step.acted q ⊎ IsStart p q apart lib w idle t o → IsKept
        by (inl i) = inl i
        by (inr (process, k, word, asked, child, created, is)) = inr (starting called t (ap (λ y. next_in y step.process.cpu) at ∙ next)
            (sym there.named ∙ (sym (asks_again there.call step.process.cpu t there.site) ∙ ap name_of asked)) process k word asked child
            created o told is)

    kept : IsKept
    kept = by_program (slice_get lib step.process.program) refl (next_for lib step.process) refl step.acts

    -- so it is at the end of the step
    pub stays_idle : IsIdle w2 q ⊎ IsStarting
    stays_idle = by kept
      where
        by : IsKept → IsIdle w2 q ⊎ IsStarting
        by (inl i) = inl (idle_still q lib w p x w2 step i)
        by (inr s) = inr s
