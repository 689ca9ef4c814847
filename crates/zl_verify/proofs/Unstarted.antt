-- A process that was made and isn't started yet is as it was made, and its job allows what its program needs; what a step does keeps this.
use Rattle.zl_verify.proofs.Common.{Acts, AtCall, Awaited, Blocked, Bool, Calls, Created, Ended, Entry, IsStuck, KILLED, Library, Life, List, Moves, Next, None}
use Rattle.zl_verify.proofs.Common.{Option, Outcome, Process, ProcessBody, Ready, Request, Site, Some, TraceItem, World, [], after_ok, after_refusal, ap}
use Rattle.zl_verify.proofs.Common.{awaited_by, cases_Bool, cpu_answered, created_process, effect, ended, ended_other, ends_caller, entering_at, eq-eqb}
use Rattle.zl_verify.proofs.Common.{eqb-true, false, get, get-each, get-put, get-update, gives_ok, gives_refused, has_ended, if◌then◌else◌, inl, inr}
use Rattle.zl_verify.proofs.Common.{insert_all, is_created, is_within, kept_by, kept_other, left_behind, left_other, new_handles, object_at, ok_outcome}
use Rattle.zl_verify.proofs.Common.{on_object, on_process, option_map, process_create, process_ended, process_killed, process_start, process_with, put}
use Rattle.zl_verify.proofs.Common.{receiver_of, refl, refusal, replied, replied_other, same_Some, started_with, stored_by, stored_other, subst, sym, taken}
use Rattle.zl_verify.proofs.Common.{taken_handles, task_kill, true, waiting, waiting_other, with_effect, with_killed, with_object, ℕ, ℤ, ◌<◌, ◌==◌, ◌∙◌, ◌∷◌}
use Rattle.zl_verify.proofs.Common.{◌≡◌, ◌⊎◌}
use Rattle.zl_rights.specs.declared.status.Status.TheVariants as status
use Rattle.zl_code.specs.declared.history.Outcome.TheVariants as outcome
use Rattle.zl_verify.proofs.CallEnds.{call_ends}
use Rattle.zl_verify.proofs.Giving.{getting_all}
use Rattle.zl_verify.proofs.OwnTable.{changed_here, changed_elsewhere, inserted_elsewhere, own_handles, losing_all, losing_same, removed_here, getting_same}
use Rattle.zl_verify.proofs.Storing.{keeping_same, storing_same}
use Rattle.zl_verify.proofs.OwnEffect.{IsDone, caller_after, caller_ending, inserted_objects, kept_objects, stored_objects}
use Rattle.zl_verify.proofs.Others.{not_created}

-- ---- where such a process comes from

-- y was at q in u, or the request made it
data Origin (lib : Library) (w u : World) (q : ℕ) (r : Request) (y : Process) : Type 0 where
  from_before : get u.processes q ≡ Some y → Origin lib w u q r y
  from_call : (h program : ℕ) → r ≡ process_create h program → q ≡ w.next_koid → y ≡ created_process lib program → Origin lib w u q r y

unmapped : (vs : List ℕ) (o : Option Process) → option_map (getting_all [] vs) o ≡ o
unmapped vs None = refl
unmapped vs (Some x) = refl

-- handles enter a table, if there is one
pub inserted_at : (es : List Entry) (vs : List ℕ) (w : World) (k : ℕ)
    → get (insert_all w k es vs).processes k ≡ option_map (getting_all es vs) (get w.processes k)
unfolding insert_all on_process
inserted_at [] vs w k = sym (unmapped vs (get w.processes k))
inserted_at (e ∷ es) [] w k = by (get w.processes k)
  where
    by : (o : Option Process) → o ≡ option_map (getting_all (e ∷ es) []) o
    by None = refl
    by (Some x) = refl
inserted_at (e ∷ es) (v ∷ vs) w k =
    inserted_at es vs (on_process w k (process_with v e)) k
    ∙ (ap (option_map (getting_all es vs)) (get-update w.processes k (process_with v e) k ∙ rw (eq-eqb k k refl) refl) ∙ by (get w.processes k))
  where
    by : (o : Option Process) → option_map (getting_all es vs) (option_map (process_with v e) o) ≡ option_map (getting_all (e ∷ es) (v ∷ vs)) o
    by None = refl
    by (Some x) = refl

pub changed_at : (w : World) (k : ℕ) (f : Process → Process) → get (on_process w k f).processes k ≡ option_map f (get w.processes k)
unfolding on_process
changed_at w k f = get-update w.processes k f k ∙ rw (eq-eqb k k refl) refl

-- what ends isn't created
ended_old : (code : ℤ) (x : Process) → is_created (process_ended code x).state ≡ false
ended_old code x = by x.state refl
  where
    by : (l : Life) → x.state ≡ l → is_created (process_ended code x).state ≡ false
    by Created is = rw is refl
    by Ready is = rw is refl
    by (Blocked awaited ds) is = rw is refl
    by (Ended other) is = rw is refl
    by _ is = rw is refl

module _ (p q : ℕ) (apart : (p == q) ≡ false) (lib : Library) (w u : World) (y : Process) (new : is_created y.state ≡ true) where
  comes : (r : Request) (vs ws : List ℕ) (es : List Entry) → get (insert_all (effect lib w u p r vs) (receiver_of w p r) es ws).processes q ≡ Some y
      → Origin lib w u q r y
  unfolding effect with_object on_object with_killed
  comes (process_create job program) vs ws es at = by (cases_Bool (w.next_koid == q))
    where
      made : Process
      made = created_process lib program

      stands : (if w.next_koid == q then Some made else get u.processes q) ≡ Some y
      stands = sym (get-put u.processes w.next_koid made q) ∙ (sym (inserted_elsewhere es ws (effect lib w u p (process_create job program) vs) p q apart) ∙ at)

      by : ((w.next_koid == q) ≡ true) ⊎ ((w.next_koid == q) ≡ false) → Origin lib w u q (process_create job program) y
      by (inl same) = from_call job program refl (sym (eqb-true w.next_koid q same)) (sym (same_Some made y (rw same at stands)))
      by (inr other) = from_before (rw other at stands)
  comes (process_start process h word) vs ws es at = by (cases_Bool (child == q))
    where
      child : ℕ
      child = object_at w p process

      start : Process → Process
      start = started_with vs word

      started_here : (o : Option Process) → option_map (getting_all es ws) (option_map start o) ≡ Some y → ⊥
      started_here None e = cc
      started_here (Some x) e =
          let ready : y.state ≡ Ready = sym (ap (λ (z : Process). z.state) (same_Some _ y e)) ∙ (getting_same es ws (start x)).state in
          let bad : false ≡ true = sym (ap is_created ready) ∙ new in
          cc

      by : ((child == q) ≡ true) ⊎ ((child == q) ≡ false) → Origin lib w u q (process_start process h word) y
      by (inl same) =
          let here : get (insert_all (on_process u child start) child es ws).processes child ≡ Some y =
          subst (λ k. get (insert_all (on_process u child start) child es ws).processes k ≡ Some y) (sym (eqb-true child q same)) at in
          absurd (started_here (get u.processes child)
          (sym (inserted_at es ws (on_process u child start) child ∙ ap (option_map (getting_all es ws)) (changed_at u child start)) ∙ here))
      by (inr other) =
          from_before (sym (changed_elsewhere u child start q other) ∙ (sym (inserted_elsewhere es ws (on_process u child start) child q other) ∙ at))
  comes (task_kill target) vs ws es at = by (is_within u.objects task q) (get u.processes q) refl stands
    where
      task : ℕ
      task = object_at w p target

      stands : option_map (process_killed (is_within u.objects task q)) (get u.processes q) ≡ Some y
      stands =
          sym (get-each u.processes (λ k x. process_killed (is_within u.objects task k) x) q)
          ∙ (sym (inserted_elsewhere es ws (with_killed u task) p q apart) ∙ at)

      by : (b : Bool) (o : Option Process) → get u.processes q ≡ o → option_map (process_killed b) o ≡ Some y → Origin lib w u q (task_kill target) y
      by b None is e = cc
      by false (Some x) is e = from_before (is ∙ e)
      by true (Some x) is e = let bad : false ≡ true = sym (ended_old KILLED x) ∙ (ap (λ (z : Process). is_created z.state) (same_Some _ y e) ∙ new) in cc
  comes r vs ws es at = from_before (sym (inserted_elsewhere es ws (effect lib w u p r vs) p q apart) ∙ at)

-- ---- the act of a step

-- y was at q in w, or a call made it, and what is new in u is its object
pub data Comes (lib : Library) (w u : World) (p q : ℕ) (y : Process) : Type 0 where
  was : get w.processes q ≡ Some y → Comes lib w u p q y
  made : (h program : ℕ) → refusal lib w p (process_create h program) ≡ None → q ≡ w.next_koid → y ≡ created_process lib program
      → u.objects ≡ put w.objects w.next_koid (record { body = ProcessBody (object_at w p h); raised = 0 }) → Comes lib w u p q y

one_object : (lib : Library) (w u : World) (p h program : ℕ) (vs : List ℕ) → u.objects ≡ w.objects → u.next_koid ≡ w.next_koid
    → (effect lib w u p (process_create h program) vs).objects ≡ put w.objects w.next_koid (record { body = ProcessBody (object_at w p h); raised = 0 })
unfolding effect with_object
one_object lib w u p h program vs objects koids = rw (objects, koids) refl

module _ (lib : Library) (w : World) (p : ℕ) (caller : Process) (there : get w.processes p ≡ Some caller) (ready : caller.state ≡ Ready)
    (below : (k : ℕ) (x : Process) → get w.processes k ≡ Some x → k < w.next_koid) where
  abbrev lost : Site → Process
  lost t = losing_all (taken_handles t.request) caller

  lost_there : (t : Site) → get (taken w p t).processes p ≡ Some (lost t)
  lost_there t = removed_here (taken_handles t.request) w p caller there

  lost_ready : (t : Site) → (lost t).state ≡ Ready
  lost_ready t = (losing_same (taken_handles t.request) caller).state ∙ ready

  module _ (t : Site) (passes : refusal lib w p t.request ≡ None) where
    done : IsDone lib w (taken w p t) p t.request
    done =
        let kept = (left_behind w p caller (taken_handles t.request) there).1 in
        record { caller = caller; there = there; ready = ready; below = below; passes = passes; objects = kept.objects; koids = kept.next_koid }

    -- the caller is ready behind what the call does, or over
    caller_then : (vs : List ℕ)
        → (y : Process) × (get (with_effect lib w (taken w p t) p t.request vs).processes p ≡ Some y) × ((y.state ≡ Ready) ⊎ (has_ended y.state ≡ true))
    caller_then vs = by (ends_caller w p t.request) refl
      where
        by : (e : Option ℤ) → ends_caller w p t.request ≡ e
            → (y : Process) × (get (with_effect lib w (taken w p t) p t.request vs).processes p ≡ Some y) × ((y.state ≡ Ready) ⊎ (has_ended y.state ≡ true))
        by None goes = (
          _,
          caller_after t.request lib w (taken w p t) p done goes vs (lost t) (lost_there t),
          inl ((keeping_same (kept_by t.request vs) _).state
              ∙ ((storing_same (stored_by w p t.request) (getting_all (own_handles w p t.request) (entering_at t.request vs) (lost t))).state
              ∙ ((getting_same (own_handles w p t.request) (entering_at t.request vs) (lost t)).state ∙ lost_ready t))),
        )
        by (Some code) is = caller_ending t.request lib w (taken w p t) p code is vs (lost t) (lost_there t) (lost_ready t)

    -- what the effect leaves of objects, where the call makes a process
    made_objects : (vs : List ℕ) (h program : ℕ) → t.request ≡ process_create h program
        → (with_effect lib w (taken w p t) p t.request vs).objects ≡ put w.objects w.next_koid (record { body = ProcessBody (object_at w p h); raised = 0 })
    made_objects vs h program is =
        kept_objects (kept_by t.request vs) _ p
        ∙ (stored_objects (stored_by w p t.request) _ p
        ∙ (inserted_objects (new_handles w p t.request) (entering_at t.request vs) (effect lib w (taken w p t) p t.request vs) (receiver_of w p t.request)
        ∙ (ap (λ r. (effect lib w (taken w p t) p r vs).objects) is ∙ one_object lib w (taken w p t) p h program vs done.objects done.koids)))

    -- behind a call that isn't refused, in a world that differs at p alone
    comes_so : (vs : List ℕ) (v : World) (q : ℕ) → (p == q) ≡ false → get v.processes q ≡ get (with_effect lib w (taken w p t) p t.request vs).processes q
        → v.objects ≡ (with_effect lib w (taken w p t) p t.request vs).objects
        → (y : Process) → get v.processes q ≡ Some y → is_created y.state ≡ true → Comes lib w v p q y
    comes_so vs v q apart same objects y at new =
        by (comes p q apart lib w (taken w p t) y new t.request vs (entering_at t.request vs) (new_handles w p t.request)
        (sym (stored_other p q apart (stored_by w p t.request) _) ∙ (sym (kept_other p q apart (kept_by t.request vs) _) ∙ (sym same ∙ at))))
      where
        by : Origin lib w (taken w p t) q t.request y → Comes lib w v p q y
        by (from_before is) = was (sym (left_other p q apart (taken_handles t.request) w) ∙ is)
        by (from_call h program is fresh blank) =
            made h program (subst (λ r. refusal lib w p r ≡ None) is passes) fresh blank (objects ∙ made_objects vs h program is)

  -- right after the act, each such process comes so, and p is none
  pub record AllCome (u : World) : Type 0 where
    pub others : (q : ℕ) (y : Process) → (p == q) ≡ false → get u.processes q ≡ Some y → is_created y.state ≡ true → Comes lib w u p q y
    pub own : (y : Process) × (get u.processes p ≡ Some y) × (is_created y.state ≡ false)

  ready_old : (y : Process) → (y.state ≡ Ready) ⊎ (has_ended y.state ≡ true) → is_created y.state ≡ false
  ready_old y (inl is) = ap is_created is
  ready_old y (inr over) = not_created y.state over

  -- p alone changed
  only_p : (u : World) (f : Process → Process) (y : Process) → ((q : ℕ) → (p == q) ≡ false → get u.processes q ≡ get w.processes q)
      → get u.processes p ≡ Some (f y) → is_created (f y).state ≡ false → AllCome u
  only_p u f y same at old = record { others = λ q z apart is new. was (sym (same q apart) ∙ is); own = (f y, at, old) }

  when_refused : (t : Site) (o : Outcome) → AllCome (after_refusal w p t o)
  unfolding replied ended
  when_refused t (outcome.Answered answer) =
      only_p (replied (taken w p t) p t answer (gives_refused w p t.request answer))
      (λ y. record y { cpu = cpu_answered t answer (gives_refused w p t.request answer) y.cpu }) (lost t)
      (λ q apart. replied_other p q apart (taken w p t) t answer (gives_refused w p t.request answer) ∙ left_other p q apart (taken_handles t.request) w)
      (changed_here (taken w p t) p _ (lost t) (lost_there t)) (ap is_created (lost_ready t))
  when_refused t (outcome.Ended code) =
      only_p (ended w p code) (process_ended code) caller (λ q apart. ended_other p q apart w code) (changed_here w p (process_ended code) caller there)
      (ended_old code caller)
  when_refused t outcome.Blocked = only_p w (λ y. y) caller (λ q apart. refl) there (ap is_created ready)

  when_waits : (ds : List ℕ) (o : Option Awaited) → AllCome (waiting w p ds o)
  when_waits ds None = only_p w (λ y. y) caller (λ q apart. refl) there (ap is_created ready)
  when_waits ds (Some awaited) =
      only_p (waiting w p ds (Some awaited)) (λ y. record y { state = Blocked awaited ds }) caller (λ q apart. waiting_other p q apart w ds (Some awaited))
      (changed_here w p _ caller there) refl

  module _ (t : Site) where
    when_ok : refusal lib w p t.request ≡ None → (vs : List ℕ) (o : Outcome) → AllCome (after_ok lib w p t vs o)
    unfolding replied ended on_process
    when_ok passes vs (outcome.Answered answer) =
        let last = caller_then t passes vs in
        let v : World = with_effect lib w (taken w p t) p t.request vs in
        record {
          others = λ q y apart. comes_so t passes vs (replied v p t status.Ok (gives_ok w p t.request vs)) q apart
              (replied_other p q apart v t status.Ok (gives_ok w p t.request vs)) refl y;
          own = (_, changed_here v p _ last.0 last.1, ready_old last.0 last.2);
        }
    when_ok passes vs (outcome.Ended code) =
        let last = caller_then t passes vs in
        let v : World = with_effect lib w (taken w p t) p t.request vs in
        record {
          others = λ q y apart. comes_so t passes vs (ended v p code) q apart (ended_other p q apart v code) refl y;
          own = (process_ended code last.0, changed_here v p (process_ended code) last.0 last.1, ended_old code last.0);
        }
    when_ok passes vs outcome.Blocked = when_waits t.destinations (awaited_by w p t.request)

    when_called : (answer : Outcome) (w2 : World) → Calls lib w p t answer w2 → AllCome w2
    when_called =
        call_ends lib w p t (λ o v. AllCome v) (λ o is. when_refused t o) (λ want may. when_refused t (outcome.Answered want))
        (λ passes vs may. when_ok passes vs (ok_outcome w p t.request))

  pub when_acted : (n : Next) (x : TraceItem) (w2 : World) → Acts lib w p n x w2 → AllCome w2
  unfolding ended
  when_acted (Moves e) x w2 a =
      rw a.1 (only_p (on_process w p (λ y. record y { cpu = e })) (λ y. record y { cpu = e }) caller (λ q apart. changed_elsewhere w p _ q apart)
      (changed_here w p _ caller there) (ap is_created ready))
  when_acted (AtCall called t) x w2 (o, e, h) = when_called t o w2 h
  when_acted IsStuck x w2 a =
      rw a.1 (only_p (ended w p _) (process_ended _) caller (λ q apart. ended_other p q apart w _) (changed_here w p (process_ended _) caller there)
      (ended_old _ caller))
