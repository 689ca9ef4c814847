-- What one process does leaves every other as it is, and as its typing says, or ends it.
use Rattle.zl_verify.proofs.Common.{Acts, AtCall, Awaited, Bool, Calls, Condition, Conforms, Created, Ended, Entry, Image, IsFitStep, IsSound, IsStuck, IsTrue}
use Rattle.zl_verify.proofs.Common.{IsTyping, KILLED, Library, Life, List, Moves, Next, None, Option, OthersLeave, Outcome, Process, Request, STUCK, Site, Some}
use Rattle.zl_verify.proofs.Common.{State, Status, Step, TraceItem, World, [], after_ok, after_refusal, ap, arith, awaited_by, created_process, creates, effect}
use Rattle.zl_verify.proofs.Common.{ended, ended_other, entering_at, false, get, get-each, get-put, gives_ok, gives_refused, has_ended, insert_all, is_among}
use Rattle.zl_verify.proofs.Common.{is_created, is_in_range, is_some, is_within, kept_by, kept_other, left_behind, left_other, left_so, lives, new_handles}
use Rattle.zl_verify.proofs.Common.{next_for, object_at, ok_outcome, on_object, on_process, option_map, process_create, process_ended, process_killed}
use Rattle.zl_verify.proofs.Common.{process_start, receiver_of, refl, refusal, replied, replied_other, runs, started_with, stored_by, stored_other, taken}
use Rattle.zl_verify.proofs.Common.{taken_handles, task_kill, true, waiting, waiting_other, was_killed, with_effect, with_killed, with_object, ℕ, ◌<◌, ◌==◌}
use Rattle.zl_verify.proofs.Common.{◌∙◌, ◌≡◌}
use Rattle.zl_rights.specs.declared.status.Status.TheVariants as status
use Rattle.zl_code.specs.declared.history.Outcome.TheVariants as outcome
use Rattle.zl_verify.proofs.CallEnds.{call_ends}
use Rattle.zl_verify.proofs.OwnTable.{changed_elsewhere, inserted_elsewhere}
use Rattle.zl_verify.proofs.OwnEffect.{starts_created, no_child, other_koid, AreAlike, alike_then, same_objects, alike_after, same_policy}
use Rattle.zl_verify.proofs.Woken.{lives_then, sound_before, ends_step}
use Rattle.zl_verify.proofs.Ended.{ended_still}

-- ---- the others

-- what p leaves of another process: as it was, or killed
pub data IsLeft (y : Process) (o : Option Process) : Type 0 where
  as_before : o ≡ Some y → IsLeft y o
  was_ended : o ≡ Some (process_ended KILLED y) → IsLeft y o

left_same : (y : Process) (a b : Option Process) → a ≡ b → IsLeft y b → IsLeft y a
left_same y a b same (as_before is) = as_before (same ∙ is)
left_same y a b same (was_ended is) = was_ended (same ∙ is)

module _ (p q : ℕ) (apart : (p == q) ≡ false) where
  -- q was not only created
  module _ (w : World) (y : Process) (there : get w.processes q ≡ Some y) (old : is_created y.state ≡ false) where
    -- the started process is another
    not_started : (lib : Library) (process h word : ℕ) → refusal lib w p (process_start process h word) ≡ None → (object_at w p process == q) ≡ false
    not_started lib process h word passes = no_child w (object_at w p process) q y (starts_created lib w p process h word passes) there old

    -- handles enter another table
    entered_other : (r : Request) (lib : Library) → refusal lib w p r ≡ None → (es : List Entry) (vs : List ℕ) (v : World)
        → get (insert_all v (receiver_of w p r) es vs).processes q ≡ get v.processes q
    entered_other (process_start process h word) lib passes es vs v =
        inserted_elsewhere es vs v (object_at w p process) q (not_started lib process h word passes)
    entered_other _ lib passes es vs v = inserted_elsewhere es vs v p q apart

    killed_or_not : (b : Bool) → IsLeft y (Some (process_killed b y))
    killed_or_not true = was_ended refl
    killed_or_not false = as_before refl

    effect_other : (r : Request) (lib : Library) → refusal lib w p r ≡ None → (u : World) → get u.processes q ≡ Some y → q < w.next_koid → (vs : List ℕ)
        → IsLeft y (get (effect lib w u p r vs).processes q)
    unfolding effect with_object on_object with_killed
    effect_other (process_create job program) lib passes u at below vs =
        as_before (get-put u.processes w.next_koid (created_process lib program) q ∙ rw (other_koid w.next_koid q below) at)
    effect_other (process_start process h word) lib passes u at below vs =
        as_before (changed_elsewhere u (object_at w p process) (started_with vs word) q (not_started lib process h word passes) ∙ at)
    effect_other (task_kill task) lib passes u at below vs =
        left_same y _ _ (get-each u.processes (λ k x. process_killed (is_within u.objects (object_at w p task) k) x) q
        ∙ ap (option_map (process_killed (is_within u.objects (object_at w p task) q))) at) (killed_or_not (is_within u.objects (object_at w p task) q))
    effect_other _ lib passes u at below vs = as_before at

module _ (lib : Library) (w : World) (p : ℕ) (caller : Process) (there : get w.processes p ≡ Some caller)
    (below : (q : ℕ) (y : Process) → get w.processes q ≡ Some y → q < w.next_koid) where
  -- a world in which every started process but p is as it was or killed, and each policy of such a one as it was
  pub record LeavesOthers (w2 : World) : Type 0 where
    pub others : (q : ℕ) (y : Process) → (p == q) ≡ false → get w.processes q ≡ Some y → is_created y.state ≡ false → IsLeft y (get w2.processes q)
    pub alike : AreAlike w w w2

  nothing_done : LeavesOthers w
  nothing_done = record { others = λ q y apart at old. as_before at; alike = same_objects w w w refl }

  -- p alone changes
  then_p : (u v : World) → LeavesOthers u → ((q : ℕ) → (p == q) ≡ false → get v.processes q ≡ get u.processes q) → v.objects ≡ u.objects → LeavesOthers v
  then_p u v l same objects = record {
    others = λ q y apart at old. left_same y _ _ (same q apart) (l.others q y apart at old);
    alike = alike_then w w u v l.alike (same_objects w u v objects);
  }

  when_ended : (u : World) (code : _) → LeavesOthers u → LeavesOthers (ended u p code)
  unfolding ended on_process
  when_ended u code l = then_p u (ended u p code) l (λ q apart. ended_other p q apart u code) refl

  when_replied : (u : World) (t : Site) (answer : Status) (values : List ℕ) → LeavesOthers u → LeavesOthers (replied u p t answer values)
  unfolding replied on_process
  when_replied u t answer values l = then_p u (replied u p t answer values) l (λ q apart. replied_other p q apart u t answer values) refl

  when_waiting : (ds : List ℕ) (awaited : Option Awaited) → LeavesOthers (waiting w p ds awaited)
  unfolding on_process
  when_waiting ds None = nothing_done
  when_waiting ds (Some awaited) = then_p w (waiting w p ds (Some awaited)) nothing_done (λ q apart. waiting_other p q apart w ds (Some awaited)) refl

  when_taken : (t : Site) → LeavesOthers (taken w p t)
  when_taken t =
      then_p w (taken w p t) nothing_done (λ q apart. left_other p q apart (taken_handles t.request) w)
      (left_behind w p caller (taken_handles t.request) there).1.objects

  when_refused : (t : Site) (o : Outcome) → LeavesOthers (after_refusal w p t o)
  when_refused t (outcome.Answered answer) = when_replied (taken w p t) t answer (gives_refused w p t.request answer) (when_taken t)
  when_refused t (outcome.Ended code) = when_ended w code nothing_done
  when_refused t outcome.Blocked = nothing_done

  module _ (t : Site) where
    when_done : refusal lib w p t.request ≡ None → (vs : List ℕ) → LeavesOthers (with_effect lib w (taken w p t) p t.request vs)
    when_done passes vs = record {
      others = λ q y apart at old.
          left_same y _ _
          (kept_other p q apart (kept_by t.request vs) _ ∙ (stored_other p q apart (stored_by w p t.request) _
          ∙ entered_other p q apart w y at old t.request lib passes (new_handles w p t.request) (entering_at t.request vs)
          (effect lib w (taken w p t) p t.request vs)))
          (effect_other p q apart w y at old t.request lib passes (taken w p t) (left_other p q apart (taken_handles t.request) w ∙ at) (below q y at) vs);
      alike = alike_then w w (taken w p t) _ (when_taken t).alike
          (alike_after t.request lib w (taken w p t) p passes (rw (left_behind w p caller (taken_handles t.request) there).1.next_koid (omega arith)) vs);
    }

    when_ok : refusal lib w p t.request ≡ None → (vs : List ℕ) (o : Outcome) → LeavesOthers (after_ok lib w p t vs o)
    when_ok passes vs (outcome.Answered answer) = when_replied _ t status.Ok (gives_ok w p t.request vs) (when_done passes vs)
    when_ok passes vs (outcome.Ended code) = when_ended _ code (when_done passes vs)
    when_ok passes vs outcome.Blocked = when_waiting t.destinations (awaited_by w p t.request)

    when_called : (answer : Outcome) (w2 : World) → Calls lib w p t answer w2 → LeavesOthers w2
    when_called =
        call_ends lib w p t (λ o v. LeavesOthers v) (λ o is. when_refused t o) (λ want may. when_refused t (outcome.Answered want))
        (λ passes vs may. when_ok passes vs (ok_outcome w p t.request))

  when_acted : (n : Next) (x : TraceItem) (w2 : World) → Acts lib w p n x w2 → LeavesOthers w2
  unfolding on_process
  when_acted (Moves d) x w2 a =
      rw a.1 (then_p w (on_process w p (λ (y : Process). record y { cpu = d })) nothing_done (λ q apart. changed_elsewhere w p _ q apart) refl)
  when_acted (AtCall called t) x w2 (o, e, h) = when_called t o w2 h
  when_acted IsStuck x w2 a = rw a.1 (when_ended w STUCK nothing_done)

pub keys_below : (w : World) → IsSound w → (q : ℕ) (y : Process) → get w.processes q ≡ Some y → q < w.next_koid
keys_below w sound q y at = sound.processes q (ap is_some at)

pub not_created : (l : Life) → has_ended l ≡ true → is_created l ≡ false
not_created Created e = cc
not_created _ e = refl

module _ (lib : Library) (w : World) (p : ℕ) (x : TraceItem) (w2 : World) (sound : IsSound w) (step : Step lib w p x w2) where
  pub left_by_step : LeavesOthers lib w p step.process step.is_there (keys_below w sound) step.acted
  left_by_step = when_acted lib w p step.process step.is_there (keys_below w sound) (next_for lib step.process) x step.acted step.acts

  -- what has ended is as it was right after the act of another
  pub over_after_act : (q : ℕ) (y : Process) → (p == q) ≡ false → get w.processes q ≡ Some y → has_ended y.state ≡ true → get step.acted.processes q ≡ Some y
  over_after_act q y apart at over = by (left_by_step.others q y apart at (not_created y.state over))
    where
      lives_no_more : (l : Life) → has_ended l ≡ true → lives l ≡ false
      lives_no_more (Ended code) e = refl
      lives_no_more _ e = cc

      by : IsLeft y (get step.acted.processes q) → get step.acted.processes q ≡ Some y
      by (as_before is) = is
      by (was_ended is) = is ∙ rw (lives_no_more y.state over) refl

-- ---- the law

module _ (i : Image) (t : ℕ → Option State) (range : is_in_range i ≡ true) (typing : IsTyping i t) (lib : Library) (w : World) (p : ℕ) (x : TraceItem)
    (w2 : World) (b : IsFitStep lib w p x w2) (q : ℕ) (process : Process) (apart : (p == q) ≡ false)
    (there : get w.processes q ≡ Some process) (running : runs process.state ≡ true) (k : Conforms i t w q process) where
  sound : IsSound w
  sound = sound_before lib w p x w2 b

  still_allowed : (c : Condition) → IsTrue (is_among i.needs c) → creates b.step.acted q c ≡ None
  still_allowed c named =
      same_policy w b.step.acted q process sound there (lives_then process.state running) (left_by_step lib w p x w2 sound b.step).alike c ∙ k.allowed c named

  conforms_still : Conforms i t b.step.acted q process
  conforms_still = record {
    state = k.state;
    stands = k.stands;
    holds = k.holds;
    memory = k.memory;
    counters = k.counters;
    allowed = still_allowed;
    waits = k.waits;
  }

  no_child_runs : (l : Life) → runs l ≡ true → is_created l ≡ false
  no_child_runs Created e = cc
  no_child_runs _ e = refl

  pub others_end : OthersLeave i t q process w2
  others_end = by ((left_by_step lib w p x w2 sound b.step).others q process apart there (no_child_runs process.state running))
    where
      by : IsLeft process (get b.step.acted.processes q) → OthersLeave i t q process w2
      by (as_before is) = left_so (ends_step i t range typing lib w p x w2 b q process is running conforms_still)
      by (was_ended is) =
          let over : get b.step.acted.processes q ≡ Some (record process { state = Ended KILLED; handles = []; last = None }) =
          is ∙ rw (lives_then process.state running) refl in
          was_killed (ended_still q (record process { state = Ended KILLED; handles = []; last = None }) refl lib w p x w2 b.step over)
