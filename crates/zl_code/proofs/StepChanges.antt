-- Which changes a step is made of: a call with its answer, a statement of a boot, and waking.
use Rattle.zl_code.proofs.Common.{Action, Acts, All, All-cons, All-nil, AtCall, Awaited, Blocked, Body, Bool, CallBy, ChannelEnd, Choice, Condition, Entry}
use Rattle.zl_code.proofs.Common.{EventBody, Grant, HasGivenKoids, IsSound, IsSoundWait, IsStuck, IsTrue, JobBody, Library, List, Map, Moves, Next, None}
use Rattle.zl_code.proofs.Common.{Object, Option, Outcome, Packet, PacketAt, PairEnd, PortBody, Process, ProcessBody, Ready, Refused, SignalOf, Site, Some}
use Rattle.zl_code.proofs.Common.{StandsBelow, State, Statement, Status, Step, TraceItem, Values, Wait, Wants, World, [], active, after_ok, after_refusal}
use Rattle.zl_code.proofs.Common.{and_parts, ap, arith, awaited_by, body_in, body_of, body_with_policy, boot_effect, boot_fault, cases_Bool, cpu_answered}
use Rattle.zl_code.proofs.Common.{created_process, eq-eqb, eqb-true, false, fired, fold, get, get-put, gives_ok, gives_refused, handle_given, handles_given}
use Rattle.zl_code.proofs.Common.{has_child, has_default_rights, has_key, if◌then◌else◌, inl, inr, insert_all, is_by_handle, is_dead, is_deepest, is_job}
use Rattle.zl_code.proofs.Common.{is_job_body, is_some, job_within, lacks_koids, list_all, made_ready, may_boot, may_choose, meets, nat_tests, ne_eqb, next_for}
use Rattle.zl_code.proofs.Common.{none-some, not, not-false, ok_outcome, on_object, on_process, option_to_list, or_parts, packet_values, policy_changed}
use Rattle.zl_code.proofs.Common.{process_with, process_with_all, put, queue_of, refl, refusal, replied, runs, setting, slice_index_or, started_with, subst}
use Rattle.zl_code.proofs.Common.{sym, taken, taken_handles, true, true≢false, update, waiting, wakes, with_body, with_effect, with_object, with_process, woken}
use Rattle.zl_code.proofs.Common.{woken_at_port, woken_by, woken_by_first, woken_from, woken_if_there, ℕ, ◌++◌, ◌+◌, ◌<◌, ◌==◌, ◌||◌, ◌∙◌, ◌∷◌, ◌≡◌}
use Rattle.zl_rights.specs.declared.status.Status.TheVariants as status
use Rattle.zl_code.specs.declared.boot.Statement.TheVariants as statement
use Rattle.zl_code.specs.declared.history.Outcome.TheVariants as outcome
use Rattle.zl_code.specs.declared.boot.BootCause.TheVariants as cause
use Rattle.zl_code.proofs.Killing.{new_job_stands}
use Rattle.zl_code.proofs.CanStart.{none_first, CanStart, can_start, handles_at_most, started_with_all, started_may_get}
use Rattle.zl_code.proofs.MapKept.{changed, changed_update, each_changed, each_put}
use Rattle.zl_code.proofs.Changes.{AreUnmade, computes, Changes, stays, changes, settles, join, one, process_changes, process_ends, process_wakes}
use Rattle.zl_code.proofs.Changes.{process_blocks, process_is_made, object_changes, policy_changes, object_is_made, channel_ends, pair_ends, ends_are_made}
use Rattle.zl_code.proofs.Changes.{packet_goes, waits_fire}
use Rattle.zl_code.proofs.Entering.{IsFine, all_enter, all_leave, left_behind, no_process}
use Rattle.zl_code.proofs.CallLaws.{laws}
use Rattle.zl_code.proofs.StepsBeside.{ActsAndSettles}

-- ---- calls

module _ (lib : Library) (w : World) (p : ℕ) (q : Process) (there : get w.processes p ≡ Some q) (ready : q.state ≡ Ready) where
  reply_changes : (u : World) (s : Site) (answer : Status) (values : List ℕ) → Changes w u (replied u p s answer values)
  unfolding replied
  reply_changes u s answer values = one w u _
      (process_changes w u p (λ x. record x { cpu = cpu_answered s answer values x.cpu }) (λ x at. changed x _ refl refl (computes _ refl)) (λ x. refl))

  waiting_changes : (ds : List ℕ) (awaited : Option Awaited) → Changes w w (waiting w p ds awaited)
  waiting_changes ds None = stays w
  waiting_changes ds (Some awaited) = one w w _ (process_blocks w p q ds awaited there ready)

  refused_changes : (s : Site) (o : Outcome) → Changes w w (after_refusal w p s o)
  refused_changes s (outcome.Answered answer) =
      join w w (taken w p s) _ (all_leave w w p (taken_handles s.request)) (reply_changes (taken w p s) s answer (gives_refused w p s.request answer))
  refused_changes s (outcome.Ended code) = one w w _ (process_ends w w p code)
  refused_changes s outcome.Blocked = stays w

  done_changes : (s : Site) (vs : List ℕ) → refusal lib w p s.request ≡ None → IsTrue (may_choose w (taken w p s) p s.request vs)
      → Changes w w (with_effect lib w (taken w p s) p s.request vs)
  done_changes s vs passes gets =
      let behind = left_behind w p q (taken_handles s.request) there in
      join w w (taken w p s) _ (all_leave w w p (taken_handles s.request)) ((laws lib w p q there ready s.request behind.0 behind.1 passes).changes vs gets)

  ok_changes : (s : Site) (vs : List ℕ) (o : Outcome) → refusal lib w p s.request ≡ None → IsTrue (may_choose w (taken w p s) p s.request vs)
      → Changes w w (after_ok lib w p s vs o)
  ok_changes s vs (outcome.Answered answer) passes gets = join w w _ _ (done_changes s vs passes gets) (reply_changes _ s status.Ok (gives_ok w p s.request vs))
  ok_changes s vs (outcome.Ended code) passes gets = join w w _ _ (done_changes s vs passes gets) (one w _ _ (process_ends w _ p code))
  ok_changes s vs outcome.Blocked passes gets = waiting_changes s.destinations (awaited_by w p s.request)

  call_changes : (s : Site) (choice : Choice) (r : Option Outcome) (answer : Outcome) (w2 : World) → refusal lib w p s.request ≡ r
      → CallBy lib w p s choice r answer w2 → Changes w w w2
  call_changes s Refused None answer w2 is c = absurd c
  call_changes s Refused (Some o) answer w2 is c = rw c.1 (refused_changes s o)
  call_changes s (Wants want) None answer w2 is c = rw c.2 (refused_changes s (outcome.Answered want))
  call_changes s (Wants want) (Some o) answer w2 is c = absurd c
  call_changes s (Values vs) None answer w2 is c = rw c.2 (ok_changes s vs (ok_outcome w p s.request) is c.0)
  call_changes s (Values vs) (Some o) answer w2 is c = absurd c

  act_changes : (n : Next) (x : TraceItem) (w2 : World) → Acts lib w p n x w2 → Changes w w w2
  act_changes (Moves c) x w2 a =
      rw a.1 (one w w _ (process_changes w w p (λ x. record x { cpu = c }) (λ x at. changed x _ refl refl (computes c refl)) (λ x. refl)))
  act_changes (AtCall call s) x w2 (o, e, c) = call_changes s c.0 (refusal lib w p s.request) o w2 refl c.1
  act_changes IsStuck x w2 a = rw a.1 (one w w _ (process_ends w w p _))

-- ---- waking

module _ (start w : World) (p : ℕ) (q : Process) (there : get w.processes p ≡ Some q) (running : IsTrue (runs q.state)) where
  woken_by_packets : (k : ℕ) (ds : List ℕ) (o : Object) (packets : List Packet) → get w.objects k ≡ Some o → o.body ≡ PortBody packets
      → Changes start w (woken_by_first w p q k ds o packets)
  woken_by_packets k ds o [] at port = stays w
  woken_by_packets k ds o (x ∷ rest) at port =
      changes w (with_body w k o (PortBody rest)) _ (packet_goes start w k o (x ∷ rest) rest at port)
      (one start _ _ (process_wakes start (with_body w k o (PortBody rest)) p q ds (0 ∷ packet_values x) there running))

  woken_by_body : (k : ℕ) (ds : List ℕ) (o : Object) (b : Body) → get w.objects k ≡ Some o → o.body ≡ b → Changes start w (woken_by w p q k ds o b)
  woken_by_body k ds o (PortBody packets) at port = woken_by_packets k ds o packets at port
  woken_by_body k ds o _ at port = stays w

  woken_by_object : (k : ℕ) (ds : List ℕ) (o : Option Object) → get w.objects k ≡ o → Changes start w (woken_at_port w p q k ds o)
  woken_by_object k ds None at = stays w
  woken_by_object k ds (Some o) at = woken_by_body k ds o o.body at refl

woken_changes : (start w : World) (p : ℕ) → Changes start w (woken w p)
unfolding woken
woken_changes start w p = by_process (get w.processes p) refl
  where
    by_state : (q : Process) (s : State) → get w.processes p ≡ Some q → q.state ≡ s → Changes start w (woken_from w p q s)
    by_state q (Blocked (SignalOf k mask) ds) there is =
        elim (meets (active w k) mask) as (λ b. Changes start w (if b then made_ready w p q ds (0 ∷ active w k ∷ []) else w)) [
          | true ↦ one start w _ (process_wakes start w p q ds (0 ∷ active w k ∷ []) there (ap runs is))
          | false ↦ stays w
        ]
    by_state q (Blocked (PacketAt k) ds) there is = woken_by_object start w p q there (ap runs is) k ds (get w.objects k) refl
    by_state q _ there is = stays w

    by_process : (o : Option Process) → get w.processes p ≡ o → Changes start w (woken_if_there w p o)
    by_process None is = stays w
    by_process (Some q) is = by_state q q.state is refl

turns_change : (start w : World) (ps : List ℕ) → Changes start w (fold woken w ps)
turns_change start w [] = stays w
turns_change start w (p ∷ ps) = join start w (woken w p) _ (woken_changes start w p) (turns_change start (woken w p) ps)

waking_changes : (start w : World) → Changes start w (wakes w)
unfolding wakes
waking_changes start w = changes w (fired w) _ (waits_fire start w) (turns_change start (fired w) w.blocked)

-- ---- steps and boots

-- up to where what isn't held has gone
pub settling_changes : (lib : Library) (w : World) (p : ℕ) (x : TraceItem) (w2 : World) → ActsAndSettles lib w p x w2 → Changes w w w2
settling_changes lib w p x w2 step =
    join w w step.acted _ (act_changes lib w p step.process step.is_there step.is_ready (next_for lib step.process) x step.acted step.acts)
    (settles step.acted w2 _ step.settles (stays w2))

pub step_changes : (lib : Library) (w : World) (p : ℕ) (x : TraceItem) (w2 : World) → Step lib w p x w2 → Changes w w w2
step_changes lib w p x w2 step =
    rw step.ends_awake (join w w step.acted _ (act_changes lib w p step.process step.is_there step.is_ready (next_for lib step.process) x step.acted step.acts)
    (settles step.acted step.settled _ step.settles (waking_changes w step.settled)))

pub job_is_there : (o : Option Object) → is_job_body (body_in o) ≡ true → IsTrue (is_some o)
job_is_there None h = absurd (true≢false (sym h))
job_is_there (Some o) h = refl

update_put : {X : Type 0} (m : Map X) (k : ℕ) (x : X) (f : X → X) → update (put m k x) k f ≡ put m k (f x)
unfolding put update
update_put [] k x f = rw (eq-eqb k k refl) refl
update_put (e ∷ m) k x f = grind (arith, nat_tests, update_put m k x f)

-- a process that was just made gets its handles
made_with_all : (u : World) (k : ℕ) (q : Process) (es : List Entry) (vs : List ℕ)
    → insert_all (with_process u k q) k es vs ≡ with_process u k (process_with_all es vs q)
unfolding insert_all on_process
made_with_all u k q [] vs = refl
made_with_all u k q (e ∷ es) [] = refl
made_with_all u k q (e ∷ es) (v ∷ vs) =
    ap (λ (m : Map Process). insert_all (record u { processes = m }) k es vs) (update_put u.processes k q (process_with v e))
    ∙ made_with_all u k (process_with v e q) es vs

-- the handles that a statement gives name objects that stay beside a new one
given_are_fine : (w : World) (made : Map Object) (gs : List Grant) → ((k : ℕ) (o : Object) → get w.objects k ≡ Some o → get made k ≡ Some o)
    → IsTrue (list_all has_default_rights (handles_given w.objects gs)) → All (IsFine w made) (handles_given w.objects gs)
given_are_fine w made [] stay rights = All-nil (IsFine w made)
given_are_fine w made (g ∷ gs) stay rights = by_object (get w.objects g.koid) refl rights (given_are_fine w made gs stay)
  where
    by_object : (o : Option Object) → get w.objects g.koid ≡ o
        → IsTrue (list_all has_default_rights (option_to_list (handle_given g (body_in o)) ++ handles_given w.objects gs))
        → (IsTrue (list_all has_default_rights (handles_given w.objects gs)) → All (IsFine w made) (handles_given w.objects gs))
        → All (IsFine w made) (option_to_list (handle_given g (body_in o)) ++ handles_given w.objects gs)
    by_object None is h others = others h
    by_object (Some o) is h others =
        All-cons (IsFine w made) _ _ (record { rights = λ s. (and_parts _ _ h).0; names = λ s. (o, stay g.koid o is, refl) }) (others (and_parts _ _ h).1)

-- no wait was made by a process that isn't there
nothing_made : (w : World) (k v : ℕ) → IsSound w → get w.processes k ≡ None → AreUnmade w.waits k v
unfolding get
nothing_made w k v s gone i d inside = one (slice_index_or w.waits i d) (s.waits i d inside)
  where
    one : (x : Wait) → IsSoundWait w x → is_by_handle k v x ≡ false
    one x t = elim (cases_Bool (x.pid == k)) as (λ _. is_by_handle k v x ≡ false) [
      | inl here ↦ absurd (none-some t.handle.0 (rw (eqb-true x.pid k here, gone) at t.handle.1))
      | inr other ↦ rw other refl
    ]

-- a job that was killed
abbrev pub is_killed : Body → Bool
is_killed (JobBody parent depth policy killed) = killed
is_killed b = false

-- no job was killed yet
abbrev pub NoneKilled : World → Type 0
NoneKilled w = (k : ℕ) (o : Object) → get w.objects k ≡ Some o → is_killed o.body ≡ false

-- a new object that is no killed job leaves it so
none_killed_beside : (w : World) (b : Body) → is_killed b ≡ false → NoneKilled w → NoneKilled (with_object w b)
unfolding with_object
none_killed_beside w b alive none k o there =
    each_put (λ (x : Object). is_killed x.body ≡ false) w.objects none w.next_koid (record { body = b; raised = 0 }) alive k o there

pub boot_kills_none : (lib : Library) (w : World) (s : Statement) (vs : List ℕ) → NoneKilled w → NoneKilled (boot_effect lib w s vs)
unfolding boot_effect on_object
boot_kills_none lib w (statement.Process job program word handles) vs none = none_killed_beside w (ProcessBody job) refl none
boot_kills_none lib w (statement.Job parent) vs none = none_killed_beside w (job_within parent (body_of w parent)) refl none
boot_kills_none lib w (statement.Policy job condition action) vs none = λ k o there.
    each_changed (λ j x y. y ≡ policy_changed (setting condition action) x) (λ j y. ⊥) (λ j x. is_killed x.body ≡ false) w.objects
    (update w.objects job (policy_changed (setting condition action)))
    (changed_update _ _ w.objects job (policy_changed (setting condition action)) (λ x at. changed x _ refl refl refl))
    (λ j x y is alive. rw is (set_alive x.body alive)) (λ j y none2. absurd none2) none k o there
  where
    set_alive : (b : Body) → is_killed b ≡ false → is_killed (body_with_policy (setting condition action) b) ≡ false
    set_alive (JobBody parent depth policy killed) h = h
    set_alive _ h = refl
boot_kills_none lib w statement.Event vs none = none_killed_beside w EventBody refl none
boot_kills_none lib w statement.Port vs none = none_killed_beside w (PortBody []) refl none
boot_kills_none lib w statement.Channel vs none =
    none_killed_beside (with_object w (ChannelEnd (w.next_koid + 1) [])) (ChannelEnd w.next_koid []) refl
    (none_killed_beside w (ChannelEnd (w.next_koid + 1) []) refl none)
boot_kills_none lib w statement.Eventpair vs none =
    none_killed_beside (with_object w (PairEnd (w.next_koid + 1))) (PairEnd w.next_koid) refl (none_killed_beside w (PairEnd (w.next_koid + 1)) refl none)

-- nothing lives in the job whose policy a statement sets
pub no_child_booted : (lib : Library) (w : World) (job : ℕ) (condition : Condition) (action : Action)
    → boot_fault lib w (statement.Policy job condition action) ≡ None → has_child w job ≡ false
unfolding boot_fault
no_child_booted lib w job condition action fine =
    let first = none_first (not (is_job w job)) cause.Unknown _ fine in
    (none_first (has_child w job) cause.BadState _ first.1).0

job_is_quiet : (k : ℕ) (above : Option Body) → queue_of (job_within k above) ≡ []
job_is_quiet k above = refl

-- a job that a statement makes stands below its parent, which lives
boot_job_stands : (lib : Library) (w : World) (parent : ℕ) → boot_fault lib w (statement.Job parent) ≡ None → NoneKilled w → IsSound w
    → StandsBelow (with_object w (job_within parent (body_of w parent))).objects w.next_koid (job_within parent (body_of w parent))
unfolding boot_fault
boot_job_stands lib w parent fine none s =
    let first = none_first (not (is_job w parent)) cause.Unknown _ fine in
    let second = none_first (is_deepest (body_of w parent) || lacks_koids w (statement.Job parent)) cause.Limit _ first.1 in
    new_job_stands w parent (living (get w.objects parent) refl (not-false _ first.0)) (or_parts (is_deepest (body_of w parent)) _ second.0).0 s
  where
    living : (o : Option Object) → get w.objects parent ≡ o → is_job_body (body_in o) ≡ true → is_dead (body_in o) ≡ false
    living None at h = absurd (true≢false (sym h))
    living (Some o) at h = by_body o.body refl h
      where
        by_body : (b : Body) → o.body ≡ b → is_job_body (Some b) ≡ true → is_dead (Some b) ≡ false
        by_body (JobBody up depth policy killed) is h2 = sym (ap is_killed is) ∙ none parent o at
        by_body _ is h2 = absurd (true≢false (sym h2))

pub boot_changes : (lib : Library) (w : World) (s : Statement) (vs : List ℕ) → HasGivenKoids w → NoneKilled w → boot_fault lib w s ≡ None
    → IsTrue (may_boot lib w s vs) → Changes w w (boot_effect lib w s vs)
unfolding boot_effect with_object
boot_changes lib w (statement.Process job program word handles) vs given none fine may =
    changes w made _ (object_is_made w w (ProcessBody job) refl tt (λ s. given.below job (job_is_there (get w.objects job) can.in_job)))
    (changes made begun _ (process_is_made w made w.next_koid first (record {
      free = no_process w;
      given = omega arith;
      empty = refl;
      nothing_last = refl;
      object = λ s. record {
        job = job;
        there = rw (get-put w.objects w.next_koid new_object w.next_koid, eq-eqb w.next_koid w.next_koid refl) refl;
        depth = alive.0;
        lives = record { parent = alive.1; policy = alive.2; there = alive.3 };
      };
    }) refl)
    (subst (λ (x : World). Changes w begun x)
    (made_with_all made w.next_koid first es vs ∙ ap (with_process made w.next_koid) (started_with_all es vs vs word (created_process lib program)))
    (all_enter w begun w.next_koid first es vs (λ s. there) refl (rw (started_may_get es vs vs word (created_process lib program)) may)
    (λ s. omega (arith, can.few, handles_at_most w.objects handles))
    (record { free = λ s v none. nothing_made w w.next_koid v s (no_process w s); last = λ s v is. absurd (none-some v is) })
    (given_are_fine w made.objects handles (λ k o at. stays k (rw at refl) ∙ at) can.rights))))
  where
    made : World
    made = with_object w (ProcessBody job)

    new_object : Object
    new_object = record { body = ProcessBody job; raised = 0 }

    es : List Entry
    es = handles_given w.objects handles

    first : Process
    first = started_with vs word (created_process lib program)

    begun : World
    begun = with_process made w.next_koid first

    there : get begun.processes w.next_koid ≡ Some first
    there = get-put w.processes w.next_koid first w.next_koid ∙ rw (eq-eqb w.next_koid w.next_koid refl) refl

    can : CanStart lib w job program handles
    can = can_start lib w job program word handles fine

    -- an object that was there is there beside the new one
    stays : (k : ℕ) → IsTrue (has_key w.objects k) → get made.objects k ≡ get w.objects k
    stays k old =
        let below : k < w.next_koid = given.below k old in get-put w.objects w.next_koid new_object k ∙ rw (ne_eqb w.next_koid k (λ e. omega arith)) refl

    -- its job is there beside it, and lives
    alive : (depth : ℕ) × (parent : ℕ) × (policy : Map Action) × (body_in (get made.objects job) ≡ Some (JobBody parent depth policy false))
    alive = by_object (get w.objects job) refl can.in_job
      where
        by_body : (o : Object) (b : Body) → get w.objects job ≡ Some o → o.body ≡ b → IsTrue (is_job_body (Some b))
            → (depth : ℕ) × (parent : ℕ) × (policy : Map Action) × (body_in (get made.objects job) ≡ Some (JobBody parent depth policy false))
        by_body o (JobBody parent depth policy false) at is h = (depth, parent, policy, ap body_in (stays job (ap is_some at) ∙ at) ∙ ap Some is)
        by_body o (JobBody parent depth policy true) at is h = absurd (true≢false (sym (ap is_killed is) ∙ none job o at))
        by_body o _ at is h = absurd (true≢false (sym h))

        by_object : (o : Option Object) → get w.objects job ≡ o → IsTrue (is_job_body (body_in o))
            → (depth : ℕ) × (parent : ℕ) × (policy : Map Action) × (body_in (get made.objects job) ≡ Some (JobBody parent depth policy false))
        by_object None at h = absurd (true≢false (sym h))
        by_object (Some o) at h = by_body o o.body at refl h
boot_changes lib w (statement.Job parent) vs given none fine may =
    one w w _
    (object_is_made w w (job_within parent (body_of w parent)) (job_is_quiet parent (body_of w parent)) tt (λ s. boot_job_stands lib w parent fine none s))
boot_changes lib w (statement.Policy job condition action) vs given none fine may =
    one w w _ (object_changes w w job (policy_changed (setting condition action))
    (λ o at. policy_changes (setting condition action) refl (λ s. no_child_booted lib w job condition action fine)))
boot_changes lib w statement.Event vs given none fine may = one w w _ (object_is_made w w EventBody refl tt (λ s. tt))
boot_changes lib w statement.Port vs given none fine may = one w w _ (object_is_made w w (PortBody []) refl tt (λ s. tt))
boot_changes lib w statement.Channel vs given none fine may = one w w _ (ends_are_made w w w.next_koid refl channel_ends)
boot_changes lib w statement.Eventpair vs given none fine may = one w w _ (ends_are_made w w w.next_koid refl pair_ends)
