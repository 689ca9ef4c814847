-- A process that a step makes isn't ready after it.
use Rattle.zl_sched.proofs.Common.{Acts, AtCall, Awaited, Bool, CallBy, Choice, Created, Entry, Gone, IsStuck, Library, List, Moves, Next, None, Option}
use Rattle.zl_sched.proofs.Common.{Outcome, Process, Refused, Request, Settles, Site, Some, State, Step, TraceItem, Values, Wants, World, [], after_ok}
use Rattle.zl_sched.proofs.Common.{after_refusal, ap, awaited_by, created_process, effect, ended, entering_at, eqb-true, false, false≢true, get, get-each}
use Rattle.zl_sched.proofs.Common.{get-put, get-update, if◌then◌else◌, inl, inr, insert_all, is_blocked, is_process, is_ready, is_within, new_handles, next_for}
use Rattle.zl_sched.proofs.Common.{none-some, object_at, ok_outcome, on_object, on_process, option_map, process_create, process_ended, process_killed}
use Rattle.zl_sched.proofs.Common.{process_start, process_with, process_without, receiver_of, refl, refusal, remove_all, replied, started_with, state_passes}
use Rattle.zl_sched.proofs.Common.{stored_by, storing, sym, taken, taken_handles, task_kill, true, waiting, wakes, with_effect, with_killed, with_object, ℕ}
use Rattle.zl_sched.proofs.Common.{◌==◌, ◌∙◌, ◌∷◌, ◌≡◌}
use Rattle.zl_code.proofs.Common.{keeping, kept_by}
use Rattle.zl_rights.specs.declared.status.Status.TheVariants as status
use Rattle.zl_code.specs.declared.history.Outcome.TheVariants as outcome
use Rattle.zl_sched.proofs.StillReady.{AsOrWoken, settled_so, waking}
use Rattle.zl_sched.proofs.MarksKept.{place_still}

-- made and not started, and perhaps dropped
abbrev is_new : State → Bool
is_new Created = true
is_new Gone = true
is_new _ = false

abbrev is_fresh : Option Process → Bool
is_fresh None = true
is_fresh (Some x) = is_new x.state

module _ (q : ℕ) where
  -- no process of this koid was made
  abbrev IsFree : World → Type 0
  IsFree u = get u.processes q ≡ None

  -- none was started
  abbrev IsFresh : World → Type 0
  IsFresh u = is_fresh (get u.processes q) ≡ true

  free_fresh : (u : World) → IsFree u → IsFresh u
  free_fresh u free = rw free refl

  -- ---- words for what a call does

  free_on : (u : World) (p : ℕ) (f : Process → Process) → IsFree u → IsFree (on_process u p f)
  free_on u p f free = place_still u p f q free

  fresh_on : (u : World) (p : ℕ) (f : Process → Process) → ((x : Process) → (f x).state ≡ x.state) → IsFresh u → IsFresh (on_process u p f)
  unfolding on_process
  fresh_on u p f keeps fresh = rw (get-update u.processes p f q) (by_test (p == q) (get u.processes q) fresh)
    where
      by_test : (b : Bool) (o : Option Process) → is_fresh o ≡ true → is_fresh (if b then option_map f o else o) ≡ true
      by_test false o h = h
      by_test true None h = refl
      by_test true (Some x) h = rw (keeps x) h

  free_left : (u : World) (p : ℕ) (hs : List ℕ) → IsFree u → IsFree (remove_all u p hs)
  unfolding remove_all
  free_left u p [] free = free
  free_left u p (h ∷ hs) free = free_left (on_process u p (process_without h)) p hs (free_on u p (process_without h) free)

  fresh_entered : (u : World) (p : ℕ) (es : List Entry) (vs : List ℕ) → IsFresh u → IsFresh (insert_all u p es vs)
  unfolding insert_all
  fresh_entered u p [] vs fresh = fresh
  fresh_entered u p (e ∷ es) [] fresh = fresh
  fresh_entered u p (e ∷ es) (v ∷ vs) fresh = fresh_entered (on_process u p (process_with v e)) p es vs (fresh_on u p (process_with v e) (λ x. refl) fresh)

  fresh_stored : (u : World) (p : ℕ) (at : ℕ × List ℕ) → IsFresh u → IsFresh (storing u p at)
  fresh_stored u p (address, []) fresh = fresh
  fresh_stored u p (address, b ∷ bytes) fresh = fresh_on u p _ (λ x. refl) fresh

  fresh_kept : (u : World) (p : ℕ) (kept : Option (ℕ × List ℕ)) → IsFresh u → IsFresh (keeping u p kept)
  fresh_kept u p None fresh = fresh
  fresh_kept u p (Some x) fresh = fresh_on u p _ (λ x. refl) fresh

  free_waiting : (u : World) (p : ℕ) (ds : List ℕ) (awaited : Option Awaited) → IsFree u → IsFree (waiting u p ds awaited)
  free_waiting u p ds None free = free
  free_waiting u p ds (Some awaited) free = free_on u p _ free

  fresh_replied : (u : World) (p : ℕ) (s : Site) (answer : _) (values : List ℕ) → IsFresh u → IsFresh (replied u p s answer values)
  unfolding replied
  fresh_replied u p s answer values fresh = fresh_on u p _ (λ x. refl) fresh

  -- a process that isn't at q ends
  fresh_ended : (u : World) (p : ℕ) (code : _) → (p == q) ≡ false → IsFresh u → IsFresh (ended u p code)
  unfolding ended on_process
  fresh_ended u p code apart fresh = rw (get-update u.processes p (process_ended code) q, apart) fresh

  fresh_effect : (lib : Library) (w u : World) (p : ℕ) (request : Request) (vs : List ℕ) → IsFree u → IsFresh (effect lib w u p request vs)
  unfolding effect with_object on_object on_process with_killed
  fresh_effect lib w u p (process_create job program) vs free =
      rw (get-put u.processes w.next_koid (created_process lib program) q, free) (by_test (w.next_koid == q))
    where
      by_test : (b : Bool) → is_fresh (if b then Some (created_process lib program) else None) ≡ true
      by_test true = refl
      by_test false = refl
  fresh_effect lib w u p (process_start process h word) vs free =
      free_fresh (on_process u (object_at w p process) (started_with vs word)) (free_on u (object_at w p process) (started_with vs word) free)
  fresh_effect lib w u p (task_kill task) vs free = rw (get-each u.processes (λ k. process_killed (is_within u.objects (object_at w p task) k)) q, free) refl
  fresh_effect lib w u p _ vs free = free_fresh u free

  -- ---- what a process does

  module _ (lib : Library) (w : World) (p : ℕ) (apart : (p == q) ≡ false) (free : IsFree w) where
    fresh_refused : (s : Site) (o : Outcome) → IsFresh (after_refusal w p s o)
    fresh_refused s (outcome.Answered answer) =
        fresh_replied (taken w p s) p s answer _ (free_fresh (taken w p s) (free_left w p (taken_handles s.request) free))
    fresh_refused s (outcome.Ended code) = fresh_ended w p code apart (free_fresh w free)
    fresh_refused s outcome.Blocked = free_fresh w free

    fresh_done : (s : Site) (vs : List ℕ) → IsFresh (with_effect lib w (taken w p s) p s.request vs)
    fresh_done s vs =
        fresh_kept _ p (kept_by s.request vs) (fresh_stored _ p (stored_by w p s.request)
        (fresh_entered _ (receiver_of w p s.request) (new_handles w p s.request) (entering_at s.request vs)
        (fresh_effect lib w (taken w p s) p s.request vs (free_left w p (taken_handles s.request) free))))

    fresh_ok : (s : Site) (vs : List ℕ) (o : Outcome) → IsFresh (after_ok lib w p s vs o)
    fresh_ok s vs (outcome.Answered answer) = fresh_replied (with_effect lib w (taken w p s) p s.request vs) p s status.Ok _ (fresh_done s vs)
    fresh_ok s vs (outcome.Ended code) = fresh_ended (with_effect lib w (taken w p s) p s.request vs) p code apart (fresh_done s vs)
    fresh_ok s vs outcome.Blocked =
        free_fresh (waiting w p s.destinations (awaited_by w p s.request)) (free_waiting w p s.destinations (awaited_by w p s.request) free)

    fresh_called : (s : Site) (choice : Choice) (r : Option Outcome) (answer : Outcome) (w2 : World) → CallBy lib w p s choice r answer w2 → IsFresh w2
    fresh_called s Refused None answer w2 c = absurd c
    fresh_called s Refused (Some o) answer w2 c = rw c.1 (fresh_refused s o)
    fresh_called s (Wants want) None answer w2 c = rw c.2 (fresh_refused s (outcome.Answered want))
    fresh_called s (Wants want) (Some o) answer w2 c = absurd c
    fresh_called s (Values vs) None answer w2 c = rw c.2 (fresh_ok s vs (ok_outcome w p s.request))
    fresh_called s (Values vs) (Some o) answer w2 c = absurd c

    fresh_acted : (n : Next) (x : TraceItem) (w2 : World) → Acts lib w p n x w2 → IsFresh w2
    fresh_acted (Moves c) x w2 a = rw a.1 (free_fresh (on_process w p _) (free_on w p _ free))
    fresh_acted (AtCall call s) x w2 (o, e, c) = fresh_called s c.0 (refusal lib w p s.request) o w2 c.1
    fresh_acted IsStuck x w2 a = rw a.1 (fresh_ended w p _ apart (free_fresh w free))

  -- ---- settling and waking

  fails : (test : State → Bool) → test Created ≡ false → test Gone ≡ false → (u : World) → IsFresh u → is_process u test q ≡ false
  unfolding is_process
  fails test made gone u fresh = by_process (get u.processes q) fresh
    where
      by_state : (s : State) → is_new s ≡ true → test s ≡ false
      by_state Created h = made
      by_state Gone h = gone
      by_state _ h = absurd (false≢true h)

      by_process : (o : Option Process) → is_fresh o ≡ true → state_passes test o ≡ false
      by_process None h = refl
      by_process (Some x) h = by_state x.state h

  fresh_ends : (acted settled : World) → Settles acted settled → IsFresh acted → is_process (wakes settled) is_ready q ≡ false
  fresh_ends acted settled settles fresh = by_turns (waking q settled)
    where
      by_turns : AsOrWoken q settled (wakes settled) → is_process (wakes settled) is_ready q ≡ false
      by_turns (inl same) = same is_ready ∙ (settled_so q acted settled settles is_ready refl refl ∙ fails is_ready refl refl acted fresh)
      by_turns (inr (was, is)) =
          absurd (false≢true (sym (settled_so q acted settled settles is_blocked refl refl ∙ fails is_blocked refl refl acted fresh) ∙ was))

-- who wasn't made before a step isn't ready after it
pub made_not_ready : (lib : Library) (w : World) (p : ℕ) (x : TraceItem) (after : World) → Step lib w p x after → (q : ℕ) → get w.processes q ≡ None
    → is_process after is_ready q ≡ false
made_not_ready lib w p x after step q free =
    let apart : (p == q) ≡ false = apart_from (p == q) refl in
    rw step.ends_awake
    (fresh_ends q step.acted step.settled step.settles (fresh_acted q lib w p apart free (next_for lib step.process) x step.acted step.acts))
  where
    apart_from : (b : Bool) → (p == q) ≡ b → (p == q) ≡ false
    apart_from false e = e
    apart_from true e = absurd (none-some step.process (sym free ∙ (ap (get w.processes) (sym (eqb-true p q e)) ∙ step.is_there)))
