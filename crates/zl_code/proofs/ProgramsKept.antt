-- Each process runs a program of the library, in every world of a run from a boot world.
use Rattle.zl_code.proofs.Common.{Acts, AtCall, Awaited, Blocked, Body, Bool, Boots, CallBy, Choice, Ended, Entry, IsBoot, IsStuck, IsTrue, KILLED}
use Rattle.zl_code.proofs.Common.{Library, List, Map, Moves, Next, None, Object, Option, Outcome, Packet, PacketAt, PortBody, Process, Ready, Refused}
use Rattle.zl_code.proofs.Common.{Request, Runs, STUCK, Settles, SignalOf, Site, Some, State, Statement, Status, Step, TraceItem, Values, Wants, World, []}
use Rattle.zl_code.proofs.Common.{active, after_ok, after_refusal, all_known, and_parts, answered, awaited_by, boot_effect, boot_fault, created_process}
use Rattle.zl_code.proofs.Common.{each, effect, ended, entering_at, false, fired, fold, get, get-each, get-update, gives_ok, gives_refused, handles_given}
use Rattle.zl_code.proofs.Common.{has_key, if◌then◌else◌, insert_all, is_job, is_some, is_within, keeping, kept_by, listed, lives, made_ready, meets}
use Rattle.zl_code.proofs.Common.{new_handles, next_for, none-some, not, not-false, object_at, ok_outcome, on_object, on_process, option_map, origin}
use Rattle.zl_code.proofs.Common.{packet_values, pid_of, process_create, process_ended, process_killed, process_settled, process_start, process_with}
use Rattle.zl_code.proofs.Common.{process_with_all, process_without, receiver_of, refl, refusal, remove_all, replied, same_Some, slice_get, started_with}
use Rattle.zl_code.proofs.Common.{stored_by, storing, subst, sym, taken, taken_handles, task_kill, true, update, waiting, wakes, with_body, with_effect}
use Rattle.zl_code.proofs.Common.{with_killed, with_object, without, without_others, woken, woken_at_port, woken_by, woken_by_first, woken_from}
use Rattle.zl_code.proofs.Common.{woken_if_there, ℕ, ℤ, ◌&&◌, ◌==◌, ◌∙◌, ◌∷◌, ◌≡◌}
use Rattle.zl_rights.specs.declared.status.Status.TheVariants as status
use Rattle.zl_code.specs.declared.boot.BootCause.TheVariants as cause
use Rattle.zl_code.specs.declared.boot.Statement.TheVariants as statement
use Rattle.zl_code.specs.declared.history.Outcome.TheVariants as outcome
use Rattle.zl_code.specs.Programs.{HavePrograms}
use Rattle.zl_code.proofs.CanStart.{none_first}
use Rattle.zl_code.proofs.MapKept.{Each, each_put}
use Rattle.zl_code.proofs.Passing.{listed_none, test_fails}

-- ---- maps

module _ {X : Type 0} (P : X → Type 0) (m : Map X) (all : Each P m) where
  pub each_update : (q : ℕ) (f : X → X) → ((x : X) → P x → P (f x)) → Each P (update m q f)
  each_update q f keeps k x there = by (q == k) (get m k) refl (sym (get-update m q f k) ∙ there)
    where
      by : (b : Bool) (o : Option X) → get m k ≡ o → (if b then option_map f o else o) ≡ Some x → P x
      by true None is e = absurd (none-some x e)
      by true (Some y) is e = subst P (same_Some (f y) x e) (keeps y (all k y is))
      by false o is e = all k x (is ∙ e)

  pub each_each : (f : ℕ → X → X) → ((k : ℕ) (x : X) → P x → P (f k x)) → Each P (each f m)
  each_each f keeps k x there = by (get m k) refl (sym (get-each m f k) ∙ there)
    where
      by : (o : Option X) → get m k ≡ o → option_map (f k) o ≡ Some x → P x
      by None is e = absurd (none-some x e)
      by (Some y) is e = subst P (same_Some (f k y) x e) (keeps k y (all k y is))

module _ (lib : Library) where
  abbrev IsListed : Process → Type 0
  IsListed q = IsTrue (is_some (slice_get lib q.program))

  -- ---- changes of processes

  one_listed : (w : World) (p : ℕ) (f : Process → Process) → ((q : Process) → (f q).program ≡ q.program)
      → HavePrograms lib w → HavePrograms lib (on_process w p f)
  unfolding on_process
  one_listed w p f same all = each_update IsListed w.processes all p f (λ q h. rw (same q) h)

  without_listed : (h : ℕ) (q : Process) → (process_without h q).program ≡ q.program
  without_listed h q = by (has_key q.handles h)
    where
      by : (b : Bool) → (if b then record q { handles = without q.handles h; last = Some h } else q).program ≡ q.program
      by true = refl
      by false = refl

  ended_listed : (code : ℤ) (q : Process) → (process_ended code q).program ≡ q.program
  ended_listed code q = by (lives q.state)
    where
      by : (b : Bool) → (if b then record q { state = Ended code; handles = []; last = None } else q).program ≡ q.program
      by true = refl
      by false = refl

  killed_listed : (killed : Bool) (q : Process) → (process_killed killed q).program ≡ q.program
  killed_listed true q = ended_listed KILLED q
  killed_listed false q = refl

  removed : (w : World) (p : ℕ) (hs : List ℕ) → HavePrograms lib w → HavePrograms lib (remove_all w p hs)
  unfolding remove_all
  removed w p [] all = all
  removed w p (h ∷ hs) all = removed (on_process w p (process_without h)) p hs (one_listed w p (process_without h) (without_listed h) all)

  inserted : (w : World) (p : ℕ) (es : List Entry) (vs : List ℕ) → HavePrograms lib w → HavePrograms lib (insert_all w p es vs)
  unfolding insert_all
  inserted w p [] vs all = all
  inserted w p (e ∷ es) [] all = all
  inserted w p (e ∷ es) (v ∷ vs) all = inserted (on_process w p (process_with v e)) p es vs (one_listed w p (process_with v e) (λ q. refl) all)

  stored : (w : World) (p : ℕ) (at : ℕ × List ℕ) → HavePrograms lib w → HavePrograms lib (storing w p at)
  stored w p (address, []) all = all
  stored w p (address, b ∷ bytes) all = one_listed w p _ (λ q. refl) all

  kept : (w : World) (p : ℕ) (values : Option (ℕ × List ℕ)) → HavePrograms lib w → HavePrograms lib (keeping w p values)
  kept w p None all = all
  kept w p (Some x) all = one_listed w p _ (λ q. refl) all

  over : (w : World) (p : ℕ) (code : ℤ) → HavePrograms lib w → HavePrograms lib (ended w p code)
  unfolding ended
  over w p code all = one_listed w p (process_ended code) (ended_listed code) all

  waits : (w : World) (p : ℕ) (ds : List ℕ) (awaited : Option Awaited) → HavePrograms lib w → HavePrograms lib (waiting w p ds awaited)
  waits w p ds None all = all
  waits w p ds (Some awaited) all = one_listed w p _ (λ q. refl) all

  -- ---- calls

  module _ (w : World) (p : ℕ) where
    done : (u : World) (r : Request) (vs : List ℕ) → refusal lib w p r ≡ None → HavePrograms lib u → HavePrograms lib (effect lib w u p r vs)
    unfolding effect with_object on_object with_killed listed
    done u (process_create job program) vs passes all =
        let asked = listed_none lib w p (process_create job program) passes in
        each_put IsListed u.processes all w.next_koid (created_process lib program) (not-false _ (test_fails _ status.InvalidArgs asked.0))
    done u (process_start process h word) vs passes all = one_listed u (object_at w p process) (started_with vs word) (λ q. refl) all
    done u (task_kill task) vs passes all = each_each IsListed u.processes all _ (λ k q h. rw (killed_listed (is_within u.objects (object_at w p task) k) q) h)
    done u _ vs passes all = all

    with_all_done : (u : World) (r : Request) (vs : List ℕ) → refusal lib w p r ≡ None → HavePrograms lib u → HavePrograms lib (with_effect lib w u p r vs)
    with_all_done u r vs passes all =
        kept _ p (kept_by r vs)
        (stored _ p (stored_by w p r) (inserted _ (receiver_of w p r) (new_handles w p r) (entering_at r vs) (done u r vs passes all)))

    told : (u : World) (s : Site) (answer : Status) (values : List ℕ) → HavePrograms lib u → HavePrograms lib (replied u p s answer values)
    unfolding replied
    told u s answer values all = one_listed u p _ (λ q. refl) all

    module _ (s : Site) (all : HavePrograms lib w) where
      refused : (o : Outcome) → HavePrograms lib (after_refusal w p s o)
      refused (outcome.Answered answer) = told (taken w p s) s answer (gives_refused w p s.request answer) (removed w p (taken_handles s.request) all)
      refused (outcome.Ended code) = over w p code all
      refused outcome.Blocked = all

      passed : (vs : List ℕ) (o : Outcome) → refusal lib w p s.request ≡ None → HavePrograms lib (after_ok lib w p s vs o)
      passed vs (outcome.Answered answer) passes =
          told _ s status.Ok (gives_ok w p s.request vs) (with_all_done (taken w p s) s.request vs passes (removed w p (taken_handles s.request) all))
      passed vs (outcome.Ended code) passes = over _ p code (with_all_done (taken w p s) s.request vs passes (removed w p (taken_handles s.request) all))
      passed vs outcome.Blocked passes = waits w p s.destinations (awaited_by w p s.request) all

      called : (choice : Choice) (r : Option Outcome) (answer : Outcome) (w2 : World) → refusal lib w p s.request ≡ r → CallBy lib w p s choice r answer w2
          → HavePrograms lib w2
      called Refused None answer w2 is c = absurd c
      called Refused (Some o) answer w2 is c = rw c.1 (refused o)
      called (Wants want) None answer w2 is c = rw c.2 (refused (outcome.Answered want))
      called (Wants want) (Some o) answer w2 is c = absurd c
      called (Values vs) None answer w2 is c = rw c.2 (passed vs (ok_outcome w p s.request) is)
      called (Values vs) (Some o) answer w2 is c = absurd c

    acted : (n : Next) (x : TraceItem) (w2 : World) → HavePrograms lib w → Acts lib w p n x w2 → HavePrograms lib w2
    acted (Moves c) x w2 all a = rw a.1 (one_listed w p _ (λ q. refl) all)
    acted (AtCall call s) x w2 all (o, is, c) = called s all c.0 (refusal lib w p s.request) o w2 refl c.1
    acted IsStuck x w2 all a = rw a.1 (over w p STUCK all)

  -- ---- settling and waking

  settled : (u v : World) → Settles u v → HavePrograms lib u → HavePrograms lib v
  unfolding without_others
  settled u v (K, largest, e) all = rw e (each_each IsListed u.processes all (process_settled K) (λ k q h. h))

  module _ (w : World) (p : ℕ) (all : HavePrograms lib w) where
    ready : (q : Process) (ds vs : List ℕ) (u : World) → u.processes ≡ w.processes → IsListed q → HavePrograms lib (made_ready u p q ds vs)
    unfolding made_ready
    ready q ds vs u same h = rw same (each_put IsListed w.processes all p (record q { state = Ready; cpu = answered q.cpu ds vs }) h)

    by_packets : (q : Process) (k : ℕ) (ds : List ℕ) (o : Object) (packets : List Packet) → IsListed q → HavePrograms lib (woken_by_first w p q k ds o packets)
    by_packets q k ds o [] h = all
    by_packets q k ds o (x ∷ rest) h = ready q ds (0 ∷ packet_values x) (with_body w k o (PortBody rest)) refl h

    by_body : (q : Process) (k : ℕ) (ds : List ℕ) (o : Object) (b : Body) → IsListed q → HavePrograms lib (woken_by w p q k ds o b)
    by_body q k ds o (PortBody packets) h = by_packets q k ds o packets h
    by_body q k ds o _ h = all

    by_object : (q : Process) (k : ℕ) (ds : List ℕ) (o : Option Object) → IsListed q → HavePrograms lib (woken_at_port w p q k ds o)
    by_object q k ds None h = all
    by_object q k ds (Some o) h = by_body q k ds o o.body h

    by_state : (q : Process) (s : State) → IsListed q → HavePrograms lib (woken_from w p q s)
    by_state q (Blocked (SignalOf k mask) ds) h = by (meets (active w k) mask)
      where
        by : (b : Bool) → HavePrograms lib (if b then made_ready w p q ds (0 ∷ active w k ∷ []) else w)
        by true = ready q ds (0 ∷ active w k ∷ []) w refl h
        by false = all
    by_state q (Blocked (PacketAt k) ds) h = by_object q k ds (get w.objects k) h
    by_state q _ h = all

    by_process : (o : Option Process) → get w.processes p ≡ o → HavePrograms lib (woken_if_there w p o)
    by_process None is = all
    by_process (Some q) is = by_state q q.state (all p q is)

    turned : HavePrograms lib (woken w p)
    unfolding woken
    turned = by_process (get w.processes p) refl

  turns : (w : World) (ps : List ℕ) → HavePrograms lib w → HavePrograms lib (fold woken w ps)
  turns w [] all = all
  turns w (p ∷ ps) all = turns (woken w p) ps (turned w p all)

  awake : (w : World) → HavePrograms lib w → HavePrograms lib (wakes w)
  unfolding wakes fired
  awake w all = turns (fired w) w.blocked all

  -- ---- steps and boots

  pub step_programs : (w : World) (p : ℕ) (x : TraceItem) (after : World) → HavePrograms lib w → Step lib w p x after → HavePrograms lib after
  step_programs w p x after all step =
      rw step.ends_awake (awake step.settled (settled step.acted step.settled step.settles (acted w p (next_for lib step.process) x step.acted all step.acts)))

  pub holding : (es : List Entry) (vs : List ℕ) (q : Process) → (process_with_all es vs q).program ≡ q.program
  holding [] vs q = refl
  holding (e ∷ es) [] q = refl
  holding (e ∷ es) (v ∷ vs) q = holding es vs (process_with v e q)

  boots : (w : World) (s : Statement) (vs : List ℕ) → boot_fault lib w s ≡ None → HavePrograms lib w → HavePrograms lib (boot_effect lib w s vs)
  unfolding boot_effect boot_fault with_object on_object
  boots w (statement.Process job program word handles) vs fine all =
      let first = none_first (not (is_job w job && (is_some (slice_get lib program) && all_known w.objects handles))) cause.Unknown _ fine in
      let there = and_parts (is_job w job) _ (not-false _ first.0) in
      let q : Process = started_with vs word (process_with_all (handles_given w.objects handles) vs (created_process lib program)) in
      each_put IsListed w.processes all w.next_koid q
      (rw (holding (handles_given w.objects handles) vs (created_process lib program)) (and_parts (is_some (slice_get lib program)) _ there.1).0)
  boots w (statement.Job parent) vs fine all = all
  boots w _ vs fine all = all

  all_boot : (w : World) (statements : List Statement) (after : World) → HavePrograms lib w → Boots lib w statements after → HavePrograms lib after
  all_boot w [] after all e = rw e all
  all_boot w (s ∷ statements) after all (vs, fine, may, rest) = all_boot (boot_effect lib w s vs) statements after (boots w s vs fine all) rest

  pub boot_programs : (statements : List Statement) (w : World) → IsBoot lib statements w → HavePrograms lib w
  unfolding get
  boot_programs statements w boot = settled boot.made w boot.settles (all_boot origin statements boot.made (λ p q there. absurd (none-some q there)) boot.boots)

  runs : (w : World) (items : List TraceItem) (after : World) → HavePrograms lib w → Runs lib w items after → HavePrograms lib after
  runs w [] after all e = rw e all
  runs w (x ∷ items) after all (mid, step, rest) = runs mid items after (step_programs w (pid_of x) x mid all step) rest

pub run_programs : (lib : Library) (statements : List Statement) (boot after : World) (items : List TraceItem)
    → IsBoot lib statements boot → Runs lib boot items after → HavePrograms lib after
run_programs lib statements boot after items is_boot run = runs lib boot items after (boot_programs lib statements boot is_boot) run
