-- Where a call kills and starts no other process, the others are as ready after it as before, but for those that woke. Where it kills, nobody becomes ready.
use Rattle.zl_sched.proofs.Common.{Awaited, Blocked, Body, Bool, CallBy, CallName, Calls, Choice, Created, Ended, Entry, Gone, IsTrue, Library, List}
use Rattle.zl_sched.proofs.Common.{None, Object, Option, Outcome, Packet, PacketAt, PortBody, Process, Ready, Refused, Request, Settles, SignalOf, Site, Some}
use Rattle.zl_sched.proofs.Common.{State, Status, Values, Wants, World, [], active, after_ok, after_refusal, ap, awaited_by, call_ends, cases_Bool}
use Rattle.zl_sched.proofs.Common.{child_of, created_process, effect, ended, entering_at, eqb-true, false, false≢true, fired, fold, get, get-each, get-put}
use Rattle.zl_sched.proofs.Common.{get-update, handle_operands, if_started, if◌then◌else◌, inl, inr, insert_all, is_blocked, is_process, is_within}
use Rattle.zl_sched.proofs.Common.{lives, made_ready, meets, name_of, not, not-true, object_at, ok_outcome, on_object, on_process, option_map}
use Rattle.zl_sched.proofs.Common.{process_create, process_ended, process_killed, process_settled, process_start, process_with, process_without, receiver_of}
use Rattle.zl_sched.proofs.Common.{refl, remove_all, replied, row_of, started_with, state_passes, state_without, stored_by, storing, subst, sym, taken}
use Rattle.zl_sched.proofs.Common.{task_kill, true, waiting, wakes, with_body, with_effect, with_killed, with_object}
use Rattle.zl_sched.proofs.Common.{without_others, woken_at_port, woken_by, woken_by_first, woken_from, woken_if_there, ℕ, ◌==◌, ◌∙◌, ◌∷◌, ◌≡◌, ◌⊎◌}
use Rattle.zl_code.proofs.Common.{KILLED, keeping, kept_by, koid_in, new_handles, taken_handles, woken}
use Rattle.zl_code.specs.CallTable.{ends_caller, outcome_of}
use Rattle.zl_code.specs.declared.history.CallName.TheVariants as name
use Rattle.std.specs.Prelude.{ℤ}
use Rattle.zl_sched.proofs.Common.{spares_others}
use Rattle.zl_rights.specs.declared.status.Status.TheVariants as status
use Rattle.zl_code.specs.declared.history.Outcome.TheVariants as outcome
use Rattle.zl_code.specs.declared.history.TraceItem.TheVariants as item
use Rattle.zl_code.proofs.Entering.{same_state}
use Rattle.zl_sched.proofs.MarksKept.{state_kept}
use Rattle.zl_calls.proofs.Above.{still_free}
use Rattle.zl_verify.proofs.OwnTable.{other_way}

-- ---- what a turn of waking makes of k

-- k is in v as in u, or it was blocked in u and is ready in v
abbrev pub AsOrWoken : ℕ → World → World → Type 0
AsOrWoken k u v = ((test : State → Bool) → is_process v test k ≡ is_process u test k)
    ⊎ (IsTrue (is_process u is_blocked k) × ((test : State → Bool) → is_process v test k ≡ test Ready))

module _ (k : ℕ) (u : World) (p : ℕ) (y : Process) (there : get u.processes p ≡ Some y) where
  as_it_was : AsOrWoken k u u
  as_it_was = inl (λ test. refl)

  turn_ready : (v : World) (ds values : List ℕ) → v.processes ≡ u.processes → is_blocked y.state ≡ true → AsOrWoken k u (made_ready v p y ds values)
  unfolding made_ready is_process
  turn_ready v ds values same is = elim (cases_Bool (p == k)) as (λ _. AsOrWoken k u (made_ready v p y ds values)) [
    | inl here ↦ inr (
      ap (state_passes is_blocked) (subst (λ (j : ℕ). get u.processes j ≡ Some y) (eqb-true p k here) there) ∙ is,
      λ test. rw (get-put v.processes p _ k, here) refl,
    )
    | inr apart ↦ inl (λ test. rw (get-put v.processes p _ k, apart, same) refl)
  ]

  turn_by_first : (j : ℕ) (ds : List ℕ) (o : Object) (packets : List Packet) → is_blocked y.state ≡ true → AsOrWoken k u (woken_by_first u p y j ds o packets)
  turn_by_first j ds o [] is = as_it_was
  turn_by_first j ds o (first ∷ rest) is = turn_ready (with_body u j o (PortBody rest)) ds _ refl is

  turn_by_body : (j : ℕ) (ds : List ℕ) (o : Object) (b : Body) → is_blocked y.state ≡ true → AsOrWoken k u (woken_by u p y j ds o b)
  turn_by_body j ds o (PortBody packets) is = turn_by_first j ds o packets is
  turn_by_body j ds o _ is = as_it_was

  turn_by_port : (j : ℕ) (ds : List ℕ) (o : Option Object) → is_blocked y.state ≡ true → AsOrWoken k u (woken_at_port u p y j ds o)
  turn_by_port j ds None is = as_it_was
  turn_by_port j ds (Some o) is = turn_by_body j ds o o.body is

  turn_by_state : (s : State) → y.state ≡ s → AsOrWoken k u (woken_from u p y s)
  turn_by_state (Blocked (SignalOf j mask) ds) is =
      elim (meets (active u j) mask) as (λ b. AsOrWoken k u (if b then made_ready u p y ds (0 ∷ active u j ∷ []) else u)) [
        | true ↦ turn_ready u ds _ refl (ap is_blocked is)
        | false ↦ as_it_was
      ]
  turn_by_state (Blocked (PacketAt j) ds) is = turn_by_port j ds (get u.objects j) (ap is_blocked is)
  turn_by_state _ is = as_it_was

turn : (k : ℕ) (u : World) (p : ℕ) → AsOrWoken k u (woken u p)
unfolding woken
turn k u p = by_process (get u.processes p) refl
  where
    by_process : (o : Option Process) → get u.processes p ≡ o → AsOrWoken k u (woken_if_there u p o)
    by_process None at = inl (λ test. refl)
    by_process (Some y) at = turn_by_state k u p y at y.state refl

-- who woke isn't blocked, and doesn't wake again
woken_then : (k : ℕ) (u v w : World) → AsOrWoken k u v → AsOrWoken k v w → AsOrWoken k u w
woken_then k u v w (inl a) (inl b) = inl (λ test. b test ∙ a test)
woken_then k u v w (inl a) (inr (was, is)) = inr (sym (a is_blocked) ∙ was, is)
woken_then k u v w (inr (was, is)) (inl b) = inr (was, λ test. b test ∙ is test)
woken_then k u v w (inr (was, is)) (inr (again, more)) = absurd (false≢true (sym (is is_blocked) ∙ again))

turns : (k : ℕ) (u : World) (ps : List ℕ) → AsOrWoken k u (fold woken u ps)
turns k u [] = inl (λ test. refl)
turns k u (p ∷ ps) = woken_then k u (woken u p) (fold woken (woken u p) ps) (turn k u p) (turns k (woken u p) ps)

pub waking : (k : ℕ) (u : World) → AsOrWoken k u (wakes u)
unfolding wakes fired is_process
waking k u = turns k (fired u) u.blocked

-- this one
abbrev pub is_one : Option ℕ → ℕ → Bool
is_one None k = false
is_one (Some q) k = k == q

-- handles that go leave the objects
same_objects : (u : World) (p : ℕ) (hs : List ℕ) → (remove_all u p hs).objects ≡ u.objects
unfolding remove_all on_process
same_objects u p [] = refl
same_objects u p (h ∷ hs) = same_objects (on_process u p (process_without h)) p hs

-- ---- what a process does

-- k passes the same in both worlds
abbrev pub Left : ℕ → World → World → Type 0
Left k u w = (test : State → Bool) → test Created ≡ false → test Gone ≡ false → is_process u test k ≡ is_process w test k

pub left_then : (k : ℕ) (u v w : World) → Left k u v → Left k v w → Left k u w
left_then k u v w a b test made gone = a test made gone ∙ b test made gone

-- the request of p doesn't kill k, and doesn't start it
abbrev pub spares : World → ℕ → ℕ → Request → Bool
spares w p k (process_start process h word) = not (object_at w p process == k)
spares w p k (task_kill task) = not (is_within w.objects (object_at w p task) k)
spares w p k r = true

-- one that kills doesn't block
none_spared : (code : Option ℤ) → spares_others name.TaskKill (outcome_of None code) ≡ true → ⊥
none_spared None spares = false≢true spares
none_spared (Some code) spares = false≢true spares

-- so does one whose name kills nobody, where its answer doesn't tell that k was started
pub spares_so : (w : World) (p k : ℕ) (x : Process) → get w.processes p ≡ Some x → (r : Request) (call : CallName) (o : Outcome) → name_of r ≡ call
    → spares_others call o ≡ true → is_one (if_started (item.Call p call o) (child_of x.handles r)) k ≡ false → o ≡ ok_outcome w p r → spares w p k r ≡ true
spares_so w p k x at (process_start process h word) call o named plain apart is =
    let other : (k == koid_in (get x.handles process)) ≡ false
    = (λ i. is_one (if_started (item.Call p (named i) (sym is i)) (child_of x.handles (process_start process h word))) k) ∙ apart in
    rw at (ap not (other_way k (koid_in (get x.handles process)) other))
spares_so w p k x at (task_kill task) call o named plain apart is =
    absurd (none_spared (ends_caller w p (task_kill task)) ((λ i. spares_others (named i) (sym is i)) ∙ plain))
spares_so w p k x at _ call o named plain apart is = refl

-- the caller goes on behind its answer
abbrev pub goes_on : Outcome → Bool
goes_on (outcome.Answered answer) = true
goes_on _ = false

module _ (k : ℕ) where
  pub moved : (w : World) (p : ℕ) (f : Process → Process) → ((x : Process) → (f x).state ≡ x.state) → Left k (on_process w p f) w
  moved w p f keeps test made gone = state_kept w p f keeps test k

  elsewhere : (w : World) (p : ℕ) (f : Process → Process) → (p == k) ≡ false → Left k (on_process w p f) w
  unfolding is_process on_process
  elsewhere w p f apart test made gone = rw (get-update w.processes p f k, apart) refl

  pub ends : (w : World) (p : ℕ) (code : _) → (p == k) ≡ false → Left k (ended w p code) w
  unfolding is_process ended
  ends w p code apart = elsewhere w p (process_ended code) apart

  blocks : (w : World) (p : ℕ) (ds : List ℕ) (o : Option Awaited) → (p == k) ≡ false → Left k (waiting w p ds o) w
  unfolding is_process
  blocks w p ds None apart = λ test made gone. refl
  blocks w p ds (Some awaited) apart = elsewhere w p _ apart

  removed : (w : World) (p : ℕ) (hs : List ℕ) → Left k (remove_all w p hs) w
  unfolding remove_all
  removed w p [] = λ test made gone. refl
  removed w p (h ∷ hs) = left_then k _ _ w (removed (on_process w p (process_without h)) p hs) (moved w p (process_without h) (same_state h))

  pub entered : (w : World) (p : ℕ) (es : List Entry) (vs : List ℕ) → Left k (insert_all w p es vs) w
  unfolding insert_all
  entered w p [] vs = λ test made gone. refl
  entered w p (e ∷ es) [] = λ test made gone. refl
  entered w p (e ∷ es) (v ∷ vs) = left_then k _ _ w (entered (on_process w p (process_with v e)) p es vs) (moved w p (process_with v e) (λ x. refl))

  pub stored : (w : World) (p : ℕ) (at : ℕ × List ℕ) → Left k (storing w p at) w
  stored w p (address, []) = λ test made gone. refl
  stored w p (address, b ∷ bytes) = moved w p _ (λ x. refl)

  pub kept_in : (w : World) (p : ℕ) (kept : Option (ℕ × List ℕ)) → Left k (keeping w p kept) w
  kept_in w p None = λ test made gone. refl
  kept_in w p (Some x) = moved w p _ (λ x. refl)

  pub answers : (w : World) (p : ℕ) (s : Site) (answer : Status) (values : List ℕ) → Left k (replied w p s answer values) w
  unfolding replied
  answers w p s answer values = moved w p _ (λ x. refl)

  -- a process that is made passes no more than one that isn't there
  made_so : (lib : Library) (w u : World) (program : ℕ) (test : State → Bool) → test Created ≡ false → get u.processes w.next_koid ≡ None
      → state_passes test (if w.next_koid == k then Some (created_process lib program) else get u.processes k) ≡ state_passes test (get u.processes k)
  made_so lib w u program test fresh free =
      elim (cases_Bool (w.next_koid == k))
      as (λ _. state_passes test (if w.next_koid == k then Some (created_process lib program) else get u.processes k) ≡ state_passes test (get u.processes k)) [
        | inl here ↦ rw here (fresh ∙ sym (ap (state_passes test) (subst (λ (j : ℕ). get u.processes j ≡ None) (eqb-true w.next_koid k here) free)))
        | inr apart ↦ rw apart refl
      ]

  effected : (lib : Library) (w u : World) (p : ℕ) (request : Request) (vs : List ℕ) → get u.processes w.next_koid ≡ None → u.objects ≡ w.objects
      → spares w p k request ≡ true → Left k (effect lib w u p request vs) u
  unfolding effect with_object on_object is_process with_killed
  effected lib w u p (process_create job program) vs free same left test fresh gone =
      rw (get-put u.processes w.next_koid (created_process lib program) k) (made_so lib w u program test fresh free)
  effected lib w u p (process_start process h word) vs free same left test fresh gone =
      elsewhere u (object_at w p process) (started_with vs word) (not-true _ left) test fresh gone
  effected lib w u p (task_kill task) vs free same left test fresh gone =
      rw (
        get-each u.processes (λ j. process_killed (is_within u.objects (object_at w p task) j)) k,
        ap (λ objects. is_within objects (object_at w p task) k) same ∙ not-true _ left,
      ) (by_process (get u.processes k))
    where
      by_process : (o : Option Process) → state_passes test (option_map (process_killed false) o) ≡ state_passes test o
      by_process None = refl
      by_process (Some x) = refl
  effected lib w u p _ vs free same left test fresh gone = refl

  pub settled_so : (u v : World) → Settles u v → Left k v u
  unfolding is_process without_others
  settled_so u v (K, largest, is) test fresh gone = rw is (rw (get-each u.processes (process_settled K) k) (by_process (get u.processes k)))
    where
      by_state : (kept : Bool) (s : State) → test (state_without kept s) ≡ test s
      by_state true Created = refl
      by_state false Created = gone ∙ sym fresh
      by_state kept _ = refl

      by_process : (o : Option Process) → state_passes test (option_map (process_settled K k) o) ≡ state_passes test o
      by_process None = refl
      by_process (Some x) = by_state (K k) x.state

  -- ---- what its call does, unless k is a caller that ends or blocks

  module _ (lib : Library) (w : World) (p : ℕ) (free : get w.processes w.next_koid ≡ None) where
    refused_so : (s : Site) (o : Outcome) → (goes_on o ≡ false → (p == k) ≡ false) → Left k (after_refusal w p s o) w
    refused_so s (outcome.Answered answer) apart = left_then k _ _ w (answers (taken w p s) p s answer _) (removed w p (taken_handles s.request))
    refused_so s (outcome.Ended code) apart = ends w p code (apart refl)
    refused_so s outcome.Blocked apart = λ test made gone. refl

    effect_so : (s : Site) (vs : List ℕ) → spares w p k s.request ≡ true → Left k (with_effect lib w (taken w p s) p s.request vs) w
    effect_so s vs left =
        left_then k _ _ w (kept_in _ p (kept_by s.request vs))
        (left_then k _ _ w (stored _ p (stored_by w p s.request))
        (left_then k _ _ w (entered _ (receiver_of w p s.request) (new_handles w p s.request) (entering_at s.request vs))
        (left_then k _ _ w (effected lib w (taken w p s) p s.request vs (still_free p w.next_koid (taken_handles s.request) w free)
        (same_objects w p (taken_handles s.request)) left)
        (removed w p (taken_handles s.request)))))

    done_so : (s : Site) (vs : List ℕ) (o : Outcome) → spares w p k s.request ≡ true → (goes_on o ≡ false → (p == k) ≡ false)
        → Left k (after_ok lib w p s vs o) w
    done_so s vs (outcome.Answered answer) left apart = left_then k _ _ w (answers _ p s status.Ok _) (effect_so s vs left)
    done_so s vs (outcome.Ended code) left apart = left_then k _ _ w (ends _ p code (apart refl)) (effect_so s vs left)
    done_so s vs outcome.Blocked left apart = blocks w p s.destinations (awaited_by w p s.request) (apart refl)

    pub called_so : (s : Site) (choice : Choice) (r : Option Outcome) (o : Outcome) (w2 : World)
        → (o ≡ ok_outcome w p s.request → spares w p k s.request ≡ true) → (goes_on o ≡ false → (p == k) ≡ false) → CallBy lib w p s choice r o w2 → Left k w2 w
    called_so s Refused None o w2 left apart c = absurd c
    called_so s Refused (Some r) o w2 left apart c = rw c.1 (refused_so s r (λ stops. apart (ap goes_on c.0 ∙ stops)))
    called_so s (Wants want) None o w2 left apart c = rw c.2 (refused_so s (outcome.Answered want) (λ stops. absurd (false≢true (sym stops))))
    called_so s (Wants want) (Some r) o w2 left apart c = absurd c
    called_so s (Values vs) None o w2 left apart c = rw c.2 (done_so s vs (ok_outcome w p s.request) (left c.1) (λ stops. apart (ap goes_on c.1 ∙ stops)))
    called_so s (Values vs) (Some r) o w2 left apart c = absurd c

-- ---- a call that kills

-- k passes in u only what it passes in w, but for what the ended pass
abbrev pub Less : ℕ → World → World → Type 0
Less k u w = (test : State → Bool) → test Created ≡ false → test Gone ≡ false → test (Ended KILLED) ≡ false → is_process u test k ≡ true
    → is_process w test k ≡ true

left_less : (k : ℕ) (u w : World) → Left k u w → Less k u w
left_less k u w left test made gone over passes = sym (left test made gone) ∙ passes

pub less_then : (k : ℕ) (u v w : World) → Left k u v → Less k v w → Less k u w
less_then k u v w left less test made gone over passes = less test made gone over (sym (left test made gone) ∙ passes)

killed_less : (k : ℕ) (u : World) (t : ℕ) → Less k (with_killed u t) u
unfolding is_process with_killed
killed_less k u t test made gone over passes =
    by_process (get u.processes k) (is_within u.objects t k) (rw (get-each u.processes (λ j. process_killed (is_within u.objects t j)) k) at passes)
  where
    by_state : (x : Process) (alive : Bool) → test (if alive then record x { state = Ended KILLED; handles = []; last = None } else x).state ≡ true
        → test x.state ≡ true
    by_state x true passed = absurd (false≢true (sym over ∙ passed))
    by_state x false passed = passed

    by_process : (o : Option Process) (within : Bool) → state_passes test (option_map (process_killed within) o) ≡ true → state_passes test o ≡ true
    by_process None within passed = passed
    by_process (Some x) true passed = by_state x (lives x.state) passed
    by_process (Some x) false passed = passed

module _ (k : ℕ) (lib : Library) (w : World) (p : ℕ) (free : get w.processes w.next_koid ≡ None) (apart : (p == k) ≡ false) where
  kill_effect : (task : ℕ) (vs : List ℕ) → Less k (with_effect lib w (remove_all w p (taken_handles (task_kill task))) p (task_kill task) vs) w
  unfolding effect new_handles insert_all taken_handles handle_operands row_of remove_all
  kill_effect task vs = killed_less k w (object_at w p task)

  kill_done : (s : Site) (vs : List ℕ) → Less k (with_effect lib w (taken w p s) p s.request vs) w → (o : Outcome) → Less k (after_ok lib w p s vs o) w
  kill_done s vs less (outcome.Answered answer) = less_then k _ _ w (answers k _ p s status.Ok _) less
  kill_done s vs less (outcome.Ended code) = less_then k _ _ w (ends k _ p code apart) less
  kill_done s vs less outcome.Blocked = left_less k _ w (blocks k w p s.destinations (awaited_by w p s.request) apart)

  pub killed_so : (s : Site) (task : ℕ) → s.request ≡ task_kill task → (o : Outcome) (w2 : World) → Calls lib w p s o w2 → Less k w2 w
  killed_so s task asked =
      call_ends lib w p s (λ o v. Less k v w) (λ o is. left_less k _ w (refused_so k lib w p free s o (λ stops. apart)))
      (λ want may. left_less k _ w (refused_so k lib w p free s (outcome.Answered want) (λ stops. apart))) (λ passes vs may. kill_done s vs
      (subst (λ r. Less k (with_effect lib w (remove_all w p (taken_handles r)) p r vs) w) (sym asked) (kill_effect task vs)) (ok_outcome w p s.request))
