-- Behind a call that ends no process each registered wait is left, or its caller made it by a handle that the call took.
use Rattle.zl_calls.proofs.Common.{Acts, ActsHere, All, All-append, All-cons, All-contains, All-filter, All-nil, AreKnown, AtCall, Bool, CallActs, CallName}
use Rattle.zl_calls.proofs.Common.{CalledAmong, Contains, Does, DoesNext, DoesOwn, EndsBy, EndsUnheld, Entry, Err, Handles, IsKnown, IsNoted, IsTrue}
use Rattle.zl_calls.proofs.Common.{KeepsListed, Library, List, ListsBut, None, NotesNext, Objects, Ok, Option, Outcome, Reach, Process, ProcessCreateDoes}
use Rattle.zl_calls.proofs.Common.{ProcessStartDoes, ProcessValue, Request, Result, Site, Some, Status, Taken, TraceItem, Verdict, WAIT, Wait, World, []}
use Rattle.zl_calls.proofs.Common.{action_asked, acts, and_from, and_parts, ap, arith, asks_again, calls_at, cases_Bool, chan_write, chan_write_slots, close}
use Rattle.zl_calls.proofs.Common.{creates_process, entry_at, false, false≢true, get, handle_operands, handles_in, has_handle, has_key, has_noted, has_seen}
use Rattle.zl_calls.proofs.Common.{inl, inr, is_empty, is_end, is_left, is_made_by_handle, is_some, is_there, keeps_handles, kills, kills_itself}
use Rattle.zl_calls.proofs.Common.{looks_at_waits, map, name_of, next_for, none-some, not, own_beside, parts, port_cancel, process_entry, process_start}
use Rattle.zl_calls.proofs.Common.{process_value, refl, replace, same_Some, slice_get, slice_index_or, starts, subst, sym, taken_handles, task_kill}
use Rattle.zl_calls.proofs.Common.{then_blocked, true, true≢false, wait_async, waits_after, world_blocked, world_left, world_value, ℕ, ⊤, ◌<◌, ◌∙◌, ◌∷◌, ◌≡◌}
use Rattle.zl_code.specs.declared.history.CallName.TheVariants as name
use Rattle.zl_code.specs.declared.history.Outcome.TheVariants as outcome
use Rattle.zl_code.specs.declared.history.TraceItem.TheVariants as item
use Rattle.zl_rights.specs.declared.status.Status.TheVariants as status
use Rattle.zl_calls.specs.Reaching.{policed, reaches}
use Rattle.zl_calls.specs.Calling.{OwnWaits}
use Rattle.zl_calls.specs.declared.policy.Verdict.TheVariants as verdict
use Rattle.zl_calls.proofs.processes.Departed.{left_all}
use Rattle.zl_calls.proofs.step.HandlesStay.{KeepsBut, acted_keeps, spares}
use Rattle.zl_calls.proofs.step.Performing.{AtTurn, HasActed, is_caller, key, there}
use Rattle.zl_calls.proofs.calls.Refused.{is_found}
use Rattle.zl_calls.proofs.waits.Staying.{all_pass}
use Rattle.zl_calls.proofs.waits.TakenEnds.{ended_left}
use Rattle.zl_calls.proofs.waits.WaitsByCall.{acted_lists}
use Rattle.zl_calls.proofs.calls.Answered.{asking}

-- ---- which waits are listed behind the call

-- the object and the port of each are there
abbrev pub AreThere : Objects → Type 0
AreThere r = All (λ x. IsTrue (is_there r.objects x)) r.waits

module _ (P : Wait → Type 0) where
  lists_all : (ws : List Wait) (made : ℕ) (r r2 : Objects) → ListsBut ws made r r2 → AreThere r2 → All P ws → All P r2.waits
  lists_all ws made r r2 lists present all =
      subst (All P) (sym (lists.waits (is_there r2.objects) (λ x t. t)) ∙ all_pass (is_there r2.objects) r2.waits present)
      (All-filter (is_there r2.objects) P ws all)

  after_all : (request : Request) (o : Outcome) (pid : ℕ) (ws : List Wait) → All P ws → All P (waits_after request o pid ws)
  after_all (replace h asked) (outcome.Answered status.Ok) pid ws all = All-filter _ P ws all
  after_all (replace h asked) (outcome.Answered s) pid ws all = all
  after_all (replace h asked) o pid ws all = all
  after_all (close h) o pid ws all = all
  after_all _ o pid ws all = all

-- a call takes the handles of a list, or else none
none_taken : (request : Request) → keeps_handles (name_of request) ≡ true → taken_handles request ≡ []
unfolding taken_handles handle_operands
none_taken (close h) keeps = absurd (false≢true keeps)
none_taken (replace h asked) keeps = absurd (false≢true keeps)
none_taken (chan_write end bytes hs) keeps = absurd (false≢true keeps)
none_taken (chan_write_slots end bytes hs) keeps = absurd (false≢true keeps)
none_taken (process_start process h word) keeps = absurd (false≢true keeps)
none_taken _ keeps = refl

-- a call of this name ended its caller, or may have ended others
abbrev pub ends_processes : CallName → Outcome → Bool
ends_processes name.TaskKill o = true
ends_processes _ o = is_end o

-- what ends no process kills none, and leaves its caller
spares_so : (request : Request) (o : Outcome) → ends_processes (name_of request) o ≡ false → spares request ≡ true
spares_so (task_kill task) o plain = absurd (true≢false plain)
spares_so _ o plain = refl

goes_on : (call : CallName) (o : Outcome) → ends_processes call o ≡ false → is_end o ≡ false
goes_on name.TaskKill o plain = absurd (true≢false plain)
goes_on _ o plain = plain

-- the process p stands at the place, under the pid, and is at the call
module _ {ps : List Process} {r : Objects} {blocked : List ℕ} {pid place : ℕ} {p : Process} (turn : AtTurn ps r blocked pid place p) (lib : Library)
    (all2 : Reach) (o : Outcome) (present : AreThere all2.objects) where
  -- what is so of each wait before a call, and of one that it registers, is so of each behind it
  module _ (P : Wait → Type 0) (before : All P r.waits) where
    -- so is it of one that the request registers by the handle e at the value h
    abbrev IsFresh : Request → Type 0
    IsFresh request = keeps_handles (name_of request) ≡ true → (h : ℕ) (e : Entry) → get p.table.entries h ≡ Some e
        → (x : Wait) → x.pid ≡ p.pid → x.value ≡ h → x.object ≡ e.koid → P x

    same_all : all2.objects.waits ≡ r.waits → All P all2.objects.waits
    same_all same = subst (All P) (sym same) before

    kept_all : (r2 : Objects) → all2.objects ≡ r2 → KeepsListed r r2 → All P all2.objects.waits
    kept_all r2 is keeps = lists_all P r.waits r.waits_made r all2.objects (subst (ListsBut r.waits r.waits_made r) (sym is) keeps.listed) present before

    started_all : (process h word : ℕ) (answer : Result ⊤ Status) (between : Reach) → all2.objects ≡ between.objects
        → ProcessStartDoes lib place process h word p (parts ps r blocked) answer between → All P all2.objects.waits
    started_all process h word (Ok done) between is does = same_all (ap (λ (x : Objects). x.waits) (is ∙ does.ok.objects))
    started_all process h word (Err s) between is does = kept_all between.objects is does.refused.closes.listed

    created_all : (job program : ℕ) (answer : Result ℕ Status) (between : Reach) → all2.objects ≡ between.objects
        → ProcessCreateDoes lib place job program p (parts ps r blocked) answer between → All P all2.objects.waits
    created_all job program (Ok made) between is does = same_all (ap (λ (x : Objects). x.waits) (is ∙ does.ok.makes.objects))
    created_all job program (Err s) between is does = same_all (ap (λ (x : Objects). x.waits) (is ∙ ap (λ (all : Reach). all.objects) does.refused))

    does_all : {A : Type 0} (Done : A → Handles → Objects → Type 0) (wants : Status → Bool) (refusal : Option Status) (t t2 : Handles)
        (answer : Result A Status) → Does Done wants refusal t r answer t2 all2.objects → ((x : A) → Done x t2 all2.objects → All P all2.objects.waits)
        → All P all2.objects.waits
    does_all Done wants refusal t t2 (Ok x) does done = done x does.ok
    does_all Done wants refusal t t2 (Err s) does done = same_all (ap (λ (x : Objects). x.waits) does.same_objects)

    looking_all : (request : Request) (s : Site) (p2 : Process) → IsFresh request → looks_at_waits request ≡ true
        → ActsHere (action_asked p.pid request) (asking request s) p r o p2 all2.objects → All P all2.objects.waits
    looking_all (wait_async h port word mask) s p2 fresh looks does = does_all _ _ _ _ _ does.answer does.acts (λ x done.
        subst (All P) (sym (ap (λ (y : Objects). y.waits) done.objects))
        (All-append P r.waits _ before (All-cons P _ [] (fresh refl h done.watched
        (is_found (get p.table.entries h) [] WAIT done.watched done.is_watched) _ refl refl refl) (All-nil P))))
    looking_all (port_cancel port source word) s p2 fresh looks does = does_all _ _ _ _ _ does.answer does.acts (λ x done.
        subst (All P) (sym done.ends.waits) (All-filter _ P r.waits before))
    looking_all (task_kill task) s p2 fresh looks does = absurd does
    looking_all _ s p2 fresh looks does = absurd (false≢true looks)

    by_acts : (name : CallName) (s : Site) → name_of s.request ≡ name → IsFresh s.request → ends_processes name o ≡ false
        → CallActs lib place p s (parts ps r blocked) o all2 → All P all2.objects.waits
    by_acts name s named fresh plain (policed p2 alone judged) = by_verdict judged.verdict judged.ends
      where
        by_verdict : (v : Verdict) → EndsBy v s p r o p2 all2.objects → All P all2.objects.waits
        by_verdict verdict.Denied ends = same_all (ap (λ (x : Objects). x.waits) ends.objects)
        by_verdict verdict.Killed ends = absurd (false≢true (sym (goes_on name o plain) ∙ ap is_end ends.ends))
    by_acts name s named fresh plain (reaches none (creates_process job program is does)) =
        created_all job program does.answer does.between does.is_told.objects does.does
    by_acts name s named fresh plain (reaches none (starts process h word is does)) =
        started_all process h word does.answer does.between does.is_told.objects does.does
    by_acts name s named fresh plain (reaches none (kills task is does apart)) =
        absurd (true≢false (ap (λ (q : Request). ends_processes (name_of q) o) (sym is) ∙ (ap (λ (n : CallName). ends_processes n o) named ∙ plain)))
    by_acts name s named fresh plain (reaches none (kills_itself task is does)) =
        absurd (true≢false (ap (λ (q : Request). ends_processes (name_of q) o) (sym is) ∙ (ap (λ (n : CallName). ends_processes n o) named ∙ plain)))
    by_acts name s named fresh plain (acts p2 none alone acted) = elim (cases_Bool (looks_at_waits s.request)) as (λ _. All P all2.objects.waits) [
      | inl looks ↦ looking_all s.request s p2 fresh looks acted
      | inr blind ↦
          lists_all P (waits_after s.request o pid r.waits) r.waits_made r all2.objects
          (rw (goes_on name o plain) at (acted_lists p p2 r all2.objects pid o name (Some s) (key turn) blind acted)) present
          (after_all P s.request o pid r.waits before)
    ]

  -- ---- what becomes of each

  module _ (name : CallName) (called : CalledAmong lib place p (parts ps r blocked) name o all2) (plain : ends_processes name o ≡ false)
      (t : Taken) (notes : NotesNext lib p r t)
      (acted : HasActed lib ps (left_all all2.processes all2.objects) r all2.objects blocked all2.blocked pid (item.Call pid name o)) where
    abbrev w : World
    w = world_blocked ps r blocked

    abbrev after : List Process
    after = left_all all2.processes all2.objects

    named : name_of called.site.request ≡ name
    named = asks_again called.call p.cpu called.site called.at_site ∙ sym called.named

    next : next_for lib (process_value p) ≡ AtCall name called.site
    next = called.next ∙ (ap (calls_at called.call.name) called.at_site ∙ ap (λ n. AtCall n called.site) (sym called.named))

    no_process : get w.processes w.next_koid ≡ None
    no_process = by_process (get w.processes w.next_koid) refl
      where
        by_process : (q : Option ProcessValue) → get w.processes w.next_koid ≡ q → q ≡ None
        by_process None at = refl
        by_process (Some q) at =
            let below : w.next_koid < w.next_koid = turn.consistent.given_processes w.next_koid (ap is_some at) in absurd (omega (arith, below))

    handles_stay : KeepsBut pid (taken_handles called.site.request) w (world_left after all2.objects (then_blocked pid (item.Call pid name o) all2.blocked))
    handles_stay =
        let does = acted.acts.acted in
        acted_keeps lib w pid called.site name o does.acted _ no_process
        (spares_so called.site.request o (ap (λ (n : CallName). ends_processes n o) named ∙ plain)) (goes_on name o plain)
        (subst (λ n. Acts lib w pid n (item.Call pid name o) does.acted)
        (ap (next_for lib) (same_Some does.process (process_value p) (sym does.is_there ∙ there turn)) ∙ next) does.acts) does.settles

    -- the handle by which the wait was made is live before the call, and names the object that it watches
    abbrev IsMade : Wait → Type 0
    IsMade x = (e : Entry) × (entry_at w x.pid x.value ≡ Some e) × (e.koid ≡ x.object)

    known : (x : Wait) → All (IsNoted p.table.entries t) (taken_handles called.site.request) → IsTrue (is_there all2.objects.objects x) → IsMade x
        → IsKnown after all2.objects t pid x
    unfolding is_made_by_handle get
    known x noted both made = elim (cases_Bool (has_handle (get (map process_entry after) x.pid) x.value)) as (λ _. IsKnown after all2.objects t pid x) [
      | inl stays ↦ inl (left stays)
      | inr gone ↦ elim (handles_stay x.pid x.value (held (get w.processes x.pid) made.1)) as (λ _. IsKnown after all2.objects t pid x) [
        | inl stays ↦ absurd (false≢true (sym gone ∙ stays))
        | inr (own, taken) ↦ inr (own, ap not (subst (λ k. has_handle (get (map process_entry after) k) x.value ≡ false) own gone), is_noted own taken)
      ]
    ]
      where
        held : (q : Option ProcessValue) → get (handles_in q) x.value ≡ Some made.0 → IsTrue (has_handle q x.value)
        held None at = absurd (none-some made.0 at)
        held (Some q) at = ap is_some at

        left : IsTrue (has_handle (get (map process_entry after) x.pid) x.value) → IsTrue (is_left (world_value after all2.objects) x)
        left stays =
            let parts = and_parts (has_key all2.objects.objects x.object) _ both in
            and_from _ _ stays (and_from _ _ (has_seen all2.objects.objects x.object ∙ parts.0) (has_seen all2.objects.objects x.port ∙ parts.1))

        is_noted : x.pid ≡ pid → Contains (taken_handles called.site.request) x.value → IsTrue (has_noted t x.value x.object)
        is_noted own taken =
            let at : get p.table.entries x.value ≡ Some made.0 =
            ap (λ q. get (handles_in q) x.value) (sym (there turn) ∙ ap (λ k. get w.processes k) (sym own)) ∙ made.1 in
            subst (λ k. IsTrue (has_noted t x.value k)) made.2
            (rw at at (All-contains (IsNoted p.table.entries t) (taken_handles called.site.request) x.value noted taken))

    all_known : All (IsNoted p.table.entries t) (taken_handles called.site.request) → AreKnown after all2.objects t pid
    all_known noted i d inside = known _ noted (present i d inside)
        (by_acts IsMade (λ j e within. (turn.sound.waits j e within).handle) name called.site named (λ keeps. own) plain called.acts i d inside)
      where
        own : (h : ℕ) (e : Entry) → get p.table.entries h ≡ Some e → (x : Wait) → x.pid ≡ p.pid → x.value ≡ h → x.object ≡ e.koid → IsMade x
        own h e at x by value object = (e, rw (by, value, key turn, there turn) at, sym object)

    pub taken_known : AreKnown after all2.objects t pid
    taken_known = elim (cases_Bool (keeps_handles name)) as (λ _. AreKnown after all2.objects t pid) [
      | inl keeps ↦ all_known (subst (All (IsNoted p.table.entries t)) (sym (none_taken called.site.request (ap keeps_handles named ∙ keeps)))
          (All-nil (IsNoted p.table.entries t)))
      | inr takes ↦ elim (cases_Bool (is_empty r.waits)) as (λ _. AreKnown after all2.objects t pid) [
        | inl none ↦ by_acts (IsKnown after all2.objects t pid) (nothing r.waits none) name called.site named
            (λ keeps h e at x by value object. absurd (true≢false (sym keeps ∙ (ap keeps_handles named ∙ takes)))) plain called.acts
        | inr some ↦ all_known (notes name (Some called.site) next (ap not some))
      ]
    ]
      where
        nothing : (ws : List Wait) → is_empty ws ≡ true → All (IsKnown after all2.objects t pid) ws
        nothing [] none = All-nil (IsKnown after all2.objects t pid)
        nothing (x ∷ ws) none = absurd (false≢true none)

-- each wait that the caller made by a live handle is at the object that the handle names
pub own_waits : {ps : List Process} {r : Objects} {blocked : List ℕ} {pid place : ℕ} {p : Process} → AtTurn ps r blocked pid place p
    → (caller : Process) → slice_get ps place ≡ Some caller → OwnWaits caller.pid caller.table.entries r
own_waits {ps} {r} {blocked} {pid} {place} {p} turn caller at i d inside own e live =
    let made = (turn.sound.waits i d inside).handle in
    let is : caller ≡ p = is_caller turn caller at in
    sym made.2 ∙ ap (λ (x : Entry). x.koid) (same_Some made.0 e
    (sym made.1 ∙ (ap (λ k. get (handles_in (get (map process_entry ps) k)) (slice_index_or r.waits i d).value)
    (own ∙ (ap (λ (q : Process). q.pid) is ∙ key turn))
    ∙ (ap (λ q. get (handles_in q) (slice_index_or r.waits i d).value) (there turn)
    ∙ (ap (λ (q : Process). get q.table.entries (slice_index_or r.waits i d).value) (sym is) ∙ live)))))

-- ---- once they have ended

pub ended_acts : (lib : Library) (before after : List Process) (r r2 r3 : Objects) (blocked blocked2 : List ℕ) (pid : ℕ) (x : TraceItem)
    → EndsUnheld after r2 r3 → DoesNext lib (world_blocked before r blocked) pid x (world_left after r2 (then_blocked pid x blocked2))
    → DoesNext lib (world_blocked before r blocked) pid x (world_left after r3 (then_blocked pid x blocked2))
ended_acts lib before after r r2 r3 blocked blocked2 pid x unheld =
    subst (DoesNext lib (world_blocked before r blocked) pid x) (sym (ended_left after r2 r3 unheld (then_blocked pid x blocked2)))

pub ended_own : (lib : Library) (before after : List Process) (r r2 r3 : Objects) (blocked blocked2 : List ℕ) (pid : ℕ) (x : TraceItem)
    → EndsUnheld after r2 r3 → DoesOwn lib (own_beside before r blocked) pid x (world_left after r2 (then_blocked pid x blocked2)) after
    → DoesOwn lib (own_beside before r blocked) pid x (world_left after r3 (then_blocked pid x blocked2)) after
ended_own lib before after r r2 r3 blocked blocked2 pid x unheld =
    subst (λ (w : World). DoesOwn lib (own_beside before r blocked) pid x w after) (sym (ended_left after r2 r3 unheld (then_blocked pid x blocked2)))
