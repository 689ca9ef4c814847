-- Behind a step that ended processes each registered wait is left: those of the ended have ended with their handles.
use Rattle.zl_calls.proofs.Common.{ActsHere, All-contains, All-contains_itself, AreKnown, CallActs, CallName, CalledAmong, Contains, Ends, EndsBy, Entry, Err}
use Rattle.zl_calls.proofs.Common.{IsSoundWait, IsTrue, Library, List, None, NotesNext, Objects, Ok, Option, Outcome, Reach, Process, ProcessValue, Request}
use Rattle.zl_calls.proofs.Common.{Result, Site, Some, Status, Taken, TaskKillDoes, Verdict, Wait, action_asked, acts, and_from, and_parts, ap, asks_again}
use Rattle.zl_calls.proofs.Common.{cases_Bool, creates_process, entry_at, eqb-true, false≢true, get, handles_in, has_handle, has_key, has_seen, inl, inr}
use Rattle.zl_calls.proofs.Common.{is_end, is_left, is_made_by_handle, kills, kills_itself, map, name_of, none-some, parts, process_entry, process_value, refl}
use Rattle.zl_calls.proofs.Common.{same_Some, set, slice_get, slice_index_or, slice_set, starts, subst, sym, task_kill, true, world_blocked, world_value, ℕ, ℤ}
use Rattle.zl_calls.proofs.Common.{⊤, ◌&&◌, ◌==◌, ◌∙◌, ◌≡◌}
use Rattle.zl_code.specs.declared.history.TraceItem.TheVariants as item
use Rattle.zl_calls.specs.Reaching.{policed, reaches}
use Rattle.zl_calls.specs.declared.policy.Verdict.TheVariants as verdict
use Rattle.zl_calls.proofs.processes.Departed.{handles_left, left_all}
use Rattle.zl_calls.proofs.processes.Written.{get_after}
use Rattle.zl_calls.proofs.step.Performing.{AtTurn, HasActed, here, key, there, write_of}
use Rattle.zl_calls.proofs.step.TakenKnown.{AreThere, ends_processes, taken_known}
use Rattle.zl_calls.proofs.parts.KillWaits.{killed_has, killed_older}
use Rattle.zl_calls.proofs.waits.EndedWaits.{acted_exits}
use Rattle.zl_calls.proofs.waits.Staying.{AreLeft, written_keeps}
use Rattle.zl_calls.proofs.calls.Answered.{asking}

-- the handle is there by which each of the waits was made
abbrev HaveHandles : List Process → Objects → Type 0
HaveHandles ps r = (x : Wait) → Contains r.waits x → IsTrue (has_handle (get (map process_entry ps) x.pid) x.value)

-- so each is left, as processes go that were never started
have_left : (ps : List Process) (r : Objects) → AreThere r → HaveHandles ps r → AreLeft (left_all ps r) r r.waits
unfolding is_made_by_handle
have_left ps r present have i d inside = one (slice_index_or r.waits i d) (All-contains_itself r.waits i d inside) (present i d inside)
  where
    one : (x : Wait) → Contains r.waits x → IsTrue (has_key r.objects x.object && has_key r.objects x.port)
        → IsTrue (is_left (world_value (left_all ps r) r) x)
    one x listed both =
        let parts = and_parts (has_key r.objects x.object) (has_key r.objects x.port) both in
        and_from _ _ (handles_left ps r x.pid x.value ∙ have x listed)
        (and_from _ _ (has_seen r.objects x.object ∙ parts.0) (has_seen r.objects x.port ∙ parts.1))

-- the process is there that made the wait, and the handle by which it was made, which names the object
record IsHeld (ps : List Process) (x : Wait) : Type 0 where
  process : ProcessValue
  at : get (map process_entry ps) x.pid ≡ Some process
  e : Entry
  live : get process.handles x.value ≡ Some e
  names : e.koid ≡ x.object

module _ {ps : List Process} {r : Objects} {blocked : List ℕ} {pid place : ℕ} {p : Process} (turn : AtTurn ps r blocked pid place p) where
  held : (x : Wait) → Contains r.waits x → IsHeld ps x
  unfolding get
  held x listed = by_process (get (map process_entry ps) x.pid) refl made.1
    where
      made : (e : Entry) × (entry_at (world_blocked ps r blocked) x.pid x.value ≡ Some e) × (e.koid ≡ x.object)
      made = (All-contains (IsSoundWait (world_blocked ps r blocked)) r.waits x turn.sound.waits listed).handle

      by_process : (o : Option ProcessValue) → get (map process_entry ps) x.pid ≡ o → get (handles_in o) x.value ≡ Some made.0 → IsHeld ps x
      by_process None at none = absurd (none-some made.0 none)
      by_process (Some q) at live = record { process = q; at = at; e = made.0; live = live; names = made.2 }

  before : HaveHandles ps r
  before x listed = let h = held x listed in rw (h.at, h.live) refl

  -- the process has ended, and nothing else
  pub over_left : (code : ℤ) (p2 : Process) (r2 : Objects) → Ends code p r p2 r2 → AreThere r2 → AreLeft (left_all (set ps place p2) r2) r2 r2.waits
  over_left code p2 r2 ends present = have_left (set ps place p2) r2 present (λ x listed.
      let h = held x (ends.waits.keeps.older x listed) in
      elim (cases_Bool (p.pid == x.pid)) as (λ _. IsTrue (has_handle (get (map process_entry (set ps place p2)) x.pid) x.value)) [
        | inl here ↦
            let own : p.pid ≡ x.pid = eqb-true p.pid x.pid here in
            let same : h.process ≡ process_value p =
            same_Some h.process (process_value p) (sym h.at ∙ (ap (λ k. get (map process_entry ps) k) (sym own ∙ key turn) ∙ there turn)) in
            absurd (ends.waits.gone x h.e (sym own) (ap (λ (q : ProcessValue). get q.handles x.value) (sym same) ∙ h.live) h.names listed)
        | inr apart ↦
            rw (get_after (write_of turn p2 (ap (λ (q : Process). q.pid) ends.process)) x.pid, apart) (before x (ends.waits.keeps.older x listed))
      ])

  module _ (lib : Library) (all2 : Reach) (o : Outcome) (present : AreThere all2.objects) where
    abbrev Left : Type 0
    Left = AreLeft (left_all all2.processes all2.objects) all2.objects all2.objects.waits

    have : HaveHandles all2.processes all2.objects → Left
    have = have_left all2.processes all2.objects present

    -- the process at the place has the same handles afterwards
    told_have : (qs : List Process) (rs : Objects) (c c2 : Process) → slice_get qs place ≡ Some c → c2.pid ≡ c.pid → c2.table ≡ c.table
        → all2.processes ≡ slice_set qs place c2 → all2.objects ≡ rs → HaveHandles qs rs → Left
    told_have qs rs c c2 at same table processes objects have_before = have (λ x listed.
        rw processes (written_keeps qs place c c2 at same (λ v h. ap (λ t. has_key t.entries v) table ∙ h) x.pid x.value
        (have_before x (subst (λ (s : Objects). Contains s.waits x) objects listed))))

    over : (code : ℤ) (p2 : Process) → all2.processes ≡ set ps place p2 → Ends code p r p2 all2.objects → Left
    over code p2 is ends = rw is (over_left code p2 all2.objects ends present)

    killed : (task : ℕ) (between : Reach) → (answer : Result ⊤ Status) → TaskKillDoes task p (parts ps r blocked) answer between
        → HaveHandles between.processes between.objects
    killed task between (Ok tt) does x listed =
        let h = held x (killed_older ps r blocked does.ok.named.koid between does.ok.kills x listed) in
        killed_has ps r blocked does.ok.named.koid between does.ok.kills x listed h.process h.at h.e h.live h.names
    killed task between (Err s) does x listed = subst (λ (all : Reach). HaveHandles all.processes all.objects) (sym does.refused) before x listed

    exits_so : (request : Request) (s : Site) (p2 : Process) → ends_processes (name_of request) o ≡ true
        → ActsHere (action_asked p.pid request) (asking request s) p r o p2 all2.objects → is_end o ≡ true
    exits_so (task_kill task) s p2 ends does = absurd does
    exits_so request s p2 ends does = ends

    ended_left : (name : CallName) (s : Site) → name_of s.request ≡ name → ends_processes name o ≡ true → CallActs lib place p s (parts ps r blocked) o all2
        → Left
    ended_left name s named ends (policed p2 alone judged) = by_verdict judged.verdict judged.ends
      where
        by_verdict : (v : Verdict) → EndsBy v s p r o p2 all2.objects → Left
        by_verdict verdict.Denied denied = told_have ps r p p2 (here ps pid place p turn.found turn.read) (ap (λ (q : Process). q.pid) denied.replied)
            denied.table alone.processes denied.objects before
        by_verdict verdict.Killed exit = over _ p2 alone.processes exit.over
    ended_left name s named ends (reaches none (creates_process job program is does)) =
        absurd (false≢true (sym (ap (λ n. ends_processes n o) (sym named ∙ ap name_of is) ∙ ap is_end does.ends) ∙ ends))
    ended_left name s named ends (reaches none (starts process h word is does)) =
        absurd (false≢true (sym (ap (λ n. ends_processes n o) (sym named ∙ ap name_of is) ∙ ap is_end does.ends) ∙ ends))
    ended_left name s named ends (reaches none (kills task is a apart)) =
        told_have a.between.processes a.between.objects a.is_told.caller _ a.is_told.is_there refl refl a.is_told.processes a.is_told.objects
        (killed task a.between a.answer a.does)
    ended_left name s named ends (reaches none (kills_itself task is e)) = have (killed task all2 (Ok tt) e.does)
    ended_left name s named ends (acts p2 none alone does) =
        let exit = acted_exits (action_asked p.pid s.request) s p p2 r all2.objects o does
        (exits_so s.request s p2 (ap (λ n. ends_processes n o) named ∙ ends) does) in
        over exit.0 p2 alone.processes exit.1.over

    -- behind each call a wait is left, or else the call took the handle by which it was made
    pub known_behind : (name : CallName) → CalledAmong lib place p (parts ps r blocked) name o all2 → (t : Taken) → NotesNext lib p r t
        → HasActed lib ps (left_all all2.processes all2.objects) r all2.objects blocked all2.blocked pid (item.Call pid name o)
        → AreKnown (left_all all2.processes all2.objects) all2.objects t pid
    known_behind name called t notes acted = elim (cases_Bool (ends_processes name o))
        as (λ _. AreKnown (left_all all2.processes all2.objects) all2.objects t pid) [
          | inr plain ↦ taken_known turn lib all2 o present name called plain t notes acted
          | inl ends ↦ λ i d inside. inl (ended_left name called.site
              (asks_again called.call p.cpu called.site called.at_site ∙ sym called.named) ends called.acts i d inside)
        ]
