-- The step of a process leaves the others alone unless it starts, wakes, kills or drops them, keeps what their tables name, and changes no policy of theirs.
use Rattle.zl_code.proofs.Common.{Acts, AtCall, Awaited, Blocked, Body, Bool, CallBy, ChannelEnd, Choice, Created, Ended, Entry, Gone, HasItsObject}
use Rattle.zl_code.proofs.Common.{IsSound, IsStuck, IsTrue, JobBody, KILLED, Library, List, LivesAt, Moves, Next, None, Object, Option, Outcome, Packet}
use Rattle.zl_code.proofs.Common.{PacketAt, PortBody, Process, ProcessBody, Ready, Refused, Request, Settles, SignalOf, Site, Some, StandsBelow, State}
use Rattle.zl_code.proofs.Common.{Step, TraceItem, Values, Wants, World, [], active, after_ok, after_refusal, and_from, and_parts, answered, ap, arith}
use Rattle.zl_code.proofs.Common.{awaited_by, body_after_read, body_in, body_killed, body_with_message, cases_Bool, close, created_process, effect, ended}
use Rattle.zl_code.proofs.Common.{entering_at, entry_at, eq-eqb, eqb-true, false, false≢true, fired, fold, get, get-each, get-put, get-update}
use Rattle.zl_code.proofs.Common.{get-where_key-in, get-where_key-out, handle_operands, has_child, has_child_job, has_child_process, if◌then◌else◌, inl}
use Rattle.zl_code.proofs.Common.{inr, insert_all, is_job_below, is_process, is_process_of, is_some, is_within, keeping, kept_by, lives, made_ready}
use Rattle.zl_code.proofs.Common.{may_choose, may_get, may_get_all, meets, ne_eqb, new_handles, next_for, none-some, not, not-true, object_at, ok_outcome}
use Rattle.zl_code.proofs.Common.{on_object, on_process, option_map, option_to_list, or_left, or_right, packet_values, parent_in, process_create}
use Rattle.zl_code.proofs.Common.{process_ended, process_killed, process_settled, process_start, process_with, process_without, receiver_of, refl, refusal}
use Rattle.zl_code.proofs.Common.{remove_all, replied, row_of, runs, same_Some, started_with, state_without, stored_by, storing, subst, sym, taken}
use Rattle.zl_code.proofs.Common.{taken_handles, task_kill, true, true≢false, update, waiting, wakes, where_key, with_body, with_effect, with_killed}
use Rattle.zl_code.proofs.Common.{with_object, without_others, woken, woken_at_port, woken_by, woken_by_first, woken_from, woken_if_there, ℕ, ◌<◌, ◌==◌}
use Rattle.zl_code.proofs.Common.{◌∙◌, ◌∷◌, ◌≡◌, ◌≤◌, ◌⊎◌}
use Rattle.zl_code.specs.declared.history.Outcome.TheVariants as outcome
use Rattle.zl_code.specs.Frame.{OthersMake, left_alone, woken as is_woken, was_started, was_killed, dropped, LeavesOthers, HasLiving, IsWithin, itself, below}
use Rattle.zl_code.specs.Frame.{policy_of}
use Rattle.zl_code.proofs.Changes.{ObjectChange, signals_change, packets_change, message_comes, message_goes, policy_changes, dies, Change, kept}
use Rattle.zl_code.proofs.TaskLaws.{arg_there, child_of}
use Rattle.zl_code.proofs.Killing.{job_of}
use Rattle.zl_rights.proofs.MapTests.{any_at}
use Rattle.zl_code.proofs.MapKept.{each_changed}
use Rattle.zl_code.proofs.StepChanges.{step_changes}
use Rattle.zl_code.proofs.SoundRuns.{step_handles_named}

pub unkilled : (o : Option Process) → option_map (process_killed false) o ≡ o
unkilled None = refl
unkilled (Some x) = refl

-- ---- what p does

module _ (p q : ℕ) (apart : (p == q) ≡ false) where
  -- the same stands at q
  abbrev Same : World → World → Type 0
  Same u w = get u.processes q ≡ get w.processes q

  on_other : (w : World) (f : Process → Process) → Same (on_process w p f) w
  unfolding on_process
  on_other w f = get-update w.processes p f q ∙ rw apart refl

  pub ended_other : (w : World) (code : _) → Same (ended w p code) w
  unfolding ended
  ended_other w code = on_other w (process_ended code)

  pub enter_other : (w : World) (es : List Entry) (vs : List ℕ) → Same (insert_all w p es vs) w
  unfolding insert_all
  enter_other w [] vs = refl
  enter_other w (e ∷ es) [] = refl
  enter_other w (e ∷ es) (v ∷ vs) = enter_other (on_process w p (process_with v e)) es vs ∙ on_other w (process_with v e)

  pub left_other : (hs : List ℕ) (w : World) → Same (remove_all w p hs) w
  unfolding remove_all
  left_other [] w = refl
  left_other (h ∷ hs) w = left_other hs (on_process w p (process_without h)) ∙ on_other w (process_without h)

  pub stored_other : (at : ℕ × List ℕ) (w : World) → Same (storing w p at) w
  stored_other (address, []) w = refl
  stored_other (address, b ∷ bytes) w = on_other w _

  pub kept_other : (kept : Option (ℕ × List ℕ)) (w : World) → Same (keeping w p kept) w
  kept_other None w = refl
  kept_other (Some x) w = on_other w _

  pub waiting_other : (w : World) (ds : List ℕ) (awaited : Option Awaited) → Same (waiting w p ds awaited) w
  waiting_other w ds None = refl
  waiting_other w ds (Some awaited) = on_other w _

  -- the call neither starts nor kills q
  abbrev spares : World → Request → Bool
  spares w (process_start process h word) = not (object_at w p process == q)
  spares w (task_kill task) = not (is_within w.objects (object_at w p task) q)
  spares w r = true

  effect_other : (lib : Library) (w u : World) (request : Request) (vs : List ℕ) → (w.next_koid == q) ≡ false → u.objects ≡ w.objects → spares w request ≡ true
      → Same (effect lib w u p request vs) u
  unfolding effect with_object on_object on_process with_killed
  effect_other lib w u (process_create job program) vs old same free = get-put u.processes w.next_koid (created_process lib program) q ∙ rw old refl
  effect_other lib w u (process_start process h word) vs old same free =
      get-update u.processes (object_at w p process) (started_with vs word) q ∙ rw (not-true _ free) refl
  effect_other lib w u (task_kill task) vs old same free =
      get-each u.processes (λ k. process_killed (is_within u.objects (object_at w p task) k)) q ∙ rw (same, not-true _ free) (unkilled (get u.processes q))
  effect_other lib w u _ vs old same free = refl

  receiver_other : (w : World) (request : Request) → spares w request ≡ true → (receiver_of w p request == q) ≡ false
  receiver_other w (process_start process h word) free = not-true _ free
  receiver_other w (close h) free = apart
  receiver_other w _ free = apart

  pub replied_other : (u : World) (s : Site) (answer : _) (values : List ℕ) → Same (replied u p s answer values) u
  unfolding replied
  replied_other u s answer values = on_other u _

  refused_other : (w : World) (s : Site) (o : Outcome) → Same (after_refusal w p s o) w
  refused_other w s (outcome.Answered answer) = replied_other (taken w p s) s answer _ ∙ left_other (taken_handles s.request) w
  refused_other w s (outcome.Ended code) = ended_other w code
  refused_other w s outcome.Blocked = refl

-- handles that leave a table leave the objects
objects_left : (p : ℕ) (w : World) (hs : List ℕ) → (remove_all w p hs).objects ≡ w.objects
unfolding remove_all on_process
objects_left p w [] = refl
objects_left p w (h ∷ hs) = objects_left p (on_process w p (process_without h)) hs

-- ---- what settling and waking do

-- what settling and waking can make of a process x
data Later (x y : Process) : Type 0 where
  stays : y ≡ x → Later x y
  wakes_up : (awaited : Awaited) (destinations values : List ℕ) → x.state ≡ Blocked awaited destinations
      → y ≡ record x { state = Ready; cpu = answered x.cpu destinations values } → Later x y
  goes : x.state ≡ Created → y ≡ record x { state = Gone } → Later x y

-- the process x stands at q, or what became of it
record Becomes (q : ℕ) (x : Process) (w : World) : Type 0 where
  process : Process
  there : get w.processes q ≡ Some process
  made : Later x process

settled_process : (K : ℕ → Bool) (q : ℕ) (x : Process) → Later x (process_settled K q x)
settled_process K q x = by_state x.state (K q) refl
  where
    by_state : (s : State) (left : Bool) → x.state ≡ s → Later x (record x { state = state_without left x.state })
    by_state Created true is = stays (rw is refl)
    by_state Created false is = goes is (rw is refl)
    by_state _ left is = stays (rw is refl)

settled_becomes : (q : ℕ) (x : Process) (u v : World) → Settles u v → get u.processes q ≡ Some x → Becomes q x v
unfolding without_others
settled_becomes q x u v (K, largest, is) there = record {
  process = process_settled K q x;
  there = rw is (get-each u.processes (process_settled K) q ∙ ap (option_map (process_settled K q)) there);
  made = settled_process K q x;
}

-- the process at p is made ready
readied : (q p : ℕ) (x y : Process) (w u : World) (awaited : Awaited) (ds values : List ℕ) → get w.processes q ≡ Some x → get w.processes p ≡ Some y
    → y.state ≡ Blocked awaited ds → u.processes ≡ w.processes → Becomes q x (made_ready u p y ds values)
unfolding made_ready
readied q p x y w u awaited ds values there at blocked same =
    elim (cases_Bool (p == q)) as (λ _. Becomes q x (made_ready u p y ds values)) [
      | inl here ↦
          let is : y ≡ x = same_Some y x (sym at ∙ rw (eqb-true p q here) there) in
          record {
            process = record y { state = Ready; cpu = answered y.cpu ds values };
            there = get-put u.processes p _ q ∙ rw here refl;
            made = wakes_up awaited ds values (rw is at blocked) (rw is refl);
          }
      | inr apart ↦ record { process = x; there = get-put u.processes p _ q ∙ rw apart (rw same there); made = stays refl }
    ]

module _ (q p : ℕ) (x y : Process) (w : World) (there : get w.processes q ≡ Some x) (at : get w.processes p ≡ Some y) where
  alone : Becomes q x w
  alone = record { process = x; there = there; made = stays refl }

  by_first : (k : ℕ) (ds : List ℕ) (o : Object) (packets : List Packet) → y.state ≡ Blocked (PacketAt k) ds → Becomes q x (woken_by_first w p y k ds o packets)
  by_first k ds o [] blocked = alone
  by_first k ds o (first ∷ rest) blocked = readied q p x y w (with_body w k o (PortBody rest)) (PacketAt k) ds (0 ∷ packet_values first) there at blocked refl

  by_body : (k : ℕ) (ds : List ℕ) (o : Object) (b : Body) → y.state ≡ Blocked (PacketAt k) ds → Becomes q x (woken_by w p y k ds o b)
  by_body k ds o (PortBody packets) blocked = by_first k ds o packets blocked
  by_body k ds o _ blocked = alone

  by_port : (k : ℕ) (ds : List ℕ) (o : Option Object) → y.state ≡ Blocked (PacketAt k) ds → Becomes q x (woken_at_port w p y k ds o)
  by_port k ds None blocked = alone
  by_port k ds (Some o) blocked = by_body k ds o o.body blocked

  by_state : (s : State) → y.state ≡ s → Becomes q x (woken_from w p y s)
  by_state (Blocked (SignalOf k mask) ds) is =
      elim (meets (active w k) mask) as (λ b. Becomes q x (if b then made_ready w p y ds (0 ∷ active w k ∷ []) else w)) [
        | true ↦ readied q p x y w w (SignalOf k mask) ds (0 ∷ active w k ∷ []) there at is refl
        | false ↦ alone
      ]
  by_state (Blocked (PacketAt k) ds) is = by_port k ds (get w.objects k) is
  by_state _ is = alone

woken_becomes : (q p : ℕ) (x : Process) (w : World) → get w.processes q ≡ Some x → Becomes q x (woken w p)
unfolding woken
woken_becomes q p x w there = by_process (get w.processes p) refl
  where
    by_process : (o : Option Process) → get w.processes p ≡ o → Becomes q x (woken_if_there w p o)
    by_process None at = record { process = x; there = there; made = stays refl }
    by_process (Some y) at = by_state q p x y w there at y.state refl

-- neither settling nor waking makes anything of a process in this state
abbrev rests : State → Bool
rests Created = false
rests (Blocked awaited ds) = false
rests _ = true

no_more : (y : Process) (s t : State) → y.state ≡ s → rests s ≡ true → y.state ≡ t → rests t ≡ false → ⊥
no_more y s t is quiet was moves = true≢false (sym quiet ∙ (ap rests (sym is ∙ was) ∙ moves))

-- nothing more becomes of a process that was woken, or dropped
later_then : (x y z : Process) → Later x y → Later y z → Later x z
later_then x y z (stays e) b = subst (λ (u : Process). Later u z) e b
later_then x y z a (stays e) = subst (Later x) (sym e) a
later_then x y z (wakes_up awaited ds values was is) (wakes_up a2 ds2 values2 was2 is2) =
    absurd (no_more y Ready (Blocked a2 ds2) (ap (λ (u : Process). u.state) is) refl was2 refl)
later_then x y z (wakes_up awaited ds values was is) (goes was2 is2) = absurd (no_more y Ready Created (ap (λ (u : Process). u.state) is) refl was2 refl)
later_then x y z (goes was is) (wakes_up a2 ds2 values2 was2 is2) = absurd (no_more y Gone (Blocked a2 ds2) (ap (λ (u : Process). u.state) is) refl was2 refl)
later_then x y z (goes was is) (goes was2 is2) = absurd (no_more y Gone Created (ap (λ (u : Process). u.state) is) refl was2 refl)

becomes_then : (q : ℕ) (x : Process) (u v : World) → (b : Becomes q x u) → ((y : Process) → get u.processes q ≡ Some y → Becomes q y v) → Becomes q x v
becomes_then q x u v b more =
    let c = more b.process b.there in
    record { process = c.process; there = c.there; made = later_then x b.process c.process b.made c.made }

turns_becomes : (q : ℕ) (x : Process) (w : World) (ps : List ℕ) → get w.processes q ≡ Some x → Becomes q x (fold woken w ps)
turns_becomes q x w [] there = record { process = x; there = there; made = stays refl }
turns_becomes q x w (p ∷ ps) there = becomes_then q x (woken w p) _ (woken_becomes q p x w there) (λ y at. turns_becomes q y (woken w p) ps at)

waking_becomes : (q : ℕ) (x : Process) (w : World) → get w.processes q ≡ Some x → Becomes q x (wakes w)
unfolding wakes fired
waking_becomes q x w there = turns_becomes q x (fired w) w.blocked there

-- ---- what the act and the rest of a step do

-- what became of the process x at q
record Made (q : ℕ) (x : Process) (w : World) : Type 0 where
  process : Process
  there : get w.processes q ≡ Some process
  made : OthersMake x process

ended_there : (x y z : Process) (s : State) → OthersMake x y → y.state ≡ s → rests s ≡ true → Later y z → OthersMake x z
ended_there x y z s a is quiet (stays e) = subst (OthersMake x) (sym e) a
ended_there x y z s a is quiet (wakes_up awaited ds values was e) = absurd (no_more y s (Blocked awaited ds) is quiet was refl)
ended_there x y z s a is quiet (goes was e) = absurd (no_more y s Created is quiet was refl)

made_later : (x y z : Process) → OthersMake x y → Later y z → OthersMake x z
made_later x y z a (stays e) = subst (OthersMake x) (sym e) a
made_later x y z (left_alone e) (wakes_up awaited ds values was is) = subst (λ (u : Process). OthersMake u z) e (is_woken awaited ds values was is)
made_later x y z (left_alone e) (goes was is) = subst (λ (u : Process). OthersMake u z) e (dropped was is)
made_later x y z (is_woken awaited ds values was is) b = ended_there x y z Ready (is_woken awaited ds values was is) (ap (λ (u : Process). u.state) is) refl b
made_later x y z (was_started e v word was is) b = ended_there x y z Ready (was_started e v word was is) (ap (λ (u : Process). u.state) is) refl b
made_later x y z (was_killed is) b = ended_there x y z (Ended KILLED) (was_killed is) (ap (λ (u : Process). u.state) is) refl b
made_later x y z (dropped was is) b = ended_there x y z Gone (dropped was is) (ap (λ (u : Process). u.state) is) refl b

module _ (p q : ℕ) (apart : (p == q) ≡ false) (lib : Library) (w : World) (x : Process) (there : get w.processes q ≡ Some x) (old : (w.next_koid == q) ≡ false)
    (caller : Process) where
  same_made : (u : World) → get u.processes q ≡ get w.processes q → Made q x u
  same_made u same = record { process = x; there = same ∙ there; made = left_alone refl }

  -- the handle that a child starts with has one value
  started_made : (u : World) (es : List Entry) (vs : List ℕ) (word : ℕ) → get u.processes q ≡ Some x → x.state ≡ Created → (e : Entry) → es ≡ e ∷ []
      → IsTrue (may_get_all x es vs) → Made q x (insert_all (on_process u q (started_with vs word)) q es vs)
  unfolding insert_all on_process
  started_made u [] vs word at created e is may = absurd (none_one is)
    where
      none_one : [] ≡ e ∷ [] → ⊥
      none_one h = cc
  started_made u (e1 ∷ f ∷ es) vs word at created e is may = absurd (one_two is)
    where
      one_two : e1 ∷ f ∷ es ≡ e ∷ [] → ⊥
      one_two h = cc
  started_made u (e1 ∷ []) [] word at created e is may = absurd (false≢true may)
  started_made u (e1 ∷ []) (v ∷ w2 ∷ vs) word at created e is may = absurd (false≢true (and_parts (may_get x v) false may).1)
  started_made u (e1 ∷ []) (v ∷ []) word at created e is may = record {
    process = process_with v e1 (started_with (v ∷ []) word x);
    there = get-update (update u.processes q (started_with (v ∷ []) word)) q (process_with v e1) q
        ∙ rw (eq-eqb q q refl, get-update u.processes q (started_with (v ∷ []) word) q, eq-eqb q q refl, at) refl;
    made = was_started e1 v word created refl;
  }

  killed_made : IsTrue (lives x.state) → OthersMake x (process_killed true x)
  killed_made alive = was_killed (rw alive refl)

  carry : (u u2 : World) → get u2.processes q ≡ get u.processes q → Made q x u → Made q x u2
  carry u u2 same a = record { process = a.process; there = same ∙ a.there; made = a.made }

  -- a call that neither starts nor kills q leaves it alone
  spared_done : (r : Request) (vs : List ℕ) → spares p q apart w r ≡ true
      → get (with_effect lib w (remove_all w p (taken_handles r)) p r vs).processes q ≡ get w.processes q
  spared_done r vs free =
      kept_other p q apart (kept_by r vs) _
      ∙ (stored_other p q apart (stored_by w p r) _
      ∙ (enter_other (receiver_of w p r) q (receiver_other p q apart w r free) (effect lib w (remove_all w p (taken_handles r)) p r vs) (new_handles w p r)
      (entering_at r vs)
      ∙ (effect_other p q apart lib w (remove_all w p (taken_handles r)) r vs old (same_objects w (taken_handles r)) free
      ∙ left_other p q apart (taken_handles r) w)))
    where
      same_objects : (u : World) (hs : List ℕ) → (remove_all u p hs).objects ≡ u.objects
      same_objects u hs = objects_left p u hs

  module _ (process_there : get w.processes p ≡ Some caller) (ready : caller.state ≡ Ready) (alive : IsTrue (lives x.state)) where
    begins : (process h word : ℕ) (vs : List ℕ) → refusal lib w p (process_start process h word) ≡ None
        → IsTrue (may_choose w (remove_all w p (taken_handles (process_start process h word))) p (process_start process h word) vs) → object_at w p process ≡ q
        → Made q x (with_effect lib w (remove_all w p (taken_handles (process_start process h word))) p (process_start process h word) vs)
    unfolding effect new_handles may_choose
    begins process h word vs passes gets here =
        let (e, arg) = arg_there lib w p caller process_there ready process h word passes in
        let child = child_of lib w p caller process_there ready process h word passes in
        let u = remove_all w p (taken_handles (process_start process h word)) in
        let at : get u.processes q ≡ Some x = left_other p q apart (taken_handles (process_start process h word)) w ∙ there in
        let created : x.state ≡ Created =
        ap (λ (y : Process). y.state) (same_Some x child.0 (sym there ∙ (ap (get w.processes) (sym here) ∙ child.1))) ∙ child.2 in
        subst (λ k. Made q x (insert_all (on_process u k (started_with vs word)) k (option_to_list (entry_at w p h)) vs)) (sym here)
        (started_made u (option_to_list (entry_at w p h)) vs word at created e (ap option_to_list arg) (rw (here, at) at gets))

    killed : (task : ℕ) (vs : List ℕ) → is_within w.objects (object_at w p task) q ≡ true
        → Made q x (with_effect lib w (remove_all w p (taken_handles (task_kill task))) p (task_kill task) vs)
    unfolding effect new_handles insert_all with_killed taken_handles handle_operands row_of remove_all
    killed task vs inside = record {
      process = process_killed true x;
      there = get-each w.processes (λ k. process_killed (is_within w.objects (object_at w p task) k)) q ∙ rw (inside, there) refl;
      made = killed_made alive;
    }

    -- all that a call does but for its caller's registers
    done_made : (r : Request) (vs : List ℕ) → refusal lib w p r ≡ None → IsTrue (may_choose w (remove_all w p (taken_handles r)) p r vs)
        → Made q x (with_effect lib w (remove_all w p (taken_handles r)) p r vs)
    done_made (process_start process h word) vs passes gets =
        elim (cases_Bool (object_at w p process == q))
        as (λ _. Made q x (with_effect lib w (remove_all w p (taken_handles (process_start process h word))) p (process_start process h word) vs)) [
          | inl here ↦ begins process h word vs passes gets (eqb-true (object_at w p process) q here)
          | inr other ↦ same_made _ (spared_done (process_start process h word) vs (ap not other))
        ]
    done_made (task_kill task) vs passes gets =
        elim (cases_Bool (is_within w.objects (object_at w p task) q))
        as (λ _. Made q x (with_effect lib w (remove_all w p (taken_handles (task_kill task))) p (task_kill task) vs)) [
          | inl inside ↦ killed task vs inside
          | inr outside ↦ same_made _ (spared_done (task_kill task) vs (ap not outside))
        ]
    done_made (close h) vs passes gets = same_made _ (spared_done (close h) vs refl)
    done_made r vs passes gets = same_made _ (spared_done r vs refl)

    ok_made : (s : Site) (vs : List ℕ) (o : Outcome) → Made q x (with_effect lib w (taken w p s) p s.request vs) → Made q x (after_ok lib w p s vs o)
    unfolding replied
    ok_made s vs (outcome.Answered answer) a = carry (with_effect lib w (taken w p s) p s.request vs) _ (on_other p q apart _ _) a
    ok_made s vs (outcome.Ended code) a = carry (with_effect lib w (taken w p s) p s.request vs) _ (ended_other p q apart _ code) a
    ok_made s vs outcome.Blocked a = same_made _ (waiting_other p q apart w s.destinations (awaited_by w p s.request))

    call_made : (s : Site) (choice : Choice) (r : Option Outcome) (answer : Outcome) (w2 : World) → refusal lib w p s.request ≡ r
        → CallBy lib w p s choice r answer w2 → Made q x w2
    call_made s Refused None answer w2 is c = absurd c
    call_made s Refused (Some o) answer w2 is c = rw c.1 (same_made _ (refused_other p q apart w s o))
    call_made s (Wants want) None answer w2 is c = rw c.2 (same_made _ (refused_other p q apart w s (outcome.Answered want)))
    call_made s (Wants want) (Some o) answer w2 is c = absurd c
    call_made s (Values vs) None answer w2 is c = rw c.2 (ok_made s vs (ok_outcome w p s.request) (done_made s.request vs is c.0))
    call_made s (Values vs) (Some o) answer w2 is c = absurd c

    act_made : (n : Next) (item : TraceItem) (w2 : World) → Acts lib w p n item w2 → Made q x w2
    act_made (Moves c) item w2 a = rw a.1 (same_made _ (on_other p q apart w _))
    act_made (AtCall call s) item w2 (o, e, c) = call_made s c.0 (refusal lib w p s.request) o w2 refl c.1
    act_made IsStuck item w2 a = rw a.1 (same_made _ (ended_other p q apart w _))

-- before waits fire and processes wake
settled_made : (lib : Library) (w : World) (p : ℕ) (item : TraceItem) (caller : Process) (acted settled : World) → IsSound w → get w.processes p ≡ Some caller
    → caller.state ≡ Ready → Acts lib w p (next_for lib caller) item acted → Settles acted settled → (q : ℕ) (x : Process)
    → (p == q) ≡ false → get w.processes q ≡ Some x → IsTrue (lives x.state) → Made q x settled
settled_made lib w p item caller acted settled sound at ready acts settles q x apart there alive =
    let below : q < w.next_koid = sound.processes q (ap is_some there) in
    let a = act_made p q apart lib w x there (ne_eqb w.next_koid q (λ e. omega (arith, e, below))) caller at ready alive (next_for lib caller) item acted
    acts in
    let b = settled_becomes q a.process acted settled settles a.there in
    record { process = b.process; there = b.there; made = made_later x a.process b.process a.made b.made }

step_made : (lib : Library) (w : World) (p : ℕ) (item : TraceItem) (after : World) → IsSound w → Step lib w p item after → (q : ℕ) (x : Process)
    → (p == q) ≡ false → get w.processes q ≡ Some x → IsTrue (lives x.state) → Made q x after
step_made lib w p item after sound step q x apart there alive =
    let a = settled_made lib w p item step.process step.acted step.settled sound step.is_there step.is_ready step.acts step.settles q x apart there alive in
    let b = waking_becomes q a.process step.settled a.there in
    rw step.ends_awake (record { process = b.process; there = b.there; made = made_later x a.process b.process a.made b.made })

-- what the act of p and settling leave of another process that lives
pub act_leaves_others : (lib : Library) (w : World) (p : ℕ) (item : TraceItem) (caller : Process) (acted settled : World) → IsSound w
    → get w.processes p ≡ Some caller → caller.state ≡ Ready → Acts lib w p (next_for lib caller) item acted → Settles acted settled → (q : ℕ) (x : Process)
    → (p == q) ≡ false → get w.processes q ≡ Some x → IsTrue (lives x.state) → (y : Process) × (get settled.processes q ≡ Some y) × OthersMake x y
act_leaves_others lib w p item caller acted settled sound at ready acts settles q x apart there alive =
    let a = settled_made lib w p item caller acted settled sound at ready acts settles q x apart there alive in (a.process, a.there, a.made)

-- ---- what their tables name

-- while it lives, a process keeps what its table had
table_kept : (x y : Process) (v : ℕ) (e : Entry) → OthersMake x y → IsTrue (lives y.state) → get x.handles v ≡ Some e → (x.state ≡ Created → x.handles ≡ [])
    → get y.handles v ≡ Some e
unfolding get
table_kept x y v e (left_alone is) alive at idle = rw is at
table_kept x y v e (is_woken awaited ds values was is) alive at idle = rw is at
table_kept x y v e (dropped was is) alive at idle = rw is at
table_kept x y v e (was_killed is) alive at idle = absurd (false≢true (rw is at alive))
table_kept x y v e (was_started f n word was is) alive at idle = absurd (none-some e (rw (idle was) at at))

-- ---- policies

-- nothing stands below a job without a koid
at_zero : (w : World) → IsSound w → (j k : ℕ) → IsWithin w.objects j k → k ≡ 0 → j ≡ 0
at_zero w s j _ itself e = e
at_zero w s j _ (below k parent d policy killed o at is inner) e =
    let sound : StandsBelow w.objects k (JobBody parent d policy killed) = subst (StandsBelow w.objects k) is (s.tree k o at) in
    absurd (omega (arith, sound.later, e))

-- a living job that stands in the job j is j itself, or else a living job stands directly below j
within_is_busy : (w : World) → IsSound w → (j k : ℕ) → IsWithin w.objects j k → (depth : ℕ) → LivesAt w.objects k depth → (k ≡ j) ⊎ (has_child_job w j ≡ true)
unfolding has_child_job
within_is_busy w s j _ itself depth l = inl refl
within_is_busy w s j _ (below k parent d policy killed o at is inner) depth l =
    inr (elim ((job_of w.objects s.tree k depth l).above refl) as (λ _. has_child_job w j ≡ true) [
      | inl root ↦ child (sym same_parent ∙ (root.0 ∙ sym (at_zero w s j parent inner (sym same_parent ∙ root.0))))
      | inr up ↦ elim (within_is_busy w s j parent inner up.0 (subst (λ n. LivesAt w.objects n up.0) same_parent up.2)) as (λ _. has_child_job w j ≡ true) [
        | inl here ↦ child here
        | inr busy ↦ busy
      ]
    ])
  where
    body : o.body ≡ JobBody l.parent depth l.policy false
    body = same_Some o.body _ (sym (ap body_in at) ∙ l.there)

    same_parent : l.parent ≡ parent
    same_parent = ap (λ b. parent_in (Some b)) (sym body ∙ is)

    child : parent ≡ j → has_child_job w j ≡ true
    child e = any_at _ w.objects k o at (below_it o.body body)
      where
        below_it : (b : Body) → b ≡ JobBody l.parent depth l.policy false → is_job_below j b ≡ true
        below_it b same = rw (same, same_parent, e, eq-eqb j j refl) refl

is_busy : (w : World) (j : ℕ) → IsSound w → HasLiving w j → has_child w j ≡ true
unfolding has_child_process is_process
is_busy w j s h =
    elim (within_is_busy w s j h.job h.within has.depth (subst (λ n. LivesAt w.objects n has.depth) same_job has.lives)) as (λ _. has_child w j ≡ true) [
      | inl here ↦ or_right (has_child_job w j) _ (any_at _ w.objects h.pid h.object h.object_there
          (and_from (is_process_of j h.object.body) _ (in_it h.object.body h.in_job here) (rw h.there h.living)))
      | inr busy ↦ or_left (has_child_job w j) _ busy
    ]
  where
    has : HasItsObject w.objects h.pid
    has = s.living h.pid h.process h.there h.living

    job_named : ProcessBody has.job ≡ ProcessBody h.job
    job_named = same_Some _ _ (sym has.there ∙ ap body_in h.object_there) ∙ h.in_job

    same_job : has.job ≡ h.job
    same_job = ap (λ b. parent_in (Some b)) job_named

    in_it : (b : Body) → b ≡ ProcessBody h.job → h.job ≡ j → is_process_of j b ≡ true
    in_it b is here = rw (is, here, eq-eqb j j refl) refl

policy_same : (start after : World) (k : ℕ) (x y : Object) → IsSound start → HasLiving start k → ObjectChange start after k x y
    → policy_of y.body ≡ policy_of x.body
policy_same start after k x y sound busy (signals_change clear set is may) = ap (λ (o : Object). policy_of o.body) is
policy_same start after k x y sound busy (packets_change old packets port is) = rw (is, port) refl
policy_same start after k x y sound busy (message_comes m is may) = ap (λ (o : Object). policy_of o.body) is ∙ by_body2 x.body
  where
    by_body2 : (b : Body) → policy_of (body_with_message m b) ≡ policy_of b
    by_body2 (ChannelEnd peer queue) = refl
    by_body2 _ = refl
policy_same start after k x y sound busy (message_goes is) = ap (λ (o : Object). policy_of o.body) is ∙ by_body2 x.body
  where
    by_body2 : (b : Body) → policy_of (body_after_read b) ≡ policy_of b
    by_body2 (ChannelEnd peer queue) = refl
    by_body2 _ = refl
policy_same start after k x y sound busy (policy_changes s is may) = absurd (true≢false (sym (is_busy start k sound busy) ∙ may sound))
policy_same start after k x y sound busy (dies is may) = ap (λ (o : Object). policy_of o.body) is ∙ by_body2 x.body
  where
    by_body2 : (b : Body) → policy_of (body_killed b) ≡ policy_of b
    by_body2 (JobBody parent depth policy killed) = refl
    by_body2 _ = refl

-- u comes after start, and the jobs that are in both have the policies that they had, where a living process is in them or below
record KeepsPolicies (start u : World) : Type 0 where
  grown : start.next_koid ≤ u.next_koid
  same : (j : ℕ) (o : Object) → get u.objects j ≡ Some o → HasLiving start j → (old : Object) → get start.objects j ≡ Some old
      → policy_of o.body ≡ policy_of old.body

policies_change : (start u v : World) → IsSound start → Change start u v → KeepsPolicies start u → KeepsPolicies start v
policies_change start u v sound c s = record {
  grown = omega (arith, s.grown, c.next_koid);
  same =
      each_changed _ _ (λ j o. HasLiving start j → (old : Object) → get start.objects j ≡ Some old → policy_of o.body ≡ policy_of old.body) u.objects
      v.objects c.objects
      (λ j x y changed same busy old at. policy_same start v j x y sound busy changed ∙ same busy old at)
      (λ j y fresh busy old at. absurd (was_given j old at fresh.next))
      s.same;
}
  where
    was_given : (j : ℕ) (old : Object) → get start.objects j ≡ Some old → u.next_koid ≤ j → ⊥
    was_given j old at from = let below : j < start.next_koid = sound.objects.below j (ap is_some at) in omega (arith, s.grown)

policies_settled : (start u v : World) → Settles u v → KeepsPolicies start u → KeepsPolicies start v
unfolding without_others
policies_settled start u v (K, largest, is) s = rw is (record { grown = s.grown; same = kept_policies })
  where
    kept_policies : (j : ℕ) (o : Object) → get (where_key K u.objects) j ≡ Some o → HasLiving start j → (old : Object) → get start.objects j ≡ Some old
        → policy_of o.body ≡ policy_of old.body
    kept_policies j o there =
        elim (cases_Bool (K j)) as (λ _. HasLiving start j → (old : Object) → get start.objects j ≡ Some old → policy_of o.body ≡ policy_of old.body) [
          | inl kept_there ↦ s.same j o (rw (get-where_key-in u.objects K j kept_there) at there)
          | inr gone ↦ absurd (none-some o (rw (get-where_key-out u.objects K j gone) at there))
        ]

-- ---- a step

pub step_leaves_others : (lib : Library) (w : World) (p : ℕ) (item : TraceItem) (after : World) → IsSound w → Step lib w p item after → LeavesOthers w p after
step_leaves_others lib w p item after sound step = record {
  processes = λ q x apart there living. let a = step_made lib w p item after sound step q x apart there living in (a.process, a.there, a.made);
  objects = λ q v x y e apart there living at alive has.
      let a = step_made lib w p item after sound step q x apart there living in
      let same : a.process ≡ y = same_Some a.process y (sym a.there ∙ at) in
      (step_handles_named lib w p item after sound.objects sound.named step).tables q v y e at
      (table_kept x y v e (subst (OthersMake x) same a.made) alive has (λ created. ((sound.tables q x there).idle (ap runs created)).0));
  policies = λ j o o2 busy at at2. policies.same j o2 at2 busy o at;
}
  where
    policies : KeepsPolicies w after
    policies = kept w (KeepsPolicies w) (λ u v. policies_change w u v sound) (policies_settled w) w after (step_changes lib w p item after step)
        (record { grown = omega arith; same = λ j o at busy old was. ap (λ (x : Object). policy_of x.body) (same_Some o old (sym at ∙ was)) })
