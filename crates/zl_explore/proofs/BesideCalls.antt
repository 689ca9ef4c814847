-- What other processes compute with tells nothing to a call: it is refused alike, and does the same.
use Rattle.zl_code.proofs.Common.{Bool, Condition, Cpu, Entry, Kind, Library, List, None, Operand, Option, Process, Request, Site}
use Rattle.zl_code.proofs.Common.{Some, State, Status, World, [], after_ok, after_refusal, answer_if, ap, awaited_by, body_of, by_policy, cases_Bool}
use Rattle.zl_code.proofs.Common.{chan_create, chan_read_etc, chan_read_slots, chan_write, chan_write_slots, choosing, close, condition_of, contains}
use Rattle.zl_code.proofs.Common.{copy_of, created_process, creates, dup, each, effect, ended, ends_caller, entering_at, entries_at, entry_at}
use Rattle.zl_code.proofs.Common.{event_create, eventpair_create, examined, false, faults, filter, first_bytes, first_handles, first_some, flat_map, get}
use Rattle.zl_code.proofs.Common.{gives_ok, gives_refused, handle_operands, handles_in, handles_to, has_child, has_child_job, has_key, has_koids, has_room}
use Rattle.zl_code.proofs.Common.{if◌then◌else◌, inl, inr, insert_all, is_dead, is_deepest, is_empty, is_process, is_some, is_within, job_create}
use Rattle.zl_code.proofs.Common.{job_set_policy, job_within, keeping, kept_by, koid_in, lacks_need, length, listed, lives, may_change, message_read}
use Rattle.zl_code.proofs.Common.{message_sent, nat_le, new_handles, not, object_at, object_changed, object_killed, ok_outcome, on_object, on_process}
use Rattle.zl_code.proofs.Common.{operand, operand_of, option_map, option_to_list, outcome_of, packets_in, peer_in, policy_changed, policy_in}
use Rattle.zl_code.proofs.Common.{port_cancel, port_create, port_poll, port_queue, port_wait, process_create, process_ended, process_killed}
use Rattle.zl_code.proofs.Common.{process_start, process_with, process_without, put, queue_in, receiver_of, refl, refusal, registered}
use Rattle.zl_code.proofs.Common.{remove_all, replace, replied, seen_after, signal, signal_peer, slice_get, started_with, stored_by, storing, sym}
use Rattle.zl_code.proofs.Common.{taken, taken_handles, task_kill, then_some, true, wait_async, wait_one, wait_poll, waiting}
use Rattle.zl_code.proofs.Common.{with_effect, with_killed, with_object, with_process, without_keyed, ℕ, ℤ, ⊤, ◌&&◌, ◌++◌, ◌+◌, ◌==◌, ◌^◌}
use Rattle.zl_code.proofs.Common.{◌||◌, ◌∙◌, ◌∷◌, ◌≡◌}
use Rattle.std.specs.List.{list_any}
use Rattle.zl_rights.specs.declared.policy.Condition.TheVariants as condition
use Rattle.zl_rights.specs.declared.status.Status.TheVariants as status
use Rattle.zl_rights.specs.Numbers.{KILLED, meets}
use Rattle.zl_rights.specs.Packets.{is_from}
use Rattle.zl_rights.specs.Policies.{setting_of}
use Rattle.zl_rights.specs.Signals.{active}
use Rattle.zl_rights.specs.World.{Awaited, Blocked, SignalOf, ProcessBody}
use Rattle.zl_code.specs.declared.history.Outcome.{Outcome}
use Rattle.zl_code.specs.declared.history.Outcome.TheVariants as outcome
use Rattle.zl_code.specs.CallTable.{handle_info}
use Rattle.zl_code.specs.Effects.{told_of}
use Rattle.zl_code.specs.Jobs.{is_conflict, misfits}
use Rattle.zl_code.specs.Starting.{is_created, program_in, program_of}
use Rattle.zl_code.specs.Tests.{has_place_for, info_of, is_too_large, sizes_of}
use Rattle.zl_code.specs.Waiting.{first_values, is_full, is_keyed, is_mask, packet_awaited, packet_queued, packet_taken}
use Rattle.zl_code.specs.Waiting.{packets_cancelled}
use Rattle.zl_explore.specs.Cpus.{Cpus, with_cpu, with_cpus}
use Rattle.zl_explore.proofs.Beside.{active_beside, child_beside, each_commutes, get_beside, get_spared, handles_beside, process_beside, put_each}
use Rattle.zl_explore.proofs.Beside.{update_each}

-- ---- what a call asks

module _ (lib : Library) (f : Cpus) (w : World) (p : ℕ) (spared : f p ≡ None) where
  abbrev u : World
  u = with_cpus f w

  caller : get u.processes p ≡ get w.processes p
  caller = get_spared f w p spared

  entry : (h : ℕ) → entry_at u p h ≡ entry_at w p h
  entry h = λ i. get (handles_in (caller i)) h

  object : (h : ℕ) → object_at u p h ≡ object_at w p h
  object h = ap koid_in (entry h)

  signals : (h : ℕ) → active u (object_at u p h) ≡ active w (object_at w p h)
  signals h = active_beside f w (object_at u p h) ∙ ap (active w) (object h)

  named : (h : ℕ) → handles_to u (object_at u p h) ≡ handles_to w (object_at w p h)
  named h = handles_beside f w (object_at u p h) ∙ ap (handles_to w) (object h)

  state : (test : State → Bool) (h : ℕ) → is_process u test (object_at u p h) ≡ is_process w test (object_at w p h)
  state test h = process_beside f w test (object_at u p h) ∙ ap (is_process w test) (object h)

  children : (h : ℕ) → has_child u (object_at u p h) ≡ has_child w (object_at w p h)
  unfolding has_child_job
  children h = (λ i. has_child_job w (object_at u p h) || child_beside f w (object_at u p h) i) ∙ ap (has_child w) (object h)

  program : (h : ℕ) → program_of lib u (object_at u p h) ≡ program_of lib w (object_at w p h)
  program h = ap (program_in lib) (get_beside f w (object_at u p h)) ∙ (by_found (get w.processes (object_at u p h)) ∙ ap (program_of lib w) (object h))
    where
      by_found : (found : Option Process) → program_in lib (option_map (with_cpu (f (object_at u p h))) found) ≡ program_in lib found
      by_found None = refl
      by_found (Some q) = refl

  entries : (hs : List ℕ) → entries_at u p hs ≡ entries_at w p hs
  entries hs = λ i. flat_map (λ h. option_to_list (entry h i)) hs

  -- ---- its answers

  -- how a message is refused at the end, and reading there by a table of this length
  abbrev writes : ℕ → List ℕ → List ℕ → ℕ → List (Option Outcome)
  writes c bytes hs k =
      answer_if (contains hs c) status.NotSupported
      ∷ answer_if (is_too_large bytes hs) status.OutOfRange
      ∷ answer_if (not (has_key w.objects (peer_in (body_of w k)))) status.PeerClosed
      ∷ []

  abbrev reads : (room places k held : ℕ) → List (Option Outcome)
  reads room places k held =
      answer_if (is_empty (queue_in (body_of w k)) && not (has_key w.objects (peer_in (body_of w k)))) status.PeerClosed
      ∷ answer_if (is_empty (queue_in (body_of w k))) status.ShouldWait
      ∷ answer_if (not (has_place_for room places (queue_in (body_of w k)))) status.BufferTooSmall
      ∷ answer_if (not (nat_le (held + length (first_handles (queue_in (body_of w k)))) 1024)) status.NoResources
      ∷ []

  operand_same : (kinds : List Kind) (needed h : ℕ) → operand u p kinds needed h ≡ operand w p kinds needed h
  unfolding operand
  operand_same kinds needed h = λ i. operand_of w p kinds needed (entry h i)

  examined_same : (seen : List ℕ) (os : List Operand) → examined u p seen os ≡ examined w p seen os
  unfolding examined
  examined_same seen [] = refl
  examined_same seen (o ∷ os) = λ i. first_some ((if o.may_be_zero && (o.value == 0) then None
      else (if o.is_taken && contains seen o.value then faults w p condition.BadHandle status.BadHandle else operand_same o.kinds o.needed o.value i))
      ∷ examined_same (seen_after seen o) os i ∷ [])

  policy_same : (c : Option Condition) → by_policy u p c ≡ by_policy w p c
  unfolding creates
  policy_same None = refl
  policy_same (Some c) = refl

  listed_same : (r : Request) → listed lib u p r ≡ listed lib w p r
  unfolding listed has_room has_koids
  listed_same (dup h rights) = λ i.
      answer_if (is_empty (copy_of (entry h i) rights)) status.InvalidArgs
      ∷ answer_if (not (nat_le (length (handles_in (caller i)) + 1) 1024) || nat_le (2 ^ 62) (named h i)) status.NoResources
      ∷ []
  listed_same (replace h rights) = λ i. answer_if (is_empty (copy_of (entry h i) rights)) status.InvalidArgs ∷ []
  listed_same chan_create = λ i. answer_if (not (nat_le (length (handles_in (caller i)) + 2) 1024 && has_koids w 2)) status.NoResources ∷ []
  listed_same (chan_write c bytes hs) = λ i. writes c bytes hs (object c i)
  listed_same (chan_write_slots c bytes hs) = λ i. writes c bytes hs (object c i)
  listed_same (chan_read_etc c address room places) = λ i. reads room places (object c i) (length (handles_in (caller i)))
  listed_same (chan_read_slots c address room array places) = λ i. reads room places (object c i) (length (handles_in (caller i)))
  listed_same event_create = λ i. answer_if (not (nat_le (length (handles_in (caller i)) + 1) 1024 && has_koids w 1)) status.NoResources ∷ []
  listed_same port_create = λ i. answer_if (not (nat_le (length (handles_in (caller i)) + 1) 1024 && has_koids w 1)) status.NoResources ∷ []
  listed_same eventpair_create = λ i. answer_if (not (nat_le (length (handles_in (caller i)) + 2) 1024 && has_koids w 2)) status.NoResources ∷ []
  listed_same (signal h clear set) = λ i. answer_if (not (may_change (body_of w (object h i)) clear set)) status.InvalidArgs ∷ []
  listed_same (signal_peer h clear set) = λ i.
      answer_if (not (may_change (body_of w (object h i)) clear set)) status.InvalidArgs
      ∷ answer_if (not (has_key w.objects (peer_in (body_of w (object h i))))) status.PeerClosed
      ∷ []
  listed_same (wait_poll h mask) = λ i.
      answer_if (not (is_mask mask)) status.InvalidArgs
      ∷ answer_if (not (meets (signals h i) mask)) status.TimedOut
      ∷ []
  listed_same (port_queue port key value) = λ i. answer_if (is_full (packets_in (body_of w (object port i)))) status.ShouldWait ∷ []
  listed_same (port_poll port) = λ i. answer_if (is_empty (packets_in (body_of w (object port i)))) status.TimedOut ∷ []
  listed_same (port_cancel port source key) = λ i. answer_if (not (list_any (is_keyed p source (object port i) key) w.waits
      || list_any (is_from (record { pid = p; value = source; object = object source i }) key) (packets_in (body_of w (object port i))))) status.NotFound
      ∷ []
  listed_same (process_create job program) = λ i.
      answer_if (not (is_some (slice_get lib program))) status.InvalidArgs
      ∷ answer_if (is_dead (body_of w (object job i))) status.BadState
      ∷ answer_if (lacks_need w (object job i) (slice_get lib program)) status.NotSupported
      ∷ answer_if (not (nat_le (length (handles_in (caller i)) + 1) 1024 && has_koids w 1)) status.NoResources
      ∷ []
  listed_same (process_start process h word) = λ i.
      answer_if (not (state is_created process i)) status.BadState
      ∷ answer_if (misfits (program process i) (entry h i)) status.InvalidArgs
      ∷ []
  listed_same (job_create j) = λ i.
      answer_if (is_deepest (body_of w (object j i))) status.OutOfRange
      ∷ answer_if (is_dead (body_of w (object j i))) status.BadState
      ∷ answer_if (not (nat_le (length (handles_in (caller i)) + 1) 1024 && has_koids w 1)) status.NoResources
      ∷ []
  listed_same (job_set_policy j mode condition action) = λ i.
      answer_if (not (is_some (setting_of mode condition action))) status.InvalidArgs
      ∷ answer_if (is_dead (body_of w (object j i)) || children j i) status.BadState
      ∷ answer_if (is_conflict (policy_in (body_of w (object j i))) (setting_of mode condition action)) status.AlreadyExists
      ∷ []
  listed_same _ = refl

  -- it is refused alike
  pub refusal_same : (r : Request) → refusal lib u p r ≡ refusal lib w p r
  unfolding refusal
  refusal_same r = λ i. first_some (examined_same [] (handle_operands r) i ∷ policy_same (condition_of r) i ∷ listed_same r i)

  -- it waits for the same
  pub awaited_same : (r : Request) → awaited_by u p r ≡ awaited_by w p r
  awaited_same (wait_one h mask) = λ i. then_some (not (meets (signals h i) mask)) (SignalOf (object h i) mask)
  awaited_same (port_wait port) = λ i. packet_awaited (object port i) (packets_in (body_of w (object port i)))
  awaited_same _ = refl

  -- it gives the same handles and values
  pub handles_same : (r : Request) → new_handles u p r ≡ new_handles w p r
  unfolding new_handles
  handles_same (dup h rights) = λ i. copy_of (entry h i) rights
  handles_same (replace h rights) = λ i. copy_of (entry h i) rights
  handles_same (chan_read_etc c address room places) = λ i. first_handles (queue_in (body_of w (object c i)))
  handles_same (chan_read_slots c address room array places) = λ i. first_handles (queue_in (body_of w (object c i)))
  handles_same (process_start process h word) = λ i. option_to_list (entry h i)
  handles_same _ = refl

  pub receiver_same : (r : Request) → receiver_of u p r ≡ receiver_of w p r
  receiver_same (process_start process h word) = object process
  receiver_same (close h) = refl
  receiver_same _ = refl

  pub ends_same : (r : Request) → ends_caller u p r ≡ ends_caller w p r
  ends_same (task_kill task) = λ i. then_some (is_within w.objects (object task i) p) KILLED
  ends_same (close h) = refl
  ends_same _ = refl

  pub choosing_same : (r : Request) → choosing u p r ≡ choosing w p r
  choosing_same (replace h rights) = refl
  choosing_same (close h) = handles_same (close h)
  choosing_same r = handles_same r

  pub stored_same : (r : Request) → stored_by u p r ≡ stored_by w p r
  stored_same (chan_read_etc c address room places) = λ i. (address, first_bytes (queue_in (body_of w (object c i))))
  stored_same (chan_read_slots c address room array places) = λ i. (address, first_bytes (queue_in (body_of w (object c i))))
  stored_same (close h) = refl
  stored_same _ = refl

  pub given_same : (r : Request) (vs : List ℕ) → gives_ok u p r vs ≡ gives_ok w p r vs
  unfolding gives_ok
  given_same (chan_read_etc c address room places) vs =
      λ i. sizes_of (queue_in (body_of w (object c i))) ++ told_of (first_handles (queue_in (body_of w (object c i)))) vs
  given_same (chan_read_slots c address room array places) vs = λ i. sizes_of (queue_in (body_of w (object c i)))
  given_same (wait_one h mask) vs = λ i. signals h i ∷ []
  given_same (wait_poll h mask) vs = λ i. signals h i ∷ []
  given_same (port_wait port) vs = λ i. first_values (packets_in (body_of w (object port i)))
  given_same (port_poll port) vs = λ i. first_values (packets_in (body_of w (object port i)))
  given_same (handle_info h) vs = λ i. info_of (entry h i)
  given_same _ vs = refl

  pub refused_same : (r : Request) (s : Status) → gives_refused u p r s ≡ gives_refused w p r s
  unfolding gives_refused
  refused_same (chan_read_etc c address room places) status.BufferTooSmall = λ i. sizes_of (queue_in (body_of w (object c i)))
  refused_same (chan_read_slots c address room array places) status.BufferTooSmall = λ i. sizes_of (queue_in (body_of w (object c i)))
  refused_same (wait_poll h mask) status.TimedOut = λ i. signals h i ∷ []
  refused_same _ s = refl

-- ---- its changes

module _ (f : Cpus) where
  pub on_beside : (t : World) (k : ℕ) (h : Process → Process) → ((q : Process) → h (with_cpu (f k) q) ≡ with_cpu (f k) (h q))
      → on_process (with_cpus f t) k h ≡ with_cpus f (on_process t k h)
  unfolding on_process
  on_beside t k h same = λ i. record t { processes = update_each (λ j q. with_cpu (f j) q) t.processes k h same i }

  -- whose Cpu stays, it may be changed
  pub on_spared : (t : World) (k : ℕ) (h : Process → Process) → f k ≡ None → on_process (with_cpus f t) k h ≡ with_cpus f (on_process t k h)
  on_spared t k h spared = on_beside t k h (λ q. rw spared refl)

  insert_beside : (t : World) (k : ℕ) (es : List Entry) (vs : List ℕ) → insert_all (with_cpus f t) k es vs ≡ with_cpus f (insert_all t k es vs)
  unfolding insert_all
  insert_beside t k [] vs = refl
  insert_beside t k (e ∷ es) [] = refl
  insert_beside t k (e ∷ es) (v ∷ vs) =
      ap (λ x. insert_all x k es vs) (on_beside t k (process_with v e) (λ q. refl)) ∙ insert_beside (on_process t k (process_with v e)) k es vs

  without_cpu : (c : Option Cpu) (h : ℕ) (q : Process) → process_without h (with_cpu c q) ≡ with_cpu c (process_without h q)
  without_cpu c h q = elim (cases_Bool (has_key q.handles h)) as (λ _. process_without h (with_cpu c q) ≡ with_cpu c (process_without h q)) [
    | inl there ↦ rw there refl
    | inr gone ↦ rw gone refl
  ]

  pub remove_beside : (t : World) (k : ℕ) (hs : List ℕ) → remove_all (with_cpus f t) k hs ≡ with_cpus f (remove_all t k hs)
  unfolding remove_all
  remove_beside t k [] = refl
  remove_beside t k (h ∷ hs) =
      ap (λ x. remove_all x k hs) (on_beside t k (process_without h) (without_cpu (f k) h)) ∙ remove_beside (on_process t k (process_without h)) k hs

  ended_cpu : (c : Option Cpu) (code : ℤ) (q : Process) → process_ended code (with_cpu c q) ≡ with_cpu c (process_ended code q)
  ended_cpu c code q = elim (cases_Bool (lives q.state)) as (λ _. process_ended code (with_cpu c q) ≡ with_cpu c (process_ended code q)) [
    | inl alive ↦ rw alive refl
    | inr over ↦ rw over refl
  ]

  killed_cpu : (c : Option Cpu) (killed : Bool) (q : Process) → process_killed killed (with_cpu c q) ≡ with_cpu c (process_killed killed q)
  killed_cpu c true q = ended_cpu c KILLED q
  killed_cpu c false q = refl

  pub ended_beside : (t : World) (k : ℕ) (code : ℤ) → ended (with_cpus f t) k code ≡ with_cpus f (ended t k code)
  unfolding ended
  ended_beside t k code = λ i. record (on_beside t k (process_ended code) (ended_cpu (f k) code) i) { blocked = filter (λ q. not (q == k)) t.blocked }

  kill_beside : (t : World) (k : ℕ) → with_killed (with_cpus f t) k ≡ with_cpus f (with_killed t k)
  unfolding with_killed
  kill_beside t k = λ i. record t {
    processes = each_commutes (λ j q. with_cpu (f j) q) (λ j q. process_killed (is_within t.objects k j) q) (λ j q. killed_cpu (f j)
        (is_within t.objects k j) q) t.processes i;
    objects = each (λ j o. object_killed (is_within t.objects k j) o) t.objects;
    blocked = filter (λ j. not (is_within t.objects k j)) t.blocked;
  }

  process_more : (t : World) (k : ℕ) (q : Process) → f k ≡ None → with_process (with_cpus f t) k q ≡ with_cpus f (with_process t k q)
  process_more t k q spared = λ i. record t {
    processes =
        (ap (λ (c : Option Cpu). put (each (λ j x. with_cpu (f j) x) t.processes) k (with_cpu c q)) (sym spared) ∙ put_each (λ j x. with_cpu
        (f j) x) t.processes k q) i;
  }

  module _ (p : ℕ) (spared : f p ≡ None) where
    stored_beside : (t : World) (at : ℕ × List ℕ) → storing (with_cpus f t) p at ≡ with_cpus f (storing t p at)
    stored_beside t (address, []) = refl
    stored_beside t (address, b ∷ bytes) = on_spared t p _ spared

    kept_beside : (t : World) (kept : Option (ℕ × List ℕ)) → keeping (with_cpus f t) p kept ≡ with_cpus f (keeping t p kept)
    kept_beside t None = refl
    kept_beside t (Some x) = on_spared t p _ spared

    pub replied_beside : (t : World) (s : Site) (answer : Status) (values : List ℕ)
        → replied (with_cpus f t) p s answer values ≡ with_cpus f (replied t p s answer values)
    unfolding replied
    replied_beside t s answer values = on_spared t p _ spared

    waiting_beside : (t : World) (ds : List ℕ) (awaited : Option Awaited) → waiting (with_cpus f t) p ds awaited ≡ with_cpus f (waiting t p ds awaited)
    waiting_beside t ds None = refl
    waiting_beside t ds (Some awaited) = λ i. record (on_beside t p (λ q. record q { state = Blocked awaited ds }) (λ q. refl) i) {
      blocked = t.blocked ++
          (p ∷ []);
    }

-- whom the call starts keeps its Cpu
abbrev pub SparesStarted : Cpus → World → ℕ → Request → Type 0
SparesStarted f w p (process_start process h word) = f (object_at w p process) ≡ None
SparesStarted f w p _ = ⊤

module _ (lib : Library) (f : Cpus) (w : World) (p : ℕ) (spared : f p ≡ None) (fresh : f w.next_koid ≡ None) where
  effect_beside : (t : World) (r : Request) (vs : List ℕ) → SparesStarted f w p r
      → effect lib (with_cpus f w) (with_cpus f t) p r vs ≡ with_cpus f (effect lib w t p r vs)
  unfolding effect on_object with_object
  effect_beside t (chan_write c bytes hs) vs starts = λ i. with_cpus f (on_object t (peer_in (body_of w (object lib f w p spared c i)))
      (message_sent (record { bytes = bytes; handles = entries lib f w p spared hs i })))
  effect_beside t (chan_write_slots c bytes hs) vs starts = λ i. with_cpus f (on_object t (peer_in (body_of w (object lib f w p spared c i)))
      (message_sent (record { bytes = bytes; handles = entries lib f w p spared hs i })))
  effect_beside t (chan_read_etc c address room places) vs starts = λ i. with_cpus f (on_object t (object lib f w p spared c i) message_read)
  effect_beside t (chan_read_slots c address room array places) vs starts = λ i. with_cpus f (on_object t (object lib f w p spared c i) message_read)
  effect_beside t (signal h clear set) vs starts = λ i. with_cpus f (on_object t (object lib f w p spared h i) (object_changed clear set))
  effect_beside t (signal_peer h clear set) vs starts =
      λ i. with_cpus f (on_object t (peer_in (body_of w (object lib f w p spared h i))) (object_changed clear set))
  effect_beside t (wait_async h port key mask) vs starts = λ i. with_cpus f (registered t
      (record { pid = p; value = h; object = object lib f w p spared h i; port = object lib f w p spared port i; key = key; mask = mask }))
  effect_beside t (port_queue port key value) vs starts = λ i. with_cpus f (on_object t (object lib f w p spared port i) (packet_queued key value))
  effect_beside t (port_wait port) vs starts = λ i. with_cpus f (on_object t (object lib f w p spared port i) packet_taken)
  effect_beside t (port_poll port) vs starts = λ i. with_cpus f (on_object t (object lib f w p spared port i) packet_taken)
  effect_beside t (port_cancel port source key) vs starts = λ i. with_cpus f (on_object (without_keyed t p source (object lib f w p spared port i) key)
      (object lib f w p spared port i) (packets_cancelled (record { pid = p; value = source; object = object lib f w p spared source i }) key))
  effect_beside t (process_create job program) vs starts =
      (λ i. with_process (with_cpus f (with_object t (ProcessBody (object lib f w p spared job i)))) w.next_koid (created_process lib program))
      ∙ process_more f (with_object t (ProcessBody (object_at w p job))) w.next_koid (created_process lib program) fresh
  effect_beside t (process_start process h word) vs starts =
      (λ i. on_process (with_cpus f t) (object lib f w p spared process i) (started_with vs word))
      ∙ on_spared f t (object_at w p process) (started_with vs word) starts
  effect_beside t (task_kill task) vs starts =
      (λ i. with_killed (with_cpus f t) (object lib f w p spared task i)) ∙ kill_beside f t (object_at w p task)
  effect_beside t (job_create j) vs starts = λ i. with_cpus f (with_object t (job_within (object lib f w p spared j i) (body_of w
      (object lib f w p spared j i))))
  effect_beside t (job_set_policy j mode condition action) vs starts =
      λ i. with_cpus f (on_object t (object lib f w p spared j i) (policy_changed (setting_of mode condition action)))
  effect_beside t _ vs starts = refl

  effects_beside : (t : World) (r : Request) (vs : List ℕ) → SparesStarted f w p r
      → with_effect lib (with_cpus f w) (with_cpus f t) p r vs ≡ with_cpus f (with_effect lib w t p r vs)
  effects_beside t r vs starts =
      (λ i. keeping (storing (insert_all (effect_beside t r vs starts i) (receiver_same lib f w p spared r i) (handles_same lib f w p spared r i)
      (entering_at r vs))
      p (stored_same lib f w p spared r i)) p (kept_by r vs))
      ∙ (ap (λ x. keeping (storing x p (stored_by w p r)) p (kept_by r vs))
      (insert_beside f (effect lib w t p r vs) (receiver_of w p r) (new_handles w p r) (entering_at r vs))
      ∙ (ap (λ x. keeping x p (kept_by r vs)) (stored_beside f p spared _ (stored_by w p r)) ∙ kept_beside f p spared _ (kept_by r vs)))

  -- a call that is refused does the same
  pub refusal_beside : (s : Site) (o : Outcome) → after_refusal (with_cpus f w) p s o ≡ with_cpus f (after_refusal w p s o)
  refusal_beside s (outcome.Answered answer) =
      (λ i. replied (remove_beside f w p (taken_handles s.request) i) p s answer (refused_same lib f w p spared s.request answer i))
      ∙ replied_beside f p spared (taken w p s) s answer (gives_refused w p s.request answer)
  refusal_beside s (outcome.Ended code) = ended_beside f w p code
  refusal_beside s outcome.Blocked = refl

  pub outcome_same : (r : Request) → ok_outcome (with_cpus f w) p r ≡ ok_outcome w p r
  outcome_same r = λ i. outcome_of (awaited_same lib f w p spared r i) (ends_same lib f w p spared r i)

  -- so does one that isn't
  pub ok_beside : (s : Site) (vs : List ℕ) (o : Outcome) → SparesStarted f w p s.request
      → after_ok lib (with_cpus f w) p s vs o ≡ with_cpus f (after_ok lib w p s vs o)
  ok_beside s vs (outcome.Answered answer) starts =
      (λ i. replied (with_effect lib (with_cpus f w) (remove_beside f w p (taken_handles s.request) i) p s.request vs) p s status.Ok
      (given_same lib f w p spared s.request vs i))
      ∙ (ap (λ x. replied x p s status.Ok (gives_ok w p s.request vs)) (effects_beside (taken w p s) s.request vs starts)
      ∙ replied_beside f p spared _ s status.Ok (gives_ok w p s.request vs))
  ok_beside s vs (outcome.Ended code) starts =
      (λ i. ended (with_effect lib (with_cpus f w) (remove_beside f w p (taken_handles s.request) i) p s.request vs) p code)
      ∙ (ap (λ x. ended x p code) (effects_beside (taken w p s) s.request vs starts) ∙ ended_beside f _ p code)
  ok_beside s vs outcome.Blocked starts =
      (λ i. waiting (with_cpus f w) p s.destinations (awaited_same lib f w p spared s.request i))
      ∙ waiting_beside f p spared w s.destinations (awaited_by w p s.request)
